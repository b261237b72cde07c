use Rattle.std.proofs.Common.{◌∙◌, List, ap, codes, ℕ}
use Rattle.std.specs.Borrow.{Bor}
use Rattle.clap.specs.Matches.{found_of}
use Rattle.clap.proofs.WalkLemmas.{first_value-rows}
use Rattle.words.proofs.LineLaws.{text_is}
use Rattle.words.proofs.line.volume_in.Goals as goal

pub returns : goal.returns
returns c = λ volume e.
    ap (λ (s : Bor (List ℕ)). s.now) c.unwrap_or.ensures ∙ text_is c.get_str.result _ volume (c.get_str.ensures ∙ first_value-rows (found_of c.args.matches.now) (codes "volume") ∙ e)
