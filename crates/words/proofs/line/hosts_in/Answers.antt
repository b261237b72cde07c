use Rattle.std.proofs.Common.{◌∙◌, List, None, Some, map, sym, ℕ}
use Rattle.std.proofs.lemmas.Result.{IfOk-weaker}
use Rattle.std.specs.Borrow.{Bor}
use Rattle.clap.specs.Matches.{found_of}
use Rattle.words.specs.Words.{host_of}
use Rattle.words.proofs.LineLaws.{hosts_are}
use Rattle.words.proofs.WordLaws.{filter_map_map}
use Rattle.words.proofs.line.hosts_in.Goals as goal

pub returns-in-Some : goal.returns-in-Some
returns-in-Some c =
    let now : Bor (List ℕ) → List ℕ = λ word. word.now in
    let words = c.in-Some.words.now in
    IfOk-weaker c.hosts_of.result _ _ (λ hosts is. hosts_are (found_of c.args.matches.now) (Some (map now words)) hosts.items c.in-Some.ensures (is ∙ sym (filter_map_map host_of now words)))
    c.hosts_of.ensures

pub returns-in-None : goal.returns-in-None
returns-in-None c = hosts_are (found_of c.args.matches.now) None c.new.result.items c.in-None.ensures c.new.ensures.items
