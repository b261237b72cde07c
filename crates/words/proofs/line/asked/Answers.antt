use Rattle.std.proofs.Common.{◌≡◌, Global, Option, ap, is_some, map, string_bytes, sym, true}
use Rattle.words.specs.Words.{job_of}
use Rattle.words.specs.declared.forms.Job.{Job}
use Rattle.words.proofs.FormLaws.{line_is, refused_is}
use Rattle.words.proofs.line.asked.Goals as goal

pub returns-in_err-matches : goal.returns-in_err-matches
returns-in_err-matches c =
    let words = map (string_bytes {Z = Global}) c.args.words.now in
    let some : is_some (job_of words) ≡ true = ap (λ (o : Option Job). is_some o) (sym c.in-Some.ensures.job) in
    refused_is words _ c.in_err-matches.field-0.0 some c.in_err-matches.ensures.memory c.from_residual.ensures.1

pub returns-in-Ok : goal.returns-in-Ok
returns-in-Ok c =
    line_is (map (string_bytes {Z = Global}) c.args.words.now) _ _ c.in-Some.ensures.job c.in-Some.ensures.rounds c.in_ok-matches.ensures.given c.volume_in.ensures c.in-Ok.ensures
