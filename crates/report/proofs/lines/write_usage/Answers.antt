use Rattle.std.proofs.Common.{◌++◌, ℕ, List, sym, ap, ◌∙◌, append-nil, string_bytes}
use Rattle.std.proofs.lemmas.Result.{on_ok_weaker}
use Rattle.report.proofs.LineEnds.{ended_none, ended_usage}
use Rattle.report.proofs.lines.write_usage.Goals as goal

pub returns-in-None : goal.returns-in-None
returns-in-None c = rw c.in-None.is (sym (append-nil (string_bytes c.args.text.now)) ∙ ap (λ (xs : List ℕ). string_bytes c.args.text.now ++ xs) (sym ended_none))

pub returns-in-Some : goal.returns-in-Some
returns-in-Some c =
    rw c.in-Some.is
    (on_ok_weaker c.write_usage_line.result
    (λ e. e ∙ ap (λ (xs : List ℕ). string_bytes c.args.text.now ++ xs) (sym (ended_usage c.in-Some.usage.now)))
    c.write_usage_line.ensures)
