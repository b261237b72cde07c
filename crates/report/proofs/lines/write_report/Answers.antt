use Rattle.std.proofs.Common.{◌∷◌, ◌++◌, [], ℕ, List, ap, ◌∙◌, string_bytes}
use Rattle.std.specs.Option.{option_copied}
use Rattle.std.proofs.lemmas.Result.{on_ok_weaker}
use Rattle.workload.specs.declared.line.Line.{Line}
use Rattle.workload.specs.Printed.{ended}
use Rattle.report.specs.Reports.{answer_lines, history_line, report, usage_lines}
use Rattle.report.proofs.LineEnds.{ended_parts}
use Rattle.report.proofs.lines.write_report.Goals as goal

pub returns : goal.returns
unfolding report
returns c =
    let lines = c.as_slice-lines.result.now in
    let answers = c.args.answers.now in
    let history = c.args.history.now in
    let usage = usage_lines (option_copied c.args.usage) in
    let text = string_bytes c.args.text.now in
    on_ok_weaker c.write_usage.result
    (λ e. e
    ∙ ap (λ (xs : List ℕ). xs ++ ended usage) (c.in_ok-write_history.ensures ∙ ap (λ (xs : List ℕ). xs ++ (history_line lines history ++ 10 ∷ [])) c.in_ok-write_answers.ensures)
    ∙ ended_parts text (answer_lines lines answers) (history_line lines history) usage
    ∙ ap (λ (ls : List Line). text ++ ended (answer_lines ls answers ++ history_line ls history ∷ usage)) c.as_slice-lines.ensures)
    c.write_usage.ensures
