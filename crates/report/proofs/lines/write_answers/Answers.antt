use Rattle.std.proofs.Common.{◌≡◌, ◌+◌, ◌++◌, ◌∷◌, [], ℕ, List, Option, None, drop, get_or, sym, ap, ◌∙◌, arith, append-nil, string_bytes}
use Rattle.std.proofs.lemmas.List.{drop_all, drop_more}
use Rattle.vol_base.specs.declared.answer.Answer.{Answer}
use Rattle.vol_base.specs.declared.command.Command.TheVariants.{Join}
use Rattle.workload.specs.declared.line.Line.{Line}
use Rattle.workload.specs.Printed.{ended}
use Rattle.report.specs.Reports.{answer_lines}
use Rattle.report.proofs.LineEnds.{answers-end, answers-more}
use Rattle.report.proofs.lines.write_answers.Goals as goal

pub loop-index-preserved : goal.loop-index-preserved
loop-index-preserved c =
    let lines = c.args.lines.now in
    let answers = c.args.answers.now in
    let i = c.loop-index.index in
    let first : Line = record { at = 0; phase = 0; host = 0; command = Join } in
    let none : Option Answer = None in
    let line = get_or lines i first in
    let answer = get_or answers i none in
    let text = string_bytes c.loop-index.text in
    let on_lines : drop i lines ≡ line ∷ drop (i + 1) lines = drop_more lines i first (omega arith) in
    let on_answers : drop i answers ≡ answer ∷ drop (i + 1) answers = drop_more answers i none (omega arith) in
    ap (λ (xs : List ℕ). xs ++ ended (answer_lines (drop (i + 1) lines) (drop (i + 1) answers))) c.in_ok-write_answer_line.ensures
    ∙ answers-more text line answer (drop (i + 1) lines) (drop (i + 1) answers)
    ∙ ap (λ (ls : List Line). text ++ ended (answer_lines ls (answer ∷ drop (i + 1) answers))) (sym on_lines)
    ∙ ap (λ (xs : List (Option Answer)). text ++ ended (answer_lines (drop i lines) xs)) (sym on_answers)
    ∙ c.loop-index.invariant

pub returns : goal.returns
returns c =
    let lines = c.args.lines.now in
    let i = c.loop-index.index in
    let text = string_bytes c.loop-index.text in
    let rest = drop i c.args.answers.now in
    let none : drop i lines ≡ [] = drop_all i lines (omega arith) in
    sym (append-nil text)
    ∙ ap (λ (xs : List ℕ). text ++ xs) (sym (answers-end rest))
    ∙ ap (λ (ls : List Line). text ++ ended (answer_lines ls rest)) (sym none)
    ∙ c.loop-index.invariant
