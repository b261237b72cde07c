-- Lines, each ended by LF, that are written one behind the other.
use Rattle.std.proofs.Common.{◌≡◌, ℕ, List, [], ◌∷◌, ◌++◌, Option, Some, None, refl, sym, ap, ◌∙◌, append-nil, append_assoc}
use Rattle.std.proofs.lemmas.List.Concat.{flat_map-append}
use Rattle.image_view.specs.declared.usage.Usage.{Usage}
use Rattle.vol_base.specs.declared.answer.Answer.{Answer}
use Rattle.workload.specs.declared.line.Line.{Line}
use Rattle.workload.specs.Printed.{ended}
use Rattle.report.specs.Reports.{answer_line, answer_lines, usage_line, usage_lines}

-- the line of one command more
pub answers-more : (text : List ℕ) (line : Line) (answer : Option Answer) (lines : List Line) (answers : List (Option Answer))
    → (text ++ (answer_line (line, answer) ++ 10 ∷ [])) ++ ended (answer_lines lines answers) ≡ text ++ ended (answer_lines (line ∷ lines) (answer ∷ answers))
unfolding ended answer_lines
answers-more text line answer lines answers = append_assoc text (answer_line (line, answer) ++ 10 ∷ []) (ended (answer_lines lines answers))

-- no command is left
pub answers-end : (answers : List (Option Answer)) → ended (answer_lines [] answers) ≡ []
unfolding ended answer_lines
answers-end answers = refl

-- the line of a usage
pub ended_usage : (usage : Usage) → ended (usage_lines (Some usage)) ≡ usage_line usage ++ 10 ∷ []
unfolding ended
ended_usage usage = append-nil (usage_line usage ++ 10 ∷ [])

-- no line
pub ended_none : ended (usage_lines None) ≡ []
unfolding ended
ended_none = refl

-- the three parts of a report
pub ended_parts : (text : List ℕ) (answers : List (List ℕ)) (history : List ℕ) (usage : List (List ℕ))
    → ((text ++ ended answers) ++ (history ++ 10 ∷ [])) ++ ended usage ≡ text ++ ended (answers ++ history ∷ usage)
unfolding ended
ended_parts text answers history usage =
    append_assoc (text ++ ended answers) (history ++ 10 ∷ []) (ended usage)
    ∙ append_assoc text (ended answers) ((history ++ 10 ∷ []) ++ ended usage)
    ∙ ap (λ (xs : List ℕ). text ++ xs) (sym (flat_map-append (λ line. line ++ 10 ∷ []) answers (history ∷ usage)))
