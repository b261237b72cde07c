use Rattle.std.proofs.Common.{sym, ◌∙◌}
use Rattle.workload.proofs.NumberLaws.{number_of-numeral, number_of-other, numeral_text}
use Rattle.workload.proofs.number.read_number.Goals as goal

pub returns-then-not-is_numeral : goal.returns-then-not-is_numeral
returns-then-not-is_numeral c = sym (number_of-other _ (sym c.is_numeral.ensures ∙ c.if-not-is_numeral.true))

pub returns-in-Ok : goal.returns-in-Ok
returns-in-Ok c =
    let text = c.in-Ok.ensures.cases.0 in
    let parsed = c.parse.ensures.value.0 in
    c.ok.ensures.value ∙ number_of-numeral _ c.parse.result (sym c.is_numeral.ensures ∙ c.if-not-is_numeral.false) (rw text at parsed)

pub returns-in-Err : goal.returns-in-Err
returns-in-Err c = absurd (c.in-Err.ensures.cases.0 (numeral_text _ (sym c.is_numeral.ensures ∙ c.if-not-is_numeral.false)))
