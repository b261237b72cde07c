use Rattle.std.proofs.Common.{◌≡◌, ◌-◌, sym, ap, ◌∙◌, arith}
use Rattle.std.proofs.lemmas.Bool.{eq-eqb}
use Rattle.vol_layout.specs.declared.field.Field.TheVariants.{Count}
use Rattle.vol_layout.specs.Edits.{touches}
use Rattle.volume_check.proofs.records.counts.Goals as goal

pub returns-then-number-eq0 : goal.returns-then-number-eq0
returns-then-number-eq0 c = (λ t d e. absurd (omega (arith, c.if-number-eq0.true, e)), λ f. eq-eqb c.args.number 0 c.if-number-eq0.true)

pub returns-else-number-eq0 : goal.returns-else-number-eq0
returns-else-number-eq0 c = (
  λ t d e.
      let same : c.args.number - 1 ≡ d = omega arith in
      ap (λ n. touches c.args.entry.now.edits (Count n)) (sym same) ∙ sym c.touches.ensures ∙ t,
  λ f. let some = c.if-number-eq0.false in c.touches.ensures ∙ f (c.args.number - 1) (omega arith),
)
