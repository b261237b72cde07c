use Rattle.std.proofs.Common.{◌≡◌, true, false, sym, ap, ◌∙◌}
use Rattle.std.specs.Prelude.{not}
use Rattle.std.proofs.lemmas.Bool.{eq-eqb, eqb-true}
use Rattle.volume_check.proofs.keys.shows.Goals as goal

pub returns-then-shown-ne0 : goal.returns-then-shown-ne0
returns-then-shown-ne0 c = (
  λ t. (λ none. c.if-shown-ne0.true (c.slot_key-shown.ensures ∙ none), eqb-true _ _ t ∙ c.slot_key-shown.ensures),
  λ both. eq-eqb _ _ (both.1 ∙ sym c.slot_key-shown.ensures),
)

pub returns-else-shown-ne0 : goal.returns-else-shown-ne0
returns-else-shown-ne0 c =
    let none = eq-eqb c.slot_key-shown.result 0 c.if-shown-ne0.false in
    (λ t. let e : false ≡ true = sym (ap not none) ∙ t in absurd cc, λ both. absurd (both.0 (sym c.slot_key-shown.ensures ∙ c.if-shown-ne0.false)))
