-- The edits of a record are right where each of them is.
use Rattle.std.proofs.Common.{ℕ, List, sym, subst, ◌∙◌, inl, inr}
use Rattle.std.specs.Prelude.{All}
use Rattle.vol_layout.specs.declared.geometry.Geometry.{Geometry}
use Rattle.vol_layout.specs.declared.field.Field.TheVariants.{Slot}
use Rattle.vol_layout.specs.declared.field.Edit.{Edit}
use Rattle.vol_layout.specs.Edits.{AreEdits}
use Rattle.image_view.specs.Balances.{Balances}
use Rattle.image_view.specs.Counted.{IsCounted}
use Rattle.image_view.specs.Held.{CountsSlots, HoldsField}
use Rattle.image_view.specs.Images.{Image}
use Rattle.image_view.specs.Numbers.{field, logical}
use Rattle.image_view.specs.Records.{IsRecord}
use Rattle.call_effects.specs.Shares.{CountsSlot, MayName}
use Rattle.call_effects.specs.laws.EachEdit.{the-edit}
use Rattle.call_effects.specs.laws.MarkLaws.{marks-named}

slots_counted : (g : Geometry) (image : Image) (es : List Edit) → All (CountsSlot g image es) es → CountsSlots g image es
slots_counted g image es each s d touched names =
    let the = the-edit (CountsSlot g image es) es (Slot s) each touched in
    the.holds s d the.of
    (elim names [
      | inl before ↦ inl before
      | inr after ↦ inr (sym (the.gives (field g image (Slot s))) ∙ after)
    ])

-- edits in range, of fields that the key holds, which balance, and each of which may name what it names and counts its
-- slot, are a record
pub record-of : (g : Geometry) (image : Image) (key : ℕ) (es : List Edit) → IsCounted g image → AreEdits g es
    → All (λ e. HoldsField g image key e.field) es → Balances g (λ x. logical g image x) es
    → All (MayName g image es) es → All (CountsSlot g image es) es → IsRecord g image key es
record-of g image key es counted edits held balances may slots = record {
  edits = edits;
  held = λ x touched.
      let the = the-edit (λ (e : Edit). HoldsField g image key e.field) es x held touched in
      subst (HoldsField g image key) the.of the.holds;
  slots = slots_counted g image es slots;
  balances = balances;
  marks = marks-named g image es counted edits.each may;
}
