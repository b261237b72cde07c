-- The record of a promotion is right, and all files stay by it.
use Rattle.std.proofs.Common.{◌≡◌, ◌≤◌, ◌+◌, ◌-◌, ◌==◌, ℕ, List, [], ◌∷◌, None, Some, refl, sym, ap, ◌∙◌, subst, inl, inr, arith}
use Rattle.std.specs.Prelude.{All}
use Rattle.std.proofs.lemmas.Bool.{cases_Bool, cases_eq, eq-eqb, ne_eqb}
use Rattle.std.proofs.lemmas.List.Elements.{All-cons}
use Rattle.vol_layout.specs.declared.geometry.Geometry.{Geometry}
use Rattle.vol_layout.specs.declared.field.Field.TheVariants.{Count, Pointer, Slot}
use Rattle.vol_layout.specs.declared.field.Edit.{Edit}
use Rattle.vol_layout.specs.Edits.{IsEdit, touches}
use Rattle.vol_layout.specs.Fields.{greatest_count}
use Rattle.vol_layout.specs.Ranges.{IsGeometry, per_table}
use Rattle.vol_layout.specs.laws.EditLaws.{other_field-is, touches-at}
use Rattle.image_view.specs.Balances.{Balances, edit, share, share_of}
use Rattle.image_view.specs.Held.{HoldsField}
use Rattle.image_view.specs.Images.{Image}
use Rattle.image_view.specs.Links.{marked}
use Rattle.image_view.specs.Mappings.{uses}
use Rattle.image_view.specs.Numbers.{field, logical}
use Rattle.image_view.specs.Pointers.{named}
use Rattle.image_view.specs.Records.{IsRecord}
use Rattle.image_view.specs.Valid.{IsValid}
use Rattle.image_view.specs.laws.BalanceLaws.{balances-promote, share_named}
use Rattle.call_effects.specs.Changes.{Changes}
use Rattle.call_effects.specs.Places.{KeepsFiles}
use Rattle.call_effects.specs.Promotions.{IsPromotable, promoted}
use Rattle.call_effects.specs.Shares.{CountsSlot, IsLone, IsShared, LeavesShown, MayName}
use Rattle.call_effects.specs.laws.EachEdit.{all-one}
use Rattle.call_effects.specs.laws.PointerLaws.{content-named, fresh-unmarked, marked-not_lone, marked-range, named-marked, named-unmarked}
use Rattle.call_effects.specs.laws.RecordLaws.{record-of}
use Rattle.call_effects.specs.laws.StayLaws.{stays-edited}

-- a count may be 2 on every volume
two_fits : (g : Geometry) → IsGeometry g → 2 ≤ greatest_count g
unfolding greatest_count per_table
two_fits g is =
    elim (cases_Bool (g.tables == 1)) [
      | inl one ↦ rw one (omega arith)
      | inr more ↦ rw more (let some = is.files.0 in let many = is.tables.0 in let parts = is.parts.0 in omega arith)
    ]

-- a data block that a pointer names without the mark has the count 1
pub count-lone : (g : Geometry) (counter : ℕ) (image : Image) (key t f i d : ℕ) → IsValid g counter image → IsPromotable g image key t f i d
    → logical g image (Count d) ≡ 1
count-lone g counter image key t f i d valid is =
    let less : logical g image (Pointer f i) - 1 ≡ d = omega (arith, is.names) in
    valid.counted.counts d is.count.0 ∙ ap (uses g image) (sym less) ∙ valid.counted.unmarked f i is.pointer.0 is.lone

all_three : (P : Edit → Type 0) (a b c : Edit) → P a → P b → P c → All P (a ∷ b ∷ c ∷ [])
all_three P a b c pa pb pc = All-cons P a (b ∷ c ∷ []) pa (All-cons P b (c ∷ []) pb (all-one P c pc))

-- the slot and the pointer name the data block that the pointer named
shared_by : (g : Geometry) (image : Image) (key t f i d : ℕ) → IsPromotable g image key t f i d → IsShared g image (promoted t f i d) d
shared_by g image key t f i d is =
    record {
      by = Pointer f i;
      has = is.pointer.0;
      names = share_named (logical g image (Pointer f i)) d d (named-unmarked (logical g image (Pointer f i)) d is.names is.lone) ∙ (let same = eq-eqb d d refl in rw same refl);
      shown = inl (touches-at (promoted t f i d) 1 (edit (Pointer f i) (marked d)) refl);
    }

-- an edit that names the data block, and no other
may_name : (g : Geometry) (image : Image) (es : List Edit) (e : Edit) (d : ℕ) → IsShared g image es d → (IsLone e.field e.number → ⊥)
    → ((k : ℕ) → share_of e.field e.number k ≡ share e.number k) → named e.number ≡ Some d → MayName g image es e
may_name g image es e d shared lone share_is names k some =
    elim (cases_eq d k) [
      | inl here ↦ inr (subst (IsShared g image es) here shared, lone)
      | inr other ↦ absurd (some (share_is k ∙ share_named e.number d k names ∙ (let apart = ne_eqb d k other in rw apart refl)))
    ]

pub record-promote : (g : Geometry) (counter : ℕ) (image : Image) (key t f i d : ℕ) → IsValid g counter image
    → IsPromotable g image key t f i d → IsRecord g image key (promoted t f i d)
record-promote g counter image key t f i d valid is =
    let es = promoted t f i d in
    let slot = edit (Slot t) (d + 1) in
    let pointer = edit (Pointer f i) (marked d) in
    let count = edit (Count d) 2 in
    let geometry = valid.geometry.0 in
    let un = fresh-unmarked g d geometry is.count.0 in
    let one = count-lone g counter image key t f i d valid is in
    let plain = named-unmarked (d + 1) d refl un in
    let high = named-marked d un.1 in
    let raised : logical g image (Count d) + 1 ≡ 2 = omega (arith, one) in
    let shared = shared_by g image key t f i d is in
    record-of g image key es valid.counted
    (record {
      few = omega arith;
      each = all_three (IsEdit g) slot pointer count (is.slot.0, omega (arith, is.count.0)) (is.pointer.0, marked-range g d geometry is.count.0) (is.count.0, two_fits g geometry);
      apart = (
        (let a = other_field-is (Pointer f i) (Slot t) (λ e. cc) in let b = other_field-is (Count d) (Slot t) (λ e. cc) in rw (a, b) refl),
        ((let c = other_field-is (Count d) (Pointer f i) (λ e. cc) in rw c refl), (refl, tt)),
      );
    })
    (all_three (λ (e : Edit). HoldsField g image key e.field) slot pointer count is.slot is.pointer is.count)
    (subst (λ (n : ℕ). Balances g (λ x. logical g image x) (slot ∷ pointer ∷ edit (Count d) n ∷ [])) raised
    (balances-promote g (λ x. logical g image x) t (d + 1) f i (marked d) d (ap named is.empty) plain (named-unmarked (logical g image (Pointer f i)) d is.names is.lone) high))
    (all_three (MayName g image es) slot pointer count
    (may_name g image es slot d shared (λ none. none) (λ k. refl) plain)
    (may_name g image es pointer d shared (marked-not_lone d) (λ k. refl) high)
    (λ k some. absurd (some refl)))
    (all_three (CountsSlot g image es) slot pointer count
    (λ s k same names.
    let here : t ≡ s = cc in
    elim names [
      | inl before ↦ absurd (let now : field g image (Slot t) ≡ k + 1 = ap (λ (n : ℕ). field g image (Slot n)) here ∙ before in omega (arith, now, is.table))
      | inr after ↦ let number : d ≡ k = omega (arith, after) in ap (λ (n : ℕ). touches es (Count n)) (sym number) ∙ touches-at es 2 count refl
    ])
    (λ s k same names. absurd cc) (λ s k same names. absurd cc))

-- the pointer shows the block that it showed
pub stays-promote : (g : Geometry) (counter : ℕ) (old new : Image) (key t f i d : ℕ) → IsValid g counter old
    → IsPromotable g old key t f i d → Changes g (promoted t f i d) None old new → KeepsFiles old new
stays-promote g counter old new key t f i d valid is step =
    let un = fresh-unmarked g d valid.geometry.0 is.count.0 in
    stays-edited g counter (promoted t f i d) old new valid (record-promote g counter old key t f i d valid is).edits.each
    (all_three (λ (e : Edit). LeavesShown g old e.field e.number) (edit (Slot t) (d + 1)) (edit (Pointer f i) (marked d)) (edit (Count d) 2) tt
    (inr (content-named g old (marked d) d (named-marked d un.1) ∙ sym (content-named g old (logical g old (Pointer f i)) d (named-unmarked (logical g old (Pointer f i)) d is.names is.lone)))) tt)
    step
