-- Marks stay right where each edit may name what it names.
use Rattle.std.proofs.Common.{◌≡◌, ◌≢◌, ◌≤◌, ◌+◌, ◌-◌, ◌*◌, ℕ, false, List, [], ◌∷◌, sum_by, Some, refl, sym, ap, ◌∙◌, subst, inl, inr, arith}
use Rattle.std.specs.Prelude.{All}
use Rattle.std.proofs.lemmas.Bool.{cases_eq, eq-eqb}
use Rattle.std.proofs.lemmas.List.Elements.{All-head, All-tail}
use Rattle.std.proofs.lemmas.List.Sums.{sum_by-cons}
use Rattle.vol_layout.specs.declared.geometry.Geometry.{Geometry}
use Rattle.vol_layout.specs.declared.field.Field.{Field}
use Rattle.vol_layout.specs.declared.field.Field.TheVariants.{Head, Pointer, Slot, Count}
use Rattle.vol_layout.specs.declared.field.Edit.{Edit}
use Rattle.vol_layout.specs.Edits.{AreApart, IsEdit, touches}
use Rattle.vol_layout.specs.Fields.{HasField}
use Rattle.vol_layout.specs.laws.EditLaws.{other_field-is}
use Rattle.image_view.specs.Balances.{edit, gained, lost, share, share_of}
use Rattle.image_view.specs.Counted.{IsCounted}
use Rattle.image_view.specs.Images.{Image}
use Rattle.image_view.specs.Mappings.{reference_fields, uses}
use Rattle.image_view.specs.Numbers.{logical}
use Rattle.image_view.specs.Pointers.{IsUnmarked, named}
use Rattle.image_view.specs.Records.{KeepsMarks}
use Rattle.image_view.specs.laws.BalanceLaws.{share_named, share_none}
use Rattle.image_view.specs.laws.SumLaws.{given_to, sum_edited, taken_from, times}
use Rattle.image_view.specs.laws.UseLaws.{share-le-uses, share_unmarked, times-reference, uses-sum_by}
use Rattle.call_effects.specs.Shares.{IsLone, IsShared, MayName}
use Rattle.call_effects.specs.laws.EachEdit.{the-edit}

-- the share of an emptied field
share_empty : (x : Field) (d : ℕ) → share_of x 0 d ≡ 0
share_empty (Head f) d = refl
share_empty (Pointer f i) d = share_none 0 d refl
share_empty (Slot s) d = share_none 0 d refl
share_empty (Count c) d = refl

-- a sum over all pointers and slots has the shares of any two fields
two_shares : (g : Geometry) (numbers : Field → ℕ) (x y : Field) (d : ℕ) → HasField g x → HasField g y → y ≢ x
    → share_of x (numbers x) d + share_of y (numbers y) d ≤ sum_by (λ z. share (numbers z) d) (reference_fields g)
two_shares g numbers x y d has there apart =
    let w = λ (z : Field) (n : ℕ). share n d in
    let one : List Edit = edit y 0 ∷ [] in
    let es : List Edit = edit x 0 ∷ one in
    let other = other_field-is y x apart in
    let are : AreApart es = (rw other refl, (refl, tt)) in
    let sum = sum_edited w numbers (reference_fields g) es are in
    let taken : taken_from w numbers (reference_fields g) es ≡ share_of x (numbers x) d + (share_of y (numbers y) d + 0) =
    rw (
      sum_by-cons (λ (e : Edit). times (reference_fields g) e.field * share (numbers e.field) d) (edit x 0) one,
      sum_by-cons (λ (e : Edit). times (reference_fields g) e.field * share (numbers e.field) d) (edit y 0) [],
      times-reference g x has (numbers x) d,
      times-reference g y there (numbers y) d,
    ) refl in
    let given : given_to w (reference_fields g) es ≡ 0 =
    rw (
      sum_by-cons (λ (e : Edit). times (reference_fields g) e.field * share e.number d) (edit x 0) one,
      sum_by-cons (λ (e : Edit). times (reference_fields g) e.field * share e.number d) (edit y 0) [],
      times-reference g x has 0 d,
      times-reference g y there 0 d,
      share_empty x d,
      share_empty y d,
    ) refl in
    omega (arith, sum, taken, given)

-- two fields that name one data number are two uses of it
pub two-uses : (g : Geometry) (image : Image) (x y : Field) (d : ℕ) → HasField g x → HasField g y → y ≢ x
    → share_of x (logical g image x) d + share_of y (logical g image y) d ≤ uses g image d
two-uses g image x y d has there apart =
    let both = two_shares g (λ z. logical g image z) x y d has there apart in
    let sum = uses-sum_by g image d in
    omega (arith, both, sum)

-- so a data block with one use that a pointer names is named by no other pointer
pub named-alone : (g : Geometry) (image : Image) (f i h j d : ℕ) → HasField g (Pointer f i) → HasField g (Pointer h j)
    → Pointer h j ≢ Pointer f i → named (logical g image (Pointer f i)) ≡ Some d → uses g image d ≡ 1
    → named (logical g image (Pointer h j)) ≢ Some d
named-alone g image f i h j d has there apart names once too =
    let both = two-uses g image (Pointer f i) (Pointer h j) d has there apart in
    let self = eq-eqb d d refl in
    let first : share (logical g image (Pointer f i)) d ≡ 1 = share_named (logical g image (Pointer f i)) d d names ∙ rw self refl in
    let second : share (logical g image (Pointer h j)) d ≡ 1 = share_named (logical g image (Pointer h j)) d d too ∙ rw self refl in
    absurd (omega (arith, both, first, second, once))

-- edits take nothing of a data number that nothing names
lost-none : (g : Geometry) (image : Image) (es : List Edit) (d : ℕ) → All (IsEdit g) es → uses g image d ≡ 0
    → lost (λ x. logical g image x) es d ≡ 0
lost-none g image [] d each none = refl
lost-none g image (e ∷ es) d each none =
    let here = share-le-uses g image e.field d (All-head (IsEdit g) e es each).0 in
    let rest = lost-none g image es d (All-tail (IsEdit g) e es each) none in
    let sum = sum_by-cons (λ (e : Edit). share_of e.field (logical g image e.field) d) e es in
    omega (arith, here, rest, sum, none)

-- what an untouched pointer names without the mark is given by no edit
unshared : (g : Geometry) (image : Image) (es : List Edit) (f i : ℕ) → IsCounted g image → HasField g (Pointer f i)
    → touches es (Pointer f i) ≡ false → IsUnmarked (logical g image (Pointer f i))
    → IsShared g image es (logical g image (Pointer f i) - 1) → ⊥
unshared g image es f i counted has kept lone shared =
    let d = logical g image (Pointer f i) - 1 in
    let once = counted.unmarked f i has lone in
    let here = share_unmarked (logical g image (Pointer f i)) lone in
    let apart : shared.by ≢ Pointer f i =
    λ e. elim shared.shown [
      | inl touched ↦ absurd (let none : touches es shared.by ≡ false = ap (λ (x : Field). touches es x) e ∙ kept in cc)
      | inr marked ↦ marked (subst (λ (x : Field). IsLone x (logical g image x)) (sym e) lone)
    ] in
    let both = two-uses g image (Pointer f i) shared.by d has shared.has apart in
    absurd (omega (arith, both, here, shared.names, once))

-- and neither is it given by one that may name what it names
given_none : (g : Geometry) (image : Image) (all es : List Edit) (f i : ℕ) → IsCounted g image → HasField g (Pointer f i)
    → touches all (Pointer f i) ≡ false → IsUnmarked (logical g image (Pointer f i)) → All (MayName g image all) es
    → gained es (logical g image (Pointer f i) - 1) ≡ 0
given_none g image all [] f i counted has kept lone may = refl
given_none g image all (e ∷ es) f i counted has kept lone may =
    let d = logical g image (Pointer f i) - 1 in
    let rest = given_none g image all es f i counted has kept lone (All-tail (MayName g image all) e es may) in
    let used = share-le-uses g image (Pointer f i) d has in
    let here = share_unmarked (logical g image (Pointer f i)) lone in
    let none : share_of e.field e.number d ≡ 0 =
    elim (cases_eq (share_of e.field e.number d) 0) [
      | inl is ↦ is
      | inr some ↦
          elim (All-head (MayName g image all) e es may d some) [
            | inl fresh ↦ absurd (omega (arith, used, here, fresh.0))
            | inr shared ↦ absurd (unshared g image all f i counted has kept lone shared.0)
          ]
    ] in
    let sum = sum_by-cons (λ (e : Edit). share_of e.field e.number d) e es in
    omega (arith, none, rest, sum)

-- edits each of which may name what it names keep marks right
pub marks-named : (g : Geometry) (image : Image) (es : List Edit) → IsCounted g image → All (IsEdit g) es → All (MayName g image es) es
    → KeepsMarks g image es
marks-named g image es counted each may = record {
  edits = λ f i n has touched is lone.
      let the = the-edit (MayName g image es) es (Pointer f i) may touched in
      let number : n ≡ the.edit.number = is ∙ the.gives (logical g image (Pointer f i)) in
      let share_is : share_of the.edit.field the.edit.number (n - 1) ≡ 1 =
      ap (λ (x : Field). share_of x the.edit.number (n - 1)) the.of ∙ ap (λ (m : ℕ). share m (n - 1)) (sym number) ∙ share_unmarked n lone in
      let alone : IsLone the.edit.field the.edit.number =
      subst (λ (x : Field). IsLone x the.edit.number) (sym the.of) (subst IsUnmarked number lone) in
      elim (the.holds (n - 1) (λ e. absurd (omega (arith, share_is, e)))) [
        | inl fresh ↦ let taken = lost-none g image es (n - 1) each fresh.0 in omega (arith, fresh.0, fresh.1, taken)
        | inr shared ↦ absurd (shared.1 alone)
      ];
  others = λ f i has kept lone. given_none g image es es f i counted has kept lone may;
}
