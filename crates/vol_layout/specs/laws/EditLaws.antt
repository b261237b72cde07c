-- When edits are of one field.
use Rattle.std.proofs.Common.{◌≡◌, ◌≢◌, ◌==◌, ◌&&◌, ◌||◌, Bool, true, false, ℕ, zero, suc, List, [], ◌∷◌, ◌++◌, Some, take, refl, sym, subst, ap, ◌∙◌, arith}
use Rattle.std.specs.Prelude.{slice_get}
use Rattle.std.proofs.lemmas.Bool.Decides.{nat_tests}
use Rattle.vol_layout.specs.declared.field.Field.{Field}
use Rattle.vol_layout.specs.declared.field.Field.TheVariants.{Head, Pointer, Slot, Count}
use Rattle.vol_layout.specs.declared.field.Edit.{Edit}
use Rattle.vol_layout.specs.Edits.{AreApart, first, same_field, second, tag, touches}
use Rattle.vol_layout.specs.Journal.{field_from}

-- a field is what its three numbers say
pub field_from-numbers : (x : Field) → field_from (tag x) (first x) (second x) ≡ x
field_from-numbers (Head f) = refl
field_from-numbers (Pointer f i) = refl
field_from-numbers (Slot s) = refl
field_from-numbers (Count d) = refl

pub same_field-refl : (x : Field) → same_field x x ≡ true
unfolding same_field
same_field-refl x = grind (arith, nat_tests)

three_numbers : (a b c x y z : ℕ) → ((a == x) && (b == y) && (c == z)) ≡ true → (a ≡ x) × (b ≡ y) × (c ≡ z)
three_numbers a b c x y z h = (grind (arith, nat_tests), grind (arith, nat_tests), grind (arith, nat_tests))

-- two fields that test the same are the same
pub same_field-is : (x y : Field) → same_field x y ≡ true → x ≡ y
unfolding same_field
same_field-is x y h =
    let e = three_numbers (tag x) (first x) (second x) (tag y) (first y) (second y) h in
    sym (field_from-numbers x)
    ∙ ap (λ (n : ℕ). field_from n (first x) (second x)) e.0
    ∙ ap (λ (n : ℕ). field_from (tag y) n (second x)) e.1
    ∙ ap (λ (n : ℕ). field_from (tag y) (first y) n) e.2
    ∙ field_from-numbers y

pub other_field : (x y : Field) → same_field x y ≡ false → x ≢ y
other_field x y h e = let same : same_field x x ≡ false = subst (λ (z : Field). same_field x z ≡ false) (sym e) h in let is = same_field-refl x in cc

pub other_field-sym : (x y : Field) → same_field x y ≡ false → same_field y x ≡ false
other_field-sym x y h =
    elim (same_field y x) as (λ b. same_field y x ≡ b → b ≡ false) [
      | true ↦ (λ same. absurd (other_field x y h (sym (same_field-is y x same))))
      | false ↦ (λ other. refl)
    ] refl

neither : (a b : Bool) → (a || b) ≡ false → (a ≡ false) × (b ≡ false)
neither true b h = absurd cc
neither false b h = (refl, h)

-- edits that follow others touch a field where either do
pub touches-append : (es more : List Edit) (x : Field) → touches (es ++ more) x ≡ (touches es x || touches more x)
touches-append [] more x = refl
touches-append (e ∷ es) more x =
    elim (same_field e.field x) as (λ b. (b || touches (es ++ more) x) ≡ ((b || touches es x) || touches more x)) [
      | true ↦ refl
      | false ↦ touches-append es more x
    ]

-- an edit touches its field, and where a field is not touched no edit is of it
pub touches-at : (es : List Edit) (k : ℕ) (e : Edit) → slice_get es k ≡ Some e → touches es e.field ≡ true
touches-at [] k e is = absurd cc
touches-at (d ∷ es) zero e is = let same : d ≡ e = cc in let one = same_field-refl e.field in rw (same, one) refl
touches-at (d ∷ es) (suc k) e is =
    elim (same_field d.field e.field) as (λ b. (b || touches es e.field) ≡ true) [ true ↦ refl | false ↦ touches-at es k e is ]

pub untouched : (es : List Edit) (k : ℕ) (e : Edit) (x : Field) → touches es x ≡ false → slice_get es k ≡ Some e
    → same_field e.field x ≡ false
untouched [] k e x h is = absurd cc
untouched (d ∷ es) zero e x h is = let same : d ≡ e = cc in subst (λ (c : Edit). same_field c.field x ≡ false) same (neither (same_field d.field x) (touches es x) h).0
untouched (d ∷ es) (suc k) e x h is = untouched es k e x (neither (same_field d.field x) (touches es x) h).1 is

-- an edit of a field that is not touched keeps edits apart
pub AreApart-push : (es : List Edit) (e : Edit) → AreApart es → touches es e.field ≡ false → AreApart (es ++ e ∷ [])
AreApart-push [] e apart new = (refl, tt)
AreApart-push (d ∷ es) e apart new =
    let parts = neither (same_field d.field e.field) (touches es e.field) new in
    let first_is = touches-append es (e ∷ []) d.field in
    let last = other_field-sym d.field e.field parts.0 in
    (first_is ∙ rw (apart.0, last) refl, AreApart-push es e apart.1 parts.1)

-- of edits that are apart, none is of a field that those before it touch
pub touches-take : (es : List Edit) (k : ℕ) (e : Edit) → AreApart es → slice_get es k ≡ Some e → touches (take k es) e.field ≡ false
touches-take [] k e apart is = absurd cc
touches-take (d ∷ es) zero e apart is = refl
touches-take (d ∷ es) (suc k) e apart is =
    let here = other_field-sym e.field d.field (untouched es k e d.field apart.0 is) in
    let later = touches-take es k e apart.1 is in
    rw (here, later) refl

pub other_field-is : (x y : Field) → x ≢ y → same_field x y ≡ false
other_field-is x y h =
    elim (same_field x y) as (λ b. same_field x y ≡ b → b ≡ false) [
      | true ↦ (λ same. absurd (h (same_field-is x y same)))
      | false ↦ (λ other. refl)
    ] refl
