-- A count has room for one use more where a pointer or slot names something else.
use Rattle.std.proofs.Common.{◌≡◌, ◌≤◌, ◌+◌, ◌*◌, ◌==◌, ℕ, zero, suc, List, [], ◌∷◌, sum_by, Option, None, Some, refl, ◌∙◌, inl, inr, arith, if◌then◌else◌}
use Rattle.std.specs.List.{range_with_len}
use Rattle.std.specs.Option.{option_map_or}
use Rattle.std.proofs.lemmas.Bool.{cases_Bool, cases_eq, eq-eqb, eqb-true, ne_eqb}
use Rattle.std.proofs.lemmas.List.Sums.{sum_by-cons, sum_by-le-sum_by}
use Rattle.vol_layout.specs.declared.geometry.Geometry.{Geometry}
use Rattle.vol_layout.specs.declared.field.Field.{Field}
use Rattle.vol_layout.specs.declared.field.Field.TheVariants.{Count, Pointer}
use Rattle.vol_layout.specs.declared.field.Edit.{Edit}
use Rattle.vol_layout.specs.Edits.{AreApart, edited}
use Rattle.vol_layout.specs.Fields.{HasField, greatest_count}
use Rattle.vol_layout.specs.Ranges.{IsGeometry, arena_slots, limit, per_table}
use Rattle.image_view.specs.Balances.{edit, gained, lost, share, share_of}
use Rattle.image_view.specs.Images.{Image}
use Rattle.image_view.specs.Mappings.{reference_fields, uses}
use Rattle.image_view.specs.Numbers.{logical}
use Rattle.image_view.specs.Pointers.{named}
use Rattle.image_view.specs.laws.BalanceLaws.{share_named}
use Rattle.image_view.specs.laws.SumLaws.{sum_edited}
use Rattle.image_view.specs.laws.UseLaws.{AreOf, gained-given, lost-taken, sum_by-reference_fields, uses-sum_by}
use Rattle.call_effects.specs.laws.PointerLaws.{fresh-unmarked, named-unmarked}

-- a sum of one number over a range
sum_constant : (c a n : ℕ) → sum_by (λ k. c) (range_with_len a n) ≡ n * c
sum_constant c a zero = grind arith
sum_constant c a (suc n) = rw (sum_by-cons (λ k. c) a (range_with_len (a + 1) n), sum_constant c (a + 1) n) (grind arith)

-- there are no more pointers and slots than a count may say
bounded : (g : Geometry) → IsGeometry g
    → g.files * (1008 * g.tables * 1) + 1008 * g.parts * 1 ≤ (if g.tables == 1 then 80640 else 1008 * (g.files * g.tables + g.parts))
bounded g is =
    elim (cases_Bool (g.tables == 1)) [
      | inl one ↦ let e = eqb-true g.tables 1 one in rw (one, e) (omega (arith, is.files.1, is.parts.1))
      | inr more ↦ rw more (grind arith)
    ]

references-bounded : (g : Geometry) → IsGeometry g → sum_by (λ x. 1) (reference_fields g) ≤ greatest_count g
unfolding greatest_count limit arena_slots per_table
references-bounded g is =
    rw (
      sum_by-reference_fields g (λ x. 1),
      sum_constant 1 0 (arena_slots g),
      sum_constant 1 0 (limit g),
      sum_constant (limit g * 1) 0 g.files,
    ) (bounded g is)

-- a number names a data number once at most
share_small : (n d : ℕ) → share n d ≤ 1
unfolding share
share_small n d = small (named n)
  where
    small : (o : Option ℕ) → option_map_or (λ e. if e == d then 1 else 0) o 0 ≤ 1
    small None = omega arith
    small (Some e) = elim (cases_eq e d) [ inl here ↦ rw (eq-eqb e d here) (omega arith) | inr other ↦ rw (ne_eqb e d other) (omega arith) ]

-- whatever edits give a data number, its count has room for it
pub room-for : (g : Geometry) (image : Image) (es : List Edit) (d : ℕ) → IsGeometry g → AreApart es → AreOf g es
    → uses g image d + gained es d ≤ greatest_count g + lost (λ x. logical g image x) es d
room-for g image es d is apart of =
    let numbers = λ (x : Field). logical g image x in
    let sum = sum_edited (λ x n. share n d) numbers (reference_fields g) es apart in
    let taken = lost-taken g numbers d es of in
    let given = gained-given g d es of in
    let most = sum_by-le-sum_by (λ (x : Field). share (edited es x (numbers x)) d) (λ x. 1) (reference_fields g) (λ x. share_small (edited es x (numbers x)) d) in
    let room = references-bounded g is in
    let before = uses-sum_by g image d in
    omega (arith, sum, taken, given, most, room, before)

-- a pointer that names another data number leaves room in the count
pub room-for-one : (g : Geometry) (image : Image) (f i e : ℕ) → IsGeometry g → HasField g (Pointer f i) → HasField g (Count e)
    → share (logical g image (Pointer f i)) e ≡ 0 → uses g image e + 1 ≤ greatest_count g
room-for-one g image f i e is has there other =
    let es : List Edit = edit (Pointer f i) (e + 1) ∷ [] in
    let room = room-for g image es e is (refl, tt) (has, tt) in
    let un = fresh-unmarked g e is there in
    let one : share (e + 1) e ≡ 1 = share_named (e + 1) e e (named-unmarked (e + 1) e refl un) ∙ (let same = eq-eqb e e refl in rw same refl) in
    let taken = sum_by-cons (λ (x : Edit). share_of x.field (logical g image x.field) e) (edit (Pointer f i) (e + 1)) [] in
    let given = sum_by-cons (λ (x : Edit). share_of x.field x.number e) (edit (Pointer f i) (e + 1)) [] in
    omega (arith, room, taken, given, one, other)
