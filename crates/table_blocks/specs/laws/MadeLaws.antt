-- What the edits of a record leave in the packing of a table.
use Rattle.std.proofs.Common.{◌≡◌, ◌<◌, ◌^◌, ◌==◌, ◌/◌, ◌&&◌, true, false, ℕ, List, [], ◌∷◌, if◌then◌else◌, length, refl, sym, ap, ◌∙◌, subst, arith, inl, inr}
use Rattle.std.specs.Prelude.{All, nat_lt}
use Rattle.std.proofs.lemmas.Bool.{and_parts, cases_Bool, eqb-true, or_parts}
use Rattle.std.proofs.lemmas.Bool.Decides.{nat_tests}
use Rattle.std.proofs.lemmas.List.Elements.{All-head, All-tail}
use Rattle.vol_base.specs.Packing.{Packing}
use Rattle.vol_layout.specs.declared.geometry.Geometry.{Geometry}
use Rattle.vol_layout.specs.declared.kind.Table.{Table}
use Rattle.vol_layout.specs.declared.kind.Table.TheVariants as tables
use Rattle.vol_layout.specs.declared.field.Field.{Field}
use Rattle.vol_layout.specs.declared.field.Field.TheVariants.{Head, Pointer, Slot, Count}
use Rattle.vol_layout.specs.declared.field.Edit.{Edit}
use Rattle.vol_layout.specs.laws.EditLaws.{other_field, other_field-is, same_field-is, touches-at}
use Rattle.vol_layout.specs.Edits.{IsEdit, edited, same_field, touches}
use Rattle.vol_layout.specs.Fields.{table_of}
use Rattle.vol_layout.specs.Ranges.{IsGeometry, per_table}
use Rattle.table_blocks.specs.Made.{made, stands_in}
use Rattle.table_blocks.specs.Tables.{IsPackingOf, number_in, with_number}
use Rattle.table_blocks.specs.laws.NumberLaws.{IsPackingOf-with_number, in_range-small, number_in-other, number_in-with_number}

-- a field stands in a table block exactly where that is its table
pub stands_in-is : (x : Field) (t : Table) → stands_in x t ≡ true → table_of x ≡ t
stands_in-is (Head f) (tables.File e) stands = ap tables.File (eqb-true f e stands)
stands_in-is (Pointer f i) (tables.File e) stands =
    let tests = and_parts (f == e) (i / per_table == 0) stands in
    rw tests.1 (ap tables.File (eqb-true f e tests.0))
stands_in-is (Pointer f i) (tables.More e t) stands =
    let tests = and_parts (f == e && nat_lt 0 t) (i / per_table == t) stands in
    let front = and_parts (f == e) (nat_lt 0 t) tests.0 in
    let block : i / per_table ≡ t = eqb-true (i / per_table) t tests.1 in
    let later : (i / per_table == 0) ≡ false = grind (arith, nat_tests) in
    rw later (ap (λ (n : ℕ). tables.More n (i / per_table)) (eqb-true f e front.0) ∙ ap (tables.More e) block)
stands_in-is (Slot s) (tables.Part p) stands = ap tables.Part (eqb-true (s / per_table) p stands)
stands_in-is (Count d) (tables.Group r) stands = ap tables.Group (eqb-true (d / per_table) r stands)
stands_in-is _ _ stands = absurd cc

pub stands_in-of : (x : Field) → stands_in x (table_of x) ≡ true
stands_in-of (Head f) = grind (arith, nat_tests)
stands_in-of (Pointer f i) =
    elim (cases_Bool (i / per_table == 0)) [
      | inl first ↦ rw first (let own : (f == f) ≡ true = grind (arith, nat_tests) in rw (own, first) refl)
      | inr later ↦ rw later (grind (arith, nat_tests, later))
    ]
stands_in-of (Slot s) = grind (arith, nat_tests)
stands_in-of (Count d) = grind (arith, nat_tests)

-- with edits in range made the packing stays one that the table may spell
one_made : (g : Geometry) (t : Table) (e : Edit) (q : Packing) → IsGeometry g → IsEdit g e → IsPackingOf g t q
    → IsPackingOf g t (if stands_in e.field t then with_number q e.field e.number else q)
one_made g t e q range is of =
    elim (cases_Bool (stands_in e.field t)) [
      | inl here ↦
          let small = in_range-small g e.field e.number range is.1 in
          rw here (IsPackingOf-with_number g t q e.field e.number of (stands_in-is e.field t here) small is.1)
      | inr other ↦ rw other of
    ]

pub made-packing : (g : Geometry) (t : Table) (es : List Edit) (p : Packing) → IsGeometry g → All (IsEdit g) es → IsPackingOf g t p
    → IsPackingOf g t (made t es p)
made-packing g t [] p range each of = of
made-packing g t (e ∷ es) p range each of =
    one_made g t e (made t es p) range (All-head (IsEdit g) e es each) (made-packing g t es p range (All-tail (IsEdit g) e es each) of)

here_number : (e : Edit) (q : Packing) (x : Field) (n : ℕ) → table_of e.field ≡ table_of x → e.number < 2 ^ 32
    → length q.entries ≡ per_table → number_in q x ≡ n → number_in (with_number q e.field e.number) x ≡ (if same_field e.field x then e.number else n)
here_number e q x n table small whole was =
    elim (cases_Bool (same_field e.field x)) [
      | inl same ↦
          rw same (subst (λ (z : Field). number_in (with_number q e.field e.number) z ≡ e.number) (same_field-is e.field x same)
          (number_in-with_number q e.field e.number small whole))
      | inr other ↦ rw other (number_in-other q e.field x e.number table (other_field e.field x other) ∙ was)
    ]

-- a field of another table is another field
elsewhere : (t : Table) (x y : Field) → stands_in x t ≡ false → table_of y ≡ t → same_field x y ≡ false
elsewhere t x y other at =
    other_field-is x y (λ same.
    let stands = subst (λ (u : Table). stands_in x u ≡ true) (ap table_of same ∙ at) (stands_in-of x) in
    cc)

-- each field of the table has the number of the first edit of it, and else keeps its own
one_number : (g : Geometry) (t : Table) (e : Edit) (q : Packing) (x : Field) (n : ℕ) → IsGeometry g → IsEdit g e → IsPackingOf g t q
    → table_of x ≡ t → number_in q x ≡ n
    → number_in (if stands_in e.field t then with_number q e.field e.number else q) x ≡ (if same_field e.field x then e.number else n)
one_number g t e q x n range is of at was =
    elim (cases_Bool (stands_in e.field t)) [
      | inl here ↦
          let small = in_range-small g e.field e.number range is.1 in
          rw here (here_number e q x n (stands_in-is e.field t here ∙ sym at) small of.entries was)
      | inr other ↦
          let apart = elsewhere t e.field x other at in
          rw (other, apart) was
    ]

pub made-number : (g : Geometry) (t : Table) (es : List Edit) (p : Packing) (x : Field) → IsGeometry g → All (IsEdit g) es
    → IsPackingOf g t p → table_of x ≡ t → number_in (made t es p) x ≡ edited es x (number_in p x)
made-number g t [] p x range each of at = refl
made-number g t (e ∷ es) p x range each of at =
    let rest = All-tail (IsEdit g) e es each in
    one_number g t e (made t es p) x (edited es x (number_in p x)) range (All-head (IsEdit g) e es each)
    (made-packing g t es p range rest of) at (made-number g t es p x range rest of at)

-- edits of other tables leave the packing
pub made-untouched : (t : Table) (es : List Edit) (p : Packing) → ((x : Field) → table_of x ≡ t → touches es x ≡ false) → made t es p ≡ p
made-untouched t [] p none = refl
made-untouched t (e ∷ es) p none =
    elim (cases_Bool (stands_in e.field t)) [
      | inl here ↦
          let touched : touches (e ∷ es) e.field ≡ true = touches-at (e ∷ es) 0 e refl in
          let not = none e.field (stands_in-is e.field t here) in
          absurd cc
      | inr other ↦ rw other (made-untouched t es p (λ x at. (or_parts (same_field e.field x) (touches es x) (none x at)).1))
    ]
