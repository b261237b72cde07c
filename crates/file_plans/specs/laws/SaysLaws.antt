-- What kept tables say of heads and pointers, and the gathering of remains.
use Rattle.std.proofs.Common.{nat_lt, ◌&&◌, ◌≡◌, ◌≢◌, ◌⊎◌, ◌<◌, ◌≤◌, ◌+◌, ◌==◌, ◌++◌, ◌∷◌, ◌%◌, ◌/◌, ◌^◌, [], ℕ, Bool, List, inl, inr, slice_index_or, true, false, None, Option, Some, refl, sym, subst, arith}
use Rattle.std.specs.Prelude.{All, length, if◌then◌else◌}
use Rattle.std.proofs.lemmas.Bool.{and_parts, cases_Bool, cases_lt, eqb-false, ltb-true}
use Rattle.std.proofs.lemmas.List.{length-append}
use Rattle.std.proofs.lemmas.List.Elements.{All-append, All-head, All-tail}
use Rattle.call_effects.specs.laws.EachEdit.{all-one}
use Rattle.std.proofs.lemmas.Bool.{eq-eqb}
use Rattle.vol_base.specs.Packing.{Packing}
use Rattle.vol_layout.specs.declared.field.Field.TheVariants.{Pointer}
use Rattle.vol_layout.specs.declared.geometry.Geometry.{Geometry}
use Rattle.vol_layout.specs.declared.kind.Table.{Table}
use Rattle.vol_layout.specs.Fields.{HasField, IsPointer, table_of}
use Rattle.vol_layout.specs.Ranges.{IsGeometry, data_blocks, limit, per_table}
use Rattle.image_view.specs.declared.pointer.Number.{Number}
use Rattle.image_view.specs.declared.pointer.Number.TheVariants.{At, Hole}
use Rattle.image_view.specs.Pointers.{IsNumber, pointer_number}
use Rattle.table_blocks.specs.Tables.{IsPackingOf, number_in}
use Rattle.held_cache.specs.Kept.{Cache, IsFileTable, kept_at}
use Rattle.file_plans.specs.Says.{AreAscending, AreFound, AreHoles, AreKnown, ArePacked, AreRemains, IsInVolume, IsRemain, Known, PointsTo, are_together, gathered, remains_in}
use Rattle.file_plans.specs.declared.remains.Remain.{Remain}

-- a kept table has the numbers of its kind
pub packed_range : (c : Cache) (h : ℕ) (t : Table) (p : Packing) → ArePacked c h → IsFileTable c.volume t → kept_at c h t ≡ Some p
    → IsPackingOf c.volume t p
packed_range c h t p packed is kept = packed t p is kept

pub pointer_table : (g : Geometry) (f i : ℕ) → IsGeometry g → HasField g (Pointer f i) → IsFileTable g (table_of (Pointer f i))
unfolding limit per_table
pointer_table g f i range has =
    elim (cases_Bool (i / 1008 == 0)) [
      | inl first ↦ rw first has.0
      | inr more ↦ rw more (has.0, omega (arith, eqb-false (i / 1008) 0 more), omega (arith, has.1))
    ]

-- a pointer whose number is in range names a data block of the volume
in_volume : (g : Geometry) (p : Number) → IsPointer g (pointer_number p) → IsNumber p → IsInVolume g p
unfolding data_blocks
in_volume g Hole range fits = tt
in_volume g (At d false) range fits = omega (arith, range.names, fits)
in_volume g (At d true) range fits = omega (arith, range.names, fits)

-- what a kept table says of a pointer
pub pointer_said : (c : Cache) (h f i : ℕ) (table : Packing) (p : Number) → IsGeometry c.volume → ArePacked c h
    → HasField c.volume (Pointer f i) → kept_at c h (table_of (Pointer f i)) ≡ Some table
    → pointer_number p ≡ number_in table (Pointer f i) → IsNumber p → PointsTo c.volume (kept_at c h) f i p
pointer_said c h f i table p range packed has kept is fits = record {
  has = has;
  says = record { table = table; kept = kept; is = sym is };
  inside = in_volume c.volume p (subst (IsPointer c.volume) (sym is) (packing.range (Pointer f i) has refl)) fits;
}
  where
    packing : IsPackingOf c.volume (table_of (Pointer f i)) table
    packing = packed (table_of (Pointer f i)) table (pointer_table c.volume f i range has) kept

pub pointer_hole : (c : Cache) (h f i : ℕ) (table : Packing) → IsGeometry c.volume → ArePacked c h → HasField c.volume (Pointer f i)
    → kept_at c h (table_of (Pointer f i)) ≡ Some table → number_in table (Pointer f i) % 2 ^ 31 ≡ 0 → number_in table (Pointer f i) ≡ 0
pointer_hole c h f i table range packed has kept =
    ((packed (table_of (Pointer f i)) table (pointer_table c.volume f i range has) kept).range (Pointer f i) has refl).hole

-- the tables of the pointers of one index more are known
pub known_more : (known : Known) (f from i : ℕ) → AreKnown known f from i → known (table_of (Pointer f i)) ≢ None
    → AreKnown known f from (i + 1)
known_more known f from i are here j after before =
    elim (cases_lt j i) [
      | inl earlier ↦ are j after earlier
      | inr last ↦ let same : i ≡ j = omega (arith, last, before) in subst (λ (k : ℕ). known (table_of (Pointer f k)) ≢ None) same here
    ]

-- so are their pointers
holes_more : (g : Geometry) (known : Known) (f from i : ℕ) → AreHoles g known f from i → PointsTo g known f i Hole
    → AreHoles g known f from (i + 1)
holes_more g known f from i are here j after before =
    elim (cases_lt j i) [
      | inl earlier ↦ are j after earlier
      | inr last ↦ let same : i ≡ j = omega (arith, last, before) in subst (λ (k : ℕ). PointsTo g known f k Hole) same here
    ]

-- a range that ends later has the same remains
remain_later : (g : Geometry) (known : Known) (f from i : ℕ) (r : Remain) → IsRemain g known f from i r → IsRemain g known f from (i + 1) r
remain_later g known f from i r is = record {
  after = is.after;
  before = omega (arith, is.before);
  shared = is.shared;
  pointer = is.pointer;
}

remains_later : (g : Geometry) (known : Known) (f from i : ℕ) (rs : List Remain) → AreRemains g known f from i rs
    → AreRemains g known f from (i + 1) rs
remains_later g known f from i rs are = record {
  first = are.first;
  more = are.more;
  are = are.are;
  few = are.few;
  each = λ k d lt. remain_later g known f from i (slice_index_or rs k d) (are.each k d lt);
  ascending = are.ascending;
  together = are.together;
}

-- one more that is greater than all keeps them ascending
ascending_more : (rs : List Remain) (next : Remain) → AreAscending rs → All (λ r. r.index < next.index) rs → AreAscending (rs ++ next ∷ [])
ascending_more [] next are less = tt
ascending_more (r ∷ []) next are less = (All-head (λ s. s.index < next.index) r [] less, tt)
ascending_more (r ∷ s ∷ more) next are less =
    (are.0, ascending_more (s ∷ more) next are.1 (All-tail (λ q. q.index < next.index) r (s ∷ more) less))

-- a remain that is found next
module _ (g : Geometry) (known : Known) (f from i d : ℕ) (shared : Bool) (after : from ≤ i) (points : PointsTo g known f i (At d shared)) where
  abbrev next : Remain
  next = record { index = i; number = d }

  next_is : IsRemain g known f from (i + 1) next
  next_is = record { after = after; before = omega arith; shared = shared; pointer = points }

  gathered_more : (first : Remain) (more : List Remain) (b : Bool) → AreRemains g known f from (i + 1) (first ∷ more)
      → All (λ r. r.index < i) (first ∷ more) → (nat_lt (length (first ∷ more)) 4 && are_together first next) ≡ b
      → AreRemains g known f from (i + 1) (if b then (first ∷ more) ++ next ∷ [] else first ∷ more)
  gathered_more first more false are less is = are
  gathered_more first more true are less is =
      let both = and_parts (nat_lt (length (first ∷ more)) 4) (are_together first next) is in
      record {
        first = first;
        more = more ++ next ∷ [];
        are = refl;
        few = let few = ltb-true (length (first ∷ more)) 4 both.0 in
            let long = length-append (first ∷ more) (next ∷ []) in omega (arith, few, long);
        each = All-append (IsRemain g known f from (i + 1)) (first ∷ more) (next ∷ []) are.each (all-one (IsRemain g known f from (i + 1)) next next_is);
        ascending = ascending_more (first ∷ more) next are.ascending less;
        together = All-append (λ r. are_together first r ≡ true) (first ∷ more) (next ∷ []) (together first more are)
            (all-one (λ r. are_together first r ≡ true) next both.1);
      }
    where
      together : (first : Remain) (more : List Remain) → AreRemains g known f from (i + 1) (first ∷ more)
          → All (λ r. are_together first r ≡ true) (first ∷ more)
      together first more are =
          let same : first ≡ are.first = cc in
          subst (λ (s : Remain). All (λ r. are_together s r ≡ true) (first ∷ more)) (sym same) are.together

  pub found_remain : (found : Option (List Remain)) → AreFound g known f from i found
      → AreRemains g known f from (i + 1) (gathered (remains_in found) next)
  found_remain None are = record {
    first = next;
    more = [];
    are = refl;
    few = omega arith;
    each = all-one (IsRemain g known f from (i + 1)) next next_is;
    ascending = tt;
    together = all-one (λ r. are_together next r ≡ true) next (rw (eq-eqb (i / per_table) (i / per_table) refl, eq-eqb (d / per_table) (d / per_table) refl) refl);
  }
  found_remain (Some rs) are =
      subst (λ (xs : List Remain). AreRemains g known f from (i + 1) (gathered xs next)) (sym are.are)
      (gathered_more are.first are.more _ (remains_later g known f from i (are.first ∷ are.more)
      (subst (AreRemains g known f from i) are.are are))
      (λ k e lt. ((subst (λ (xs : List Remain). All (IsRemain g known f from i) xs) are.are are.each) k e lt).before) refl)

-- a hole that is found next
pub found_hole : (g : Geometry) (known : Known) (f from i : ℕ) (found : Option (List Remain)) → AreFound g known f from i found
    → PointsTo g known f i Hole → AreFound g known f from (i + 1) found
found_hole g known f from i None are points = holes_more g known f from i are points
found_hole g known f from i (Some rs) are points = remains_later g known f from i rs are

-- what was found where the range is over
pub found_end : (g : Geometry) (known : Known) (f from to i : ℕ) (found : Option (List Remain)) → (i ≡ to) ⊎ ((i ≡ from) × (to ≤ from))
    → AreFound g known f from i found → AreFound g known f from to found
found_end g known f from to i found (inl same) are = subst (λ (k : ℕ). AreFound g known f from k found) same are
found_end g known f from to i None (inr over) are = λ k after before. absurd (omega (arith, after, before, over.1))
found_end g known f from to i (Some rs) (inr over) are =
    let first = All-head (IsRemain g known f from i) are.first are.more (subst (All (IsRemain g known f from i)) are.are are.each) in
    absurd (omega (arith, first.after, first.before, over.0))
