-- The shelves of sorted entries ascend.
use Rattle.std.proofs.Common.{◌≡◌, ◌<◌, ◌≤◌, ◌+◌, ◌∙◌, ℕ, List, Some, ap, arith, false, get_or, length, sym, true, inl, inr}
use Rattle.std.specs.Prelude.{slice_get}
use Rattle.std.proofs.lemmas.Bool.{cases_lt}
use Rattle.std.proofs.lemmas.List.Sorted.{IsNonDecreasingBy-from_all_adjacent}
use Rattle.std.proofs.lemmas.Option.{get_or_from_slice_get, slice_get_within}
use Rattle.std.specs.Cmp.{nat_cmp_is}
use Rattle.std.specs.List.Sorted.{IsSortedByKey}
use Rattle.std.specs.Ordering.{is_lt, nat_cmp, ordering_then}
use Rattle.std.specs.declared.cmp.Ordering.{Ordering}
use Rattle.std.specs.declared.cmp.Ordering.TheVariants.{Less}
use Rattle.merge_shelves.specs.Parts.{shelf_of}
use Rattle.merge_shelves.specs.Rooms.{key_cmp, sort_key}
use Rattle.merge_shelves.specs.declared.room.Noted.{Noted}

-- a lower shelf is a lower key
lower : (x y : ℕ) (o p : Ordering) → x < y → is_lt (ordering_then (ordering_then (nat_cmp x y) o) p) ≡ true
lower x y o p less =
    let is : Less ≡ nat_cmp x y = nat_cmp_is x y Less less in
    ap (λ (c : Ordering). is_lt (ordering_then (ordering_then c o) p)) (sym is)

pub shelves_rise : (shelves : ℕ) (room : List Noted) (i j : ℕ) (one other : Noted) → IsSortedByKey (sort_key shelves) key_cmp room → i ≤ j
    → slice_get room i ≡ Some one → slice_get room j ≡ Some other
    → shelf_of shelves one.entry.digest.0 ≤ shelf_of shelves other.entry.digest.0
shelves_rise shelves room i j one other sorted le first second =
    let rise = IsNonDecreasingBy-from_all_adjacent shelf room adjacent i j one le (slice_get_within room j other second) in
    let at_one = ap shelf (get_or_from_slice_get room i one one first) in
    let at_other = ap shelf (get_or_from_slice_get room j other one second) in omega (arith, rise, at_one, at_other)
  where
    shelf : Noted → ℕ
    shelf noted = shelf_of shelves noted.entry.digest.0

    adjacent : (k : ℕ) (d : Noted) → k + 1 < length room → shelf (get_or room k d) ≤ shelf (get_or room (k + 1) d)
    adjacent k d below = elim (cases_lt (shelf (get_or room (k + 1) d)) (shelf (get_or room k d))) [
      | inl less ↦
          let low = lower (shelf (get_or room (k + 1) d)) (shelf (get_or room k d)) _ _ less in
          let both : true ≡ false = sym low ∙ sorted k d (omega arith) below in absurd cc
      | inr ge ↦ ge
    ]
