-- The parts of all seats, added up.
use Rattle.std.proofs.Common.{◌≡◌, ◌≢◌, ℕ, zero, suc, ◌+◌, ◌≤◌, List, [], ◌∷◌, set, sym, ap, ◌∙◌, arith}
use mathlib.Core.Option.{some, some-injective, some-ne-none}
use lib.ListN.{get_elem?}
use Rattle.std.specs.List.{sum_by}
use Rattle.std.proofs.lemmas.List.Sums.{sum_by-cons}
use Rattle.atomic_table.proofs.Lists.{set_else}
use Rattle.turn_lock.specs.Rule.{parts}
use Rattle.turn_lock.specs.Steps.{spent}
use Rattle.turn_lock.specs.declared.knowledge.Knows.{Knows}

module _ {T : Type 0} where
  -- the sum after a change of one view
  pub parts_set : (l : List (Knows T)) (i : ℕ) (v w : Knows T) → get_elem? l i ≡ some v → sum_by parts (set l i w) + v.parts ≡ sum_by parts l + w.parts
  parts_set [] i v w at = absurd (some-ne-none v (sym at))
  parts_set (x ∷ xs) zero v w at =
      let same : x.parts ≡ v.parts = ap parts (some-injective x v at) in
      omega (arith, sum_by-cons parts x xs, sum_by-cons parts w xs)
  parts_set (x ∷ xs) (suc i) v w at =
      omega (arith, sum_by-cons parts x xs, sum_by-cons parts x (set xs i w), parts_set xs i v w at)

  one_part : (l : List (Knows T)) (i : ℕ) (v : Knows T) → get_elem? l i ≡ some v → v.parts ≤ sum_by parts l
  one_part l i v at = omega (arith, parts_set l i v spent at)

  -- two seats have no more parts than all
  pub two_parts : (l : List (Knows T)) (i j : ℕ) (v w : Knows T) → j ≢ i → get_elem? l i ≡ some v → get_elem? l j ≡ some w → v.parts + w.parts ≤ sum_by parts l
  two_parts l i j v w apart at there =
      let other = one_part (set l i spent) j w (set_else l i j spent apart ∙ there) in
      omega (arith, parts_set l i v spent at)
