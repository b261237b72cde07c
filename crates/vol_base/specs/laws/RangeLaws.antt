-- Lists and sums over a range of numbers.
use Rattle.std.proofs.Common.{◌≡◌, ◌<◌, ◌≤◌, ◌+◌, ℕ, List, arith, refl, suc, sum_by, zero}
use Rattle.std.specs.List.{flat_map, range_with_len}
use Rattle.std.proofs.lemmas.List.Sums.{sum_by-cons}

-- one list for each number of a range
pub flat_map_kept : {A : Type 0} (f f' : ℕ → List A) (a n m : ℕ) → a + n ≤ m → ((h : ℕ) → h < m → f' h ≡ f h)
    → flat_map f' (range_with_len a n) ≡ flat_map f (range_with_len a n)
flat_map_kept f f' a zero m le same = refl
flat_map_kept f f' a (suc n) m le same =
    let first = same a (omega arith) in
    let rest = flat_map_kept f f' (a + 1) n m (omega arith) same in
    cc

-- a sum over a range of terms that are equal there
pub sum_by_range_same : (w w' : ℕ → ℕ) (a n m : ℕ) → a + n ≤ m → ((k : ℕ) → k < m → w k ≡ w' k)
    → sum_by w (range_with_len a n) ≡ sum_by w' (range_with_len a n)
sum_by_range_same w w' a zero m le same = refl
sum_by_range_same w w' a (suc n) m le same =
    rw (
      sum_by-cons w a (range_with_len (a + 1) n),
      sum_by-cons w' a (range_with_len (a + 1) n),
      same a (omega arith),
      sum_by_range_same w w' (a + 1) n m (omega arith) same,
    ) refl
