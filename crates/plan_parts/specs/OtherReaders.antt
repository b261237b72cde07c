-- The readers of a file but the host itself.
use Rattle.std.specs.Prelude.{◌≢◌, ◌≤◌, ◌<◌, ◌==◌, ◌&&◌, ℕ, Bool, List, Option, filter, not, slice_get, slice_index}

-- the key is one, and not the own one
abbrev pub IsOther : ℕ → ℕ → Type 0
IsOther own key = (key ≢ 0) × (key ≢ own)

-- no other key stands at the places from one on and before another one
abbrev pub HasNone : ℕ → List ℕ → ℕ → ℕ → Type 0
HasNone own readers from end = (y : ℕ) → from ≤ y → y < end → IsOther own (slice_index readers y) → ⊥

-- the first of these places at which another key stands
pub record IsNext (own : ℕ) (readers : List ℕ) (from end at : ℕ) : Type 0 where
  pub later : from ≤ at
  pub below : at < end
  pub other : IsOther own (slice_index readers at)
  pub first : HasNone own readers from at

-- the same as a test
abbrev pub is_other : ℕ → ℕ → Bool
is_other own key = not (key == 0) && not (key == own)

-- the other key of the lowest host, if there is one
abbrev pub lowest_in : ℕ → List ℕ → Option ℕ
lowest_in own readers = slice_get (filter (is_other own) readers) 0
