-- Tables that stand where their places point to.
use Rattle.std.specs.Prelude.{◌≡◌, ◌<◌, ◌≤◌, ◌⊎◌, ℕ, List, Option, Some, None, count_by, is_some, length, map, slice_index_or}
use Rattle.vol_base.specs.Packing.{Packing}

-- the table at a position; a place without a position has none
abbrev pub table_at : List (Option Packing) → Option ℕ → Option Packing
table_at tables None = None
table_at tables (Some n) = slice_index_or tables n None

-- the table of each place
abbrev pub stored : List (Option ℕ) → List (Option Packing) → List (Option Packing)
stored positions tables = map (table_at tables) positions

-- the position of a place
abbrev pub position_of : List (Option ℕ) → ℕ → Option ℕ
position_of positions place = slice_index_or positions place None

-- each table has one place, and there is room for the table of each place
pub record IsStored (positions : List (Option ℕ)) (tables : List (Option Packing)) (capacity : ℕ) : Type 0 where
  pub counted : count_by is_some positions ≡ length tables
  pub inside : (place n : ℕ) → position_of positions place ≡ Some n → n < length tables
  pub apart : (place other n : ℕ) → position_of positions place ≡ Some n → position_of positions other ≡ Some n → place ≡ other
  pub room : length positions ≤ capacity

-- the places from the first to before the end have no table, and the others stay
pub record ClearsRange (old new : List (Option Packing)) (first end : ℕ) : Type 0 where
  pub long : length new ≡ length old
  pub cleared : (place : ℕ) → first ≤ place → place < end → slice_index_or new place None ≡ None
  pub others : (place : ℕ) → (place < first) ⊎ (end ≤ place) → slice_index_or new place None ≡ slice_index_or old place None
