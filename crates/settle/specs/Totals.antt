-- How many places a volume has, and how many of them have a block.
use Rattle.std.specs.Prelude.{◌+◌, ℕ, zero, suc, is_some, if◌then◌else◌}
use Rattle.vol_layout.specs.declared.geometry.Geometry.{Geometry}
use Rattle.image_view.specs.Images.{Image}
use Rattle.settle.specs.Contents.{held, places_in}

-- the sum of a function's values at the numbers below n
unfoldable pub sum_below : (ℕ → ℕ) → ℕ → ℕ
sum_below value zero = 0
sum_below value (suc n) = sum_below value n + value n

-- 1 where a file has a block at the index, and 0 at a hole
abbrev pub live_at : Geometry → Image → ℕ → ℕ → ℕ
live_at g image f i = if is_some (held g image f i) then 1 else 0

-- the places of a file that are no holes
abbrev pub live_in : Geometry → Image → ℕ → ℕ
live_in g image f = sum_below (live_at g image f) (places_in g image f)

-- those of the files below a number, and of all files
abbrev pub live_below : Geometry → Image → ℕ → ℕ
live_below g image n = sum_below (live_in g image) n

abbrev pub live_places : Geometry → Image → ℕ
live_places g image = live_below g image g.files

-- all places of the files below a number, holes included, and of all files
abbrev pub places_below : Geometry → Image → ℕ → ℕ
places_below g image n = sum_below (places_in g image) n

abbrev pub places_of : Geometry → Image → ℕ
places_of g image = places_below g image g.files
