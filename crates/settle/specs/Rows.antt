-- What was done up to a place, and up to a file.
use Rattle.std.specs.Prelude.{◌≡◌, ◌+◌, ◌*◌, ◌<◌, ◌≤◌, ℕ, Bool, None, Option, Some, is_some, nat_lt, if◌then◌else◌}
use Rattle.vol_layout.specs.declared.field.Field.TheVariants.{Head}
use Rattle.vol_layout.specs.declared.geometry.Geometry.{Geometry}
use Rattle.image_view.specs.Images.{Image}
use Rattle.image_view.specs.Numbers.{logical}
use Rattle.settle.specs.Contents.{NoClash, held, places_in}
use Rattle.settle.specs.Gathered.{Found, IsGathered}
use Rattle.settle.specs.Moves.{Stays}
use Rattle.settle.specs.Totals.{live_at, live_below, live_in, places_below, places_of, sum_below}

-- a place was settled, which is a hole or not
pub record IsPlaced (g : Geometry) (f i : ℕ) (found : Found) (live : Bool) (old new : Image) : Type 0 where
  pub stays : Stays g old new
  pub gathered : IsGathered g new found f (i + 1)
  pub below : i + 1 < logical g old (Head f)
  pub filled : live ≡ is_some (held g old f i)

-- the file has no place there
pub record IsEnded (g : Geometry) (f i : ℕ) (found : Found) (old new : Image) : Type 0 where
  pub stays : Stays g old new
  pub gathered : IsGathered g new found f i
  pub past : logical g old (Head f) ≤ i + 1

abbrev pub PlaceComes : Geometry → ℕ → ℕ → Found → Option Bool → Image → Image → Type 0
PlaceComes g f i found None old new = IsEnded g f i found old new
PlaceComes g f i found (Some live) old new = IsPlaced g f i found live old new

-- the device calls for one index of a file at most: 40 for a place, and 4 at the file's end
abbrev pub most_calls : Geometry → Image → ℕ → ℕ → ℕ
most_calls g image f i = if nat_lt (i + 1) (logical g image (Head f)) then 40 else 4

-- and for a whole file, and for all files
abbrev pub most_in_file : Geometry → ℕ → Image → ℕ
most_in_file g f image = 40 * places_in g image f + 4

abbrev pub most_in_all : Geometry → Image → ℕ
most_in_all g image = 40 * places_of g image + 4 * g.files

-- the places of a file below an index were settled: how many of them are no holes, and the device calls since `before` of them
pub record IsRow (g : Geometry) (f i : ℕ) (found : Found) (live before calls : ℕ) (old new : Image) : Type 0 where
  pub stays : Stays g old new
  pub gathered : IsGathered g new found f i
  pub within : i ≤ places_in g old f
  pub live_is : live ≡ sum_below (live_at g old f) i
  pub count : NoClash g old → calls ≤ before + 40 * i

-- a whole file was settled
pub record IsWholeRow (g : Geometry) (f : ℕ) (found : Found) (live before calls : ℕ) (old new : Image) : Type 0 where
  pub stays : Stays g old new
  pub gathered : IsGathered g new found (f + 1) 0
  pub live_is : live ≡ live_in g old f
  pub count : NoClash g old → calls ≤ before + most_in_file g f old

-- the files below a number were settled
pub record IsRun (g : Geometry) (n : ℕ) (found : Found) (live before calls : ℕ) (old new : Image) : Type 0 where
  pub stays : Stays g old new
  pub gathered : IsGathered g new found n 0
  pub live_is : live ≡ live_below g old n
  pub count : NoClash g old → calls ≤ before + (40 * places_below g old n + 4 * n)

-- what is left where a call was refused: each change was a link, and so many device calls were made at most
pub record IsCut (g : Geometry) (most : Image → ℕ) (before calls : ℕ) (old new : Image) : Type 0 where
  pub stays : Stays g old new
  pub count : NoClash g old → calls ≤ before + most old
