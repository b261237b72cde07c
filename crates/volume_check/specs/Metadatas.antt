-- What a check keeps of a volume.
use Rattle.std.specs.Prelude.{◌≡◌, ◌<◌, ◌≤◌, ◌+◌, ◌-◌, ◌++◌, ◌∷◌, ℕ, List, [], length, map, replicate}
use Rattle.vol_base.specs.declared.block.Block.{Block}
use Rattle.vol_layout.specs.declared.geometry.Geometry.{Geometry}
use Rattle.vol_layout.specs.Places.{front_end, further_start, further_tables}
use Rattle.vol_layout.specs.Ranges.{IsGeometry}
use Rattle.vol_layout.specs.Regions.{total}
use Rattle.image_view.specs.Images.{Image}
use Rattle.volume_faults.specs.declared.fault.Fault.{Fault}
use Rattle.volume_faults.specs.Faults.{IsOfStage, IsPassed}
use Rattle.volume_faults.specs.Lists.{Adds}
use Rattle.volume_faults.specs.Sites.{Site}

-- what was read of a volume, as an image that has no bytes where nothing is asked; the counter is the
-- device's
pub record Metadata : Type 0 where
  pub geometry : Geometry
  pub counter : ℕ
  pub image : Image

-- the place is one of the two runs that are read: from place 1 on up to the last part table, and the further tables
pub record IsInRuns (g : Geometry) (p : ℕ) : Type 0 where
  pub first : 1 ≤ p
  pub last : p < total g
  pub further : front_end g ≤ p → further_start g ≤ p

-- the image that two runs of blocks make, one from place 1 on and one at the volume's end; the other blocks
-- have no bytes
unfoldable pub image_of_runs : Geometry → List Block → List Block → Image
image_of_runs g front further =
    [] ∷ map (λ block. block.0) front
    ++ replicate (further_start g - front_end g) []
    ++ map (λ block. block.0) further

-- both runs are whole
pub record AreRuns (g : Geometry) (front further : List Block) : Type 0 where
  pub geometry : IsGeometry g
  pub first : length front + 1 ≡ front_end g
  pub second : length further ≡ further_tables g

-- the list grew by all faults of some sites, and of a stage
abbrev pub AddsOf : (Site → Type 0) → Metadata → List Fault → List Fault → Type 0
AddsOf Among m old new = Adds Among m.geometry m.counter m.image old new

abbrev pub AddsStage : ℕ → Metadata → List Fault → List Fault → Type 0
AddsStage stage m old new = AddsOf (IsOfStage m.geometry m.image stage) m old new

-- a stage is passed
abbrev pub Passes : ℕ → Metadata → Type 0
Passes stage m = IsPassed m.geometry m.counter m.image stage
