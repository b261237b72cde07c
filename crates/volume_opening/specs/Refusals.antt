-- What the refusals of an opening say, and what they leave.
use Rattle.std.specs.Prelude.{◌≡◌, ◌≢◌, ◌⊎◌, ℕ, List, [], None, Option, Some, IfSome}
use Rattle.vol_layout.specs.declared.geometry.Geometry.{Geometry}
use Rattle.image_view.specs.Images.{IsBlank}
use Rattle.shared_disk.specs.declared.answers.DiskNo.{DiskNo}
use Rattle.shared_disk.specs.declared.answers.DiskNo.TheVariants as disk_refusals
use Rattle.shared_disk.specs.Prefixes.{EachImage}
use Rattle.shared_disk.specs.State.{State, Told}
use Rattle.shared_disk.specs.Visits.{after_visit}
use Rattle.volume_faults.specs.declared.fault.Fault.{Fault}
use Rattle.volume_faults.specs.Faults.{AreFaults}
use Rattle.volume_opening.specs.declared.open_no.OpenNo.{OpenNo}
use Rattle.volume_opening.specs.declared.open_no.OpenNo.TheVariants as openings
use Rattle.volume_opening.specs.Misfits.{misfit}
use Rattle.volume_opening.specs.Openings.{IsEntered, IsStillBlank, IsVisited}

-- a fact of the two numbers of a geometry that does not fit
abbrev pub IfGeometry : OpenNo → (ℕ → ℕ → Type 0) → Type 0
IfGeometry (openings.Geometry given found) P = P given found
IfGeometry (openings.Faults faults) P = Unit {0}
IfGeometry openings.NoKeys P = Unit {0}
IfGeometry openings.Failed P = Unit {0}
IfGeometry openings.NoMemory P = Unit {0}

-- a fact of the faults of a volume
abbrev pub IfFaults : OpenNo → (List Fault → Type 0) → Type 0
IfFaults (openings.Geometry given found) P = Unit {0}
IfFaults (openings.Faults faults) P = P faults.items
IfFaults openings.NoKeys P = Unit {0}
IfFaults openings.Failed P = Unit {0}
IfFaults openings.NoMemory P = Unit {0}

-- these are the faults of the device's volume, of which there is one, and the geometry fits
pub record HasFaults (g : Geometry) (before after : State) (listed : List Fault) : Type 0 where
  pub fits : IfSome before.told (λ told. misfit g before.blocks told.image ≡ None)
  pub used : IfSome before.told (λ told. IsBlank told.image → ⊥)
  pub some : listed ≢ []
  pub faults : IfSome before.told (λ told. AreFaults after.counter told.image listed)

-- what a refusal says of the content handed in
abbrev pub IsRefused : Geometry → State → State → OpenNo → Type 0
IsRefused g before after (openings.Geometry given found) = IfSome before.told (λ told. misfit g before.blocks told.image ≡ Some (given, found))
IsRefused g before after (openings.Faults faults) = HasFaults g before after faults.items
IsRefused g before after openings.NoKeys = Unit {0}
IsRefused g before after openings.Failed = Unit {0}
IsRefused g before after openings.NoMemory = EachImage (IsStillBlank before.told) before.told after.told

-- what a refusal leaves
abbrev pub IsLeft : State → State → OpenNo → Type 0
IsLeft before after (openings.Geometry given found) = after ≡ after_visit before
IsLeft before after (openings.Faults faults) = after ≡ after_visit before
IsLeft before after openings.NoKeys = after ≡ before
IsLeft before after openings.Failed = (after ≡ before) ⊎ IsEntered before after
IsLeft before after openings.NoMemory = (after ≡ before) ⊎ IsVisited before after

-- a refusal of the geometry or the volume leaves the content
abbrev pub KeepsContent : Option Told → Option Told → OpenNo → Type 0
KeepsContent before after (openings.Geometry given found) = after ≡ before
KeepsContent before after (openings.Faults faults) = after ≡ before
KeepsContent before after openings.NoKeys = Unit {0}
KeepsContent before after openings.Failed = Unit {0}
KeepsContent before after openings.NoMemory = Unit {0}

-- what a refusal of the device becomes
abbrev pub refusal_of : DiskNo → OpenNo
refusal_of disk_refusals.Fenced = openings.Failed
refusal_of disk_refusals.Failed = openings.Failed
refusal_of disk_refusals.NoKeys = openings.NoKeys
refusal_of disk_refusals.NoMemory = openings.NoMemory
