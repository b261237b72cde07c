-- What a contract sees of a lone host.
use Rattle.std.specs.Prelude.{◌≡◌, ◌≤◌, ℕ, IfSome, None, Option, Some}
use Rattle.vol_layout.specs.declared.geometry.Geometry.{Geometry}
use Rattle.shared_disk.specs.Seen.{DiskSeen}
use Rattle.shared_disk.specs.State.{State, Told}
use Rattle.image_view.specs.Images.{Image}
use Rattle.held_cache.specs.Kept.{Cache}
use Rattle.disk_locks.specs.Sure.{BothTold}
use Rattle.file_plans.specs.Bases.{IsCached}
use Rattle.host_facts.specs.Views.{WorldView}
use Rattle.solo.specs.Alone.{IsAlone}
use Rattle.solo.specs.Stops.{HasCause}
use Rattle.settle.specs.declared.lone.LoneNo.{LoneNo}

-- the world, what stopped the host, if anything, and the device as it was when the host began
pub record SoloView : Type 0 where
  pub world : WorldView
  pub stopped : Option LoneNo
  pub began : DiskSeen

abbrev pub volume : SoloView → Geometry
volume s = s.world.locks.geometry

abbrev pub state_of : SoloView → State
state_of s = s.world.locks.disk.state

abbrev pub told : SoloView → Option Told
told s = (state_of s).told

abbrev pub disk_of : SoloView → DiskSeen
disk_of s = s.world.locks.disk

-- how many calls the device answered
abbrev pub calls_of : SoloView → ℕ
calls_of s = s.world.locks.disk.calls

-- what holds of the image, where the device tells it; and of that before a call and that behind it
abbrev pub OnImage : SoloView → (Image → Type 0) → Type 0
OnImage s P = IfSome (told s) (λ t. P t.image)

abbrev pub OnBoth : SoloView → SoloView → (Image → Image → Type 0) → Type 0
OnBoth s t R = BothTold (told s) (told t) R

-- one device at a later time: it failed no less often, and tells its content where it told it
pub record IsSince (old new : DiskSeen) : Type 0 where
  pub faults : old.faults ≤ new.faults
  pub tells : new.state.told ≡ None → old.state.told ≡ None

-- while nothing stopped the host it is alone on the volume, and what is kept of its tables is what they spell; what stopped it has its
-- cause since it began
abbrev pub IsReadyOr : WorldView → Cache → DiskSeen → Option LoneNo → Type 0
IsReadyOr w c began None = IsAlone w × IsCached w c 0
IsReadyOr w c began (Some why) = HasCause began w.locks.disk why

pub record IsInOrder (w : WorldView) (c : Cache) (began : DiskSeen) (stopped : Option LoneNo) : Type 0 where
  pub later : IsSince began w.locks.disk
  pub ready : IsReadyOr w c began stopped
