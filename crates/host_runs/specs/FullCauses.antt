-- The cause of `full`.
use Rattle.std.specs.Prelude.{◌≢◌, ◌<◌, ℕ, List, Some, Contains, IsSomeAnd}
use Rattle.vol_layout.specs.declared.field.Field.TheVariants.{Count}
use Rattle.vol_layout.specs.declared.geometry.Geometry.{Geometry}
use Rattle.vol_layout.specs.declared.kind.Kind.TheVariants as kinds
use Rattle.vol_layout.specs.declared.kind.Resource.TheVariants as resources
use Rattle.vol_layout.specs.declared.kind.Table.TheVariants as tables
use Rattle.vol_layout.specs.Ranges.{data_blocks}
use Rattle.image_view.specs.HostKeys.{IsHeldBy}
use Rattle.image_view.specs.Images.{Image}
use Rattle.image_view.specs.Numbers.{logical}
use Rattle.host_runs.specs.DeviceCalls.{OnImage}
use Rattle.host_runs.specs.Notes.{NotedCall}
use Rattle.host_runs.specs.NotedCalls.{ShowsKind}

-- all groups are locked by this key, and no logical count is 0
pub record IsFullUnder (g : Geometry) (key : ℕ) (image : Image) : Type 0 where
  pub locked : (r : ℕ) → r < g.groups → IsHeldBy g image (resources.Group r) key
  pub full : (d : ℕ) → d < data_blocks g → logical g image (Count d) ≢ 0

-- the call read the table of a group
abbrev pub ReadsGroup : Geometry → NotedCall → Type 0
ReadsGroup g c = (r : ℕ) × (block : List ℕ) × ShowsKind g (kinds.Table (tables.Group r)) block (Some c.event)

-- one of the calls read a group's table while the volume was full under its key; nothing of it is said where the device tells
-- nothing
abbrev pub HasMetFull : Geometry → List NotedCall → Type 0
HasMetFull g calls = (c : NotedCall) × Contains calls c × ReadsGroup g c × OnImage c.before (IsFullUnder g c.event.key)

-- the same where the device tells it
abbrev pub MeetsFull : Geometry → List NotedCall → Type 0
MeetsFull g calls = (c : NotedCall) × Contains calls c × ReadsGroup g c × IsSomeAnd c.before.told (λ t. IsFullUnder g c.event.key t.image)
