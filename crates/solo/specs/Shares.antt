-- What a share comes to, on the image before it and the one behind it.
use Rattle.std.specs.Prelude.{◌≡◌, ◌⊎◌, ◌≤◌, ◌+◌, ℕ, [], Contains, None, Option, Some}
use Rattle.vol_base.specs.declared.command.Command.TheVariants.{Merge}
use Rattle.vol_layout.specs.declared.geometry.Geometry.{Geometry}
use Rattle.vol_layout.specs.declared.field.Field.TheVariants.{Pointer}
use Rattle.vol_layout.specs.Fields.{HasField}
use Rattle.vol_layout.specs.declared.kind.Kind.TheVariants as kinds
use Rattle.image_view.specs.Images.{Image, block_at}
use Rattle.image_view.specs.Links.{IsLink}
use Rattle.image_view.specs.Records.{IsEdited}
use Rattle.lock_store.specs.Views.{key_at, keys_of, told_of}
use Rattle.disk_locks.specs.Sure.{BothTold}
use Rattle.host_facts.specs.Views.{WorldView}
use Rattle.host_runs.specs.Notes.{Notes}
use Rattle.plan_parts.specs.QuietCalls.{Noted}
use Rattle.share_plans.specs.Causes.{IsApartAt}
use Rattle.share_plans.specs.Closings.{ChangesNothing, KeepsHolds}
use Rattle.share_plans.specs.Lefts.{left}
use Rattle.share_plans.specs.Places.{field_of, shown_at}
use Rattle.share_plans.specs.Stands.{At}
use Rattle.share_plans.specs.Went.{answer_at, outcome_by}
use Rattle.share_plans.specs.declared.sharing.Place.{Place}
use Rattle.share_plans.specs.declared.sharing.Place.TheVariants.{Arena, File}
use Rattle.share_plans.specs.declared.sharing.Shared.{Shared}
use Rattle.share_plans.specs.declared.sharing.Shared.TheVariants as answers
use Rattle.share_plans.specs.declared.stage.Core.{Core}
use Rattle.share_plans.specs.declared.stage.Stage.{Stage}
use Rattle.lock_store.specs.declared.answers.StepNo.{StepNo}
use Rattle.solo.specs.Alone.{AreFree, IsAlone, IsLater}
use Rattle.settle.specs.declared.lone.LoneNo.{LoneNo}
use Rattle.settle.specs.declared.lone.LoneNo.TheVariants as refusals
use Rattle.solo.specs.Stops.{IsCause}

-- no logical number changes
abbrev pub KeepsNumbers : Geometry → Image → Image → Type 0
KeepsNumbers g old new = IsEdited g old new []

-- the source has this data block, or has none; of a slot, which is read in its table alone, nothing is said
abbrev pub SourceIs : Geometry → Image → Place → Option ℕ → Type 0
SourceIs g image (File f i) d = shown_at g image f i ≡ d
SourceIs g image (Arena s) d = Unit {0}

-- both places have a data block
pub record HaveTwo (g : Geometry) (image : Image) (f i : ℕ) (source : Place) : Type 0 where
  pub number : ℕ
  pub other : ℕ
  pub own : shown_at g image f i ≡ Some number
  pub from : SourceIs g image source (Some other)

-- both places have one data block
pub record IsAlready (g : Geometry) (image : Image) (f i : ℕ) (source : Place) : Type 0 where
  pub number : ℕ
  pub own : shown_at g image f i ≡ Some number
  pub from : SourceIs g image source (Some number)

-- they have two, whose bytes differ there for the first time
pub record IsDifferent (g : Geometry) (image : Image) (f i : ℕ) (source : Place) (at : ℕ) : Type 0 where
  pub number : ℕ
  pub other : ℕ
  pub own : shown_at g image f i ≡ Some number
  pub from : SourceIs g image source (Some other)
  pub apart : IsApartAt (block_at g image (kinds.Number number)) (block_at g image (kinds.Number other)) at

-- the place has a data block, and the source has none
pub record IsLone (g : Geometry) (image : Image) (f i : ℕ) (source : Place) : Type 0 where
  pub number : ℕ
  pub own : shown_at g image f i ≡ Some number
  pub from : SourceIs g image source None

-- what each answer says: only a link changes a logical number
abbrev pub Comes : Geometry → ℕ → ℕ → Place → Shared → Image → Image → Type 0
Comes g f i source answers.Linked old new = HaveTwo g old f i source × IsLink g old new f i (field_of source)
Comes g f i source answers.Already old new = IsAlready g old f i source × KeepsNumbers g old new
Comes g f i source (answers.Differs at) old new = IsDifferent g old f i source at × KeepsNumbers g old new
Comes g f i source answers.Hole old new = (shown_at g old f i ≡ None) × KeepsNumbers g old new
Comes g f i source answers.NoSource old new = IsLone g old f i source × KeepsNumbers g old new
Comes g f i source (answers.Busy key) old new = KeepsNumbers g old new

-- a share that was refused changed no logical number, or came to be a link
abbrev pub Halts : Geometry → ℕ → ℕ → Place → Image → Image → Type 0
Halts g f i source old new = KeepsNumbers g old new ⊎ IsLink g old new f i (field_of source)

-- the same of two worlds
abbrev pub HasCome : WorldView → WorldView → ℕ → ℕ → Place → Shared → Type 0
HasCome v w f i source answer = BothTold (told_of v.locks) (told_of w.locks) (Comes v.locks.geometry f i source answer)

abbrev pub HasHalted : WorldView → WorldView → ℕ → ℕ → Place → Type 0
HasHalted v w f i source = BothTold (told_of v.locks) (told_of w.locks) (Halts v.locks.geometry f i source)

-- what is known of the share so far
abbrev pub IsKnown : WorldView → WorldView → ℕ → ℕ → Place → Option Shared → Type 0
IsKnown v w f i source None = ChangesNothing v w
IsKnown v w f i source (Some answer) = HasCome v w f i source answer

-- a key of another host is shown only where the device tells nothing
abbrev pub IsUnshown : WorldView → Option Shared → Type 0
IsUnshown w (Some (answers.Busy key)) = told_of w.locks ≡ None
IsUnshown w known = Unit {0}

-- what holds of a host behind each step of its share, since the beginning
pub record IsSharing (v w : WorldView) (h f i : ℕ) (source : Place) (known : Option Shared) : Type 0 where
  pub keeps : KeepsHolds h v w
  pub registered : Contains (keys_of w.locks) (key_at w.locks h)
  pub later : IsLater 0 v w
  pub free : AreFree w w.locks.geometry.hosts
  pub unshown : IsUnshown w known
  pub noted : (n : Notes) × Noted Merge h w (outcome_by known) n
  pub changed : IsKnown v w f i source known

-- and before each step that comes next: the plan stands, is one of host 0 for this place and source, and makes so many calls at most
pub record IsOnWay (v w : WorldView) (f i : ℕ) (source : Place) (core : Core) (stage : Stage) : Type 0 where
  pub host : core.host ≡ 0
  pub file : core.file ≡ f
  pub index : core.index ≡ i
  pub from : core.source ≡ source
  pub at : At w core stage
  pub sharing : IsSharing v w 0 f i source (answer_at stage)
  pub few : w.locks.disk.calls + left core stage ≤ v.locks.disk.calls + 18

-- the share was answered: the host is alone still
pub record HasShared (v w : WorldView) (f i : ℕ) (source : Place) (answer : Shared) : Type 0 where
  pub alone : IsAlone w
  pub came : HasCome v w f i source answer
  pub unshown : IsUnshown w (Some answer)
  pub later : IsLater 0 v w

-- or one of its steps was refused
pub record HasStopped (v w : WorldView) (f i : ℕ) (source : Place) (why : StepNo) : Type 0 where
  pub halted : HasHalted v w f i source
  pub later : IsLater 0 v w
  pub cause : IsCause v w why

-- the place of a share and its source are of the volume
pub record HasBoth (g : Geometry) (f i : ℕ) (source : Place) : Type 0 where
  pub place : HasField g (Pointer f i)
  pub from : HasField g (field_of source)

-- an answer that is no key of another host, and the refusal by such a key
abbrev pub IsNoKey : Shared → Type 0
IsNoKey (answers.Busy key) = ⊥
IsNoKey answer = Unit {0}

abbrev pub IsKeyOf : Shared → LoneNo → Type 0
IsKeyOf (answers.Busy key) no' = no' ≡ refusals.Busy key
IsKeyOf answer no' = ⊥
