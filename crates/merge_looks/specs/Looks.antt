-- What a merge looks at for an entry of a file that its host holds.
use Rattle.std.specs.Prelude.{◌≡◌, ◌+◌, ◌<◌, ◌≤◌, ℕ, None, Option, Some, length, true}
use Rattle.vol_base.specs.declared.command.Command.TheVariants.{Merge}
use Rattle.vol_layout.specs.declared.geometry.Geometry.{Geometry}
use Rattle.vol_layout.specs.declared.kind.Kind.TheVariants as kinds
use Rattle.vol_layout.specs.declared.kind.Resource.TheVariants.{File}
use Rattle.vol_layout.specs.Places.{place_of}
use Rattle.shared_disk.specs.Events.{Call, Reads, Reply, event}
use Rattle.image_view.specs.Images.{Image, block_at}
use Rattle.lock_store.specs.Memories.{holds}
use Rattle.lock_store.specs.Views.{host_at, key_at}
use Rattle.host_facts.specs.Views.{WorldView}
use Rattle.host_runs.specs.Awaited.{MayAskFor}
use Rattle.host_runs.specs.DeviceCalls.{OnImage}
use Rattle.plan_parts.specs.KeptTables.{AreKept}
use Rattle.share_plans.specs.Lefts.{missing_at}
use Rattle.share_plans.specs.Places.{shown_at}
use Rattle.share_plans.specs.ReadTables.{Known, kept_in}
use Rattle.share_plans.specs.Spots.{IsShown, IsUnread}
use Rattle.share_plans.specs.declared.sight.Spot.{Spot}
use Rattle.share_plans.specs.declared.sight.Spot.TheVariants as spots
use Rattle.merge_steps.specs.Logs.{LogsRead}
use Rattle.merge_steps.specs.Steps as steps'
use Rattle.merge_steps.specs.Steps.{IsMerging}
use Rattle.merge_looks.specs.declared.look.Look.{Look}
use Rattle.merge_looks.specs.declared.look.Looking.{Looking}
use Rattle.merge_looks.specs.declared.look.Looking.TheVariants as looking
use Rattle.merge_looks.specs.declared.look.Seen.{Seen}
use Rattle.merge_looks.specs.declared.look.Seen.TheVariants as seens

-- a host that is ready for a merge's next call holds the file for writing, and knows the tables that were read
pub record IsLooking (v : WorldView) (l : Look) : Type 0 where
  pub merging : IsMerging v l.host
  pub file : l.file < v.locks.geometry.files
  pub held : holds (host_at v.locks l.host) (File l.file) ≡ true
  pub kept : AreKept v l.host l.tables

-- what the tables say that were read
abbrev pub known_of : Look → Known
known_of l = kept_in l.tables

-- what stands before a step, by what it does
abbrev pub Stands : WorldView → Look → Looking → Type 0
Stands v l (looking.Reads t) =
    IsLooking v l × IsUnread v.locks.geometry (known_of l) l.file l.index t × (length l.tables + missing_at (known_of l) l.file l.index ≤ 2)
Stands v l (looking.Shows d) = IsLooking v l × IsShown v.locks.geometry (known_of l) l.file l.index d
Stands v l looking.Over = ⊥

abbrev pub At : WorldView → Look → Type 0
At v l = Stands v l l.stage

-- the steps that are left at most, with the one that comes next
abbrev pub left_at : Look → Looking → ℕ
left_at l (looking.Reads t) = missing_at (known_of l) l.file l.index + 1
left_at l (looking.Shows d) = 1
left_at l looking.Over = 0

abbrev pub left : Look → ℕ
left l = left_at l l.stage

abbrev pub left_behind : Look → Option Seen → ℕ
left_behind l None = left l
left_behind l (Some seen) = 0

-- what an image has at the place: the file has no data block there, or one with these bytes
abbrev pub IsSeen : Geometry → ℕ → ℕ → Seen → Image → Type 0
IsSeen g f i seens.Nothing image = shown_at g image f i ≡ None
IsSeen g f i (seens.Block b) image = (d : ℕ) × (shown_at g image f i ≡ Some d) × (block_at g image (kinds.Number d) ≡ b.0)

-- so it is, where the device tells its image
abbrev pub HasSeen : WorldView → Look → Option Seen → Type 0
HasSeen v l None = Unit {0}
HasSeen v l (Some seen) = OnImage v.locks.disk.state (IsSeen v.locks.geometry l.file l.index seen)

-- the digest of a block that was seen may be asked for behind the call
abbrev pub MayAsk : WorldView → ℕ → Call → Reply → Option Seen → Type 0
MayAsk v h call reply (Some (seens.Block b)) = MayAskFor v.locks.geometry Merge (Some (event (key_at v.locks h) call reply)) (Some b)
MayAsk v h call reply came = Unit {0}

abbrev pub StandsBehind : WorldView → Look → Option Seen → Type 0
StandsBehind v l None = At v l
StandsBehind v l (Some seen) = Unit {0}

-- the look is of the same host and place
pub record IsSame (old new : Look) : Type 0 where
  pub host : new.host ≡ old.host
  pub file : new.file ≡ old.file
  pub index : new.index ≡ old.index

-- the call reads what is looked at next
abbrev pub ReadsNext : Geometry → Looking → Call → Type 0
ReadsNext g (looking.Reads t) call = call ≡ Reads (place_of g (kinds.Table t))
ReadsNext g (looking.Shows d) call = call ≡ Reads (place_of g (kinds.Number d))
ReadsNext g looking.Over call = ⊥

-- a step made one device call, a read of a table or of the data block, by which nothing changed
pub record Went (v w : WorldView) (old new : Look) (came : Option Seen) : Type 0 where
  pub same : IsSame old new
  pub call : Call
  pub reply : Reply
  pub reads : ReadsNext v.locks.geometry old.stage call
  pub went : (r : LogsRead) → steps'.Went old.host v w call reply r r
  pub state : w.locks.disk.state ≡ v.locks.disk.state
  pub stands : StandsBehind w new came
  pub seen : HasSeen w new came
  pub asks : MayAsk v old.host call reply came
  pub less : left_behind new came < left old

-- what comes next, by what the tables say, and what was seen by that
abbrev pub stage_by : Spot → Looking
stage_by (spots.Needs t) = looking.Reads t
stage_by spots.Nothing = looking.Over
stage_by (spots.Shows d shared) = looking.Shows d

abbrev pub came_by : Spot → Option Seen
came_by spots.Nothing = Some seens.Nothing
came_by spot = None
