-- What stands between two steps of the plan, and what its host's notes agree with there.
use Rattle.std.specs.Prelude.{◌≡◌, ◌+◌, ◌-◌, ◌*◌, ◌<◌, ◌≤◌, ℕ, All, List, Option, Some, length, slice_get, true}
use Rattle.vol_base.specs.declared.block.Digest.{Digest}
use Rattle.vol_layout.specs.declared.geometry.Geometry.{Geometry}
use Rattle.vol_layout.specs.declared.kind.Resource.TheVariants.{File}
use Rattle.hint_blocks.specs.declared.entry.LogEntry.{LogEntry}
use Rattle.hint_blocks.specs.Entries.{IsLogEntry}
use Rattle.hint_plans.specs.Plans.{RestsWith}
use Rattle.lock_store.specs.Memories.{holds}
use Rattle.lock_store.specs.Views.{host_at}
use Rattle.host_facts.specs.Views.{WorldView}
use Rattle.host_runs.specs.Notes.{Notes}
use Rattle.merge_actions.specs.Acts as acting
use Rattle.merge_actions.specs.declared.acting.ActPlan.{ActPlan}
use Rattle.merge_decide.specs.Decision.{decision}
use Rattle.merge_looks.specs.Looks as look
use Rattle.merge_looks.specs.declared.look.Look.{Look}
use Rattle.merge_shelves.specs.Changes.{IsNextChanged}
use Rattle.merge_shelves.specs.Parts.{blocks_of, shelves}
use Rattle.merge_shelves.specs.Tallies.{total}
use Rattle.merge_shelves.specs.declared.room.Noted.{Noted}
use Rattle.merge_steps.specs.Logs.{LogsRead, unread}
use Rattle.merge_steps.specs.Steps.{IsMerging, MergeAsking, MergeCame}
use Rattle.merge_steps.specs.Sweeps.{IsHeld, IsHere}
use Rattle.sorted_shard.specs.Shelves.{with_digest}
use Rattle.plan_parts.specs.declared.outcome.Outcome.{Outcome}
use Rattle.plan_parts.specs.declared.outcome.Outcome.TheVariants.{Open}
use Rattle.merge_plan.specs.Followings.{AreNotFilled}
use Rattle.merge_plan.specs.Rooms.{IsNext, IsOpen, IsSorted}
use Rattle.merge_plan.specs.declared.plan.Doing.{Doing}
use Rattle.merge_plan.specs.declared.plan.Doing.TheVariants as doings
use Rattle.merge_plan.specs.declared.room.MergeRoom.{MergeRoom}

-- the own log blocks before this one were read: their entries are in range, and one of the blocks is marked exactly where there are some
pub record IsReading (v : WorldView) (room : MergeRoom) (log : ℕ) : Type 0 where
  pub below : log < v.locks.geometry.logs
  pub few : length room.logs ≤ 126 * log
  pub entries : All (λ noted. IsLogEntry v.locks.geometry noted.entry) room.logs
  pub marks : length room.filled ≡ 16
  pub filled : 0 < length room.logs → (k : ℕ) × (k < log) × (slice_get room.filled k ≡ Some true)
  pub unfilled : length room.logs ≡ 0 → AreNotFilled room.filled 0 16
  pub at : room.sweep.at ≡ 0
  pub counts : total room.sweep.counts ≡ 0
  pub shelf : room.sweep.shelf.geometry ≡ v.locks.geometry

-- blocks of a shelf are read, to which the next entry belongs
pub record IsFilling (v : WorldView) (h : ℕ) (room : MergeRoom) (shelf k : ℕ) : Type 0 where
  pub sorted : IsSorted v h room
  pub below : shelf < shelves v.locks.geometry
  pub block : k < blocks_of v.locks.geometry shelf
  pub read : length room.read ≡ k
  pub next : (noted : Noted) × IsHere v room.logs shelf room.sweep.at noted

-- the entries of a shelf are handled, of which the next one is so
pub record IsSwept (v : WorldView) (h : ℕ) (room : MergeRoom) (shelf : ℕ) (So : Noted → Type 0) : Type 0 where
  pub sorted : IsSorted v h room
  pub opened : IsOpen v room shelf
  pub next : IsNext v h room shelf So

-- the look is at the place of an entry of a held file
abbrev pub IsLookedAt : WorldView → ℕ → Look → Noted → Type 0
IsLookedAt v h l noted =
    IsHeld v h noted × (l.host ≡ h) × (l.file ≡ noted.entry.file) × (l.index ≡ noted.entry.index) × look.At v l

-- what is done is what was decided of the entry, from whether its file is held, what was found there, and the shelf as it stands
pub record IsActing (v : WorldView) (h : ℕ) (room : MergeRoom) (plan : ActPlan) (noted : Noted) : Type 0 where
  pub host : plan.host ≡ h
  pub entry : plan.entry ≡ noted.entry
  pub now : Option Digest
  pub decided : plan.action ≡ decision noted.entry (holds (host_at v.locks h) (File noted.entry.file)) now (with_digest noted.entry.digest.0 room.sweep.shelf.entries)
  pub at : acting.At v plan

-- no entry is left of a shelf, and this block of it has others than were read
pub record IsSwapping (v : WorldView) (h : ℕ) (room : MergeRoom) (shelf k : ℕ) : Type 0 where
  pub sorted : IsSorted v h room
  pub opened : IsOpen v room shelf
  pub ends : (noted : Noted) → IsHere v room.logs shelf room.sweep.at noted → ⊥
  pub changed : (from : ℕ) × IsNextChanged v.locks.geometry room.read room.sweep.shelf.entries from (Some k)

-- all entries are handled, and those own log blocks before this one are empty that had some, as this one had
pub record IsEmptying (v : WorldView) (h : ℕ) (room : MergeRoom) (log : ℕ) : Type 0 where
  pub sorted : IsSorted v h room
  pub done : length room.logs ≤ room.sweep.at
  pub below : log < v.locks.geometry.logs
  pub filled : slice_get room.filled log ≡ Some true

-- what stands at each stage
abbrev pub StandsAt : WorldView → ℕ → MergeRoom → Doing → Type 0
StandsAt v h room doings.Begins = IsMerging v h
StandsAt v h room (doings.ReadsLog l) = IsMerging v h × IsReading v room l
StandsAt v h room (doings.ReadsShard s k) = IsMerging v h × IsFilling v h room s k
StandsAt v h room (doings.Looks s l) = IsMerging v h × IsSwept v h room s (IsLookedAt v h l)
StandsAt v h room (doings.Asks s block) = IsMerging v h × IsSwept v h room s (IsHeld v h)
StandsAt v h room (doings.Decides s digest) = IsMerging v h × IsSwept v h room s (IsHeld v h)
StandsAt v h room (doings.Acts s plan) = IsSwept v h room s (IsActing v h room plan)
StandsAt v h room (doings.Swaps s k) = IsMerging v h × IsSwapping v h room s k
StandsAt v h room (doings.EmptiesLog l) = IsMerging v h × IsEmptying v h room l
StandsAt v h room doings.Ended = ⊥

abbrev pub PlanStands : WorldView → ℕ → MergeRoom → Doing → Type 0
PlanStands v h room doing = (h < v.locks.geometry.hosts) × StandsAt v h room doing

-- a plan that waits for a digest, one that does not, and one whose next call is known
abbrev pub IsAsking : Doing → Type 0
IsAsking (doings.Asks s block) = Unit {0}
IsAsking doing = ⊥

abbrev pub IsUnasked : Doing → Type 0
IsUnasked (doings.Asks s block) = ⊥
IsUnasked doing = Unit {0}

abbrev pub IsCalling : Doing → Type 0
IsCalling (doings.Asks s block) = ⊥
IsCalling (doings.Decides s digest) = ⊥
IsCalling doings.Ended = ⊥
IsCalling doing = Unit {0}

-- the plan behind the digest
abbrev pub supplied : Digest → Doing → Doing
supplied digest (doings.Asks s block) = doings.Decides s digest
supplied digest doing = doing

-- all own log blocks were read, and none is emptied
abbrev pub all_read : Geometry → MergeRoom → LogsRead
all_read g room = record { read = g.logs; hints = length room.logs; filled = room.filled; emptied = 0 }

-- what the calls so far did with the own log blocks
abbrev pub logs_of : Geometry → MergeRoom → Doing → LogsRead
logs_of g room doings.Begins = unread
logs_of g room (doings.ReadsLog l) = record { read = l; hints = length room.logs; filled = room.filled; emptied = 0 }
logs_of g room (doings.EmptiesLog l) = record { read = g.logs; hints = length room.logs; filled = room.filled; emptied = l }
logs_of g room doing = all_read g room

-- what the command has come to: nothing, but where a lock was busy
abbrev pub outcome_at : Doing → Outcome
outcome_at (doings.Acts s plan) = acting.outcome_at plan.acting
outcome_at doing = Open

-- what the notes agree with before each step
abbrev pub Agrees : ℕ → WorldView → List LogEntry → MergeRoom → Doing → Notes → Type 0
Agrees h v pending room doings.Begins n = RestsWith h v pending n
Agrees h v pending room (doings.Asks s block) n = MergeAsking h v pending (logs_of v.locks.geometry room (doings.Asks s block)) block n
Agrees h v pending room doing n = MergeCame h v (outcome_at doing) pending (logs_of v.locks.geometry room doing) n

-- how far a merge is with the blocks of the index: each read and each swap of a shard block has a number of its own
abbrev pub reached : Doing → ℕ
reached (doings.ReadsShard s k) = 20 * s + k + 1
reached (doings.Looks s l) = 20 * s + 5
reached (doings.Asks s block) = 20 * s + 5
reached (doings.Decides s digest) = 20 * s + 5
reached (doings.Acts s plan) = 20 * s + 5
reached (doings.Swaps s k) = 20 * s + 6 + k
reached (doings.EmptiesLog l) = 1000
reached doings.Ended = 1000
reached doing = 0

-- such a read or swap comes next
abbrev pub at_index : Doing → ℕ
at_index (doings.ReadsShard s k) = 1
at_index (doings.Swaps s k) = 1
at_index doing = 0

-- the steps that are left at most, with the one that comes next: an entry takes 45 at most, a shelf 20
abbrev pub shelf_left : MergeRoom → ℕ → ℕ → ℕ
shelf_left room shelf more = 45 * (length room.logs - room.sweep.at) + 20 * (17 - shelf) + more

abbrev pub entry_left : MergeRoom → ℕ → ℕ → ℕ
entry_left room shelf more = 45 * (length room.logs - room.sweep.at - 1) + 20 * (17 - shelf) + more + 5

abbrev pub left : MergeRoom → Doing → ℕ
left room doings.Begins = 100018
left room (doings.ReadsLog l) = 100017 - l
left room (doings.ReadsShard s k) = shelf_left room s (10 - k)
left room (doings.Looks s l) = entry_left room s (40 + look.left l)
left room (doings.Asks s block) = entry_left room s 39
left room (doings.Decides s digest) = entry_left room s 38
left room (doings.Acts s plan) = entry_left room s (acting.left plan)
left room (doings.Swaps s k) = shelf_left room s (4 - k)
left room (doings.EmptiesLog l) = 17 - l
left room doings.Ended = 0
