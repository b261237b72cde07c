-- What a step of the plan did.
use Rattle.std.specs.Prelude.{◌≡◌, ◌⊎◌, ◌+◌, ◌++◌, ◌∷◌, ◌<◌, ◌≤◌, ◌*◌, ℕ, List, [], None, Option, Some, length, slice_get, true}
use Rattle.vol_base.specs.declared.answer.Answer.TheVariants as answers
use Rattle.vol_base.specs.declared.answer.CutBy.{CutBy}
use Rattle.vol_base.specs.declared.answer.Next.TheVariants as nexts
use Rattle.vol_base.specs.declared.answer.Step.{Step}
use Rattle.vol_base.specs.declared.block.Block.{Block}
use Rattle.vol_base.specs.declared.command.Command.TheVariants.{Merge}
use Rattle.vol_layout.specs.declared.geometry.Geometry.{Geometry}
use Rattle.vol_layout.specs.declared.kind.Kind.TheVariants as kinds
use Rattle.vol_layout.specs.Places.{place_of}
use Rattle.shared_disk.specs.Events.{Acts, Done, Reads, Reply, Shows, Tests, Writes, event}
use Rattle.hint_blocks.specs.declared.entry.LogEntry.{LogEntry}
use Rattle.hint_plans.specs.Plans.{RestsWith}
use Rattle.host_facts.specs.Views.{WorldView}
use Rattle.host_runs.specs.HintCauses.{empty_log}
use Rattle.host_runs.specs.Notes.{Notes}
use Rattle.lock_store.specs.Views.{key_at}
use Rattle.merge_actions.specs.Steps as acting
use Rattle.merge_actions.specs.declared.acting.ActPlan.{ActPlan}
use Rattle.merge_actions.specs.declared.acting.Acted.{Acted}
use Rattle.merge_actions.specs.declared.acting.Acted.TheVariants as acted
use Rattle.merge_looks.specs.Looks as look
use Rattle.merge_looks.specs.declared.look.Look.{Look}
use Rattle.merge_looks.specs.declared.look.Seen.{Seen}
use Rattle.merge_looks.specs.declared.look.Seen.TheVariants as seen
use Rattle.merge_shelves.specs.Changes.{shard_bytes}
use Rattle.merge_shelves.specs.Parts.{blocks_of}
use Rattle.plan_parts.specs.Steps.{IsReady, OwesStep}
use Rattle.share_plans.specs.Closings.{KeepsHolds}
use Rattle.sorted_shard.specs.Shelves.{IsSortedFrom, ShelfList, entries_in}
use Rattle.merge_plan.specs.Followings.{GoesOn, IsAfter, IsBehindLog, IsDecided, IsFinished, IsLogNoted, IsNextFilled, behind_emptied}
use Rattle.merge_plan.specs.Plans.{Agrees, PlanStands, at_index, left, reached}
use Rattle.merge_plan.specs.Rooms.{IsCleared}
use Rattle.merge_plan.specs.declared.plan.Come.{Come}
use Rattle.merge_plan.specs.declared.plan.Come.TheVariants as comes
use Rattle.merge_plan.specs.declared.plan.Doing.{Doing}
use Rattle.merge_plan.specs.declared.plan.Doing.TheVariants as doings
use Rattle.merge_plan.specs.declared.room.MergeRoom.{MergeRoom}

-- an own log block was read, and what comes next follows from it
abbrev pub HasReadLog : ℕ → WorldView → WorldView → MergeRoom → MergeRoom → ℕ → Come → Type 0
HasReadLog h v w old new log come =
    (block : Block) × (between : MergeRoom)
    × Acts (event (key_at v.locks h) (Reads (place_of v.locks.geometry (kinds.Log h log))) (Shows block.0)) v.locks.disk w.locks.disk
    × IsLogNoted v.locks.geometry log block old between × IsBehindLog v.locks.geometry log between new come

-- the shelf is made of all its blocks
pub record IsShelved (g : Geometry) (shelf : ℕ) (old new : MergeRoom) : Type 0 where
  pub made : ShelfList
  pub entries : IsSortedFrom (entries_in g old.read) made.entries
  pub volume : made.geometry ≡ g
  pub blocks : made.blocks ≡ length old.read
  pub same : new ≡ record old { sweep = record old.sweep { shelf = made } }

-- behind the read of a block of a shelf the next one comes; behind the last one its entries are handled
abbrev pub IsBehindShard : WorldView → ℕ → ℕ → ℕ → MergeRoom → MergeRoom → Come → Type 0
IsBehindShard w h shelf k read new come =
    ((k + 1 < blocks_of w.locks.geometry shelf) × (new ≡ read) × (come ≡ comes.More (doings.ReadsShard shelf (k + 1))))
    ⊎ ((blocks_of w.locks.geometry shelf ≤ k + 1) × (between : MergeRoom) × IsShelved w.locks.geometry shelf read between
    × (doing : Doing) × GoesOn w h shelf between new doing × (come ≡ comes.More doing))

-- a step of the look: it goes on; there is no block, and the entry is decided; or the digest of the block is waited for
abbrev pub IsBehindLook : WorldView → ℕ → ℕ → MergeRoom → MergeRoom → Look → Option Seen → Come → Type 0
IsBehindLook w h shelf old new l None come = (new ≡ old) × (come ≡ comes.More (doings.Looks shelf l))
IsBehindLook w h shelf old new l (Some seen.Nothing) come =
    (doing : Doing) × IsDecided w h shelf None old new doing × (come ≡ comes.More doing)
IsBehindLook w h shelf old new l (Some (seen.Block block)) come = (new ≡ old) × (come ≡ comes.More (doings.Asks shelf block))

-- a step of what was decided: it goes on; its busy lock is answered; or the entry is handled
abbrev pub IsBehindAct : WorldView → ℕ → ℕ → MergeRoom → MergeRoom → ActPlan → Option Acted → Come → Type 0
IsBehindAct w h shelf old new plan None come = (new ≡ old) × (come ≡ comes.More (doings.Acts shelf plan))
IsBehindAct w h shelf old new plan (Some (acted.Busy key)) come = (new ≡ old) × (come ≡ comes.Answered (answers.Busy key))
IsBehindAct w h shelf old new plan (Some (acted.Done outcome slot)) come =
    (doing : Doing) × IsFinished w h shelf (record { action = plan.action; outcome = outcome; slot = slot }) old new doing
    × (come ≡ comes.More doing)

-- what the step did whose one call is known
abbrev pub Calls : ℕ → WorldView → WorldView → MergeRoom → MergeRoom → Doing → Come → Type 0
Calls h v w old new doings.Begins come =
    (cleared : MergeRoom) × IsCleared v.locks.geometry cleared × HasReadLog h v w cleared new 0 come
Calls h v w old new (doings.ReadsLog l) come = HasReadLog h v w old new l come
Calls h v w old new (doings.ReadsShard s k) come =
    (block : Block) × Acts (event (key_at v.locks h) (Reads (place_of v.locks.geometry (kinds.Shard (4 * s + k)))) (Shows block.0)) v.locks.disk w.locks.disk
    × IsBehindShard w h s k (record old { read = old.read ++ block ∷ [] }) new come
Calls h v w old new (doings.Looks s l) come =
    (after : Look) × (came : Option Seen) × look.Went v w l after came × IsBehindLook w h s old new after came come
Calls h v w old new (doings.Acts s plan) come =
    (after : ActPlan) × (came : Option Acted) × acting.Went v w plan after came × IsBehindAct w h s old new after came come
Calls h v w old new (doings.Swaps s k) come =
    (read : Block) × (slice_get old.read k ≡ Some read) × (reply : Reply)
    × Acts (event (key_at v.locks h) (Tests (place_of v.locks.geometry (kinds.Shard (4 * s + k))) read.0 (shard_bytes k old.sweep.shelf.entries)) reply)
    v.locks.disk w.locks.disk × (doing : Doing) × IsAfter w.locks.geometry s (k + 1) old new doing × (come ≡ comes.More doing)
Calls h v w old new (doings.EmptiesLog l) come =
    (new ≡ old) × Acts (event (key_at v.locks h) (Writes (place_of v.locks.geometry (kinds.Log h l)) empty_log) Done) v.locks.disk w.locks.disk
    × (next : Option ℕ) × IsNextFilled old.filled w.locks.geometry.logs (l + 1) next × (come ≡ behind_emptied old.sweep.counts next)
Calls h v w old new doing come = ⊥

-- what the step did: an entry whose digest was handed in is decided by it, and what comes next is called at once
abbrev pub Does : ℕ → WorldView → WorldView → MergeRoom → MergeRoom → Doing → Come → Type 0
Does h v w old new (doings.Decides s digest) come =
    (between : MergeRoom) × (doing : Doing) × IsDecided v h s (Some digest) old between doing × Calls h v w between new doing come
Does h v w old new doing come = Calls h v w old new doing come

-- the step that says what was done, and what is done next
abbrev pub step_of : Come → Step
step_of (comes.More doing) = record { placed = None; called = true; next = nexts.More }
step_of (comes.Answered answer) = record { placed = None; called = true; next = nexts.Answered answer }

abbrev pub later_of : Come → Doing
later_of (comes.More doing) = doing
later_of (comes.Answered answer) = doings.Ended

-- what stands behind it, and what the notes agree with there
abbrev pub StandsBehind : WorldView → ℕ → MergeRoom → Come → Type 0
StandsBehind w h new (comes.More later) = PlanStands w h new later
StandsBehind w h new (comes.Answered answer) = IsReady w h

abbrev pub Behind : ℕ → WorldView → List LogEntry → MergeRoom → Come → Notes → Type 0
Behind h w pending new (comes.More later) n = Agrees h w pending new later n
Behind h w pending new (comes.Answered answer) n = RestsWith h w pending n

-- a step made one device call, which is a turn of the run, whatever hints are pending; no block of the index is read or swapped a second time
pub record Went (h : ℕ) (v w : WorldView) (old new : MergeRoom) (doing : Doing) (come : Come) : Type 0 where
  pub owes : (pending : List LogEntry) → OwesStep Merge h v w (step_of come) (Agrees h v pending old doing) (Behind h w pending new come)
  pub does : Does h v w old new doing come
  pub stands : StandsBehind w h new come
  pub keeps : KeepsHolds h v w
  pub fewer : left new (later_of come) < left old doing
  pub on : reached doing + at_index doing ≤ reached (later_of come)

-- a step was refused, and cuts the command: the device is as before, and no hint is pending any more
pub record IsCutOff (h : ℕ) (v w : WorldView) (old : MergeRoom) (doing : Doing) (step : Step) : Type 0 where
  pub by : CutBy
  pub step_is : step ≡ step_of (comes.Answered (answers.Cut by))
  pub state : w.locks.disk.state ≡ v.locks.disk.state
  pub owes : (pending : List LogEntry) → OwesStep Merge h v w step (Agrees h v pending old doing) (RestsWith h w [])

-- what a step did
abbrev pub HasStepped : ℕ → WorldView → WorldView → MergeRoom → MergeRoom → Doing → Doing → Step → Type 0
HasStepped h v w old new doing later step =
    ((come : Come) × Went h v w old new doing come × (step ≡ step_of come) × (later ≡ later_of come)) ⊎ IsCutOff h v w old doing step
