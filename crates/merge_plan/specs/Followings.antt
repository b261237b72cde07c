-- What is done next, where no device call is needed to know it.
use Rattle.std.specs.Prelude.{◌≡◌, ◌≢◌, ◌⊎◌, ◌+◌, ◌++◌, ◌<◌, ◌≤◌, ◌-◌, ◌*◌, ℕ, Bool, List, [], None, Option, Some, length, slice_get, slice_set, true}
use Rattle.vol_base.specs.declared.answer.Answer.TheVariants.{Merged}
use Rattle.vol_base.specs.declared.answer.MergeCounts.{MergeCounts}
use Rattle.vol_base.specs.declared.block.Block.{Block}
use Rattle.vol_base.specs.declared.block.Digest.{Digest}
use Rattle.vol_layout.specs.declared.geometry.Geometry.{Geometry}
use Rattle.vol_layout.specs.Ranges.{arena_slots}
use Rattle.vol_layout.specs.declared.kind.Table.TheVariants.{File}
use Rattle.hint_blocks.specs.declared.entry.LogEntry.{LogEntry}
use Rattle.hint_blocks.specs.Entries.{IsPlace}
use Rattle.merge_actions.specs.Acts as acting
use Rattle.merge_actions.specs.Acts.{Calls, begun}
use Rattle.merge_looks.specs.declared.look.Looking.TheVariants as looking
use Rattle.merge_shelves.specs.Handlings.{HasGained}
use Rattle.merge_actions.specs.declared.acting.ActPlan.{ActPlan}
use Rattle.merge_decide.specs.Decision.{decision}
use Rattle.merge_decide.specs.declared.action.Action.{Action}
use Rattle.merge_decide.specs.declared.action.Action.TheVariants as actions
use Rattle.merge_decide.specs.declared.outcome.Outcome.TheVariants as outcomes
use Rattle.merge_shelves.specs.declared.handling.Done.{Done}
use Rattle.merge_looks.specs.Looks as looks
use Rattle.merge_looks.specs.declared.look.Look.{Look}
use Rattle.merge_shelves.specs.Changes.{IsNextChanged}
use Rattle.merge_shelves.specs.Parts.{shelf_of, shelves}
use Rattle.merge_shelves.specs.Rooms.{IsOrdered, log_entries, noted_from}
use Rattle.merge_shelves.specs.Tallies.{IsRaised}
use Rattle.merge_decide.specs.Counted.{counted}
use Rattle.merge_shelves.specs.declared.room.Noted.{Noted}
use Rattle.merge_steps.specs.Logs.{are_some}
use Rattle.merge_steps.specs.Sweeps.{ArePassed, IsDue, IsHere, IsSweeping}
use Rattle.merge_steps.specs.declared.sweep.Due.{Due}
use Rattle.merge_steps.specs.declared.sweep.Due.TheVariants as dues
use Rattle.merge_steps.specs.declared.sweep.Sweep.{Sweep}
use Rattle.sorted_shard.specs.Shelves.{with_digest}
use Rattle.host_facts.specs.Views.{WorldView}
use Rattle.merge_plan.specs.declared.plan.Come.{Come}
use Rattle.merge_plan.specs.declared.plan.Come.TheVariants.{Answered, More}
use Rattle.merge_plan.specs.declared.plan.Doing.{Doing}
use Rattle.merge_plan.specs.declared.plan.Doing.TheVariants as doings
use Rattle.merge_plan.specs.declared.room.MergeRoom.{MergeRoom}

-- the first own log block from one on that had entries
abbrev pub AreNotFilled : List Bool → ℕ → ℕ → Type 0
AreNotFilled filled from to = (l : ℕ) → from ≤ l → l < to → slice_get filled l ≢ Some true

abbrev pub IsNextFilled : List Bool → ℕ → ℕ → Option ℕ → Type 0
IsNextFilled filled logs from (Some l) = (from ≤ l) × (l < logs) × (slice_get filled l ≡ Some true) × AreNotFilled filled from l
IsNextFilled filled logs from None = AreNotFilled filled from logs

-- a log block was read: its entries stand behind the others, and it is marked where it had some
abbrev pub IsLogNoted : Geometry → ℕ → Block → MergeRoom → MergeRoom → Type 0
IsLogNoted g log block old new =
    new ≡ record old {
      logs = old.logs ++ noted_from (126 * log) (log_entries g block.0);
      filled = slice_set old.filled log (are_some (log_entries g block.0));
    }

-- the shelf of the next entry comes, of whose blocks none is read
abbrev pub OpensShelf : Geometry → MergeRoom → MergeRoom → Doing → Type 0
OpensShelf g old new doing =
    (noted : Noted) × (slice_get old.logs old.sweep.at ≡ Some noted)
    × (doing ≡ doings.ReadsShard (shelf_of (shelves g) noted.entry.digest.0) 0) × (new ≡ record old { read = [] })

-- behind a log block the next one comes; behind the last one the entries are sorted, and the first shelf comes, or the merge is answered
abbrev pub IsBehindLog : Geometry → ℕ → MergeRoom → MergeRoom → Come → Type 0
IsBehindLog g log old new come =
    ((log + 1 < g.logs) × (new ≡ old) × (come ≡ More (doings.ReadsLog (log + 1))))
    ⊎ ((g.logs ≤ log + 1) × (ordered : List Noted) × IsOrdered (shelves g) old.logs ordered
    × (((ordered ≡ []) × (new ≡ record old { logs = ordered }) × (come ≡ Answered (Merged old.sweep.counts)))
    ⊎ ((ordered ≢ []) × (doing : Doing) × OpensShelf g (record old { logs = ordered }) new doing × (come ≡ More doing))))

-- all entries are handled, and the first own log block that had some is written empty; or the next shelf comes
abbrev pub IsNextShelf : Geometry → MergeRoom → MergeRoom → Doing → Type 0
IsNextShelf g old new doing =
    ((old.sweep.at < length old.logs) × OpensShelf g old new doing)
    ⊎ ((length old.logs ≤ old.sweep.at) × (new ≡ old) × (l : ℕ) × IsNextFilled old.filled g.logs 0 (Some l) × (doing ≡ doings.EmptiesLog l))

-- behind the entries of a shelf the first of its blocks from one on is swapped that has others than were read; then the next shelf comes
abbrev pub IsAfter : Geometry → ℕ → ℕ → MergeRoom → MergeRoom → Doing → Type 0
IsAfter g shelf from old new doing =
    ((k : ℕ) × IsNextChanged g old.read old.sweep.shelf.entries from (Some k) × (new ≡ old) × (doing ≡ doings.Swaps shelf k))
    ⊎ (IsNextChanged g old.read old.sweep.shelf.entries from None × IsNextShelf g old new doing)

-- a look at the place of an entry, and what is to be done with it, at their beginning
pub record BeginsLook (h : ℕ) (e : LogEntry) (look : Look) : Type 0 where
  pub host : look.host ≡ h
  pub file : look.file ≡ e.file
  pub index : look.index ≡ e.index
  pub tables : look.tables ≡ []
  pub stage : look.stage ≡ looking.Reads (File e.file)
  pub few : looks.left look ≤ 3

pub record BeginsAct (h : ℕ) (e : LogEntry) (action : Action) (plan : ActPlan) : Type 0 where
  pub host : plan.host ≡ h
  pub entry : plan.entry ≡ e
  pub action_is : plan.action ≡ action
  pub begins : plan.acting ≡ begun h e action
  pub few : acting.left plan ≤ 36

-- the slot or the place that an action names is one of the volume
abbrev pub IsActionIn : Geometry → Action → Type 0
IsActionIn g (actions.Share s) = s < arena_slots g
IsActionIn g (actions.Post s) = s < arena_slots g
IsActionIn g (actions.Promote f i) = IsPlace g f i
IsActionIn g action = Unit {0}

-- what the next entry asks for comes
abbrev pub IsByDue : WorldView → ℕ → ℕ → MergeRoom → MergeRoom → Doing → Due → Type 0
IsByDue v h shelf old new doing dues.Looks =
    (new ≡ old) × (noted : Noted) × IsHere v old.logs shelf old.sweep.at noted × (look : Look) × BeginsLook h noted.entry look
    × (doing ≡ doings.Looks shelf look)
IsByDue v h shelf old new doing (dues.Posts slot) =
    (new ≡ old) × (noted : Noted) × IsHere v old.logs shelf old.sweep.at noted × IsActionIn v.locks.geometry (actions.Post slot) × (plan : ActPlan)
    × BeginsAct h noted.entry (actions.Post slot) plan × (doing ≡ doings.Acts shelf plan)
IsByDue v h shelf old new doing dues.Ends = IsAfter v.locks.geometry shelf 0 old new doing

-- entries that need no device call are handled, one after the other, up to one that does
pub record GoesOn (v : WorldView) (h shelf : ℕ) (old new : MergeRoom) (doing : Doing) : Type 0 where
  pub sweep : Sweep
  pub due : Due
  pub passed : ArePassed v h old.logs shelf old.sweep (sweep.at - old.sweep.at) sweep
  pub is_due : IsDue v h old.logs shelf sweep due
  pub sweeping : IsSweeping v old.logs sweep
  pub by : IsByDue v h shelf (record old { sweep = sweep }) new doing due

-- the next entry was handled: the shelf gained what that puts, one count rose, and what comes behind it is next
pub record IsFinished (v : WorldView) (h shelf : ℕ) (done : Done) (old new : MergeRoom) (doing : Doing) : Type 0 where
  pub noted : Noted
  pub sweep : Sweep
  pub here : slice_get old.logs old.sweep.at ≡ Some noted
  pub gained : HasGained noted.entry done old.sweep.shelf sweep.shelf
  pub counts : IsRaised (counted done.action done.outcome) old.sweep.counts sweep.counts
  pub at : sweep.at ≡ old.sweep.at + 1
  pub on : GoesOn v h shelf (record old { sweep = sweep }) new doing

-- what is done with an entry that needs no device call
abbrev pub uncalled : Action → Done
uncalled action = record { action = action; outcome = outcomes.Done; slot = 0 }

-- the next entry was decided by what stands at its place, and by the shelf as it stands: what comes of it is done by device calls, or it was handled at once
pub record IsDecided (v : WorldView) (h shelf : ℕ) (now : Option Digest) (old new : MergeRoom) (doing : Doing) : Type 0 where
  pub noted : Noted
  pub here : IsHere v old.logs shelf old.sweep.at noted
  pub action : Action
  pub decided : action ≡ decision noted.entry true now (with_digest noted.entry.digest.0 old.sweep.shelf.entries)
  pub range : IsActionIn v.locks.geometry action
  pub by : (Calls action × (new ≡ old) × (plan : ActPlan) × BeginsAct h noted.entry action plan × (doing ≡ doings.Acts shelf plan))
      ⊎ IsFinished v h shelf (uncalled action) old new doing

-- behind a log block that was written empty the next one comes that had entries, or the merge is answered
abbrev pub behind_emptied : MergeCounts → Option ℕ → Come
behind_emptied counts (Some l) = More (doings.EmptiesLog l)
behind_emptied counts None = Answered (Merged counts)
