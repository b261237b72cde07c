-- What stands before each step of a plan, and what the notes of its command say there.
use Rattle.file_plans.specs.declared.call.FileCall.TheVariants.{Close}
use Rattle.plan_parts.specs.Holds.{IsReadTaking, IsReleasing, IsWriteTaking, NotedTry, NotedWrite}
use Rattle.file_plans.specs.Calls.{is_read, wants_write}
use Rattle.file_plans.specs.declared.sight.Sight.{Sight}
use Rattle.file_plans.specs.Commits.{IsOld}
use Rattle.file_plans.specs.declared.old.Old.{Old}
use Rattle.file_plans.specs.declared.old.Old.TheVariants as olds
use Rattle.file_plans.specs.declared.stage.Fresh.{Fresh}
use Rattle.file_plans.specs.Calls.{block_of}
use Rattle.plan_parts.specs.Searches.{counted_groups, first_of, group_at}
use Rattle.host_runs.specs.Notes.{at_rest}
use Rattle.std.specs.Prelude.{◌≡◌, ◌≢◌, ◌<◌, ◌/◌, ℕ, true, false, [], ◌∷◌, None, Option, Some, IfSome, length}
use Rattle.vol_base.specs.declared.command.Command.{Command}
use Rattle.vol_layout.specs.declared.field.Field.TheVariants.{Count}
use Rattle.vol_layout.specs.declared.kind.Resource.TheVariants.{Group}
use Rattle.vol_layout.specs.Fields.{HasField, table_of}
use Rattle.vol_layout.specs.Ranges.{per_table}
use Rattle.lock_store.specs.Memories.{holds}
use Rattle.lock_store.specs.Views.{host_at}
use Rattle.table_blocks.specs.Tables.{number_in}
use Rattle.held_cache.specs.Kept.{Cache, kept_at}
use Rattle.host_facts.specs.Facts.Fact.{FreshIs, RecordIs}
use Rattle.host_facts.specs.Knows.{Knows}
use Rattle.host_facts.specs.Views.{WorldView}
use Rattle.host_notes.specs.Remembered.{IsRemembered}
use Rattle.host_runs.specs.Notes.{Notes}
use Rattle.host_runs.specs.Tries.{no_tries}
use Rattle.plan_parts.specs.Applies.{IsApplying}
use Rattle.plan_parts.specs.KeptTables.{IsKept}
use Rattle.plan_parts.specs.QuietCalls.{Noted}
use Rattle.plan_parts.specs.Searches.{IsSearching}
use Rattle.plan_parts.specs.Steps.{IsReady}
use Rattle.plan_parts.specs.declared.kept.Kept.{Kept}
use Rattle.plan_parts.specs.declared.outcome.Outcome.TheVariants.{Open}
use Rattle.file_plans.specs.Bases.{IsBase, IsCached, MayComeTo}
use Rattle.file_plans.specs.Calls.{file_of, is_write}
use Rattle.file_plans.specs.Sights.{IsSight}
use Rattle.file_plans.specs.declared.state.Core.{Core}
use Rattle.file_plans.specs.declared.sight.Sight.TheVariants as sights
use Rattle.file_plans.specs.declared.stage.Change.{Change}
use Rattle.file_plans.specs.declared.stage.Change.TheVariants.{Drop, Purge}
use Rattle.file_plans.specs.declared.stage.Stage.{Stage}
use Rattle.file_plans.specs.declared.stage.Stage.TheVariants as stages

-- a host that has come to its hold, and to nothing else yet; no record stands
pub record IsOpenBase (v : WorldView) (c : Cache) (core : Core) : Type 0 where
  pub base : IsBase v c core
  pub empty : Knows v core.host (RecordIs [])
  pub comes : core.outcome ≡ Open

-- a host on its way to its hold, or about to give it back
pub record IsOutside (v : WorldView) (c : Cache) (core : Core) : Type 0 where
  pub host : core.host < v.locks.geometry.hosts
  pub file : file_of core.call < v.locks.geometry.files
  pub ready : IsReady v core.host
  pub none : core.taken ≡ []
  pub cached : IsCached v c core.host
  pub comes : core.outcome ≡ Open

-- the sight of a change, and a data block that it is of
abbrev pub sight_of : Change → Sight
sight_of (Drop d) = sights.Drops d
sight_of (Purge remains) = sights.Purges remains

-- a found free block: its group's table is kept, and has 0 for its count
pub record IsFoundBlock (v : WorldView) (h d : ℕ) (group : Kept) : Type 0 where
  pub has : HasField v.locks.geometry (Count d)
  pub kept : IsKept v h group
  pub which : group.which ≡ table_of (Count d)
  pub free : number_in group.table (Count d) ≡ 0

-- the shared block that the pointer named before a fresh block, if any
abbrev pub shared_of : Old → Option ℕ
shared_of olds.Hole = None
shared_of (olds.Same d) = Some d
shared_of (olds.Other d kept) = Some d

-- a free block with what the pointer named before it
pub record IsFreshBlock (v : WorldView) (c : Cache) (core : Core) (fresh : Fresh) : Type 0 where
  pub comes : IsOpenBase v c core
  pub sight : IsSight v.locks.geometry (kept_at c core.host) core.call (sights.Fresh (shared_of fresh.left))
  pub block : IsFoundBlock v core.host fresh.number fresh.group
  pub left : IsOld v core.host fresh.group fresh.left

-- the table of a shared block's group is kept, if that group was counted, and else it is none of those that were
abbrev pub IsMet : WorldView → ℕ → ℕ → ℕ → Option Kept → Type 0
IsMet v h k old (Some kept) =
    IsKept v h kept × (kept.which ≡ table_of (Count old))
    × ((j : ℕ) × (j < k) × (group_at (first_of v.locks.geometry h) j v.locks.geometry.groups ≡ old / per_table))
IsMet v h k old None = (j : ℕ) → j < k → group_at (first_of v.locks.geometry h) j v.locks.geometry.groups ≢ old / per_table

-- a shared block of the volume, whose group is among those that were counted exactly where its table is kept
pub record IsSharedMet (v : WorldView) (h k : ℕ) (old : ℕ) (shared : Option Kept) : Type 0 where
  pub has : HasField v.locks.geometry (Count old)
  pub met : IsMet v h k old shared

-- a data block that a change is of: its group is the one that is locked
abbrev pub first_of_change : Change → ℕ
first_of_change (Drop d) = d
first_of_change (Purge []) = 0
first_of_change (Purge (r ∷ more)) = r.number

-- what stands at each stage, beside the base
abbrev pub At : WorldView → Cache → Core → Stage → Type 0
At v c core stages.Asks = IsOutside v c core × (is_write core.call ≡ true)
At v c core stages.Begins = IsOutside v c core
At v c core (stages.Writes t) =
    IsOutside v c core × IsWriteTaking v core.host (file_of core.call) t × (wants_write core.call ≡ true)
At v c core (stages.Reads t) = IsOutside v c core × IsReadTaking v core.host (file_of core.call) t × (is_read core.call ≡ true)
At v c core (stages.GivesBack t) =
    IsOutside v c core × IsReleasing v core.host (file_of core.call) t × (core.call ≡ Close (file_of core.call))
At v c core (stages.Searches old shared search) =
    IsOpenBase v c core × IsSearching v core.host search core.taken
    × IsSight v.locks.geometry (kept_at c core.host) core.call (sights.Fresh old)
    × IfSome old (λ d. IsSharedMet v core.host (counted_groups search) d shared)
At v c core (stages.LocksShared old d group) =
    IsOpenBase v c core × IsSight v.locks.geometry (kept_at c core.host) core.call (sights.Fresh (Some old))
    × IsFoundBlock v core.host d group × (holds (host_at v.locks core.host) (Group (old / per_table)) ≡ false)
    × (length core.taken < 66)
At v c core (stages.FetchesShared old d group) =
    IsOpenBase v c core × IsSight v.locks.geometry (kept_at c core.host) core.call (sights.Fresh (Some old))
    × IsFoundBlock v core.host d group × (table_of (Count old) ≢ group.which)
    × (holds (host_at v.locks core.host) (Group (old / per_table)) ≡ true)
At v c core (stages.Puts fresh) = IsFreshBlock v c core fresh
At v c core (stages.Fills fresh) = IsFreshBlock v c core fresh × Knows v core.host (FreshIs fresh.number (block_of core.call).0)
At v c core (stages.Locks change) =
    IsOpenBase v c core × (core.taken ≡ []) × IsSight v.locks.geometry (kept_at c core.host) core.call (sight_of change)
At v c core (stages.Fetches change) =
    IsOpenBase v c core × (core.taken ≡ Group (first_of_change change / per_table) ∷ [])
    × IsSight v.locks.geometry (kept_at c core.host) core.call (sight_of change)
At v c core (stages.Changes change group) =
    IsOpenBase v c core × IsSight v.locks.geometry (kept_at c core.host) core.call (sight_of change)
    × IsKept v core.host group × (group.which ≡ table_of (Count (first_of_change change)))
At v c core stages.Sees = IsOpenBase v c core × (core.taken ≡ [])
At v c core (stages.Applies a) = IsBase v c core × IsApplying v core.host a.entry.edits a.left × MayComeTo core.call core.outcome
At v c core stages.Frees = IsBase v c core × Knows v core.host (RecordIs []) × (core.taken ≢ []) × MayComeTo core.call core.outcome
At v c core stages.Over = ⊥

-- the notes of a command that made no call: of one that asks for the digest of its block, and of one that asks for none any more
pub record IsAsking (command : Command) (h : ℕ) (v : WorldView) (n : Notes) : Type 0 where
  pub remembered : IsRemembered v.locks.geometry n.memory (host_at v.locks h)
  pub between : n ≡ at_rest n.memory n.dying n.pending n.watch

pub record IsUncalled (command : Command) (h : ℕ) (v : WorldView) (n : Notes) : Type 0 where
  pub noted : Noted command h v Open n
  pub tries : n.tries ≡ no_tries

-- the notes at each stage
abbrev pub NotedAt : Command → WorldView → Core → Stage → Notes → Type 0
NotedAt command v core stages.Asks n = IsAsking command core.host v n
NotedAt command v core stages.Begins n = IsUncalled command core.host v n
NotedAt command v core (stages.Writes t) n = NotedWrite command core.host v t n
NotedAt command v core (stages.Reads t) n = NotedTry command core.host v t n
NotedAt command v core (stages.GivesBack t) n = NotedTry command core.host v t n
NotedAt command v core stages.Over n = ⊥
NotedAt command v core stage n = Noted command core.host v core.outcome n
