-- What stands before each step of a collection, what the notes of its command agree with there, and how many steps are left.
use Rattle.std.specs.Prelude.{◌≡◌, ◌≢◌, ◌⊎◌, ◌<◌, ◌≤◌, ◌+◌, ◌-◌, ◌*◌, ℕ, true, All, List, [], ◌∷◌, None, Option, Some, length}
use Rattle.vol_base.specs.declared.answer.Answer.{Answer}
use Rattle.vol_base.specs.declared.answer.Answer.TheVariants as answers
use Rattle.vol_base.specs.declared.block.Key.{Key}
use Rattle.vol_base.specs.declared.command.Command.TheVariants.{Collect}
use Rattle.vol_layout.specs.declared.field.Edit.{Edit}
use Rattle.vol_layout.specs.declared.kind.Kind.TheVariants as kinds
use Rattle.vol_layout.specs.declared.kind.Resource.TheVariants.{Group, Part}
use Rattle.vol_layout.specs.declared.kind.Table.TheVariants as tables
use Rattle.vol_layout.specs.Ranges.{per_table}
use Rattle.table_blocks.specs.Made.{made}
use Rattle.lock_store.specs.Views.{host_at, key_at}
use Rattle.host_facts.specs.Facts.Fact.{RecordIs}
use Rattle.host_facts.specs.Knows.{Knows}
use Rattle.host_facts.specs.Views.{WorldView}
use Rattle.host_runs.specs.HintCauses.{slots_emptied}
use Rattle.host_runs.specs.NotedCalls.{ShowsKind, SomeCall, sum_written}
use Rattle.host_runs.specs.Notes.{Notes}
use Rattle.plan_parts.specs.Applies.{IsApplying}
use Rattle.plan_parts.specs.KeptTables.{IsKept}
use Rattle.plan_parts.specs.QuietCalls.{Noted}
use Rattle.plan_parts.specs.TakenLocks.{IsTaking}
use Rattle.plan_parts.specs.declared.kept.Kept.{Kept}
use Rattle.plan_parts.specs.declared.outcome.Outcome.{Outcome}
use Rattle.plan_parts.specs.declared.outcome.Outcome.TheVariants as outcomes
use Rattle.share_plans.specs.Spents.{NoneSpent, current, emptying_of, used}
use Rattle.share_plans.specs.declared.collection.Collection.{Collection}
use Rattle.share_plans.specs.declared.collection.Emptying.{Emptying}
use Rattle.share_plans.specs.declared.collection.Gathered.{Gathered}
use Rattle.share_plans.specs.declared.collection.Gathered.TheVariants.{Answered, More}
use Rattle.share_plans.specs.declared.collection.Gathering.{Gathering}
use Rattle.share_plans.specs.declared.collection.Gathering.TheVariants as stages

-- a joined host of the volume, one of its parts, and groups of it; the locks that were taken are all that the host has
pub record IsOn (v : WorldView) (core : Collection) : Type 0 where
  pub host : core.host < v.locks.geometry.hosts
  pub part : core.part < v.locks.geometry.parts
  pub groups : All (λ r. r < v.locks.geometry.groups) core.groups
  pub joined : (host_at v.locks core.host).joined ≡ true
  pub taking : IsTaking v core.host core.taken

-- the same while no record stands
pub record IsFree (v : WorldView) (core : Collection) : Type 0 where
  pub on : IsOn v core
  pub empty : Knows v core.host (RecordIs [])

-- the list of groups was not read yet
pub record IsUnread (core : Collection) : Type 0 where
  pub groups : core.groups ≡ []
  pub count : core.count ≡ 0

-- no more slots were emptied than the part has without those that name data blocks still
abbrev pub HasRoom : Collection → Kept → Type 0
HasRoom core part = core.count + used part.table per_table ≤ per_table

-- the part alone is locked
abbrev pub HasPartAlone : Collection → Type 0
HasPartAlone core = core.taken ≡ Part core.part ∷ []

-- the part and the first group of the list are locked
pub record IsVisiting (core : Collection) : Type 0 where
  pub some : core.groups ≢ []
  pub locked : core.taken ≡ Group (current core.groups) ∷ Part core.part ∷ []

-- the tables of the part, and of the first group
pub record IsPartTable (v : WorldView) (core : Collection) (part : Kept) : Type 0 where
  pub kept : IsKept v core.host part
  pub which : part.which ≡ tables.Part core.part
  pub room : HasRoom core part

pub record IsGroupTable (v : WorldView) (core : Collection) (group : Kept) : Type 0 where
  pub kept : IsKept v core.host group
  pub which : group.which ≡ tables.Group (current core.groups)

-- a table as it is with edits made
abbrev pub edited_table : List Edit → Kept → Kept
edited_table es kept = record { which = kept.which; table = made kept.which es kept.table }

-- a record goes into its two tables: both are left to write, or the group's, or none; and each comes to be this one
abbrev pub AreWritten : WorldView → Collection → List Edit → List Kept → Kept → Kept → Type 0
AreWritten v core es left part group =
    ((old : Kept) × (other : Kept) × (left ≡ old ∷ other ∷ []) × (part ≡ edited_table es old) × (group ≡ edited_table es other))
    ⊎ ((other : Kept) × (left ≡ other ∷ []) × IsKept v core.host part × (group ≡ edited_table es other))
    ⊎ ((left ≡ []) × IsKept v core.host part × IsKept v core.host group)

-- what stands at each stage
abbrev pub At : WorldView → Collection → Gathering → Type 0
At v core stages.LocksPart = IsFree v core × (core.taken ≡ []) × IsUnread core
At v core stages.ReadsPart = IsFree v core × HasPartAlone core × IsUnread core
At v core (stages.LocksGroup part) = IsFree v core × HasPartAlone core × IsPartTable v core part × (core.groups ≢ [])
At v core (stages.ReadsGroup part) = IsFree v core × IsVisiting core × IsPartTable v core part
At v core (stages.Commits emptying part group) =
    IsFree v core × IsVisiting core × IsPartTable v core part × IsGroupTable v core group
    × (emptying_of (key_at v.locks core.host) core.part part.table (current core.groups) group.table ≡ Some emptying)
At v core (stages.Applies a part group) =
    IsOn v core × IsVisiting core × IsApplying v core.host a.entry.edits a.left × AreWritten v core a.entry.edits a.left part group
    × (part.which ≡ tables.Part core.part) × (group.which ≡ tables.Group (current core.groups)) × HasRoom core part
At v core (stages.FreesGroup part) =
    IsFree v core × IsVisiting core × IsPartTable v core part
    × ((group : Kept) × IsGroupTable v core group × NoneSpent part.table (current core.groups) group.table)
At v core (stages.FreesPart None) = IsFree v core × HasPartAlone core × (core.groups ≡ [])
At v core (stages.FreesPart (Some key)) = IsFree v core × HasPartAlone core
At v core stages.Over = ⊥

-- what a command has come to: nothing, but where a group was busy
abbrev pub outcome_at : Gathering → Outcome
outcome_at (stages.FreesPart (Some key)) = outcomes.Busy key
outcome_at stage = outcomes.Open

-- the table of the part was read
abbrev pub HasRead : WorldView → Collection → Notes → Type 0
HasRead v core n = (block : List ℕ) × SomeCall (ShowsKind v.locks.geometry (kinds.Table (tables.Part core.part)) block) n.calls

abbrev pub IsReadAt : WorldView → Collection → Gathering → Notes → Type 0
IsReadAt v core stages.LocksPart n = Unit {0}
IsReadAt v core stages.ReadsPart n = Unit {0}
IsReadAt v core stage n = HasRead v core n

-- what the notes agree with: as many slots were emptied by the records that the calls wrote as the plan counts
pub record NotedAt (v : WorldView) (core : Collection) (stage : Gathering) (n : Notes) : Type 0 where
  pub noted : Noted (Collect core.part) core.host v (outcome_at stage) n
  pub emptied : sum_written v.locks.geometry (slots_emptied core.host) n.calls ≡ core.count
  pub read : IsReadAt v core stage n

-- the steps of the slots that are not emptied yet, one record each at most
abbrev pub slot_steps : Collection → ℕ
slot_steps core = 4 * (per_table - core.count)

-- the steps that are left at most, with the one that comes next: a group is locked, read and freed
abbrev pub left : Collection → Gathering → ℕ
left core stages.LocksPart = 4 * per_table + 195
left core stages.ReadsPart = 4 * per_table + 194
left core (stages.LocksGroup part) = slot_steps core + 3 * length core.groups + 1
left core (stages.ReadsGroup part) = slot_steps core + 3 * length core.groups
left core (stages.Commits emptying part group) = slot_steps core + 3 * length core.groups - 1
left core (stages.Applies a part group) = slot_steps core + 3 * length core.groups + length a.left
left core (stages.FreesGroup part) = slot_steps core + 3 * length core.groups - 1
left core (stages.FreesPart busy) = 1
left core stages.Over = 0

abbrev pub left_behind : Collection → Gathered → ℕ
left_behind core (More stage) = left core stage
left_behind core (Answered answer) = 0

-- what comes next, by the groups that are left
abbrev pub behind_list : List ℕ → Kept → Gathering
behind_list [] part = stages.FreesPart None
behind_list (r ∷ more) part = stages.LocksGroup part

-- by the slots that are to be emptied for the group
abbrev pub behind_group : Option Emptying → Kept → Kept → Gathering
behind_group None part group = stages.FreesGroup part
behind_group (Some emptying) part group = stages.Commits emptying part group

-- the answer once the part is free
abbrev pub answer_of : Option Key → ℕ → Answer
answer_of None count = answers.Collected count
answer_of (Some key) count = answers.Busy key
