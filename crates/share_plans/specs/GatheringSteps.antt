-- What a step of a collection did.
use Rattle.std.specs.Prelude.{◌≡◌, ◌⊎◌, ◌<◌, ◌+◌, ◌/◌, ℕ, true, All, IfSome, List, [], ◌∷◌, None, Some, length}
use Rattle.vol_base.specs.Packing.{Packing}
use Rattle.vol_base.specs.declared.answer.Answer.{Answer}
use Rattle.vol_base.specs.declared.answer.Answer.TheVariants.{Busy, Collected, Cut}
use Rattle.vol_base.specs.declared.answer.CutBy.{CutBy}
use Rattle.vol_base.specs.declared.answer.Next.{Next}
use Rattle.vol_base.specs.declared.answer.Next.TheVariants as nexts
use Rattle.vol_base.specs.declared.answer.Step.{Step}
use Rattle.vol_base.specs.declared.command.Command.TheVariants.{Collect}
use Rattle.vol_layout.specs.declared.field.Field.TheVariants.{Count, Slot}
use Rattle.vol_layout.specs.declared.geometry.Geometry.{Geometry}
use Rattle.vol_layout.specs.declared.kind.Table.{Table}
use Rattle.vol_layout.specs.declared.kind.Table.TheVariants as tables
use Rattle.vol_layout.specs.Edits.{AreApart, touches}
use Rattle.vol_layout.specs.Fields.{HasField}
use Rattle.vol_layout.specs.Ranges.{per_table}
use Rattle.image_view.specs.Images.{Image}
use Rattle.image_view.specs.Numbers.{logical}
use Rattle.image_view.specs.Records.{IsEdited}
use Rattle.image_view.specs.laws.BalanceLaws.{emptied_slots, freed_counts}
use Rattle.call_effects.specs.Collections.{collected, freed}
use Rattle.lock_store.specs.Views.{told_of}
use Rattle.disk_locks.specs.Sure.{BothTold}
use Rattle.host_facts.specs.Facts.Fact.{TableIs}
use Rattle.host_facts.specs.Knows.{Knows}
use Rattle.host_facts.specs.Views.{WorldView}
use Rattle.host_runs.specs.Notes.{Notes}
use Rattle.plan_parts.specs.KeptTables.{IsKept}
use Rattle.plan_parts.specs.Steps.{IsAtRest, IsReady, OwesStep}
use Rattle.plan_parts.specs.declared.kept.Kept.{Kept}
use Rattle.share_plans.specs.Closings.{ChangesNothing, KeepsHolds}
use Rattle.share_plans.specs.Gatherings.{At, NotedAt, left, left_behind}
use Rattle.share_plans.specs.Spents.{current, named_groups}
use Rattle.share_plans.specs.declared.collection.Collection.{Collection}
use Rattle.share_plans.specs.declared.collection.Gathered.{Gathered}
use Rattle.share_plans.specs.declared.collection.Gathered.TheVariants.{Answered, More}
use Rattle.share_plans.specs.declared.collection.Gathering.{Gathering}
use Rattle.share_plans.specs.declared.collection.Gathering.TheVariants as stages

-- a slot of the part names a data block of the group, which has the count 1
pub record IsLoneSlot (g : Geometry) (image : Image) (p r : ℕ) (slot : ℕ × ℕ) : Type 0 where
  pub has : HasField g (Slot slot.0)
  pub part : slot.0 / per_table ≡ p
  pub names : logical g image (Slot slot.0) ≡ slot.1 + 1
  pub group : slot.1 / per_table ≡ r
  pub once : logical g image (Count slot.1) ≡ 1

-- so many slots of the part are empty now, which were such slots for the first group of the list, and the counts of their data blocks are 0. No
-- other number changed
pub record IsCollection (g : Geometry) (core : Collection) (count : ℕ) (old new : Image) : Type 0 where
  pub slots : List (ℕ × ℕ)
  pub numbers : List ℕ
  pub many : length slots ≡ count
  pub apart : AreApart (emptied_slots slots)
  pub lone : All (IsLoneSlot g old core.part (current core.groups)) slots
  pub same : (d : ℕ) → touches (freed numbers) (Count d) ≡ touches (freed_counts slots) (Count d)
  pub edits : IsEdited g old new (collected slots numbers)

-- what a step emptied, and what the plan counts behind it; no logical number changes but by a commit
abbrev pub Empties : WorldView → WorldView → Collection → Collection → Gathering → Type 0
Empties v w old new (stages.Commits emptying part group) =
    BothTold (told_of v.locks) (told_of w.locks) (IsCollection v.locks.geometry old emptying.slots)
    × (new.count ≡ old.count + emptying.slots)
Empties v w old new stage = ChangesNothing v w × (new.count ≡ old.count)

-- no slot of the part names a data block of the group with the count 1
abbrev pub HasNoLoneSlot : Geometry → Image → ℕ → ℕ → Type 0
HasNoLoneSlot g image p r = (slot : ℕ × ℕ) → IsLoneSlot g image p r slot → ⊥

-- the list of groups: it is read from the table of the part, and the first group leaves it where its lock is freed, while no slot of the
-- part names one of its data blocks with the count 1
abbrev pub KeepsList : WorldView → WorldView → Collection → Collection → Gathering → Type 0
KeepsList v w old new stages.ReadsPart =
    (part : Kept) × IsKept w old.host part × (part.which ≡ tables.Part old.part)
    × (new.groups ≡ named_groups part.table v.locks.geometry.groups)
KeepsList v w old new (stages.FreesGroup part) =
    (old.groups ≡ current old.groups ∷ new.groups)
    × IfSome (told_of v.locks) (λ t. HasNoLoneSlot v.locks.geometry t.image old.part (current old.groups))
KeepsList v w old new stage = new.groups ≡ old.groups

-- the answer: once no group is left on the list that was read, so many slots as were emptied; or the key of a busy lock
abbrev pub IsAnswerAt : Collection → Gathering → Answer → Type 0
IsAnswerAt old stages.LocksPart (Busy key) = Unit {0}
IsAnswerAt old (stages.FreesPart None) (Collected count) = (old.groups ≡ []) × (count ≡ old.count)
IsAnswerAt old (stages.FreesPart (Some other)) (Busy key) = key ≡ other
IsAnswerAt old stage answer = ⊥

abbrev pub AnswersAt : Collection → Gathering → Gathered → Type 0
AnswersAt old stage (More after) = Unit {0}
AnswersAt old stage (Answered answer) = IsAnswerAt old stage answer

-- the collection stands where it goes on; where it is answered, the host has no record that stands, and holds no part and no group
abbrev pub StandsBehind : WorldView → Collection → Gathered → Type 0
StandsBehind w new (More stage) = At w new stage
StandsBehind w new (Answered answer) = IsReady w new.host

abbrev pub NotedBehind : WorldView → Collection → Gathered → Notes → Type 0
NotedBehind w new (More stage) n = NotedAt w new stage n
NotedBehind w new (Answered answer) n = IsAtRest w new.host n

-- the step by which this comes next, and the stage behind it
abbrev pub next_of : Gathered → Next
next_of (More stage) = nexts.More
next_of (Answered answer) = nexts.Answered answer

abbrev pub stage_of : Gathered → Gathering
stage_of (More stage) = stage
stage_of (Answered answer) = stages.Over

abbrev pub called_step : Next → Step
called_step next = record { placed = None; called = true; next = next }

-- a table of a file
abbrev pub IsOfFile : Table → Type 0
IsOfFile (tables.File f) = Unit {0}
IsOfFile (tables.More f t) = Unit {0}
IsOfFile (tables.Group r) = ⊥
IsOfFile (tables.Part p) = ⊥

-- what the host knows of the tables of its files stays
abbrev pub KeepsTables : ℕ → WorldView → WorldView → Type 0
KeepsTables h v w = (t : Table) (p : Packing) → IsOfFile t → Knows v h (TableIs t p) → Knows w h (TableIs t p)

-- the collection is of the same host and part
pub record IsSame (old new : Collection) : Type 0 where
  pub host : new.host ≡ old.host
  pub part : new.part ≡ old.part

-- a step made its one call: the turn owes nothing, and the notes agree behind it
pub record Went (v w : WorldView) (old new : Collection) (stage : Gathering) (came : Gathered) : Type 0 where
  pub same : IsSame old new
  pub keeps : KeepsHolds old.host v w
  pub tables_stay : KeepsTables old.host v w
  pub stands : StandsBehind w new came
  pub empties : Empties v w old new stage
  pub list : KeepsList v w old new stage
  pub answers_are : AnswersAt old stage came
  pub less : left_behind new came < left old stage
  pub owes : OwesStep (Collect old.part) old.host v w (called_step (next_of came)) (NotedAt v old stage) (NotedBehind w new came)

-- a step was refused, and cuts the command: the device is as before
pub record IsCutOff (v w : WorldView) (old : Collection) (stage : Gathering) (step : Step) : Type 0 where
  pub by : CutBy
  pub step_is : step ≡ called_step (nexts.Answered (Cut by))
  pub state : w.locks.disk.state ≡ v.locks.disk.state
  pub owes : OwesStep (Collect old.part) old.host v w step (NotedAt v old stage) (IsAtRest w old.host)

-- what a step did
abbrev pub HasStepped : WorldView → WorldView → Collection → Collection → Gathering → Gathering → Step → Type 0
HasStepped v w old new stage after step =
    ((came : Gathered) × Went v w old new stage came × (step ≡ called_step (next_of came)) × (after ≡ stage_of came))
    ⊎ IsCutOff v w old stage step
