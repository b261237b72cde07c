-- What stands before each step of a promotion, what each answer says of the volume, and what a step did.
use Rattle.std.specs.Prelude.{◌≡◌, ◌≢◌, ◌<◌, ◌≤◌, ◌+◌, ◌*◌, ◌/◌, ◌%◌, ℕ, true, false, List, [], ◌∷◌, None, Option, Some, if◌then◌else◌, length}
use Rattle.vol_base.specs.declared.command.Command.{Command}
use Rattle.vol_layout.specs.declared.field.Field.TheVariants.{Count, Pointer, Slot}
use Rattle.vol_layout.specs.declared.geometry.Geometry.{Geometry}
use Rattle.vol_layout.specs.declared.kind.Resource.{Resource}
use Rattle.vol_layout.specs.declared.kind.Resource.TheVariants.{Group, Part}
use Rattle.vol_layout.specs.Fields.{HasField, table_of}
use Rattle.vol_layout.specs.Ranges.{per_table}
use Rattle.shared_disk.specs.Events.{Event}
use Rattle.image_view.specs.declared.pointer.Number.TheVariants as numbers
use Rattle.image_view.specs.Images.{Image}
use Rattle.image_view.specs.Links.{marked}
use Rattle.image_view.specs.Numbers.{logical}
use Rattle.call_effects.specs.Changes.{Changes}
use Rattle.call_effects.specs.Promotions.{promoted}
use Rattle.table_blocks.specs.Tables.{number_in}
use Rattle.lock_store.specs.Memories.{holds}
use Rattle.lock_store.specs.Views.{host_at, key_at, told_of}
use Rattle.disk_locks.specs.Sure.{BothTold}
use Rattle.host_facts.specs.Facts.Fact.{RecordIs}
use Rattle.host_facts.specs.Knows.{Knows}
use Rattle.host_facts.specs.Views.{WorldView}
use Rattle.plan_parts.specs.KeptTables.{AreKept, IsKept}
use Rattle.plan_parts.specs.QuietCalls.{Noted, QuietCall}
use Rattle.plan_parts.specs.Steps.{IsReady}
use Rattle.plan_parts.specs.TakenLocks.{IsTaking}
use Rattle.plan_parts.specs.declared.kept.Kept.{Kept}
use Rattle.plan_parts.specs.declared.outcome.Outcome.{Outcome}
use Rattle.plan_parts.specs.declared.outcome.Outcome.TheVariants as outcomes
use Rattle.share_plans.specs.Closings.{ChangesNothing, IsClosing, KeepsHolds, closing_left, rest_of}
use Rattle.share_plans.specs.HintSpares.{SparesHints}
use Rattle.share_plans.specs.Lefts.{missing_at}
use Rattle.share_plans.specs.Places.{shown_at}
use Rattle.share_plans.specs.ReadTables.{Known, kept_in}
use Rattle.share_plans.specs.Spots.{IsUnread, PointsTo}
use Rattle.share_plans.specs.Stands.{IsGroupOf, IsHost}
use Rattle.share_plans.specs.Went.{MayShare}
use Rattle.share_plans.specs.declared.closing.Closing.{Closing}
use Rattle.share_plans.specs.declared.promotion.Doing.{Doing}
use Rattle.share_plans.specs.declared.promotion.Doing.TheVariants as doings
use Rattle.share_plans.specs.declared.promotion.Promoted.{Promoted}
use Rattle.share_plans.specs.declared.promotion.Promoted.TheVariants as answers
use Rattle.share_plans.specs.declared.promotion.Promotion.{Promotion}
use Rattle.share_plans.specs.declared.promotion.Reached.{Reached}
use Rattle.share_plans.specs.declared.promotion.Reached.TheVariants.{Answered, More}
use Rattle.share_plans.specs.declared.sight.Spot.{Spot}
use Rattle.share_plans.specs.declared.sight.Spot.TheVariants as spots

-- the part from which a host takes slots
abbrev pub own_part : Geometry → ℕ → ℕ
own_part g h = h % g.parts

abbrev pub known_of : Promotion → Known
known_of core = kept_in core.tables

-- a host that has the file, while no record stands: the locks that were taken are all that it has, and it knows the tables that were read
pub record IsBase (v : WorldView) (core : Promotion) : Type 0 where
  pub is_host : IsHost v core.host core.file
  pub empty : Knows v core.host (RecordIs [])
  pub taking : IsTaking v core.host core.taken
  pub kept : AreKept v core.host core.tables

-- the place has this data block, without the mark
abbrev pub IsLoneBlock : Geometry → Promotion → ℕ → Type 0
IsLoneBlock g core d = PointsTo g (known_of core) core.file core.index (numbers.At d false)

-- the lowest empty slot of the own part, by the part's table
pub record IsEmptySlot (v : WorldView) (h t : ℕ) (part : Kept) : Type 0 where
  pub has : HasField v.locks.geometry (Slot t)
  pub own : t / per_table ≡ own_part v.locks.geometry h
  pub kept : IsKept v h part
  pub which : part.which ≡ table_of (Slot t)
  pub empty : number_in part.table (Slot t) ≡ 0
  pub lowest : (s : ℕ) → table_of (Slot s) ≡ part.which → s < t → number_in part.table (Slot s) ≢ 0

-- the part and the group are locked, and a slot is found
pub record IsFilling (v : WorldView) (core : Promotion) (d t : ℕ) (part : Kept) : Type 0 where
  pub base : IsBase v core
  pub block : IsLoneBlock v.locks.geometry core d
  pub slot : IsEmptySlot v core.host t part
  pub held : holds (host_at v.locks core.host) (Group (d / per_table)) ≡ true
  pub few : length core.taken ≤ 2

-- the slot of an answer is one of the volume
abbrev pub HasSlot : Geometry → Promoted → Type 0
HasSlot g (answers.Promoted t) = HasField g (Slot t)
HasSlot g answer = Unit {0}

-- what stands at each stage
abbrev pub At : WorldView → Promotion → Doing → Type 0
At v core (doings.Reads t) =
    IsBase v core × (core.taken ≡ []) × IsUnread v.locks.geometry (known_of core) core.file core.index t
    × (length core.tables + missing_at (known_of core) core.file core.index ≤ 2)
At v core (doings.LocksPart d) = IsBase v core × (core.taken ≡ []) × IsLoneBlock v.locks.geometry core d
At v core (doings.ReadsPart d) =
    IsBase v core × (core.taken ≡ Part (own_part v.locks.geometry core.host) ∷ []) × IsLoneBlock v.locks.geometry core d
At v core (doings.LocksGroup d t part) =
    IsBase v core × (core.taken ≡ Part (own_part v.locks.geometry core.host) ∷ []) × IsLoneBlock v.locks.geometry core d
    × IsEmptySlot v core.host t part
At v core (doings.ReadsGroup d t part) = IsFilling v core d t part
At v core (doings.Commits d t part group) = IsFilling v core d t part × IsGroupOf v core.host d group
At v core (doings.Closes closing answer) =
    IsHost v core.host core.file × IsClosing v core.host core.taken closing × HasSlot v.locks.geometry answer
At v core doings.Over = ⊥

-- the steps that are left at most, with the one that comes next
abbrev pub left : Promotion → Doing → ℕ
left core (doings.Reads t) = missing_at (known_of core) core.file core.index + 11
left core (doings.LocksPart d) = 11
left core (doings.ReadsPart d) = 10
left core (doings.LocksGroup d t part) = 9
left core (doings.ReadsGroup d t part) = 8
left core (doings.Commits d t part group) = 7
left core (doings.Closes closing answer) = closing_left core.taken (Some closing)
left core doings.Over = 0

abbrev pub left_behind : Promotion → Reached → ℕ
left_behind core (More stage) = left core stage
left_behind core (Answered answer) = 0

-- the place has this data block, with this number in its pointer
abbrev pub HasOwn : Geometry → Image → Promotion → ℕ → ℕ → Type 0
HasOwn g image core d number =
    (shown_at g image core.file core.index ≡ Some d) × (logical g image (Pointer core.file core.index) ≡ number)

-- the slot is the lowest empty one of the part
pub record IsLowestEmpty (g : Geometry) (image : Image) (p t : ℕ) : Type 0 where
  pub has : HasField g (Slot t)
  pub part : t / per_table ≡ p
  pub empty : logical g image (Slot t) ≡ 0
  pub lowest : (s : ℕ) → s / per_table ≡ p → s < t → logical g image (Slot s) ≢ 0

-- the block had no mark and was named once; the lowest empty slot of the host's own part names it, its pointer has the mark, and its count is
-- 2. No other number and no data block changed
pub record IsPromotion (g : Geometry) (core : Promotion) (t : ℕ) (old new : Image) : Type 0 where
  pub block : ℕ
  pub own : HasOwn g old core block (block + 1)
  pub once : logical g old (Count block) ≡ 1
  pub slot : IsLowestEmpty g old (own_part g core.host) t
  pub changes : Changes g (promoted t core.file core.index block) None old new

-- what an answer says of the image before the call at which it was found, and of that behind it
abbrev pub IsCause : Geometry → Promotion → Promoted → Image → Image → Type 0
IsCause g core (answers.Promoted t) old new = IsPromotion g core t old new
IsCause g core answers.Marked old new = ((d : ℕ) × HasOwn g old core d (marked d)) × Changes g [] None old new
IsCause g core answers.Hole old new = (shown_at g old core.file core.index ≡ None) × Changes g [] None old new
IsCause g core answers.PartFull old new =
    ((d : ℕ) × HasOwn g old core d (d + 1))
    × ((s : ℕ) → HasField g (Slot s) → s / per_table ≡ own_part g core.host → logical g old (Slot s) ≢ 0) × Changes g [] None old new
IsCause g core (answers.Busy key) old new = Changes g [] None old new

-- a key that was shown is another host's
abbrev pub IsOtherKey : WorldView → ℕ → Promoted → Type 0
IsOtherKey v h (answers.Busy key) = key.0 ≢ key_at v.locks h
IsOtherKey v h answer = Unit {0}

-- what a step did about the answer; no logical number changes but by a promotion, and no data block
abbrev pub HasAnswered : WorldView → WorldView → Promotion → Option Promoted → Option Promoted → Type 0
HasAnswered v w core None None = ChangesNothing v w
HasAnswered v w core None (Some answer) =
    BothTold (told_of v.locks) (told_of w.locks) (IsCause v.locks.geometry core answer) × IsOtherKey v core.host answer
HasAnswered v w core (Some answer) None = ⊥
HasAnswered v w core (Some answer) (Some after) = (after ≡ answer) × ChangesNothing v w

-- the answer that is known at a stage, and that a step came to
abbrev pub answer_at : Doing → Option Promoted
answer_at (doings.Closes closing answer) = Some answer
answer_at stage = None

abbrev pub answer_of : Reached → Option Promoted
answer_of (More stage) = answer_at stage
answer_of (Answered answer) = Some answer

-- what a command has come to by the answer of its promotion: nothing, but where a lock was busy
abbrev pub outcome_by : Option Promoted → Outcome
outcome_by (Some (answers.Busy key)) = outcomes.Busy key
outcome_by answer = outcomes.Open

abbrev pub StandsBehind : WorldView → Promotion → Reached → Type 0
StandsBehind w core (More stage) = At w core stage
StandsBehind w core (Answered answer) = IsHost w core.host core.file × IsReady w core.host × HasSlot w.locks.geometry answer

-- the promotion is of the same host and place
pub record IsSame (old new : Promotion) : Type 0 where
  pub host : new.host ≡ old.host
  pub file : new.file ≡ old.file
  pub index : new.index ≡ old.index

-- a step made its one call, at no block of hints, which changed no file: its turn may make it in a command of which the promotion is a part, and the notes agree
-- behind it, with what the promotion then came to
pub record Went (v w : WorldView) (old new : Promotion) (stage : Doing) (came : Reached) : Type 0 where
  pub same : IsSame old new
  pub keeps : KeepsHolds old.host v w
  pub stands : StandsBehind w new came
  pub answers_are : HasAnswered v w old (answer_at stage) (answer_of came)
  pub less : left_behind new came < left old stage
  pub event : Event
  pub spares : SparesHints v.locks.geometry event.call
  pub quiet : (command : Command) → MayShare command
      → QuietCall command old.host v w event (Noted command old.host v (outcome_by (answer_at stage)))
      (Noted command old.host w (outcome_by (answer_of came)))

-- what a step came to, by the stage and the answer behind it
abbrev pub reached_of : Doing → Option Promoted → Reached
reached_of stage None = More stage
reached_of stage (Some answer) = Answered answer

abbrev pub result_of : Reached → Option Promoted
result_of (More stage) = None
result_of (Answered answer) = Some answer

-- what comes next once the tables were looked at
abbrev pub behind_spot : Spot → Reached
behind_spot (spots.Needs t) = More (doings.Reads t)
behind_spot spots.Nothing = Answered answers.Hole
behind_spot (spots.Shows d shared) = if shared then Answered answers.Marked else More (doings.LocksPart d)

-- once an answer is known, by what is left of the transaction
abbrev pub closed_by : Option Closing → Promoted → Reached
closed_by None answer = Answered answer
closed_by (Some closing) answer = More (doings.Closes closing answer)

abbrev pub ended_by : List Resource → Promoted → Reached
ended_by taken answer = closed_by (rest_of taken) answer

-- behind the read of the part's table, by its lowest empty entry
abbrev pub behind_part : List Resource → ℕ → ℕ → Kept → Option ℕ → Reached
behind_part taken d p part None = ended_by taken answers.PartFull
behind_part taken d p part (Some entry) = More (doings.LocksGroup d (per_table * p + entry) part)
