-- What may be acted on, where a plan begins, and what stands before each of its steps.
use Rattle.std.specs.Prelude.{◌≡◌, ◌<◌, ◌+◌, ℕ, true, [], None, Option, Some}
use Rattle.vol_layout.specs.declared.field.Field.TheVariants.{Slot}
use Rattle.vol_layout.specs.declared.kind.Resource.TheVariants.{File}
use Rattle.vol_layout.specs.declared.kind.Table.TheVariants as tables
use Rattle.vol_layout.specs.Fields.{HasField}
use Rattle.vol_layout.specs.Ranges.{arena_slots}
use Rattle.hint_blocks.specs.declared.entry.LogEntry.{LogEntry}
use Rattle.hint_blocks.specs.declared.entry.Request.{Request}
use Rattle.hint_blocks.specs.Entries.{IsLogEntry, IsPlace, IsRequest}
use Rattle.lock_store.specs.Memories.{holds}
use Rattle.lock_store.specs.Views.{host_at}
use Rattle.host_facts.specs.Views.{WorldView}
use Rattle.plan_parts.specs.Steps.{IsReady}
use Rattle.plan_parts.specs.declared.outcome.Outcome as comes
use Rattle.plan_parts.specs.declared.outcome.Outcome.TheVariants.{Open}
use Rattle.share_plans.specs.Lefts as lefts
use Rattle.share_plans.specs.Promotions as promotion
use Rattle.share_plans.specs.Stands as share
use Rattle.share_plans.specs.Went.{answer_at, outcome_by}
use Rattle.share_plans.specs.declared.promote.PromotePlan.{PromotePlan}
use Rattle.share_plans.specs.declared.promotion.Doing.TheVariants as doings
use Rattle.share_plans.specs.declared.share.SharePlan.{SharePlan}
use Rattle.share_plans.specs.declared.sharing.Place.TheVariants.{Arena}
use Rattle.share_plans.specs.declared.stage.Core.{Core}
use Rattle.share_plans.specs.declared.stage.Stage.TheVariants as stages
use Rattle.merge_decide.specs.declared.action.Action.{Action}
use Rattle.merge_decide.specs.declared.action.Action.TheVariants as actions
use Rattle.merge_decide.specs.declared.outcome.Outcome.{Outcome}
use Rattle.merge_decide.specs.declared.outcome.Outcome.TheVariants as outcomes
use Rattle.merge_decide.specs.declared.outcome.PromoteOutcome.TheVariants as promoted
use Rattle.merge_shelves.specs.Handlings.{request_by}
use Rattle.merge_steps.specs.Steps.{IsMerging}
use Rattle.merge_actions.specs.declared.acting.ActPlan.{ActPlan}
use Rattle.merge_actions.specs.declared.acting.Acted.{Acted}
use Rattle.merge_actions.specs.declared.acting.Acted.TheVariants.{Busy, Done}
use Rattle.merge_actions.specs.declared.acting.Acting.{Acting}
use Rattle.merge_actions.specs.declared.acting.Acting.TheVariants.{Over, Posts, Promotes, Reads, Shares, SharesOther}

-- the actions that make device calls
abbrev pub Calls : Action → Type 0
Calls (actions.Share s) = Unit {0}
Calls (actions.Promote f i) = Unit {0}
Calls (actions.Post s) = Unit {0}
Calls action = ⊥

-- the host holds the file for writing
abbrev pub IsHeld : WorldView → ℕ → ℕ → Type 0
IsHeld v h f = holds (host_at v.locks h) (File f) ≡ true

-- what an action asks for: that the host holds the entry's file, and that the slot, or the other place, is in range
abbrev pub AsksFor : WorldView → ℕ → LogEntry → Action → Type 0
AsksFor v h entry (actions.Share s) = IsHeld v h entry.file × HasField v.locks.geometry (Slot s)
AsksFor v h entry (actions.Promote f i) = IsHeld v h entry.file × IsPlace v.locks.geometry f i
AsksFor v h entry (actions.Post s) = HasField v.locks.geometry (Slot s)
AsksFor v h entry action = Unit {0}

-- what may be acted on: a host of the volume that is ready, an entry in range, and what the action asks for
pub record MayAct (v : WorldView) (h : ℕ) (entry : LogEntry) (action : Action) : Type 0 where
  pub merging : IsMerging v h
  pub range : IsLogEntry v.locks.geometry entry
  pub asks : AsksFor v h entry action

-- the share of a place with a slot, and the promotion of a place, at their beginning
abbrev pub share_of : ℕ → ℕ → ℕ → ℕ → SharePlan
share_of h f i s =
    record { core = record { host = h; file = f; index = i; source = Arena s; taken = []; tables = [] }; stage = stages.Reads (tables.File f) }

abbrev pub promote_of : ℕ → ℕ → ℕ → PromotePlan
promote_of h f i =
    record { core = record { host = h; file = f; index = i; taken = []; tables = [] }; stage = doings.Reads (tables.File f) }

-- the first step of an action
abbrev pub begun : ℕ → LogEntry → Action → Acting
begun h entry (actions.Share s) = Shares (share_of h entry.file entry.index s)
begun h entry (actions.Promote f i) = Promotes (promote_of h entry.file entry.index)
begun h entry (actions.Post s) = Reads entry.file (record { digest = entry.digest; index = entry.index; slot = s })
begun h entry action = Over

-- the plan at another step
abbrev pub with_acting : ActPlan → Acting → ActPlan
with_acting plan acting = record { host = plan.host; entry = plan.entry; action = plan.action; acting = acting }

-- a share that is on its way: of the entry's place, or of the other one where the entry's was promoted to this slot
abbrev pub sharing_of : Option ℕ → SharePlan → Acting
sharing_of None plan = Shares plan
sharing_of (Some t) plan = SharesOther plan t

-- the slot to which the entry's place was promoted, 0 where it was not
abbrev pub slot_in : Option ℕ → ℕ
slot_in None = 0
slot_in (Some t) = t

-- the share is that of the action: of the entry's place with the slot of the index, or of the other place with the slot of the entry's
abbrev pub IsShareOf : LogEntry → Action → Option ℕ → Core → Type 0
IsShareOf entry (actions.Share s) None core = (core.file ≡ entry.file) × (core.index ≡ entry.index) × (core.source ≡ Arena s)
IsShareOf entry (actions.Promote f i) (Some t) core = (core.file ≡ f) × (core.index ≡ i) × (core.source ≡ Arena t)
IsShareOf entry action promoted core = ⊥

pub record IsSharing (v : WorldView) (h : ℕ) (entry : LogEntry) (action : Action) (promoted : Option ℕ) (plan : SharePlan) : Type 0 where
  pub host : plan.core.host ≡ h
  pub of : IsShareOf entry action promoted plan.core
  pub slot : slot_in promoted < arena_slots v.locks.geometry
  pub at : share.At v plan.core plan.stage

-- the promotion is that of the entry's place; the other place, as the index has it, is in range
pub record IsPromoting (v : WorldView) (h : ℕ) (entry : LogEntry) (action : Action) (plan : PromotePlan) : Type 0 where
  pub file : ℕ
  pub index : ℕ
  pub of : action ≡ actions.Promote file index
  pub other : IsPlace v.locks.geometry file index
  pub host : plan.core.host ≡ h
  pub here : (plan.core.file ≡ entry.file) × (plan.core.index ≡ entry.index)
  pub at : promotion.At v plan.core plan.stage

-- what a post ends with; the slot of its request is that to which the entry's place was promoted
abbrev pub post_outcome : Action → Outcome
post_outcome (actions.Promote f i) = outcomes.Promoted promoted.Posted
post_outcome action = outcomes.Done

abbrev pub post_slot : Action → Request → ℕ
post_slot (actions.Promote f i) request = request.slot
post_slot action request = 0

abbrev pub post_ended : Action → Request → Acted
post_ended action request = Done (post_outcome action) (post_slot action request)

-- the request that was to be posted by an action of which this came, and the file to which
abbrev pub request_of : LogEntry → Action → Acted → Option (ℕ × Request)
request_of entry action (Done outcome slot) = request_by entry slot action outcome
request_of entry action (Busy key) = None

-- the request is that of the action
pub record IsPosting (v : WorldView) (h : ℕ) (entry : LogEntry) (action : Action) (f : ℕ) (request : Request) : Type 0 where
  pub ready : IsReady v h
  pub file : f < v.locks.geometry.files
  pub range : IsRequest v.locks.geometry request
  pub of : request_of entry action (post_ended action request) ≡ Some (f, request)

-- what stands before each step
abbrev pub StandsAt : WorldView → ℕ → LogEntry → Action → Acting → Type 0
StandsAt v h entry action (Shares plan) = IsSharing v h entry action None plan
StandsAt v h entry action (SharesOther plan t) = IsSharing v h entry action (Some t) plan
StandsAt v h entry action (Promotes plan) = IsPromoting v h entry action plan
StandsAt v h entry action (Reads f request) = IsPosting v h entry action f request
StandsAt v h entry action (Posts f request block) = IsPosting v h entry action f request
StandsAt v h entry action Over = ⊥

-- a host of the volume that is joined, an entry in range, and the step that comes next is one of its action
pub record At (v : WorldView) (plan : ActPlan) : Type 0 where
  pub host : plan.host < v.locks.geometry.hosts
  pub joined : (host_at v.locks plan.host).joined ≡ true
  pub range : IsLogEntry v.locks.geometry plan.entry
  pub at : StandsAt v plan.host plan.entry plan.action plan.acting

-- what the merge has come to: nothing, but where a lock was busy
abbrev pub outcome_at : Acting → comes.Outcome
outcome_at (Shares plan) = outcome_by (answer_at plan.stage)
outcome_at (SharesOther plan t) = outcome_by (answer_at plan.stage)
outcome_at (Promotes plan) = promotion.outcome_by (promotion.answer_at plan.stage)
outcome_at acting = Open

-- the steps that are left at most, with the one that comes next: behind a promotion comes a share, or a post
abbrev pub left_at : Acting → ℕ
left_at (Shares plan) = lefts.left plan.core plan.stage
left_at (SharesOther plan t) = lefts.left plan.core plan.stage
left_at (Promotes plan) = promotion.left plan.core plan.stage + 18
left_at (Reads f request) = 2
left_at (Posts f request block) = 1
left_at Over = 0

abbrev pub left : ActPlan → ℕ
left plan = left_at plan.acting
