-- What a step of the plan did.
use Rattle.std.specs.Prelude.{◌≡◌, ◌<◌, ℕ, List, None, Option, Some}
use Rattle.vol_base.specs.declared.block.Block.{Block}
use Rattle.vol_base.specs.declared.command.Command.TheVariants.{Merge}
use Rattle.vol_layout.specs.declared.geometry.Geometry.{Geometry}
use Rattle.vol_layout.specs.declared.kind.Kind.TheVariants.{Request}
use Rattle.vol_layout.specs.Places.{place_of}
use Rattle.vol_layout.specs.Ranges.{arena_slots}
use Rattle.shared_disk.specs.Events.{Event, Reply, Shows, Tests, event}
use Rattle.shared_disk.specs.Events as calls
use Rattle.hint_blocks.specs.declared.entry.LogEntry.{LogEntry}
use Rattle.hint_blocks.specs.declared.entry.Request as requests
use Rattle.lock_store.specs.Views.{key_at}
use Rattle.host_facts.specs.Views.{WorldView}
use Rattle.plan_parts.specs.QuietCalls.{QuietCall}
use Rattle.plan_parts.specs.Steps.{IsReady}
use Rattle.plan_parts.specs.declared.outcome.Outcome.{Outcome}
use Rattle.plan_parts.specs.declared.outcome.Outcome.TheVariants as outcomes
use Rattle.share_plans.specs.Closings.{KeepsHolds}
use Rattle.share_plans.specs.Promotions as promotion
use Rattle.share_plans.specs.Promotions.{reached_of}
use Rattle.share_plans.specs.Went as share
use Rattle.share_plans.specs.declared.promote.PromotePlan.{PromotePlan}
use Rattle.share_plans.specs.declared.promotion.Promoted.{Promoted}
use Rattle.share_plans.specs.declared.share.SharePlan.{SharePlan}
use Rattle.share_plans.specs.declared.sharing.Shared.{Shared}
use Rattle.merge_decide.specs.Counted.{EndsWith}
use Rattle.merge_decide.specs.declared.action.Action.{Action}
use Rattle.merge_shelves.specs.Changes.{requested_with}
use Rattle.merge_steps.specs.Logs.{LogsRead}
use Rattle.merge_steps.specs.Steps.{MergeCame}
use Rattle.merge_actions.specs.Acts.{At, left, outcome_at, post_ended, request_of, with_acting}
use Rattle.merge_actions.specs.Behind.{acted_of, acting_behind, behind_promotion, behind_share, came_of}
use Rattle.merge_actions.specs.declared.acting.ActPlan.{ActPlan}
use Rattle.merge_actions.specs.declared.acting.Acted.{Acted}
use Rattle.merge_actions.specs.declared.acting.Acted.TheVariants.{Busy, Done}
use Rattle.merge_actions.specs.declared.acting.Acting.{Acting}
use Rattle.merge_actions.specs.declared.acting.Acting.TheVariants.{Over, Posts, Promotes, Reads, Shares, SharesOther}
use Rattle.merge_actions.specs.declared.acting.Came.{Came}
use Rattle.merge_actions.specs.declared.acting.Came.TheVariants.{Ended, More}

-- the plan is of the same entry
pub record IsSame (old new : ActPlan) : Type 0 where
  pub host : new.host ≡ old.host
  pub entry : new.entry ≡ old.entry
  pub action : new.action ≡ old.action

-- what the merge has come to behind a step: nothing, but where a lock was busy
abbrev pub outcome_behind : ActPlan → Option Acted → Outcome
outcome_behind plan None = outcome_at plan.acting
outcome_behind plan (Some (Done outcome slot)) = outcomes.Open
outcome_behind plan (Some (Busy key)) = outcomes.Busy key

-- what stands behind it: the outcome is one of the action, the slot is one of the arena, and the host is ready
abbrev pub HasActed : WorldView → ℕ → Action → Acted → Type 0
HasActed w h action (Done outcome slot) = IsReady w h × EndsWith action outcome × (slot < arena_slots w.locks.geometry)
HasActed w h action (Busy key) = IsReady w h

abbrev pub StandsBehind : WorldView → ActPlan → Option Acted → Type 0
StandsBehind w plan None = At w plan
StandsBehind w plan (Some acted) = HasActed w plan.host plan.action acted

-- where there was a request to post, the call tested some block of its file's requests, and set it to that with the request behind
abbrev pub IsPosted : Geometry → Event → Option (ℕ × requests.Request) → Type 0
IsPosted g e None = Unit {0}
IsPosted g e (Some to) = (block : Block) × (e.call ≡ Tests (place_of g (Request to.0)) block.0 (requested_with g block.0 to.1))

abbrev pub HasPosted : Geometry → Event → LogEntry → Action → Option Acted → Type 0
HasPosted g e entry action None = Unit {0}
HasPosted g e entry action (Some acted) = IsPosted g e (request_of entry action acted)

-- a share, or a promotion, made a step by this call, and what it answered says what comes next
abbrev pub DoesShare : WorldView → WorldView → Event → Option ℕ → SharePlan → Came → Type 0
DoesShare v w e to plan came =
    (after : SharePlan) × (answer : Option Shared) × (went : share.Went v w plan.core after.core plan.stage (share.came_of after.stage answer))
    × (went.event ≡ e) × (came ≡ behind_share to after answer)

abbrev pub DoesPromote : WorldView → WorldView → Event → ActPlan → PromotePlan → Came → Type 0
DoesPromote v w e old plan came =
    (after : PromotePlan) × (answer : Option Promoted)
    × (went : promotion.Went v w plan.core after.core plan.stage (reached_of after.stage answer)) × (went.event ≡ e)
    × (came ≡ behind_promotion w old.host old.entry old.action after answer)

-- what a step did. A post reads the block of requests of its file, and then sets that block to the one with the request behind, if it is still there
abbrev pub DoesAt : WorldView → WorldView → Event → ActPlan → Acting → Came → Type 0
DoesAt v w e old (Shares plan) came = DoesShare v w e None plan came
DoesAt v w e old (SharesOther plan t) came = DoesShare v w e (Some t) plan came
DoesAt v w e old (Promotes plan) came = DoesPromote v w e old plan came
DoesAt v w e old (Reads f request) came =
    (block : Block)
    × (e ≡ event (key_at v.locks old.host) (calls.Reads (place_of v.locks.geometry (Request f))) (Shows block.0))
    × (came ≡ More (Posts f request block))
DoesAt v w e old (Posts f request block) came =
    (reply : Reply)
    × (e ≡ event (key_at v.locks old.host)
    (Tests (place_of v.locks.geometry (Request f)) block.0 (requested_with v.locks.geometry block.0 request)) reply)
    × (came ≡ Ended (post_ended old.action request)) × (request_of old.entry old.action (post_ended old.action request) ≡ Some (f, request))
DoesAt v w e old Over came = ⊥

abbrev pub Does : WorldView → WorldView → Event → ActPlan → ActPlan → Option Acted → Type 0
Does v w e old new came = DoesAt v w e old old.acting (came_of new.acting came)

abbrev pub left_behind : ActPlan → Option Acted → ℕ
left_behind plan None = left plan
left_behind plan (Some acted) = 0

-- a step made its one call, which changed no file: its turn may make it in a merge, and whatever its notes say of the pending hints and of the own log
-- blocks, they say it behind the call
pub record Went (v w : WorldView) (old new : ActPlan) (came : Option Acted) : Type 0 where
  pub same : IsSame old new
  pub keeps : KeepsHolds old.host v w
  pub event : Event
  pub quiet : (pending : List LogEntry) (r : LogsRead)
      → QuietCall Merge old.host v w event (MergeCame old.host v (outcome_at old.acting) pending r)
      (MergeCame old.host w (outcome_behind new came) pending r)
  pub stands : StandsBehind w new came
  pub posted : HasPosted v.locks.geometry event old.entry old.action came
  pub does : Does v w event old new came
  pub less : left_behind new came < left old

-- a step that came to this
abbrev pub StepsTo : WorldView → WorldView → ActPlan → Came → Type 0
StepsTo v w old came = Went v w old (with_acting old (acting_behind came)) (acted_of came)
