-- The step of a share: of the entry's place, or of the other place of a promotion.
use Rattle.std.proofs.Common.{◌≡◌, ◌<◌, ℕ, List, None, Option, Some, refl, sym, subst, ◌∙◌, arith}
use Rattle.vol_base.specs.declared.block.Key.{Key}
use Rattle.vol_base.specs.declared.command.Command.TheVariants.{Merge}
use Rattle.vol_layout.specs.declared.geometry.Geometry.{Geometry}
use Rattle.vol_layout.specs.Ranges.{arena_slots}
use Rattle.shared_disk.specs.Events.{Event}
use Rattle.hint_blocks.specs.declared.entry.LogEntry.{LogEntry}
use Rattle.host_facts.specs.Views.{WorldView}
use Rattle.plan_parts.specs.QuietCalls.{QuietCall}
use Rattle.plan_parts.specs.Steps.{IsReady}
use Rattle.plan_parts.specs.declared.outcome.Outcome.{Outcome}
use Rattle.plan_parts.specs.declared.outcome.Outcome.TheVariants as comes
use Rattle.share_plans.specs.Closings.{KeepsHolds}
use Rattle.share_plans.specs.Lefts as lefts
use Rattle.share_plans.specs.Went.{IsSame, answer_at, answer_of, came_of, outcome_by}
use Rattle.share_plans.specs.Went as sharing
use Rattle.share_plans.specs.declared.share.SharePlan.{SharePlan}
use Rattle.share_plans.specs.declared.sharing.Shared.{Shared}
use Rattle.share_plans.specs.declared.sharing.Shared.TheVariants as shared
use Rattle.share_plans.specs.declared.stage.Core.{Core}
use Rattle.merge_decide.specs.Counted.{EndsWith}
use Rattle.merge_decide.specs.declared.action.Action.{Action}
use Rattle.merge_decide.specs.declared.action.Action.TheVariants as actions
use Rattle.merge_decide.specs.declared.outcome.ShareOutcome.{ShareOutcome}
use Rattle.merge_decide.specs.declared.outcome.ShareOutcome.TheVariants as shares
use Rattle.merge_steps.specs.Logs.{LogsRead}
use Rattle.merge_steps.specs.Steps.{MergeCame}
use Rattle.merge_actions.specs.Acts.{At, IsShareOf, IsSharing, StandsAt, left_at, outcome_at, request_of, sharing_of, slot_in, with_acting}
use Rattle.merge_actions.specs.Behind.{behind_share, share_ended, share_outcome}
use Rattle.merge_actions.specs.Steps.{DoesAt, DoesShare, IsPosted, StepsTo}
use Rattle.merge_actions.specs.declared.acting.ActPlan.{ActPlan}
use Rattle.merge_actions.specs.declared.acting.Acted.TheVariants.{Busy}
use Rattle.merge_actions.specs.declared.acting.Came.{Came}
use Rattle.merge_actions.specs.declared.acting.Came.TheVariants.{Ended, More}
use Rattle.merge_actions.specs.laws.StepLaws.{acts_on, may_merge, merge_quiet}

-- both shares say the same
pub sharing_at : (v : WorldView) (h : ℕ) (entry : LogEntry) (action : Action) (to : Option ℕ) (plan : SharePlan)
    → StandsAt v h entry action (sharing_of to plan) → IsSharing v h entry action to plan
sharing_at v h entry action None plan at = at
sharing_at v h entry action (Some t) plan at = at

sharing_stands : (v : WorldView) (h : ℕ) (entry : LogEntry) (action : Action) (to : Option ℕ) (plan : SharePlan)
    → IsSharing v h entry action to plan → StandsAt v h entry action (sharing_of to plan)
sharing_stands v h entry action None plan at = at
sharing_stands v h entry action (Some t) plan at = at

sharing_outcome : (to : Option ℕ) (plan : SharePlan) → outcome_at (sharing_of to plan) ≡ outcome_by (answer_at plan.stage)
sharing_outcome None plan = refl
sharing_outcome (Some t) plan = refl

sharing_left : (to : Option ℕ) (plan : SharePlan) → left_at (sharing_of to plan) ≡ lefts.left plan.core plan.stage
sharing_left None plan = refl
sharing_left (Some t) plan = refl

sharing_does : (v w : WorldView) (e : Event) (old : ActPlan) (to : Option ℕ) (plan : SharePlan) (came : Came) → DoesShare v w e to plan came
    → DoesAt v w e old (sharing_of to plan) came
sharing_does v w e old None plan came does = does
sharing_does v w e old (Some t) plan came does = does

-- a share stays that of its action, and its outcome is one of the action
share_same : (entry : LogEntry) (action : Action) (to : Option ℕ) (old new : Core) → IsSame old new → IsShareOf entry action to old
    → IsShareOf entry action to new
share_same entry (actions.Share s) None old new same of = (same.file ∙ of.0, same.index ∙ of.1, same.source ∙ of.2)
share_same entry (actions.Promote f i) (Some t) old new same of = (same.file ∙ of.0, same.index ∙ of.1, same.source ∙ of.2)
share_same entry action to old new same of = absurd of

share_ends : (entry : LogEntry) (action : Action) (to : Option ℕ) (core : Core) (outcome : ShareOutcome) → IsShareOf entry action to core
    → EndsWith action (share_outcome to outcome) × (request_of entry action (share_ended to outcome) ≡ None)
share_ends entry (actions.Share s) None core outcome of = (tt, refl)
share_ends entry (actions.Promote f i) (Some t) core outcome of = (tt, refl)
share_ends entry action to core outcome of = absurd of

module _ (v w : WorldView) (plan : ActPlan) (to : Option ℕ) (before after : SharePlan)
    (is : At v (with_acting plan (sharing_of to before))) where
  abbrev old : ActPlan
  old = with_acting plan (sharing_of to before)

  stands : IsSharing v plan.host plan.entry plan.action to before
  stands = sharing_at v plan.host plan.entry plan.action to before is.at

  module _ (answer : Option Shared) (went : sharing.Went v w before.core after.core before.stage (came_of after.stage answer)) where
    same_host : after.core.host ≡ plan.host
    same_host = went.same.host ∙ stands.host

    keeps : KeepsHolds plan.host v w
    keeps = subst (λ (x : ℕ). KeepsHolds x v w) stands.host went.keeps

    quiet : (now : Outcome) → outcome_by (answer_of (came_of after.stage answer)) ≡ now → (pending : List LogEntry) (r : LogsRead)
        → QuietCall Merge plan.host v w went.event (MergeCame plan.host v (outcome_at (sharing_of to before)) pending r)
        (MergeCame plan.host w now pending r)
    quiet now is_now pending r =
        subst (λ (o : Outcome). QuietCall Merge plan.host v w went.event (MergeCame plan.host v o pending r) (MergeCame plan.host w now pending r))
        (sym (sharing_outcome to before))
        (subst (λ (o : Outcome).
        QuietCall Merge plan.host v w went.event (MergeCame plan.host v (outcome_by (answer_at before.stage)) pending r)
        (MergeCame plan.host w o pending r)) is_now
        (merge_quiet v w before.core.host plan.host went.event (outcome_by (answer_at before.stage))
        (outcome_by (answer_of (came_of after.stage answer))) stands.host went.spares (went.quiet Merge may_merge) pending r))

    does : (came : Came) → came ≡ behind_share to after answer → DoesAt v w went.event old (sharing_of to before) came
    does came is_came = sharing_does v w went.event old to before came (after, answer, went, refl, is_came)

  -- it goes on
  shared_more : sharing.Went v w before.core after.core before.stage (came_of after.stage None) → StepsTo v w old (More (sharing_of to after))
  shared_more went =
      let k = keeps None went in
      acts_on v w old (sharing_of to after) went.event is k (quiet None went (outcome_at (sharing_of to after)) (sym (sharing_outcome to after)))
      (sharing_stands w plan.host plan.entry plan.action to after (record {
        host = same_host None went;
        of = share_same plan.entry plan.action to before.core after.core went.same stands.of;
        slot = subst (λ (g : Geometry). slot_in to < arena_slots g) (sym k.geometry) stands.slot;
        at = went.stands;
      })) (does None went (More (sharing_of to after)) refl)
      (let a = sharing_left to before in let b = sharing_left to after in let less = went.less in omega (arith, a, b, less))

  -- a lock is busy
  shared_busy : (key : Key) → sharing.Went v w before.core after.core before.stage (came_of after.stage (Some (shared.Busy key)))
      → StepsTo v w old (Ended (Busy key))
  shared_busy key went = record {
    same = record { host = refl; entry = refl; action = refl };
    keeps = keeps (Some (shared.Busy key)) went;
    event = went.event;
    quiet = quiet (Some (shared.Busy key)) went (comes.Busy key) refl;
    stands = subst (IsReady w) (same_host (Some (shared.Busy key)) went) went.stands.1;
    posted = tt;
    does = does (Some (shared.Busy key)) went (Ended (Busy key)) refl;
    less = let a = sharing_left to before in let less = went.less in omega (arith, a, less);
  }

  -- it is known what came of it
  shared_done : (answer : Shared) (outcome : ShareOutcome) → outcome_by (Some answer) ≡ comes.Open
      → Ended (share_ended to outcome) ≡ behind_share to after (Some answer)
      → sharing.Went v w before.core after.core before.stage (came_of after.stage (Some answer))
      → StepsTo v w old (Ended (share_ended to outcome))
  shared_done answer outcome stays behind went =
      let k = keeps (Some answer) went in
      let ends = share_ends plan.entry plan.action to before.core outcome stands.of in record {
        same = record { host = refl; entry = refl; action = refl };
        keeps = k;
        event = went.event;
        quiet = quiet (Some answer) went comes.Open stays;
        stands = (
          subst (IsReady w) (same_host (Some answer) went) went.stands.1,
          ends.0,
          subst (λ (g : Geometry). slot_in to < arena_slots g) (sym k.geometry) stands.slot,
        );
        posted = subst (IsPosted v.locks.geometry went.event) (sym ends.1) tt;
        does = does (Some answer) went (Ended (share_ended to outcome)) behind;
        less = let a = sharing_left to before in let less = went.less in omega (arith, a, less);
      }

  pub shared_went : (answer : Option Shared) → sharing.Went v w before.core after.core before.stage (came_of after.stage answer)
      → StepsTo v w old (behind_share to after answer)
  shared_went None went = shared_more went
  shared_went (Some (shared.Busy key)) went = shared_busy key went
  shared_went (Some shared.Linked) went = shared_done shared.Linked shares.Linked refl refl went
  shared_went (Some shared.Already) went = shared_done shared.Already shares.Already refl refl went
  shared_went (Some (shared.Differs at)) went = shared_done (shared.Differs at) shares.Differs refl refl went
  shared_went (Some shared.NoSource) went = shared_done shared.NoSource shares.NoSource refl refl went
  shared_went (Some shared.Hole) went = shared_done shared.Hole shares.Hole refl refl went
