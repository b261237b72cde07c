-- The step of the promotion of an entry's place.
use Rattle.std.proofs.Common.{◌≡◌, ◌≢◌, ◌<◌, ◌∙◌, ℕ, List, true, false, None, Option, Some, refl, ap, sym, subst, arith, inl, inr}
use Rattle.std.proofs.lemmas.Bool.{cases_Bool}
use Rattle.vol_base.specs.declared.block.Key.{Key}
use Rattle.vol_base.specs.declared.command.Command.TheVariants.{Merge}
use Rattle.vol_layout.specs.declared.geometry.Geometry.{Geometry}
use Rattle.vol_layout.specs.declared.kind.Resource.TheVariants.{File}
use Rattle.vol_layout.specs.Ranges.{arena_slots, per_table}
use Rattle.hint_blocks.specs.declared.entry.LogEntry.{LogEntry}
use Rattle.hint_blocks.specs.declared.entry.Request.{Request}
use Rattle.hint_blocks.specs.Entries.{IsPlace}
use Rattle.lock_store.specs.Memories.{holds}
use Rattle.lock_store.specs.Views.{host_at}
use Rattle.disk_locks.specs.Consistent.{Consistent}
use Rattle.host_facts.specs.Views.{WorldView}
use Rattle.plan_parts.specs.QuietCalls.{QuietCall}
use Rattle.plan_parts.specs.Steps.{IsReady}
use Rattle.plan_parts.specs.declared.outcome.Outcome.{Outcome}
use Rattle.plan_parts.specs.declared.outcome.Outcome.TheVariants as comes
use Rattle.share_plans.specs.Closings.{KeepsHolds}
use Rattle.share_plans.specs.Promotions as promoting
use Rattle.share_plans.specs.Promotions.{answer_at, answer_of, outcome_by, reached_of}
use Rattle.share_plans.specs.declared.promote.PromotePlan.{PromotePlan}
use Rattle.share_plans.specs.declared.promotion.Promoted.{Promoted}
use Rattle.share_plans.specs.declared.promotion.Promoted.TheVariants as answers
use Rattle.share_plans.specs.declared.sharing.Place.TheVariants.{Arena}
use Rattle.share_plans.specs.laws.ShareStays.{share_begins}
use Rattle.merge_decide.specs.Counted.{EndsWith}
use Rattle.merge_decide.specs.declared.action.Action.{Action}
use Rattle.merge_decide.specs.declared.action.Action.TheVariants.{Promote}
use Rattle.merge_decide.specs.declared.outcome.Outcome.TheVariants as outcomes
use Rattle.merge_decide.specs.declared.outcome.PromoteOutcome.{PromoteOutcome}
use Rattle.merge_decide.specs.declared.outcome.PromoteOutcome.TheVariants as promoted
use Rattle.merge_steps.specs.Logs.{LogsRead}
use Rattle.merge_steps.specs.Steps.{MergeCame}
use Rattle.merge_actions.specs.Acts.{At, IsShareOf, StandsAt, left_at, outcome_at, post_ended, request_of, share_of, with_acting}
use Rattle.merge_actions.specs.Behind.{behind_promotion, other_of}
use Rattle.merge_actions.specs.Steps.{IsPosted, StepsTo}
use Rattle.merge_actions.specs.declared.acting.ActPlan.{ActPlan}
use Rattle.merge_actions.specs.declared.acting.Acted.TheVariants.{Busy, Done}
use Rattle.merge_actions.specs.declared.acting.Acting.{Acting}
use Rattle.merge_actions.specs.declared.acting.Acting.TheVariants.{Promotes, Reads, SharesOther}
use Rattle.merge_actions.specs.declared.acting.Came.TheVariants.{Ended, More}
use Rattle.merge_actions.specs.laws.StepLaws.{acts_on, may_merge, merge_quiet}

-- an outcome of a promotion that posts nothing
ended_none : (entry : LogEntry) (action : Action) (f i : ℕ) (outcome : PromoteOutcome) → action ≡ Promote f i → outcome ≢ promoted.Posted
    → request_of entry action (Done (outcomes.Promoted outcome) 0) ≡ None
ended_none entry action f i outcome is other =
    ap (λ (a : Action). request_of entry a (Done (outcomes.Promoted outcome) 0)) is ∙ none outcome other
  where
    none : (outcome : PromoteOutcome) → outcome ≢ promoted.Posted
        → request_of entry (Promote f i) (Done (outcomes.Promoted outcome) 0) ≡ None
    none promoted.Posted other = absurd (other refl)
    none outcome other = refl

-- what comes of the other place
other_held : (w : WorldView) (h : ℕ) (entry : LogEntry) (action : Action) (f i t : ℕ) → action ≡ Promote f i
    → holds (host_at w.locks h) (File f) ≡ true → other_of w h entry action t ≡ More (SharesOther (share_of h f i t) t)
other_held w h entry action f i t is held = ap (λ (a : Action). other_of w h entry a t) is ∙ rw held refl

other_free : (w : WorldView) (h : ℕ) (entry : LogEntry) (action : Action) (f i t : ℕ) → action ≡ Promote f i
    → holds (host_at w.locks h) (File f) ≡ false
    → other_of w h entry action t ≡ More (Reads f (record { digest = entry.digest; index = i; slot = t }))
other_free w h entry action f i t is free = ap (λ (a : Action). other_of w h entry a t) is ∙ rw free refl

module _ (v w : WorldView) (plan : ActPlan) (before after : PromotePlan) (later : Consistent w.locks)
    (is : At v (with_acting plan (Promotes before))) where
  abbrev old : ActPlan
  old = with_acting plan (Promotes before)

  module _ (answer : Option Promoted) (went : promoting.Went v w before.core after.core before.stage (reached_of after.stage answer)) where
    same_host : after.core.host ≡ plan.host
    same_host = went.same.host ∙ is.at.host

    keeps : KeepsHolds plan.host v w
    keeps = subst (λ (x : ℕ). KeepsHolds x v w) is.at.host went.keeps

    other : IsPlace w.locks.geometry is.at.file is.at.index
    other = subst (λ (g : Geometry). IsPlace g is.at.file is.at.index) (sym keeps.geometry) is.at.other

    quiet : (now : Outcome) → outcome_by (answer_of (reached_of after.stage answer)) ≡ now → (pending : List LogEntry) (r : LogsRead)
        → QuietCall Merge plan.host v w went.event (MergeCame plan.host v (outcome_by (answer_at before.stage)) pending r)
        (MergeCame plan.host w now pending r)
    quiet now is_now pending r =
        subst (λ (o : Outcome).
        QuietCall Merge plan.host v w went.event (MergeCame plan.host v (outcome_by (answer_at before.stage)) pending r)
        (MergeCame plan.host w o pending r)) is_now
        (merge_quiet v w before.core.host plan.host went.event (outcome_by (answer_at before.stage))
        (outcome_by (answer_of (reached_of after.stage answer))) is.at.host went.spares (went.quiet Merge may_merge) pending r)

    -- it goes on with what stands
    goes : (acting : Acting) → outcome_by (answer_of (reached_of after.stage answer)) ≡ outcome_at acting
        → StandsAt w plan.host plan.entry plan.action acting
        → More acting ≡ behind_promotion w plan.host plan.entry plan.action after answer
        → left_at acting < left_at (Promotes before) → StepsTo v w old (More acting)
    goes acting is_now stands behind less =
        acts_on v w old acting went.event is keeps (quiet (outcome_at acting) is_now) stands (after, answer, went, refl, behind) less

  promote_more : (went : promoting.Went v w before.core after.core before.stage (reached_of after.stage None)) → StepsTo v w old (More (Promotes after))
  promote_more went =
      goes None went (Promotes after) refl (record {
        file = is.at.file;
        index = is.at.index;
        of = is.at.of;
        other = other None went;
        host = same_host None went;
        here = (went.same.file ∙ is.at.here.0, went.same.index ∙ is.at.here.1);
        at = went.stands;
      }) refl (let less = went.less in omega (arith, less))

  -- a lock is busy
  promote_busy : (key : Key) → promoting.Went v w before.core after.core before.stage (reached_of after.stage (Some (answers.Busy key)))
      → StepsTo v w old (Ended (Busy key))
  promote_busy key went = record {
    same = record { host = refl; entry = refl; action = refl };
    keeps = keeps (Some (answers.Busy key)) went;
    event = went.event;
    quiet = quiet (Some (answers.Busy key)) went (comes.Busy key) refl;
    stands = subst (IsReady w) (same_host (Some (answers.Busy key)) went) went.stands.1;
    posted = tt;
    does = (after, Some (answers.Busy key), went, refl, refl);
    less = let less = went.less in omega (arith, less);
  }

  -- it was not promoted
  promote_none : (answer : Promoted) (outcome : PromoteOutcome) → outcome_by (Some answer) ≡ comes.Open → outcome ≢ promoted.Posted
      → Ended (Done (outcomes.Promoted outcome) 0) ≡ behind_promotion w plan.host plan.entry plan.action after (Some answer)
      → promoting.Went v w before.core after.core before.stage (reached_of after.stage (Some answer))
      → StepsTo v w old (Ended (Done (outcomes.Promoted outcome) 0))
  unfolding arena_slots per_table
  promote_none answer outcome stays other behind went = record {
    same = record { host = refl; entry = refl; action = refl };
    keeps = keeps (Some answer) went;
    event = went.event;
    quiet = quiet (Some answer) went comes.Open stays;
    stands = (
      subst (IsReady w) (same_host (Some answer) went) went.stands.1,
      subst (λ (a : Action). EndsWith a (outcomes.Promoted outcome)) (sym is.at.of) tt,
      let some = later.geometry.parts.0 in omega (arith, some),
    );
    posted = subst (IsPosted v.locks.geometry went.event)
        (sym (ended_none plan.entry plan.action is.at.file is.at.index outcome is.at.of other)) tt;
    does = (after, Some answer, went, refl, behind);
    less = let less = went.less in omega (arith, less);
  }

  -- it was promoted to a slot
  module _ (t : ℕ) (went : promoting.Went v w before.core after.core before.stage (reached_of after.stage (Some (answers.Promoted t)))) where
    ready : IsReady w plan.host
    ready = subst (IsReady w) (same_host (Some (answers.Promoted t)) went) went.stands.1

    k : KeepsHolds plan.host v w
    k = keeps (Some (answers.Promoted t)) went

    there : IsPlace w.locks.geometry is.at.file is.at.index
    there = other (Some (answers.Promoted t)) went

    other_shares : holds (host_at w.locks plan.host) (File is.at.file) ≡ true
        → StepsTo v w old (More (SharesOther (share_of plan.host is.at.file is.at.index t) t))
    other_shares held =
        goes (Some (answers.Promoted t)) went (SharesOther (share_of plan.host is.at.file is.at.index t) t) refl (record {
          host = refl;
          of = subst (λ (a : Action). IsShareOf plan.entry a (Some t) (share_of plan.host is.at.file is.at.index t).core) (sym is.at.of)
              (refl, refl, refl);
          slot = went.stands.2;
          at = share_begins w plan.host is.at.file is.at.index (Arena t) ready (record {
            is_host = record {
              host = subst (λ (g : Geometry). plan.host < g.hosts) (sym k.geometry) is.host;
              file = there.0;
              joined = ready.joined;
              held = held;
            };
            from = went.stands.2;
          });
        }) (sym (other_held w plan.host plan.entry plan.action is.at.file is.at.index t is.at.of held))
        (let less = went.less in omega (arith, less))

    other_posts : holds (host_at w.locks plan.host) (File is.at.file) ≡ false
        → StepsTo v w old (More (Reads is.at.file (record { digest = plan.entry.digest; index = is.at.index; slot = t })))
    other_posts free =
        let request : Request = record { digest = plan.entry.digest; index = is.at.index; slot = t } in
        goes (Some (answers.Promoted t)) went (Reads is.at.file request) refl (record {
          ready = ready;
          file = there.0;
          range = (there.1, went.stands.2);
          of = ap (λ (a : Action). request_of plan.entry a (post_ended a request)) is.at.of;
        }) (sym (other_free w plan.host plan.entry plan.action is.at.file is.at.index t is.at.of free))
        (let less = went.less in omega (arith, less))

    promote_done : StepsTo v w old (other_of w plan.host plan.entry plan.action t)
    promote_done = elim (cases_Bool (holds (host_at w.locks plan.host) (File is.at.file))) [
      | inl held ↦
          subst (StepsTo v w old) (sym (other_held w plan.host plan.entry plan.action is.at.file is.at.index t is.at.of held)) (other_shares held)
      | inr free ↦
          subst (StepsTo v w old) (sym (other_free w plan.host plan.entry plan.action is.at.file is.at.index t is.at.of free)) (other_posts free)
    ]

  pub promoted_went : (answer : Option Promoted)
      → promoting.Went v w before.core after.core before.stage (reached_of after.stage answer)
      → StepsTo v w old (behind_promotion w plan.host plan.entry plan.action after answer)
  promoted_went None went = promote_more went
  promoted_went (Some (answers.Busy key)) went = promote_busy key went
  promoted_went (Some (answers.Promoted t)) went = promote_done t went
  promoted_went (Some answers.Marked) went = promote_none answers.Marked promoted.Marked refl (λ same. cc) refl went
  promoted_went (Some answers.Hole) went = promote_none answers.Hole promoted.Hole refl (λ same. cc) refl went
  promoted_went (Some answers.PartFull) went = promote_none answers.PartFull promoted.PartFull refl (λ same. cc) refl went
