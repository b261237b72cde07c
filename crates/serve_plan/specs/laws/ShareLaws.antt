-- The step of the share of a request.
use Rattle.std.proofs.Common.{◌≡◌, ◌+◌, ◌-◌, ◌<◌, ℕ, None, Option, Some, refl, ap, sym, subst, ◌∙◌, arith, length, inl}
use Rattle.vol_base.specs.declared.answer.ServeCounts.{ServeCounts}
use Rattle.vol_base.specs.declared.command.Command.TheVariants.{Serve}
use Rattle.vol_layout.specs.declared.geometry.Geometry.{Geometry}
use Rattle.lock_store.specs.Views.{key_at}
use Rattle.disk_locks.specs.Consistent.{Consistent}
use Rattle.host_facts.specs.Views.{WorldView}
use Rattle.host_runs.specs.HintCauses.{requested_hints}
use Rattle.plan_parts.specs.QuietCalls.{Noted, QuietCall, placed_of}
use Rattle.plan_parts.specs.declared.outcome.Outcome.{Outcome}
use Rattle.plan_parts.specs.declared.outcome.Outcome.TheVariants as outcomes
use Rattle.share_plans.specs.Closings.{KeepsHolds}
use Rattle.plan_parts.specs.Steps.{IsReady}
use Rattle.share_plans.specs.Went as share
use Rattle.share_plans.specs.Went.{MayShare, answer_at, came_of, outcome_by}
use Rattle.share_plans.specs.declared.share.SharePlan.{SharePlan}
use Rattle.share_plans.specs.declared.sharing.Shared.{Shared}
use Rattle.share_plans.specs.declared.sharing.Shared.TheVariants as shared
use Rattle.serve_plan.specs.Plans.{Agrees, HasFile, PlanStands, ServeNoted}
use Rattle.serve_plan.specs.Requests.{IsAnswered, IsBehind, counted, total}
use Rattle.serve_plan.specs.Steps.{Went}
use Rattle.serve_plan.specs.declared.plan.Come.{Come}
use Rattle.serve_plan.specs.declared.plan.Doing.TheVariants as doings
use Rattle.serve_plan.specs.declared.plan.Serving.{Serving}
use Rattle.serve_plan.specs.laws.NoteLaws.{noted_quiet, sum_by_share}
use Rattle.serve_plan.specs.laws.StepLaws.{went_busy, went_more, went_request}

may_serve : MayShare Serve
may_serve = (refl, λ f i n is. cc)

pub none_placed : (o : Option Shared) → placed_of (outcome_by o) ≡ None
none_placed None = refl
none_placed (Some shared.Linked) = refl
none_placed (Some shared.Already) = refl
none_placed (Some (shared.Differs at)) = refl
none_placed (Some shared.Hole) = refl
none_placed (Some shared.NoSource) = refl
none_placed (Some (shared.Busy key)) = refl

module _ (v w : WorldView) (h : ℕ) (old new : ServeCounts) (s : Serving) (plan after : SharePlan) (later : Consistent w.locks)
    (some : key_at v.locks h ≡ 0 → ⊥) (is : PlanStands v h old (doings.Shares s plan)) where
  abbrev was : Outcome
  was = outcome_by (answer_at plan.stage)

  module _ (answer : Option Shared) (went : share.Went v w plan.core after.core plan.stage (came_of after.stage answer)) where
    abbrev now : Outcome
    now = outcome_by (share.answer_of (came_of after.stage answer))

    quiet : QuietCall Serve h v w went.event (Noted Serve h v was) (Noted Serve h w now)
    quiet =
        subst (λ (x : ℕ). QuietCall Serve x v w went.event (Noted Serve x v was) (Noted Serve x w now)) is.at.1.host (went.quiet Serve may_serve)

    keeps : KeepsHolds h v w
    keeps = subst (λ (x : ℕ). KeepsHolds x v w) is.at.1.host went.keeps

    file : HasFile w h s.file
    file =
        let has = is.at.0.file in
        record {
          below = subst (λ (g : Geometry). s.file < g.files) (sym keeps.geometry) has.below;
          held = keeps.held s.file has.below ∙ has.held;
        }

    -- the notes: no request was read
    noted : (counts : ServeCounts) (more : ℕ) → total old + (length s.requests.entries - s.done) ≡ total counts + more
        → QuietCall Serve h v w went.event (Agrees h v old (doings.Shares s plan)) (ServeNoted h w now counts more (s.file + 1))
    noted counts more same =
        noted_quiet v w h went.event was now quiet keeps (Agrees h v old (doings.Shares s plan)) old counts
        (length s.requests.entries - s.done) more (s.file + 1) (s.file + 1) 0 (λ n at. at) (sum_by_share v.locks.geometry _ went.spares)
        (omega (arith, same)) (let below = is.at.0.file.below in omega (arith, below)) (λ f below held. inl below)

  -- it goes on
  shared_on : (come : Come) → share.Went v w plan.core after.core plan.stage (came_of after.stage None)
      → IsAnswered h s after None old new come → Went h v w old new (doings.Shares s plan) come
  shared_on come went answered =
      let k = keeps None went in
      let same_host = went.same.host ∙ is.at.1.host in
      subst (λ (n : ServeCounts). Went h v w old n (doings.Shares s plan) come) (sym answered.0)
      (subst (Went h v w old old (doings.Shares s plan)) (sym answered.1)
      (went_more v w h old old (doings.Shares s plan) went.event some was (none_placed (answer_at plan.stage)) (λ n at. at.noted)
      (doings.Shares s after) (noted None went old (length s.requests.entries - s.done) refl) (λ n at. at.noted.asks)
      (after, None, went, (refl, refl)) (record {
        host = subst (λ (g : Geometry). h < g.hosts) (sym k.geometry) is.host;
        at = (
          record {
            file = file None went;
            entries = is.at.0.entries ∙ ap (λ (g : Geometry). requested_hints g s.block.0) (sym k.geometry);
            volume = is.at.0.volume ∙ sym k.geometry;
            few = is.at.0.few;
            more = is.at.0.more;
          },
          record {
            request = is.at.1.request;
            here = is.at.1.here;
            host = same_host;
            file = went.same.file ∙ is.at.1.file;
            index = went.same.index ∙ is.at.1.index;
            source = went.same.source ∙ is.at.1.source;
            at = went.stands;
          },
        );
        few = is.few;
      }) k
      (let same = ap (λ (g : Geometry). g.files) k.geometry in let less = went.less in omega (arith, same, less))))

  -- it was answered, and is counted
  counted_on : (answer : Shared) (come : Come) → (went : share.Went v w plan.core after.core plan.stage (came_of after.stage (Some answer)))
      → outcome_by (Some answer) ≡ outcomes.Open → total (counted answer old) ≡ total old + 1 → new ≡ counted answer old
      → IsAnswered h s after (Some answer) old new come
      → IsBehind h (record s { done = s.done + 1 }) come → Went h v w old new (doings.Shares s plan) come
  counted_on answer come went stays one is_counted answered behind =
      let k = keeps (Some answer) went in
      let more = is.at.0.more in
      let few = is.few in
      let new_total : total new ≡ total old + 1 = ap total is_counted ∙ one in
      let less = went.less in
      went_request v w h old new (doings.Shares s plan) went.event some was (none_placed (answer_at plan.stage)) (λ n at. at.noted) later
      (subst (λ (x : ℕ). IsReady w x) (went.same.host ∙ is.at.1.host) went.stands.1) k is.host (record s { done = s.done + 1 }) come
      (file (Some answer) went)
      (is.at.0.entries ∙ ap (λ (g : Geometry). requested_hints g s.block.0) (sym k.geometry)) (is.at.0.volume ∙ sym k.geometry) is.at.0.few behind
      (subst (λ (o : Outcome). QuietCall Serve h v w went.event (Agrees h v old (doings.Shares s plan))
      (ServeNoted h w o new (length s.requests.entries - (s.done + 1)) (s.file + 1))) stays
      (noted (Some answer) went new (length s.requests.entries - (s.done + 1)) (omega (arith, more, new_total))))
      (after, Some answer, went, answered) (omega (arith, more, few, new_total)) (omega (arith, more, less))

  pub shared_went : (answer : Option Shared) (come : Come)
      → share.Went v w plan.core after.core plan.stage (came_of after.stage answer) → IsAnswered h s after answer old new come
      → Went h v w old new (doings.Shares s plan) come
  shared_went None come went answered = shared_on come went answered
  shared_went (Some (shared.Busy key)) come went answered =
      subst (λ (n : ServeCounts). Went h v w old n (doings.Shares s plan) come) (sym answered.0)
      (subst (Went h v w old old (doings.Shares s plan)) (sym answered.1)
      (went_busy v w h old old (doings.Shares s plan) went.event some was (none_placed (answer_at plan.stage)) (λ n at. at.noted) later
      (subst (λ (x : ℕ). IsReady w x) (went.same.host ∙ is.at.1.host) went.stands.1) (keeps (Some (shared.Busy key)) went) key
      (busy key went) (after, Some (shared.Busy key), went, (refl, refl)) (omega arith)))
    where
      busy : (key : _) (went : share.Went v w plan.core after.core plan.stage (came_of after.stage (Some (shared.Busy key))))
          → QuietCall Serve h v w went.event (Agrees h v old (doings.Shares s plan)) (Noted Serve h w (outcomes.Busy key))
      busy key went =
          let call = noted (Some (shared.Busy key)) went old (length s.requests.entries - s.done) refl in record {
            acts = call.acts;
            answered = call.answered;
            geometry = call.geometry;
            others = call.others;
            valid = call.valid;
            files = call.files;
            allowed = call.allowed;
            noted = λ n at. (call.noted n at).noted;
          }
  shared_went (Some shared.Linked) come went answered =
      counted_on shared.Linked come went refl (omega arith) answered.0 answered answered.1
  shared_went (Some shared.Already) come went answered =
      counted_on shared.Already come went refl (omega arith) answered.0 answered answered.1
  shared_went (Some (shared.Differs at)) come went answered =
      counted_on (shared.Differs at) come went refl (omega arith) answered.0 answered answered.1
  shared_went (Some shared.Hole) come went answered =
      counted_on shared.Hole come went refl (omega arith) answered.0 answered answered.1
  shared_went (Some shared.NoSource) come went answered =
      counted_on shared.NoSource come went refl (omega arith) answered.0 answered answered.1
