-- What each way on and out of the plan owes, and what stands behind it.
use Rattle.std.proofs.Common.{◌≡◌, ◌≢◌, ◌+◌, ◌-◌, ◌*◌, ◌<◌, ◌≤◌, ℕ, None, Option, Some, ap, sym, subst, arith, length, inl, inr}
use Rattle.vol_base.specs.declared.answer.Answer.TheVariants as answers
use Rattle.vol_base.specs.declared.answer.ServeCounts.{ServeCounts}
use Rattle.vol_base.specs.declared.block.Key.{Key}
use Rattle.vol_base.specs.declared.command.Command.TheVariants.{Serve}
use Rattle.vol_layout.specs.declared.geometry.Geometry.{Geometry}
use Rattle.vol_layout.specs.declared.field.Field.TheVariants.{Slot}
use Rattle.vol_layout.specs.Fields.{HasField}
use Rattle.shared_disk.specs.Events.{Event}
use Rattle.lock_store.specs.Views.{key_at}
use Rattle.disk_locks.specs.Consistent.{Consistent}
use Rattle.host_facts.specs.Views.{WorldView}
use Rattle.host_notes.specs.laws.VolumeEndings.{owes_no_other}
use Rattle.host_notes.specs.laws.VolumeOwes.{owes_busy_on, owes_served}
use Rattle.host_runs.specs.HintCauses.{requested_hints}
use Rattle.host_runs.specs.Notes.{Notes}
use Rattle.plan_parts.specs.QuietCalls.{Noted, QuietCall, placed_of}
use Rattle.plan_parts.specs.Steps.{IsReady, OwesStep}
use Rattle.plan_parts.specs.declared.outcome.Outcome.{Outcome}
use Rattle.plan_parts.specs.declared.outcome.Outcome.TheVariants as outcomes
use Rattle.plan_parts.specs.laws.VolumeSteps.{volume_step_ends, volume_step_goes_on}
use Rattle.share_plans.specs.Closings.{KeepsHolds}
use Rattle.share_plans.specs.Stands as share
use Rattle.share_plans.specs.Went.{answer_at, outcome_by}
use Rattle.share_plans.specs.declared.sharing.Place.TheVariants.{Arena}
use Rattle.share_plans.specs.declared.stage.Core.{Core}
use Rattle.share_plans.specs.declared.stage.Stage.{Stage}
use Rattle.share_plans.specs.laws.ShareStays.{share_begins}
use Rattle.serve_plan.specs.Files.{IsNextHeld, behind_file, next_file}
use Rattle.serve_plan.specs.Plans.{Agrees, HasFile, PlanStands, ServeNoted, left}
use Rattle.serve_plan.specs.Requests.{IsBehind, core_of, total}
use Rattle.serve_plan.specs.Steps.{Does, Went, step_of}
use Rattle.serve_plan.specs.declared.plan.Come.{Come}
use Rattle.serve_plan.specs.declared.plan.Come.TheVariants.{Answered, More}
use Rattle.serve_plan.specs.declared.plan.Doing.{Doing}
use Rattle.serve_plan.specs.declared.plan.Doing.TheVariants as doings
use Rattle.serve_plan.specs.declared.plan.Serving.{Serving}
use Rattle.serve_plan.specs.laws.NoteLaws.{has_served}

module _ (v w : WorldView) (h : ℕ) (old new : ServeCounts) (doing : Doing) (e : Event) (some : key_at v.locks h ≢ 0) (was : Outcome)
    (nothing : placed_of was ≡ None) (before : (n : Notes) → Agrees h v old doing n → Noted Serve h v was n) where
  owes_more : (later : Doing) → QuietCall Serve h v w e (Agrees h v old doing) (Agrees h w new later)
      → ((n : Notes) → Agrees h w new later n → n.asks ≡ None)
      → OwesStep Serve h v w (step_of (More later)) (Agrees h v old doing) (Agrees h w new later)
  owes_more later quiet asks =
      volume_step_goes_on Serve h v w e tt some was nothing (Agrees h v old doing) (Agrees h w new later) before quiet (Agrees h w new later) asks
      (λ n is. is) (λ n is. owes_no_other _ None tt)

  -- the share goes on
  pub went_more : (later : Doing) → QuietCall Serve h v w e (Agrees h v old doing) (Agrees h w new later)
      → ((n : Notes) → Agrees h w new later n → n.asks ≡ None) → Does h v w old new doing (More later) → PlanStands w h new later
      → KeepsHolds h v w → left w.locks.geometry later < left v.locks.geometry doing → Went h v w old new doing (More later)
  went_more later quiet asks does stands keeps fewer =
      record { owes = owes_more later quiet asks; does = does; stands = stands; keeps = keeps; fewer = fewer }

  module _ (c : Consistent w.locks) (ready : IsReady w h) (keeps : KeepsHolds h v w) where
    -- a busy lock is answered
    pub went_busy : (key : Key) → QuietCall Serve h v w e (Agrees h v old doing) (Noted Serve h w (outcomes.Busy key))
        → Does h v w old new doing (Answered (answers.Busy key)) → 0 < left v.locks.geometry doing
        → Went h v w old new doing (Answered (answers.Busy key))
    went_busy key quiet does fewer = record {
      owes = volume_step_ends Serve h v w e tt some was nothing (Agrees h v old doing) (Noted Serve h w (outcomes.Busy key)) before quiet c ready
          (λ n is. is.remembered) (answers.Busy key) (λ n. n.pending)
          (λ n is turn now rests.
          owes_busy_on v.locks.geometry h v.locks.disk w.locks.disk (Some e) n Serve key turn tt now.shown_is
          (owes_no_other _ (Some (answers.Busy key)) tt) rests);
      does = does;
      stands = ready;
      keeps = keeps;
      fewer = fewer;
    }

    module _ (host : h < v.locks.geometry.hosts) where
      -- the next file comes
      pub went_file : (first : ℕ) (next : Option ℕ) → IsNextHeld w h first next
          → QuietCall Serve h v w e (Agrees h v old doing) (ServeNoted h w outcomes.Open new 0 (next_file v.locks.geometry next))
          → Does h v w old new doing (behind_file next new) → total new ≤ 126 * first
          → 2270 * (v.locks.geometry.files - first) < left v.locks.geometry doing → Went h v w old new doing (behind_file next new)
      went_file first (Some f) is quiet does few fewer =
          went_more (doings.Reads f) quiet (λ n now. now.noted.asks) does (record {
            host = subst (λ (g : Geometry). h < g.hosts) (sym keeps.geometry) host;
            at = (ready, record { below = is.below; held = is.held });
            few = let after = is.after in omega (arith, few, after);
          }) keeps
          (let same = ap (λ (g : Geometry). g.files) keeps.geometry in let after = is.after in omega (arith, same, after, fewer))
      went_file first None is quiet does few fewer = record {
        owes = volume_step_ends Serve h v w e tt some was nothing (Agrees h v old doing)
            (ServeNoted h w outcomes.Open new 0 w.locks.geometry.files) before
            (subst (λ (k : ℕ). QuietCall Serve h v w e (Agrees h v old doing) (ServeNoted h w outcomes.Open new 0 k))
            (ap (λ (g : Geometry). g.files) (sym keeps.geometry)) quiet) c ready
            (λ n now. now.noted.remembered) (answers.Served new) (λ n. n.pending)
            (λ n was_so turn now rests.
            owes_served v.locks.geometry h v.locks.disk w.locks.disk (Some e) n new turn
            (has_served w h new _ (sym keeps.geometry) now)
            now.noted.shown_is rests);
        does = does;
        stands = ready;
        keeps = keeps;
        fewer = omega (arith, fewer);
      }

      -- the next request comes
      pub went_request : (s : Serving) (come : Come) → HasFile w h s.file → s.requests.entries ≡ requested_hints w.locks.geometry s.block.0
          → s.requests.geometry ≡ w.locks.geometry → length s.requests.entries ≤ 126 → IsBehind h s come
          → QuietCall Serve h v w e (Agrees h v old doing)
          (ServeNoted h w outcomes.Open new (length s.requests.entries - s.done) (s.file + 1))
          → Does h v w old new doing come → total new + (length s.requests.entries - s.done) ≤ 126 * (s.file + 1)
          → 2270 * (v.locks.geometry.files - s.file - 1) + 18 * (length s.requests.entries - s.done) + 2 ≤ left v.locks.geometry doing
          → Went h v w old new doing come
      went_request s come file entries volume many (inl (plan, begun, is)) quiet does few fewer =
          subst (Went h v w old new doing) (sym is)
          (went_more (doings.Shares s plan)
          (subst (λ (o : Outcome). QuietCall Serve h v w e (Agrees h v old doing)
          (ServeNoted h w o new (length s.requests.entries - s.done) (s.file + 1)))
          (sym (ap (λ (t : Stage). outcome_by (answer_at t)) begun.stage)) quiet)
          (λ n now. now.noted.asks) (subst (Does h v w old new doing) is does) (record {
            host = host_now;
            at = (
              record { file = file; entries = entries; volume = volume; few = many; more = begun.less },
              record {
                request = begun.request;
                here = begun.here;
                host = ap (λ (k : Core). k.host) begun.core;
                file = ap (λ (k : Core). k.file) begun.core;
                index = ap (λ (k : Core). k.index) begun.core;
                source = ap (λ (k : Core). k.source) begun.core;
                at = subst (λ (k : Core). share.At w k plan.stage) (sym begun.core)
                    (subst (share.At w (core_of h s.file begun.request)) (sym begun.stage)
                    (share_begins w h s.file begun.request.index (Arena begun.request.slot) ready places));
              },
            );
            few = few;
          }) keeps
          (let same = ap (λ (g : Geometry). g.files) keeps.geometry in
          let less = begun.less in
          let steps = begun.few in omega (arith, same, less, steps, fewer)))
        where
          host_now : h < w.locks.geometry.hosts
          host_now = subst (λ (g : Geometry). h < g.hosts) (sym keeps.geometry) host

          places : share.HasPlaces w h s.file (Arena begun.request.slot)
          places = record {
            is_host = record { host = host_now; file = file.below; joined = ready.joined; held = file.held };
            from = subst (λ (g : Geometry). HasField g (Slot begun.request.slot)) volume begun.range.1;
          }
      went_request s come file entries volume many (inr (all, is)) quiet does few fewer =
          let none : length s.requests.entries - s.done ≡ 0 = omega (arith, all) in
          subst (Went h v w old new doing) (sym is)
          (went_more (doings.Empties s.file s.block)
          (subst (λ (k : ℕ). QuietCall Serve h v w e (Agrees h v old doing) (ServeNoted h w outcomes.Open new k (s.file + 1))) none quiet)
          (λ n now. now.noted.asks) (subst (Does h v w old new doing) is does) (record {
            host = subst (λ (g : Geometry). h < g.hosts) (sym keeps.geometry) host;
            at = (ready, file);
            few = omega (arith, few);
          }) keeps
          (let same = ap (λ (g : Geometry). g.files) keeps.geometry in omega (arith, same, fewer)))
