-- What stands between two steps of the plan of a joined host stands over the calls of other hosts.
use Rattle.std.proofs.Common.{◌≡◌, ◌≢◌, ◌<◌, ℕ, List, [], Option, ap, sym, subst, ◌∙◌}
use Rattle.lock_store.specs.Views.{host_at}
use Rattle.vol_layout.specs.declared.geometry.Geometry.{Geometry}
use Rattle.slot_lock_blocks.specs.Slots.{slot_key}
use Rattle.lock_store.specs.declared.host.HostState.{HostState}
use Rattle.lock_store.specs.SlotTries.{slot_by}
use Rattle.disk_locks.specs.Consistent.{Consistent}
use Rattle.watch.specs.declared.watch.Look.{Look}
use Rattle.host_facts.specs.Facts.Fact.{Given, RecordIs}
use Rattle.host_facts.specs.Others.{Others}
use Rattle.host_facts.specs.Views.{WorldView}
use Rattle.plan_parts.specs.Steps.{IsReady}
use Rattle.plan_parts.specs.laws.TakenLaws.{taking_still}
use Rattle.vol_base.specs.declared.command.Command.{Command}
use Rattle.host_runs.specs.Awaited.{wanted}
use Rattle.host_runs.specs.Notes.{Notes}
use Rattle.host_notes.specs.Remembered.{IsRemembered}
use Rattle.plan_parts.specs.QuietCalls.{IsFullNoted}
use Rattle.plan_parts.specs.declared.outcome.Outcome.TheVariants.{Open}
use Rattle.recover_plan.specs.PlanSteps.{AreWatched, OpenNoted}
use Rattle.recover_plan.specs.Plans.{IsRecovering, PlanStands}
use Rattle.recover_plan.specs.declared.plan.Doing.TheVariants.{Again, Beat, Begin, First, Free, Look as Looks, Unlock}
use Rattle.recover_plan.specs.declared.replay.Going.TheVariants as goings
use Rattle.recover_plan.specs.declared.replay.Replay.{Replay}
use Rattle.recover_plan.specs.laws.StageLaws.{behind_still, stands_still}
use Rattle.recover_plan.specs.laws.StepLaws.{ready_key}
use Rattle.vol_base.specs.declared.block.Key.{Key}

module _ (v w : WorldView) (h x : ℕ) (watch : List (Option Look)) (c : Consistent v.locks) (others : Others x v w) (apart : h ≢ x) where
  pub below_still : (y : ℕ) → y < v.locks.geometry.hosts → y < w.locks.geometry.hosts
  below_still y below = subst (λ (g : Geometry). y < g.hosts) (sym others.locks.lasts.geometry) below

  -- a ready host
  pub ready_still : IsReady v h → IsReady w h
  ready_still ready =
      let some = ready_key v h c ready in record {
        joined = ap (λ (m : HostState). m.joined) (others.locks.keeps h apart some).memory ∙ ready.joined;
        empty = others.facts h (RecordIs []) apart ready.empty;
        taking = taking_still v w h x [] others apart some ready.taking;
      }

  -- what it remembers of other slots
  pub watched_still : AreWatched v h watch → AreWatched w h watch
  watched_still are y look below there =
      let was = are y look (subst (λ (g : Geometry). y < g.hosts) others.locks.lasts.geometry below) there in record {
        spelled = was.spelled;
        some = was.some;
        of_host = was.of_host;
        shown = others.facts h (Given (slot_key look.slot)) apart was.shown;
        by = others.facts h (Given (slot_by look.slot)) apart was.by;
      }

  recovering_still : (of : ℕ) → IsRecovering v h of watch → IsRecovering w h of watch
  recovering_still of is = record {
    ready = ready_still is.ready;
    below = below_still of is.below;
    other = is.other;
    thrice = is.thrice;
  }

  -- each state of a plan
  pub unlock_still : PlanStands v h watch Unlock → PlanStands w h watch Unlock
  unlock_still is = record {
    host = below_still h is.host;
    at = ready_still is.at;
    watched = watched_still is.watched;
  }

  pub beat_still : PlanStands v h watch Beat → PlanStands w h watch Beat
  beat_still is = record { host = below_still h is.host; at = ready_still is.at; watched = watched_still is.watched }

  pub look_still : (of : ℕ) → PlanStands v h watch (Looks of) → PlanStands w h watch (Looks of)
  look_still of is = record {
    host = below_still h is.host;
    at = (ready_still is.at.0, below_still of is.at.1);
    watched = watched_still is.watched;
  }

  pub begin_still : (of : ℕ) → PlanStands v h watch (Begin of) → PlanStands w h watch (Begin of)
  begin_still of is = record {
    host = below_still h is.host;
    at = (ready_still is.at.0, below_still of is.at.1, is.at.2);
    watched = watched_still is.watched;
  }

  pub first_still : (of : ℕ) (stage : Replay) → PlanStands v h watch (First of stage) → PlanStands w h watch (First of stage)
  first_still of stage is = record {
    host = below_still h is.host;
    at = (recovering_still of is.at.0, stands_still v w h of x others apart stage is.at.1);
    watched = watched_still is.watched;
  }

  pub again_still : (of : ℕ) (stage : Replay) → PlanStands v h watch (Again of stage) → PlanStands w h watch (Again of stage)
  again_still of stage is = record {
    host = below_still h is.host;
    at = (recovering_still of is.at.0, stands_still v w h of x others apart stage is.at.1);
    watched = watched_still is.watched;
  }

  pub free_still : (of : ℕ) (dead : Key) → PlanStands v h watch (Free of dead) → PlanStands w h watch (Free of dead)
  free_still of dead is = record {
    host = below_still h is.host;
    at = (recovering_still of is.at.0, behind_still v w h of x others apart (goings.Ready dead) is.at.1);
    watched = watched_still is.watched;
  }

-- and so do the notes of a command that was shown no key
pub open_still : (command : Command) (v w : WorldView) (h : ℕ) (watch : List (Option Look)) (n : Notes)
    → w.locks.geometry ≡ v.locks.geometry → host_at w.locks h ≡ host_at v.locks h → OpenNoted command h v watch n
    → OpenNoted command h w watch n
open_still command v w h watch n geometry memory noted = record {
  noted = record {
    remembered = subst (λ (m : HostState). IsRemembered w.locks.geometry n.memory m) (sym memory)
        (subst (λ (g : Geometry). IsRemembered g n.memory (host_at v.locks h)) (sym geometry) noted.noted.remembered);
    placed_is = noted.noted.placed_is;
    shown_is = noted.noted.shown_is;
    full = subst (λ (g : Geometry). IsFullNoted g command Open n.calls) (sym geometry) noted.noted.full;
    asks = noted.noted.asks;
    wants = ap (λ (g : Geometry). wanted g command n.calls n.digests n.asks) geometry ∙ noted.noted.wants;
  };
  watch_is = noted.watch_is;
}
