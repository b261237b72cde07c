-- What stays of a host over a step of another host's plan, whatever that plan is.
use Rattle.std.proofs.Common.{◌≡◌, ◌≢◌, ◌∙◌, ◌⊎◌, ℕ, List, [], Option, sym, subst, inl, inr}
use Rattle.vol_layout.specs.declared.geometry.Geometry.{Geometry}
use Rattle.lock_store.specs.declared.host.HostState.{HostState}
use Rattle.lock_store.specs.Memories.{dropped}
use Rattle.lock_store.specs.Views.{host_at}
use Rattle.disk_locks.specs.Consistent.{Consistent}
use Rattle.watch.specs.declared.watch.Look.{Look}
use Rattle.host_facts.specs.Others.{Others}
use Rattle.host_facts.specs.Views.{WorldView}
use Rattle.host_notes.specs.Remembered.{IsRemembered}
use Rattle.host_runs.specs.Notes.{Notes}
use Rattle.plan_parts.specs.Steps.{IsAtRest, IsReady}
use Rattle.recover_plan.specs.HostStays.{HostStays}
use Rattle.recover_plan.specs.PlanSteps.{RestsWith}
use Rattle.recover_plan.specs.laws.PlanStays.{ready_still, watched_still}
use Rattle.recover_plan.specs.laws.PlanStills.{agrees_still, plan_still}

module _ (v w : WorldView) (h x : ℕ) (c : Consistent v.locks) (others : Others x v w) (apart : h ≢ x) where
  -- a host between two commands is so still
  rests : IsReady v h ⊎ (host_at v.locks h ≡ dropped) → IsReady w h ⊎ (host_at w.locks h ≡ dropped)
  rests (inl ready) = inl (ready_still v w h x [] c others apart ready)
  rests (inr gone) = inr (others.locks.memories h apart ∙ gone)

  pub at_rest_still : (n : Notes) → IsAtRest v h n → IsAtRest w h n
  at_rest_still n is = record {
    remembered = subst (λ (m : HostState). IsRemembered w.locks.geometry n.memory m) (sym (others.locks.memories h apart))
        (subst (λ (g : Geometry). IsRemembered g n.memory (host_at v.locks h)) (sym others.locks.lasts.geometry) is.remembered);
    rests = rests is.rests;
    between = is.between;
  }

  rests_still : (watch : List (Option Look)) (n : Notes) → RestsWith h v watch n → RestsWith h w watch n
  rests_still watch n is = record { rests = at_rest_still n is.rests; watch_is = is.watch_is }

  -- all of it
  pub host_stays : HostStays v w h
  host_stays = record {
    plan = λ watch. plan_still v w h x watch c others apart;
    agrees = λ watch. agrees_still v w h x watch c others apart;
    rests = rests_still;
    watched = λ watch. watched_still v w h x watch c others apart;
  }
