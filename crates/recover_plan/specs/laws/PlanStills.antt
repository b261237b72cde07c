-- What stands between two steps of a plan, and what its notes agree with, stay over the calls of other hosts.
use Rattle.std.proofs.Common.{◌≡◌, ◌≢◌, ◌∙◌, ℕ, List, None, Option, Some, true, ap, sym, subst}
use Rattle.vol_base.specs.declared.command.Command.TheVariants as commands
use Rattle.vol_layout.specs.declared.geometry.Geometry.{Geometry}
use Rattle.vol_layout.specs.Ranges.{HasResource}
use Rattle.image_view.specs.HostKeys.{slot_state_at}
use Rattle.lock_store.specs.declared.host.HostState.{HostState}
use Rattle.lock_store.specs.Memories.{claim_of, holds, key_of}
use Rattle.lock_store.specs.Views.{host_at}
use Rattle.disk_locks.specs.Consistent.{Consistent}
use Rattle.disk_locks.specs.laws.SureLaws.{sure_keeps}
use Rattle.watch.specs.declared.watch.Look.{Look}
use Rattle.host_facts.specs.Others.{Others}
use Rattle.host_facts.specs.Views.{WorldView}
use Rattle.host_runs.specs.Notes.{Notes}
use Rattle.recover_plan.specs.Plans.{Agrees, HasFreedSlot, IsEntering, PlanStands, TriesNoted}
use Rattle.recover_plan.specs.declared.plan.Doing.{Doing}
use Rattle.recover_plan.specs.declared.plan.Doing.TheVariants as doings
use Rattle.recover_plan.specs.declared.replay.Going.TheVariants as goings
use Rattle.recover_plan.specs.laws.NoteLaws.{going_noted_still, under_way_still}
use Rattle.recover_plan.specs.laws.PlanStays.{again_still, beat_still, begin_still, below_still, first_still, free_still, look_still, open_still, unlock_still, watched_still}
use Rattle.recover_plan.specs.laws.StageLaws.{base_on, behind_still, stands_still}

module _ (v w : WorldView) (h x : ℕ) (watch : List (Option Look)) (c : Consistent v.locks) (others : Others x v w) (apart : h ≢ x) where
  memory : host_at w.locks h ≡ host_at v.locks h
  memory = others.locks.memories h apart

  geometry : w.locks.geometry ≡ v.locks.geometry
  geometry = others.locks.lasts.geometry

  entering_still : IsEntering v h → IsEntering w h
  entering_still is = record {
    base = base_on v w h h geometry memory (λ a. others.facts h a apart) is.base;
    unclaimed = ap (λ (m : HostState). claim_of m h) memory ∙ is.unclaimed;
  }

  -- a slot that its host left stays free
  freed_still : HasFreedSlot v h → HasFreedSlot w h
  freed_still is = record {
    key = λ zero. is.key (sym (ap key_of memory) ∙ zero);
    none = λ r has. ap (λ (m : HostState). holds m r) memory ∙ is.none r (subst (λ (g : Geometry). HasResource g r) geometry has);
    free = sure_keeps v.locks w.locks h x
        (λ image. ((host_at v.locks h).freed ≡ true) × (slot_state_at v.locks.geometry image h ≡ 0))
        (λ image. ((host_at w.locks h).freed ≡ true) × (slot_state_at w.locks.geometry image h ≡ 0)) c others.locks apart is.key
        (λ i j agrees keeps both. (
          ap (λ (m : HostState). m.freed) memory ∙ both.0,
          subst (λ (g : Geometry). slot_state_at g j h ≡ 0) (sym geometry) (keeps.left both.0 both.1),
        ))
        is.free;
  }

  -- a plan stands
  pub plan_still : (doing : Doing) → PlanStands v h watch doing → PlanStands w h watch doing
  plan_still doings.Register is = record {
    host = below_still v w h x watch c others apart h is.host;
    at = memory ∙ is.at;
    watched = watched_still v w h x watch c others apart is.watched;
  }
  plan_still doings.Enter is = record {
    host = below_still v w h x watch c others apart h is.host;
    at = entering_still is.at;
    watched = watched_still v w h x watch c others apart is.watched;
  }
  plan_still doings.EnterAgain is = record {
    host = below_still v w h x watch c others apart h is.host;
    at = entering_still is.at;
    watched = watched_still v w h x watch c others apart is.watched;
  }
  plan_still (doings.Over stage) is = record {
    host = below_still v w h x watch c others apart h is.host;
    at = stands_still v w h h x others apart stage is.at;
    watched = watched_still v w h x watch c others apart is.watched;
  }
  plan_still (doings.Retake dead) is = record {
    host = below_still v w h x watch c others apart h is.host;
    at = behind_still v w h h x others apart (goings.Ready dead) is.at;
    watched = watched_still v w h x watch c others apart is.watched;
  }
  plan_still doings.Unlock is = unlock_still v w h x watch c others apart is
  plan_still doings.Fence is = record {
    host = below_still v w h x watch c others apart h is.host;
    at = freed_still is.at;
    watched = watched_still v w h x watch c others apart is.watched;
  }
  plan_still doings.Beat is = beat_still v w h x watch c others apart is
  plan_still (doings.Look of) is = look_still v w h x watch c others apart of is
  plan_still (doings.Begin of) is = begin_still v w h x watch c others apart of is
  plan_still (doings.First of stage) is = first_still v w h x watch c others apart of stage is
  plan_still (doings.Again of stage) is = again_still v w h x watch c others apart of stage is
  plan_still (doings.Free of dead) is = free_still v w h x watch c others apart of dead is
  plan_still doings.Ended is = absurd is.at

  -- and its notes agree with it
  tries_still : (of k : ℕ) (n : Notes) → TriesNoted h of v watch k n → TriesNoted h of w watch k n
  tries_still of k n noted = record {
    under_way = under_way_still (commands.Recover of) v w h of watch k geometry memory None None n noted.under_way;
    count = noted.count;
  }

  pub agrees_still : (doing : Doing) (n : Notes) → Agrees h v watch doing n → Agrees h w watch doing n
  agrees_still doings.Register n noted = tries_still h 0 n noted
  agrees_still doings.Enter n noted = tries_still h 0 n noted
  agrees_still doings.EnterAgain n noted = tries_still h 2 n noted
  agrees_still (doings.Over stage) n noted =
      going_noted_still commands.Join v w h h watch 1 geometry memory (goings.More stage) n noted
  agrees_still (doings.Retake dead) n noted = under_way_still commands.Join v w h h watch 1 geometry memory (Some dead.0) None n noted
  agrees_still doings.Unlock n noted = open_still commands.Leave v w h watch n geometry memory noted
  agrees_still doings.Fence n noted = open_still commands.Leave v w h watch n geometry memory noted
  agrees_still doings.Beat n noted = open_still commands.Beat v w h watch n geometry memory noted
  agrees_still (doings.Look of) n noted = open_still (commands.Look of) v w h watch n geometry memory noted
  agrees_still (doings.Begin of) n noted = tries_still of 0 n noted
  agrees_still (doings.First of stage) n noted =
      going_noted_still (commands.Recover of) v w h of watch 0 geometry memory (goings.More stage) n noted
  agrees_still (doings.Again of stage) n noted =
      going_noted_still (commands.Recover of) v w h of watch 1 geometry memory (goings.More stage) n noted
  agrees_still (doings.Free of dead) n noted =
      under_way_still (commands.Recover of) v w h of watch 1 geometry memory (Some dead.0) None n noted
  agrees_still doings.Ended n noted = absurd noted
