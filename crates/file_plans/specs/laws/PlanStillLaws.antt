-- A plan stands over the calls of other hosts, and the notes of its command agree with it.
use Rattle.std.proofs.Common.{◌≡◌, ◌≢◌, ◌<◌, ℕ, [], None, ap, sym, subst, ◌∙◌}
use Rattle.disk_locks.specs.Consistent.{Consistent}
use Rattle.file_plans.specs.Calls.{file_of}
use Rattle.file_plans.specs.Stands.{At, IsOutside, NotedAt}
use Rattle.file_plans.specs.declared.stage.Stage.{Stage}
use Rattle.file_plans.specs.declared.state.Core.{Core}
use Rattle.file_plans.specs.laws.BaseLaws.{cached_still}
use Rattle.file_plans.specs.laws.ChangeStillLaws.{changes_still, fetches_still, locks_still}
use Rattle.file_plans.specs.laws.EndStageLaws.{applies_still, frees_still}
use Rattle.file_plans.specs.laws.WriteStillLaws.{fetches_shared_still, fills_still, locks_shared_still, open_still, puts_still, searches_still}
use Rattle.held_cache.specs.Kept.{Cache}
use Rattle.host_facts.specs.Facts.Fact.{RecordIs}
use Rattle.host_facts.specs.Others.{Others}
use Rattle.host_facts.specs.Views.{WorldView}
use Rattle.host_facts.specs.laws.FactLaws.{joined_key}
use Rattle.host_notes.specs.Remembered.{IsRemembered}
use Rattle.host_runs.specs.Awaited.{wanted}
use Rattle.host_runs.specs.Notes.{Notes}
use Rattle.host_runs.specs.Tries.{Tries}
use Rattle.lock_store.specs.Views.{host_at}
use Rattle.lock_store.specs.declared.host.HostState.{HostState}
use Rattle.plan_parts.specs.Holds.{AtTries}
use Rattle.plan_parts.specs.QuietCalls.{IsFullNoted, Noted}
use Rattle.plan_parts.specs.Steps.{IsReady}
use Rattle.plan_parts.specs.declared.outcome.Outcome.{Outcome}
use Rattle.plan_parts.specs.laws.HoldChecks.{write_taking_still}
use Rattle.plan_parts.specs.laws.HoldTries.{read_taking_still, releasing_still}
use Rattle.plan_parts.specs.laws.TakenLaws.{taking_still}
use Rattle.vol_base.specs.declared.command.Command.{Command}
use Rattle.vol_layout.specs.declared.geometry.Geometry.{Geometry}
use Rattle.file_plans.specs.declared.stage.Stage.TheVariants as stages
use Rattle.plan_parts.specs.declared.outcome.Outcome.TheVariants as outcomes

-- a ready host stays so
pub ready_still : (v w : WorldView) (h x : ℕ) → Consistent v.locks → Others x v w → h ≢ x → IsReady v h → IsReady w h
ready_still v w h x consistent others apart ready =
    let some = joined_key v.locks.geometry.hosts _ h (host_at v.locks h) (consistent.memories h) ready.joined in record {
      joined = ap (λ (m : HostState). m.joined) (others.locks.keeps h apart some).memory ∙ ready.joined;
      empty = others.facts h (RecordIs []) apart ready.empty;
      taking = taking_still v w h x [] others apart some ready.taking;
    }

pub remembered_over : (v w : WorldView) (h : ℕ) (n : Notes) → w.locks.geometry ≡ v.locks.geometry → host_at w.locks h ≡ host_at v.locks h
    → IsRemembered v.locks.geometry n.memory (host_at v.locks h) → IsRemembered w.locks.geometry n.memory (host_at w.locks h)
remembered_over v w h n geometry memory is =
    subst (λ (m : HostState). IsRemembered w.locks.geometry n.memory m) (sym memory)
    (subst (λ (g : Geometry). IsRemembered g n.memory (host_at v.locks h)) (sym geometry) is)

-- the notes agree still with what a command has come to
noted_over : (command : Command) (v w : WorldView) (h : ℕ) (outcome : Outcome) (n : Notes) → w.locks.geometry ≡ v.locks.geometry
    → host_at w.locks h ≡ host_at v.locks h → Noted command h v outcome n → Noted command h w outcome n
noted_over command v w h outcome n geometry memory noted = record {
  remembered = remembered_over v w h n geometry memory noted.remembered;
  placed_is = noted.placed_is;
  shown_is = noted.shown_is;
  full = subst (λ (g : Geometry). IsFullNoted g command outcome n.calls) (sym geometry) noted.full;
  asks = noted.asks;
  wants = subst (λ (g : Geometry). wanted g command n.calls n.digests n.asks ≡ None) (sym geometry) noted.wants;
}

module _ (v w : WorldView) (c : Cache) (core : Core) (x : ℕ) (is : Consistent v.locks) (others : Others x v w) (apart : core.host ≢ x) where
  outside_still : IsOutside v c core → IsOutside w c core
  outside_still at =
      let geometry = others.locks.lasts.geometry in record {
        host = subst (λ (g : Geometry). core.host < g.hosts) (sym geometry) at.host;
        file = subst (λ (g : Geometry). file_of core.call < g.files) (sym geometry) at.file;
        ready = ready_still v w core.host x is others apart at.ready;
        none = at.none;
        cached = cached_still v w c core.host x others apart at.cached;
        comes = at.comes;
      }

  -- a plan stands over the calls of another host
  pub plan_still : (stage : Stage) → At v c core stage → At w c core stage
  plan_still stages.Asks at = (outside_still at.0, at.1)
  plan_still stages.Begins at = outside_still at
  plan_still (stages.Writes t) at =
      (outside_still at.0, write_taking_still v w core.host (file_of core.call) x t is others apart at.1, at.2)
  plan_still (stages.Reads t) at =
      (outside_still at.0, read_taking_still v w core.host (file_of core.call) x t is others apart at.1, at.2)
  plan_still (stages.GivesBack t) at =
      (outside_still at.0, releasing_still v w core.host (file_of core.call) x t is others apart at.1, at.2)
  plan_still stages.Sees at = ((open_still v w c core x is others apart at.0).1, at.1)
  plan_still (stages.Searches old shared search) at = searches_still v w c core x is others apart old shared search at
  plan_still (stages.LocksShared old d group) at = locks_shared_still v w c core x is others apart old d group at
  plan_still (stages.FetchesShared old d group) at = fetches_shared_still v w c core x is others apart old d group at
  plan_still (stages.Puts fresh) at = puts_still v w c core x is others apart fresh at
  plan_still (stages.Fills fresh) at = fills_still v w c core x is others apart fresh at
  plan_still (stages.Locks change) at = locks_still v w c core x is others apart change at
  plan_still (stages.Fetches change) at = fetches_still v w c core x is others apart change at
  plan_still (stages.Changes change group) at = changes_still v w c core x is others apart change group at
  plan_still (stages.Applies a) at = applies_still v w c core x is others apart a at
  plan_still stages.Frees at = frees_still v w c core x is others apart at
  plan_still stages.Over at = absurd at

-- the notes agree with the plan still, where the geometry and the host's memory are as before
module _ (command : Command) (v w : WorldView) (core : Core) (geometry : w.locks.geometry ≡ v.locks.geometry)
    (memory : host_at w.locks core.host ≡ host_at v.locks core.host) where
  over : (outcome : Outcome) (n : Notes) → Noted command core.host v outcome n → Noted command core.host w outcome n
  over outcome n noted = noted_over command v w core.host outcome n geometry memory noted

  tries_over : (t : Tries) (n : Notes) → AtTries command core.host v t n → AtTries command core.host w t n
  tries_over t n at = record { noted = over outcomes.Open n at.noted; tries_are = at.tries_are }

  pub agrees_still : (stage : Stage) (n : Notes) → NotedAt command v core stage n → NotedAt command w core stage n
  agrees_still stages.Asks n at = record { remembered = remembered_over v w core.host n geometry memory at.remembered; between = at.between }
  agrees_still stages.Begins n at = record { noted = over outcomes.Open n at.noted; tries = at.tries }
  agrees_still (stages.Writes t) n at = (at.0, tries_over _ n at.1)
  agrees_still (stages.Reads t) n at = tries_over _ n at
  agrees_still (stages.GivesBack t) n at = tries_over _ n at
  agrees_still stages.Over n at = absurd at
  agrees_still stages.Sees n at = over core.outcome n at
  agrees_still (stages.Searches old shared search) n at = over core.outcome n at
  agrees_still (stages.LocksShared old d group) n at = over core.outcome n at
  agrees_still (stages.FetchesShared old d group) n at = over core.outcome n at
  agrees_still (stages.Puts fresh) n at = over core.outcome n at
  agrees_still (stages.Fills fresh) n at = over core.outcome n at
  agrees_still (stages.Locks change) n at = over core.outcome n at
  agrees_still (stages.Fetches change) n at = over core.outcome n at
  agrees_still (stages.Changes change group) n at = over core.outcome n at
  agrees_still (stages.Applies a) n at = over core.outcome n at
  agrees_still stages.Frees n at = over core.outcome n at
