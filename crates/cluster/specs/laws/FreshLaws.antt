-- A host that has not begun, or was dropped, is between two commands.
use Rattle.std.proofs.Common.{◌≡◌, ℕ, [], ap, sym, ◌∙◌}
use Rattle.vol_layout.specs.declared.geometry.Geometry.{Geometry}
use Rattle.file_plans.specs.Bases.{IsCached}
use Rattle.held_cache.specs.Kept.{Cache}
use Rattle.hint_blocks.specs.declared.entry.LogEntry.{LogEntry}
use Rattle.hint_blocks.specs.HintLists.{HintList}
use Rattle.host_facts.specs.Views.{WorldView}
use Rattle.host_runs.specs.Notes.{Notes}
use Rattle.plan_parts.specs.Steps.{IsAtRest}
use Rattle.recover_plan.specs.laws.RegisterLaws.{nothing_watched}
use Rattle.watch.specs.Looks.{nothing}
use Rattle.cluster.specs.Carries.{IsFresh}
use Rattle.cluster.specs.Plans.{IsResting, RestsWith}
use Rattle.cluster.specs.declared.carried.Carried.{Carried}

pub fresh_rests : (g : Geometry) (v : WorldView) (c : Cache) (h : ℕ) (carried : Carried) → IsFresh g carried → g ≡ v.locks.geometry
    → IsCached v c h → IsResting v c h carried
fresh_rests g v c h carried is volume cached = record {
  watched = rw is.watch (nothing_watched v h);
  volume = ap (λ (p : HintList LogEntry). p.geometry) is.pending ∙ volume;
  cached = cached;
}

-- and notes of nothing agree with it
pub fresh_noted : (g : Geometry) (v : WorldView) (h : ℕ) (carried : Carried) → IsFresh g carried → (n : Notes) → IsAtRest v h n
    → n.watch ≡ nothing → n.pending ≡ [] → RestsWith h v carried n
fresh_noted g v h carried is n rests watch pending = record {
  rests = rests;
  watch_is = watch ∙ sym is.watch;
  pending_is = pending ∙ sym (ap (λ (p : HintList LogEntry). p.entries) is.pending);
}
