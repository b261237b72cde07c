-- The plans of commands on files, and of those on slots between them, over a device that tells nothing.
use Rattle.std.proofs.Common.{◌≡◌, ◌≢◌, ℕ, None, Some, ap, sym, subst, ◌∙◌}
use Rattle.std.specs.Prelude.{IfOk, Ok, Result}
use Rattle.vol_base.specs.declared.answer.Next.{Next}
use Rattle.vol_base.specs.declared.answer.Next.TheVariants.{More, Work}
use Rattle.vol_base.specs.declared.answer.Step.{Step}
use Rattle.vol_base.specs.declared.block.Block.{Block}
use Rattle.vol_base.specs.declared.plain.NoMemory.{NoMemory}
use Rattle.vol_layout.specs.declared.geometry.Geometry.{Geometry}
use Rattle.vol_layout.specs.declared.kind.Table.{Table}
use Rattle.lock_store.specs.Views.{LocksView}
use Rattle.disk_locks.specs.Consistent.{Consistent}
use Rattle.held_cache.specs.Kept.{Cache, IsFileTable, kept_at}
use Rattle.host_facts.specs.Others.{Others}
use Rattle.host_facts.specs.Views.{WorldView}
use Rattle.host_facts.specs.laws.KeptLaws.{others_then}
use Rattle.file_plans.specs.Bases.{IsCached}
use Rattle.file_plans.specs.Plans.{HasStepped}
use Rattle.file_plans.specs.Stands.{At}
use Rattle.file_plans.specs.Went.{StandsBehind}
use Rattle.file_plans.specs.declared.stage.Stage.{Stage}
use Rattle.file_plans.specs.declared.stage.Stage.TheVariants as stages
use Rattle.file_plans.specs.declared.state.Core.{Core}
use Rattle.file_plans.specs.laws.BaseLaws.{cached_still}
use Rattle.file_plans.specs.laws.PlanStillLaws.{plan_still}
use Rattle.plan_tests.specs.Caches.{AreCached}

-- one call more of a host leaves to the others what all its calls leave
pub others_on : (h x : ℕ) (u v w : WorldView) (l : LocksView) → l ≡ u.locks → Consistent l → x ≡ h → Others h u v → Others x v w
    → Others h u w
others_on h x u v w l at consistent same first then =
    others_then u v w h (subst Consistent at consistent) first (subst (λ (y : ℕ). Others y v w) same then)

-- a plan that goes on
pub record GoesOn (w : WorldView) (d : Cache) (h : ℕ) (core : Core) (stage : Stage) : Type 0 where
  pub stands : At w d core stage
  pub cached : IsCached w d h
  pub host : core.host ≡ h

-- behind a step with a call, and behind the digest that one without a call asked for
module _ (v w : WorldView) (d : Cache) (h : ℕ) (old new : Core) (before after : Stage) (step : Step) (same : old.host ≡ h)
    (result : Result Step NoMemory) (ok : result ≡ Ok step)
    (stepped : IfOk result (λ (s : Step). HasStepped v w d old new before s after s.next)) where
  stepped_to : (next : Next) → step.next ≡ next → HasStepped v w d old new before step after next
  stepped_to next is =
      subst (λ (n : Next). HasStepped v w d old new before step after n) is
      (subst (λ (r : Result Step NoMemory). IfOk r (λ (s : Step). HasStepped v w d old new before s after s.next)) ok stepped)

  pub called_on : step.next ≡ More → GoesOn w d h new after
  called_on is = let went = stepped_to More is in record {
    stands = subst (λ (n : Next). StandsBehind w d new n after) is went.stands;
    cached = subst (IsCached w d) same went.cached;
    host = went.host ∙ same;
  }

  pub asks_on : (block : Block) → step.next ≡ Work block → after ≡ stages.Asks
  asks_on block is = (stepped_to (Work block) is).stage

  pub supplied_on : (later : Core) (last : Stage) (block : Block) → step.next ≡ Work block → later ≡ new → last ≡ stages.Begins
      → GoesOn w d h later last
  supplied_on later last block is core begins =
      let waits = stepped_to (Work block) is in
      let host = ap (λ (k : Core). k.host) waits.core ∙ same in
      let at = subst (λ (k : Core). At w d k stages.Begins) (sym core) waits.stands.0 in record {
        stands = subst (At w d later) (sym begins) at;
        cached = subst (IsCached w d) host waits.stands.0.cached;
        host = ap (λ (k : Core). k.host) core ∙ host;
      }

-- a host that keeps nothing knows what it keeps
pub nothing_kept : (w : WorldView) (c : Cache) (h : ℕ) → c.volume ≡ w.locks.geometry
    → ((t : Table) → IsFileTable c.volume t → kept_at c h t ≡ None) → IsCached w c h
nothing_kept w c h volume nothing = record {
  volume = volume;
  known = λ t p file kept.
      let both : None ≡ Some p = sym (nothing t (subst (λ (g : Geometry). IsFileTable g t) (sym volume) file)) ∙ kept in absurd cc;
}

-- behind a command of one host each host knows what it keeps
pub zero_ran : (v w : WorldView) (zero one two own : Cache) → Others 0 v w → IsCached w own 0 → AreCached v zero one two
    → AreCached w own one two
zero_ran v w zero one two own others is are =
    (is, cached_still v w one 1 0 others (λ e. cc) are.1, cached_still v w two 2 0 others (λ e. cc) are.2)

pub one_ran : (v w : WorldView) (zero one two own : Cache) → Others 1 v w → IsCached w own 1 → AreCached v zero one two
    → AreCached w zero own two
one_ran v w zero one two own others is are =
    (cached_still v w zero 0 1 others (λ e. cc) are.0, is, cached_still v w two 2 1 others (λ e. cc) are.2)

pub two_ran : (v w : WorldView) (zero one two own : Cache) → Others 2 v w → IsCached w own 2 → AreCached v zero one two
    → AreCached w zero one own
two_ran v w zero one two own others is are =
    (cached_still v w zero 0 2 others (λ e. cc) are.0, cached_still v w one 1 2 others (λ e. cc) are.1, is)

-- host 0 stops in the midst of a call, host 1 runs a whole command, and host 0 goes on
zero_others : (v w : WorldView) (h : ℕ) → h ≡ 0 → Others h v w → Others 0 v w
zero_others v w h zero others = subst (λ (x : ℕ). Others x v w) zero others

not_one : (h : ℕ) → h ≡ 0 → h ≢ 1
not_one h zero one = let bad : ◌≡◌ {A = ℕ} 0 1 = sym zero ∙ one in cc

pub crossed_one : (v w : WorldView) (one : Cache) (h : ℕ) → h ≡ 0 → Others h v w → IsCached v one 1 → IsCached w one 1
crossed_one v w one h zero others is = cached_still v w one 1 0 (zero_others v w h zero others) (λ e. cc) is

pub crossed_plan : (v w : WorldView) (d : Cache) (core : Core) (stage : Stage) (l : LocksView) → l ≡ v.locks → Consistent l
    → core.host ≡ 0 → Others 1 v w → At v d core stage → At w d core stage
crossed_plan v w d core stage l at consistent zero others stands =
    plan_still v w d core 1 (subst Consistent at consistent) others (not_one core.host zero) stage stands

pub crossed_zero : (v w : WorldView) (d : Cache) (h k : ℕ) → h ≡ 0 → k ≡ h → Others 1 v w → IsCached v d h → IsCached w d k
crossed_zero v w d h k zero same others is = subst (IsCached w d) (sym same) (cached_still v w d h 1 others (not_one h zero) is)

pub crossed_all : (v w x y : WorldView) (zero one two : Cache) (h k : ℕ) → h ≡ 0 → k ≡ h → Others h v w → Others 1 w x → Others k x y
    → IsCached x one 1 → IsCached y zero k → IsCached v two 2 → AreCached y zero one two
crossed_all v w x y zero one two h k is same first between last one_is zero_is two_is =
    let last_zero = zero_others x y k (same ∙ is) last in
    let before = cached_still w x two 2 1 between (λ e. cc) (cached_still v w two 2 0 (zero_others v w h is first) (λ e. cc) two_is) in (
      subst (IsCached y zero) (same ∙ is) zero_is,
      cached_still x y one 1 0 last_zero (λ e. cc) one_is,
      cached_still x y two 2 0 last_zero (λ e. cc) before,
    )
