-- How many steps are left of a plan: at least one, till it is answered, no more than the geometry says, and as many over the calls of
-- other hosts.
use Rattle.std.proofs.Common.{◌≡◌, ◌≢◌, ◌+◌, ◌<◌, ◌≤◌, ◌∙◌, ℕ, zero, suc, true, false, Bool, List, Option, refl, ap, sym, subst, arith, inl, inr}
use Rattle.std.specs.Prelude.{if◌then◌else◌}
use Rattle.std.proofs.lemmas.Bool.{cases_Bool, cases_eq}
use Rattle.vol_layout.specs.declared.geometry.Geometry.{Geometry}
use Rattle.vol_layout.specs.declared.kind.Resource.TheVariants.{File}
use Rattle.lock_store.specs.declared.host.HostState.{HostState}
use Rattle.lock_store.specs.Memories.{holds}
use Rattle.lock_store.specs.Views.{host_at}
use Rattle.watch.specs.declared.watch.Look.{Look}
use Rattle.host_facts.specs.Facts.{locks_of}
use Rattle.host_facts.specs.Others.{Others}
use Rattle.host_facts.specs.Views.{WorldView}
use Rattle.recover_plan.specs.CallsLeft.{calls_left, files_held, most_calls}
use Rattle.recover_plan.specs.Plans.{PlanStands}
use Rattle.recover_plan.specs.Recoveries.{recovery}
use Rattle.recover_plan.specs.Stages.{Stands, steps_left}
use Rattle.recover_plan.specs.declared.plan.Doing.{Doing}
use Rattle.recover_plan.specs.declared.plan.Doing.TheVariants as doings
use Rattle.recover_plan.specs.declared.replay.Replay.{Replay}
use Rattle.recover_plan.specs.declared.replay.Replay.TheVariants as stages

-- of a recovery that stands a step is left, and no more than before its first one
pub some_left : (v : WorldView) (h of : ℕ) (stage : Replay) → Stands v h of stage → 0 < steps_left v.locks.geometry stage
some_left v h of (stages.Fence slot) is = omega arith
some_left v h of (stages.FenceBy slot) is = omega arith
some_left v h of (stages.Claim slot) is = omega arith
some_left v h of (stages.Journal dead) is = omega arith
some_left v h of (stages.Read dead entry k) is = omega arith
some_left v h of (stages.Write dead entry k kept) is = omega (arith, is.0.more)
some_left v h of (stages.Clear dead) is = omega arith
some_left v h of (stages.Sweep dead k) is = omega (arith, is.1)

most_left : (v : WorldView) (h of : ℕ) (stage : Replay) → Stands v h of stage
    → steps_left v.locks.geometry stage ≤ locks_of v.locks.geometry + 21
most_left v h of (stages.Fence slot) is = omega arith
most_left v h of (stages.FenceBy slot) is = omega arith
most_left v h of (stages.Claim slot) is = omega arith
most_left v h of (stages.Journal dead) is = omega arith
most_left v h of (stages.Read dead entry k) is = omega (arith, is.edits.few)
most_left v h of (stages.Write dead entry k kept) is = omega (arith, is.0.edits.few)
most_left v h of (stages.Clear dead) is = omega arith
most_left v h of (stages.Sweep dead k) is = omega arith

-- of a plan
pub calls_some : (v : WorldView) (h : ℕ) (doing : Doing) → doing ≢ doings.Ended → 0 < calls_left v h doing
calls_some v h doings.Ended going = absurd (going refl)
calls_some v h doings.Register going = omega arith
calls_some v h doings.Enter going = omega arith
calls_some v h doings.EnterAgain going = omega arith
calls_some v h (doings.Over stage) going = omega arith
calls_some v h (doings.Retake dead) going = omega arith
calls_some v h doings.Unlock going = omega arith
calls_some v h doings.Fence going = omega arith
calls_some v h doings.Beat going = omega arith
calls_some v h (doings.Look of) going = omega arith
calls_some v h (doings.Begin of) going = omega arith
calls_some v h (doings.First of stage) going = omega arith
calls_some v h (doings.Again of stage) going = omega arith
calls_some v h (doings.Free of dead) going = omega arith

-- a recovery by the first claim or by the second one
abbrev pub claims_more : Geometry → Bool → ℕ
claims_more g again = if again then 1 else locks_of g + 20

pub claims_some : (g : Geometry) (again : Bool) → 0 < claims_more g again
claims_some g false = omega arith
claims_some g true = omega arith

pub recovery_left : (v : WorldView) (h of : ℕ) (again : Bool) (stage : Replay)
    → calls_left v h (recovery of again stage) ≡ steps_left v.locks.geometry stage + claims_more v.locks.geometry again
recovery_left v h of false stage = omega arith
recovery_left v h of true stage = refl

-- files that are held
held_most : (m : HostState) (n : ℕ) → files_held m n ≤ n
unfolding files_held
held_most m zero = omega arith
held_most m (suc n) = elim (cases_Bool (holds m (File n))) [
  | inl held ↦ let less = held_most m n in rw held (omega (arith, less))
  | inr none ↦ let less = held_most m n in rw none (omega (arith, less))
]

held_same : (m k : HostState) (n : ℕ) → ((f : ℕ) → f < n → holds k (File f) ≡ holds m (File f)) → files_held k n ≡ files_held m n
unfolding files_held
held_same m k zero same = refl
held_same m k (suc n) same =
    ap (λ (b : Bool). files_held k n + (if b then 1 else 0)) (same n (omega arith))
    ∙ ap (λ (i : ℕ). i + (if holds m (File n) then 1 else 0)) (held_same m k n (λ f below. same f (omega (arith, below))))

-- one that is freed is held no more
pub held_less : (m k : HostState) (f n : ℕ) → f < n → holds m (File f) ≡ true → holds k (File f) ≡ false
    → ((e : ℕ) → e < n → e ≢ f → holds k (File e) ≡ holds m (File e)) → files_held k n < files_held m n
unfolding files_held
held_less m k f zero below held freed same = absurd (omega (arith, below))
held_less m k f (suc n) below held freed same = elim (cases_eq f n) [
  | inl last ↦
      let was : holds m (File n) ≡ true = subst (λ (e : ℕ). holds m (File e) ≡ true) last held in
      let now : holds k (File n) ≡ false = subst (λ (e : ℕ). holds k (File e) ≡ false) last freed in
      let rest = held_same m k n (λ e less. same e (omega (arith, less)) (λ here. omega (arith, less, here, last))) in
      rw (was, now, rest) (omega arith)
  | inr earlier ↦
      let less = held_less m k f n (omega (arith, below, earlier)) held freed (λ e inside. same e (omega (arith, inside))) in
      let last : holds k (File n) ≡ holds m (File n) = same n (omega arith) (λ here. earlier (sym here)) in
      rw last (omega (arith, less))
]

-- no more than the geometry says
pub calls_most : (v : WorldView) (h : ℕ) (watch : List (Option Look)) (doing : Doing) → PlanStands v h watch doing
    → calls_left v h doing ≤ most_calls v.locks.geometry
calls_most v h watch doings.Register is = omega arith
calls_most v h watch doings.Enter is = omega arith
calls_most v h watch doings.EnterAgain is = omega arith
calls_most v h watch (doings.Over stage) is = let most = most_left v h h stage is.at in omega (arith, most)
calls_most v h watch (doings.Retake dead) is = omega arith
calls_most v h watch doings.Unlock is = let most = held_most (host_at v.locks h) v.locks.geometry.files in omega (arith, most)
calls_most v h watch doings.Fence is = omega arith
calls_most v h watch doings.Beat is = omega arith
calls_most v h watch (doings.Look of) is = omega arith
calls_most v h watch (doings.Begin of) is = omega arith
calls_most v h watch (doings.First of stage) is = let most = most_left v h of stage is.at.1 in omega (arith, most)
calls_most v h watch (doings.Again of stage) is = let most = most_left v h of stage is.at.1 in omega (arith, most)
calls_most v h watch (doings.Free of dead) is = omega arith
calls_most v h watch doings.Ended is = absurd is.at

-- as many over the calls of other hosts
pub calls_still : (v w : WorldView) (h x : ℕ) (doing : Doing) → Others x v w → h ≢ x → calls_left w h doing ≡ calls_left v h doing
calls_still v w h x doing others apart =
    over doing others.locks.lasts.geometry (others.locks.memories h apart)
  where
    over : (doing : Doing) → w.locks.geometry ≡ v.locks.geometry → host_at w.locks h ≡ host_at v.locks h
        → calls_left w h doing ≡ calls_left v h doing
    over doings.Register geometry memory = ap (λ (g : Geometry). locks_of g + 24) geometry
    over doings.Enter geometry memory = ap (λ (g : Geometry). locks_of g + 23) geometry
    over (doings.Over stage) geometry memory = ap (λ (g : Geometry). steps_left g stage + 1) geometry
    over doings.Unlock geometry memory =
        ap (λ (m : HostState). files_held m w.locks.geometry.files + 2) memory
        ∙ ap (λ (g : Geometry). files_held (host_at v.locks h) g.files + 2) geometry
    over (doings.Begin of) geometry memory = ap most_calls geometry
    over (doings.First of stage) geometry memory = ap (λ (g : Geometry). steps_left g stage + locks_of g + 20) geometry
    over (doings.Again of stage) geometry memory = ap (λ (g : Geometry). steps_left g stage + 1) geometry
    over doing geometry memory = refl
