-- No more locks are taken at any stage than the volume has groups and parts.
use Rattle.std.proofs.Common.{◌≡◌, ◌<◌, ◌≤◌, ◌+◌, ◌||◌, ℕ, Bool, true, false, List, [], ◌∷◌, ap, sym, subst, arith, eqb, length, inl, inr}
use Rattle.std.specs.Prelude.{map}
use Rattle.std.specs.List.{AllByRecursion, IsDistinct, list_any}
use Rattle.std.proofs.lemmas.Bool.{cases_Bool, eqb-true, false_from_ne_true}
use Rattle.std.proofs.lemmas.List.{length-map}
use Rattle.std.proofs.lemmas.Map.Steps.{length-le_from_distinct_below}
use Rattle.vol_layout.specs.declared.geometry.Geometry.{Geometry}
use Rattle.vol_layout.specs.declared.kind.Resource.{Resource}
use Rattle.vol_layout.specs.declared.kind.Resource.TheVariants.{File, Group, Part}
use Rattle.vol_layout.specs.Ranges.{HasResource}
use Rattle.disk_locks.specs.Calls.{IsShared}
use Rattle.held_cache.specs.Kept.{Cache}
use Rattle.host_facts.specs.Views.{WorldView}
use Rattle.plan_parts.specs.TakenLocks.{AreHeld, IsTaken}
use Rattle.file_plans.specs.Bases.{IsBase}
use Rattle.file_plans.specs.Stands.{At}
use Rattle.file_plans.specs.declared.state.Core.{Core}
use Rattle.file_plans.specs.declared.stage.Stage.{Stage}
use Rattle.file_plans.specs.declared.stage.Stage.TheVariants as stages

-- groups and parts have numbers of their own
abbrev number_of : Geometry → Resource → ℕ
number_of g (Group r) = r
number_of g (Part p) = g.groups + p
number_of g (File f) = 0

number_below : (g : Geometry) (r : Resource) → HasResource g r → IsShared r → number_of g r < g.groups + g.parts
number_below g (Group r) has shared = omega (arith, has)
number_below g (Part p) has shared = omega (arith, has)
number_below g (File f) has shared = absurd shared

number_apart : (g : Geometry) (r s : Resource) → HasResource g r → IsShared r → HasResource g s → IsShared s
    → number_of g r ≡ number_of g s → r ≡ s
number_apart g (Group r) (Group s) has shared other also same = ap Group same
number_apart g (Part p) (Part q) has shared other also same = let one : p ≡ q = omega (arith, same) in ap Part one
number_apart g (Group r) (Part q) has shared other also same = absurd (omega (arith, same, has))
number_apart g (Part p) (Group s) has shared other also same = absurd (omega (arith, same, other))
number_apart g (File f) s has shared other also same = absurd shared
number_apart g r (File f) has shared other also same = absurd also

-- no more locks are taken than the volume has groups and parts
module _ (v : WorldView) (h : ℕ) where
  apart_each : (r : Resource) (more : List Resource) → HasResource v.locks.geometry r → IsShared r → AreHeld v h more
      → (IsTaken more r → ⊥)
      → AllByRecursion (λ n. eqb (number_of v.locks.geometry r) n ≡ false) (map (number_of v.locks.geometry) more)
  apart_each r [] has shared are other = tt
  apart_each r (s ∷ more) has shared are other = (
    false_from_ne_true _ (λ same.
        other (inl (sym (number_apart v.locks.geometry r s has shared are.0 are.1 (eqb-true _ _ same))))),
    apart_each r more has shared are.4 (λ later. other (inr later)),
  )

  are_distinct : (taken : List Resource) → AreHeld v h taken → IsDistinct eqb (map (number_of v.locks.geometry) taken)
  unfolding IsDistinct
  are_distinct [] are = tt
  are_distinct (r ∷ more) are = (apart_each r more are.0 are.1 are.4 are.3, are_distinct more are.4)

  are_below : (taken : List Resource) → AreHeld v h taken → (q : ℕ)
      → list_any (eqb q) (map (number_of v.locks.geometry) taken) ≡ true → q < v.locks.geometry.groups + v.locks.geometry.parts
  are_below [] are q there = absurd cc
  are_below (r ∷ more) are q there = elim (cases_Bool (eqb q (number_of v.locks.geometry r))) [
    | inl same ↦
        let below = number_below v.locks.geometry r are.0 are.1 in
        let one = eqb-true q (number_of v.locks.geometry r) same in omega (arith, below, one)
    | inr other ↦
        are_below more are.4 q
        (subst (λ (b : Bool). (b || list_any (eqb q) (map (number_of v.locks.geometry) more)) ≡ true) other there)
  ]

  locks_few : (taken : List Resource) → AreHeld v h taken → length taken ≤ v.locks.geometry.groups + v.locks.geometry.parts
  locks_few taken are =
      let few = length-le_from_distinct_below (map (number_of v.locks.geometry) taken) (v.locks.geometry.groups + v.locks.geometry.parts)
      (are_distinct taken are) (are_below taken are) in
      let same = length-map taken (number_of v.locks.geometry) in omega (arith, few, same)

-- so it is at every stage
no_lock : (w : WorldView) (core : Core) → core.taken ≡ [] → length core.taken ≤ w.locks.geometry.groups + w.locks.geometry.parts
no_lock w core none = let few = ap length none in omega (arith, few)

base_few : (w : WorldView) (d : Cache) (core : Core) → IsBase w d core
    → length core.taken ≤ w.locks.geometry.groups + w.locks.geometry.parts
base_few w d core base = locks_few w core.host core.taken base.taking.each

pub taken_few : (w : WorldView) (d : Cache) (core : Core) (stage : Stage) → At w d core stage
    → length core.taken ≤ w.locks.geometry.groups + w.locks.geometry.parts
taken_few w d core stages.Asks at = no_lock w core at.0.none
taken_few w d core stages.Begins at = no_lock w core at.none
taken_few w d core (stages.Writes t) at = no_lock w core at.0.none
taken_few w d core (stages.Reads t) at = no_lock w core at.0.none
taken_few w d core (stages.GivesBack t) at = no_lock w core at.0.none
taken_few w d core stages.Sees at = base_few w d core at.0.base
taken_few w d core (stages.Searches old shared search) at = base_few w d core at.0.base
taken_few w d core (stages.LocksShared old e group) at = base_few w d core at.0.base
taken_few w d core (stages.FetchesShared old e group) at = base_few w d core at.0.base
taken_few w d core (stages.Puts fresh) at = base_few w d core at.comes.base
taken_few w d core (stages.Fills fresh) at = base_few w d core at.0.comes.base
taken_few w d core (stages.Locks change) at = base_few w d core at.0.base
taken_few w d core (stages.Fetches change) at = base_few w d core at.0.base
taken_few w d core (stages.Changes change group) at = base_few w d core at.0.base
taken_few w d core (stages.Applies a) at = base_few w d core at.0
taken_few w d core stages.Frees at = base_few w d core at.0
taken_few w d core stages.Over at = absurd at
