-- The stages at the end of a transaction stand over the calls of other hosts.
use Rattle.std.specs.Prelude.{◌≢◌, ℕ, []}
use Rattle.disk_locks.specs.Consistent.{Consistent}
use Rattle.held_cache.specs.Kept.{Cache}
use Rattle.host_facts.specs.Facts.Fact.{RecordIs}
use Rattle.host_facts.specs.Others.{Others}
use Rattle.host_facts.specs.Views.{WorldView}
use Rattle.plan_parts.specs.declared.applying.Applying.{Applying}
use Rattle.plan_parts.specs.laws.ApplyingLaws.{applying_still}
use Rattle.file_plans.specs.Stands.{At}
use Rattle.file_plans.specs.declared.state.Core.{Core}
use Rattle.file_plans.specs.declared.stage.Stage.TheVariants as stages
use Rattle.file_plans.specs.laws.BaseLaws.{base_key, base_still, still_others}

module _ (v w : WorldView) (c : Cache) (core : Core) (x : ℕ) (is : Consistent v.locks) (others : Others x v w) (apart : core.host ≢ x) where
  pub applies_still : (a : Applying) → At v c core (stages.Applies a) → At w c core (stages.Applies a)
  applies_still a at = (
    base_still v w c core (still_others v w core.host x others apart (base_key v c core is at.0)) core.outcome at.0,
    applying_still v w core.host x a.entry.edits a.left is others apart at.1,
    at.2,
  )

  pub frees_still : At v c core stages.Frees → At w c core stages.Frees
  frees_still at = (
    base_still v w c core (still_others v w core.host x others apart (base_key v c core is at.0)) core.outcome at.0,
    others.facts core.host (RecordIs []) apart at.1,
    at.2,
    at.3,
  )
