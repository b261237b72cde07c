-- The stages of a change stand over the calls of other hosts.
use Rattle.std.specs.Prelude.{◌≢◌, ℕ}
use Rattle.disk_locks.specs.Consistent.{Consistent}
use Rattle.held_cache.specs.Kept.{Cache}
use Rattle.host_facts.specs.Others.{Others}
use Rattle.host_facts.specs.Views.{WorldView}
use Rattle.plan_parts.specs.declared.kept.Kept.{Kept}
use Rattle.file_plans.specs.Stands.{At, sight_of}
use Rattle.file_plans.specs.declared.state.Core.{Core}
use Rattle.file_plans.specs.declared.stage.Change.{Change}
use Rattle.file_plans.specs.declared.stage.Stage.TheVariants as stages
use Rattle.file_plans.specs.laws.WriteBaseLaws.{kept_same, sight_on}
use Rattle.file_plans.specs.laws.WriteStillLaws.{open_still}

module _ (v w : WorldView) (c : Cache) (core : Core) (x : ℕ) (is : Consistent v.locks) (others : Others x v w) (apart : core.host ≢ x) where
  pub locks_still : (change : Change) → At v c core (stages.Locks change) → At w c core (stages.Locks change)
  locks_still change at =
      let now = open_still v w c core x is others apart at.0 in
      (now.1, at.1, sight_on v w c core now.0.geometry now.0.tables (sight_of change) at.2)

  pub fetches_still : (change : Change) → At v c core (stages.Fetches change) → At w c core (stages.Fetches change)
  fetches_still change at =
      let now = open_still v w c core x is others apart at.0 in
      (now.1, at.1, sight_on v w c core now.0.geometry now.0.tables (sight_of change) at.2)

  pub changes_still : (change : Change) (group : Kept) → At v c core (stages.Changes change group)
      → At w c core (stages.Changes change group)
  changes_still change group at =
      let now = open_still v w c core x is others apart at.0 in (
        now.1,
        sight_on v w c core now.0.geometry now.0.tables (sight_of change) at.1,
        kept_same v w c core now.0 group at.2,
        at.3,
      )
