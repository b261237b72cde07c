-- The stages of a fresh write stand over the calls of other hosts.
use Rattle.std.proofs.Common.{◌≡◌, ◌≢◌, ◌<◌, ◌/◌, ℕ, [], None, Option, Some, ap, sym, subst, ◌∙◌}
use Rattle.std.specs.Prelude.{IfSome}
use Rattle.vol_layout.specs.declared.field.Field.TheVariants.{Count}
use Rattle.vol_layout.specs.declared.geometry.Geometry.{Geometry}
use Rattle.vol_layout.specs.declared.kind.Resource.TheVariants.{Group}
use Rattle.vol_layout.specs.Fields.{HasField}
use Rattle.vol_layout.specs.Ranges.{per_table}
use Rattle.lock_store.specs.declared.host.HostState.{HostState}
use Rattle.lock_store.specs.Memories.{holds}
use Rattle.disk_locks.specs.Consistent.{Consistent}
use Rattle.held_cache.specs.Kept.{Cache}
use Rattle.host_facts.specs.Facts.Fact.{FreshIs, RecordIs}
use Rattle.host_facts.specs.Others.{Others}
use Rattle.host_facts.specs.Views.{WorldView}
use Rattle.plan_parts.specs.Searches.{counted_groups, first_of, group_at}
use Rattle.plan_parts.specs.declared.kept.Kept.{Kept}
use Rattle.plan_parts.specs.declared.searching.Search.{Search}
use Rattle.plan_parts.specs.laws.SearchLaws.{searching_still}
use Rattle.file_plans.specs.Calls.{block_of}
use Rattle.file_plans.specs.Stands.{At, IsMet, IsOpenBase, IsSharedMet}
use Rattle.file_plans.specs.declared.state.Core.{Core}
use Rattle.file_plans.specs.declared.sight.Sight.TheVariants as sights
use Rattle.file_plans.specs.declared.stage.Fresh.{Fresh}
use Rattle.file_plans.specs.declared.stage.Stage.TheVariants as stages
use Rattle.file_plans.specs.laws.BaseLaws.{IsStill, base_key, base_still, still_others}
use Rattle.file_plans.specs.laws.WriteBaseLaws.{found_same, fresh_same, kept_same, sight_on}

module _ (v w : WorldView) (c : Cache) (core : Core) (x : ℕ) (is : Consistent v.locks) (others : Others x v w) (apart : core.host ≢ x) where
  -- what stands before any step of a call that has its hold
  pub open_still : IsOpenBase v c core → IsStill core.host v w × IsOpenBase w c core
  open_still comes =
      let still = still_others v w core.host x others apart (base_key v c core is comes.base) in (
        still,
        record {
          base = base_still v w c core still core.outcome comes.base;
          empty = others.facts core.host (RecordIs []) apart comes.empty;
          comes = comes.comes;
        },
      )

  met_still : IsStill core.host v w → (k old : ℕ) (shared : Option Kept) → IsMet v core.host k old shared → IsMet w core.host k old shared
  met_still still k old None met =
      subst (λ (g : Geometry). (j : ℕ) → j < k → group_at (first_of g core.host) j g.groups ≢ old / per_table) (sym still.geometry) met
  met_still still k old (Some kept) met = (
    kept_same v w c core still kept met.0,
    met.1,
    (
      met.2.0,
      met.2.1,
      subst (λ (g : Geometry). group_at (first_of g core.host) met.2.0 g.groups ≡ old / per_table) (sym still.geometry) met.2.2,
    ),
  )

  shared_still : IsStill core.host v w → (k : ℕ) (old : Option ℕ) (shared : Option Kept)
      → IfSome old (λ d. IsSharedMet v core.host k d shared) → IfSome old (λ d. IsSharedMet w core.host k d shared)
  shared_still still k None shared met = tt
  shared_still still k (Some d) shared met = record {
    has = subst (λ (g : Geometry). HasField g (Count d)) (sym still.geometry) met.has;
    met = met_still still k d shared met.met;
  }

  pub searches_still : (old : Option ℕ) (shared : Option Kept) (search : Search) → At v c core (stages.Searches old shared search)
      → At w c core (stages.Searches old shared search)
  searches_still old shared search at =
      let now = open_still at.0 in (
        now.1,
        searching_still v core.host core.taken is w x search others apart at.1,
        sight_on v w c core now.0.geometry now.0.tables (sights.Fresh old) at.2,
        shared_still now.0 (counted_groups search) old shared at.3,
      )

  pub locks_shared_still : (old d : ℕ) (group : Kept) → At v c core (stages.LocksShared old d group)
      → At w c core (stages.LocksShared old d group)
  locks_shared_still old d group at =
      let now = open_still at.0 in (
        now.1,
        sight_on v w c core now.0.geometry now.0.tables (sights.Fresh (Some old)) at.1,
        found_same v w c core now.0 d group at.2,
        ap (λ (m : HostState). holds m (Group (old / per_table))) now.0.memory ∙ at.3,
        at.4,
      )

  pub fetches_shared_still : (old d : ℕ) (group : Kept) → At v c core (stages.FetchesShared old d group)
      → At w c core (stages.FetchesShared old d group)
  fetches_shared_still old d group at =
      let now = open_still at.0 in (
        now.1,
        sight_on v w c core now.0.geometry now.0.tables (sights.Fresh (Some old)) at.1,
        found_same v w c core now.0 d group at.2,
        at.3,
        ap (λ (m : HostState). holds m (Group (old / per_table))) now.0.memory ∙ at.4,
      )

  pub puts_still : (fresh : Fresh) → At v c core (stages.Puts fresh) → At w c core (stages.Puts fresh)
  puts_still fresh at =
      let now = open_still at.comes in fresh_same v w c core now.0 fresh now.1.empty at

  pub fills_still : (fresh : Fresh) → At v c core (stages.Fills fresh) → At w c core (stages.Fills fresh)
  fills_still fresh at = (puts_still fresh at.0, others.facts core.host (FreshIs fresh.number (block_of core.call).0) apart at.1)
