-- A share stands at its beginning, and over the calls of other hosts.
use Rattle.std.proofs.Common.{◌≡◌, ◌≢◌, ◌⊎◌, ◌≤◌, ◌+◌, ℕ, List, true, [], refl, subst, sym, arith, inl}
use Rattle.vol_layout.specs.declared.geometry.Geometry.{Geometry}
use Rattle.vol_layout.specs.declared.kind.Resource.{Resource}
use Rattle.vol_layout.specs.declared.kind.Table.TheVariants as tables
use Rattle.lock_store.specs.Views.{host_at, key_at}
use Rattle.disk_locks.specs.Consistent.{Consistent}
use Rattle.host_facts.specs.Facts.Fact.{BlockIs, RecordIs}
use Rattle.host_facts.specs.Others.{Others}
use Rattle.host_facts.specs.Views.{WorldView}
use Rattle.host_facts.specs.laws.FactLaws.{joined_key}
use Rattle.plan_parts.specs.Steps.{IsReady}
use Rattle.plan_parts.specs.laws.ApplyingLaws.{applying_still}
use Rattle.plan_parts.specs.laws.TakenLaws.{taking_still}
use Rattle.plan_parts.specs.TakenLocks.{IsTaking}
use Rattle.share_plans.specs.Closings.{IsClosing}
use Rattle.share_plans.specs.Lefts.{missing_at, missing_of_source}
use Rattle.share_plans.specs.Places.{field_of}
use Rattle.share_plans.specs.ReadTables.{kept_in}
use Rattle.share_plans.specs.Spots.{IsUnread, IsUnreadOfSource}
use Rattle.share_plans.specs.Stands.{At, HasPlaces, IsComparing, known_of}
use Rattle.share_plans.specs.declared.closing.Closing.{Closing}
use Rattle.share_plans.specs.declared.closing.Closing.TheVariants as closings
use Rattle.share_plans.specs.declared.sharing.Place.{Place}
use Rattle.share_plans.specs.declared.sharing.Place.TheVariants.{Arena, File}
use Rattle.share_plans.specs.declared.stage.Core.{Core}
use Rattle.share_plans.specs.declared.stage.Pair.{Pair}
use Rattle.share_plans.specs.declared.stage.Stage.{Stage}
use Rattle.share_plans.specs.declared.stage.Stage.TheVariants as stages
use Rattle.share_plans.specs.laws.StillLaws.{IsStill, base_on, comparing_on, equal_on, group_kept, other_kept}
use Rattle.share_plans.specs.laws.StillLaws.{pair_on, places_on, shown_on, slot_kept, still_others}

-- a share that begins: of a host that is ready, and has the file and the source
pub share_begins : (v : WorldView) (h f i : ℕ) (source : Place) → IsReady v h → HasPlaces v h f source
    → At v (record { host = h; file = f; index = i; source = source; taken = []; tables = [] }) (stages.Reads (tables.File f))
share_begins v h f i source ready is = (
  record { places = is; empty = ready.empty; taking = ready.taking; kept = tt },
  refl,
  inl (record { has = is.is_host.file; owned = refl; is = inl refl; unread = refl }),
  few source,
)
  where
    few : (source : Place) → 0 + (missing_at (kept_in []) f i + missing_of_source (kept_in []) source) ≤ 4
    few (File e j) = omega arith
    few (Arena s) = omega arith

-- what is left of its transaction stands
pub closing_on : (v w : WorldView) (h x : ℕ) (taken : List Resource) (closing : Closing)
    → Consistent v.locks → Others x v w → h ≢ x → key_at v.locks h ≢ 0
    → IsClosing v h taken closing → IsClosing w h taken closing
closing_on v w h x taken (closings.Applies a) is others apart some at =
    (taking_still v w h x taken others apart some at.0, applying_still v w h x a.entry.edits a.left is others apart at.1)
closing_on v w h x taken closings.Frees is others apart some at =
    (taking_still v w h x taken others apart some at.0, others.facts h (RecordIs []) apart at.1, at.2)

module _ (v w : WorldView) (core : Core) (x : ℕ) (is : Consistent v.locks) (others : Others x v w) (apart : core.host ≢ x) where
  key_of : (host_at v.locks core.host).joined ≡ true → key_at v.locks core.host ≢ 0
  key_of joined = joined_key v.locks.geometry.hosts _ core.host (host_at v.locks core.host) (is.memories core.host) joined

  still_of : (host_at v.locks core.host).joined ≡ true → IsStill core.host v w
  still_of joined = still_others core.host x v w others apart (key_of joined)

  taking_of : (host_at v.locks core.host).joined ≡ true → IsTaking v core.host core.taken → IsTaking w core.host core.taken
  taking_of joined = taking_still v w core.host x core.taken others apart (key_of joined)

  comparing : (pair : Pair) → IsComparing v core pair → IsComparing w core pair
  comparing pair at =
      comparing_on v w core (still_of at.base.places.is_host.joined) pair (taking_of at.base.places.is_host.joined at.base.taking) at

  pub share_still : (stage : Stage) → At v core stage → At w core stage
  share_still (stages.Reads t) at =
      let still = still_of at.0.places.is_host.joined in (
        base_on v w core still core.taken (taking_of at.0.places.is_host.joined at.0.taking) at.0,
        at.1,
        subst (λ (g : Geometry). IsUnread g (known_of core) core.file core.index t ⊎ IsUnreadOfSource g (known_of core) core.source t)
            (sym still.geometry) at.2,
        at.3,
      )
  share_still (stages.Peeks own) at =
      let still = still_of at.0.places.is_host.joined in
      (base_on v w core still core.taken (taking_of at.0.places.is_host.joined at.0.taking) at.0, at.1, shown_on v w core still own at.2, at.3)
  share_still (stages.Locks pair) at =
      let still = still_of at.0.places.is_host.joined in
      (base_on v w core still core.taken (taking_of at.0.places.is_host.joined at.0.taking) at.0, at.1, pair_on v w core still pair at.2)
  share_still (stages.LocksSource pair) at =
      let still = still_of at.0.places.is_host.joined in
      (base_on v w core still core.taken (taking_of at.0.places.is_host.joined at.0.taking) at.0, at.1, pair_on v w core still pair at.2, at.3)
  share_still (stages.PeeksAgain pair) at = (comparing pair at.0, at.1)
  share_still (stages.ReadsSource pair) at =
      (comparing pair at.0, slot_kept core.host v w (still_of at.0.base.places.is_host.joined) core.source pair.source at.1)
  share_still (stages.ReadsOwn pair block) at =
      (comparing pair at.0, others.facts core.host (BlockIs (field_of core.source) pair.source block.0) apart at.1)
  share_still (stages.CountsOwn pair) at = (comparing pair at.0, equal_on v w core (still_of at.0.base.places.is_host.joined) pair at.1)
  share_still (stages.CountsSource pair group) at =
      let still = still_of at.0.base.places.is_host.joined in
      (comparing pair at.0, equal_on v w core still pair at.1, group_kept core.host v w still pair.own group at.2, at.3)
  share_still (stages.Commits pair group other) at =
      let still = still_of at.0.base.places.is_host.joined in (
        comparing pair at.0,
        equal_on v w core still pair at.1,
        group_kept core.host v w still pair.own group at.2,
        other_kept core.host v w still pair other at.3,
      )
  share_still (stages.Closes closing answer) at = (
    places_on core.host v w (still_of at.0.is_host.joined) core.file core.source at.0,
    closing_on v w core.host x core.taken closing is others apart (key_of at.0.is_host.joined) at.1,
  )
  share_still stages.Over at = at
