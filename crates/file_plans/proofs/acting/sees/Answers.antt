use Rattle.std.proofs.Common.{ap, ◌∙◌}
use Rattle.held_cache.specs.Kept.{kept_at}
use Rattle.lock_store.specs.Views.{LocksView}
use Rattle.file_plans.specs.declared.sight.Sight.TheVariants as sights
use Rattle.file_plans.specs.laws.ActLaws.{sight_as}
use Rattle.file_plans.specs.laws.NeedLaws.{cached_packed}
use Rattle.file_plans.proofs.acting.sees.Goals as goal
use Rattle.file_plans.specs.laws.TurnStepLaws.{oks_sooner}
use Rattle.file_plans.specs.laws.TurnActLaws.{change_starts, search_starts}
use Rattle.file_plans.specs.declared.stage.Change.TheVariants.{Drop, Purge}
use Rattle.file_plans.specs.declared.stage.Stage.TheVariants as stages
use Rattle.plan_parts.specs.declared.searching.Search.TheVariants.{Lock}
use Rattle.std.proofs.Common.{None}

pub look-requires-clause-packed : goal.look-requires-clause-packed
look-requires-clause-packed g c = cached_packed c.args.world.now c.args.cache.now c.args.core.now.host c.requires.stands.0.base.cached

pub confirms-requires-clause-sight : goal.confirms-requires-clause-sight
confirms-requires-clause-sight g c =
    sight_as c.geometry-geometry.result.now c.args.world.now.locks.geometry (kept_at c.args.cache.now c.args.core.now.host)
    c.args.core.now.call c.look.result (sights.Settled c.in-Settled.reply)
    (c.geometry-geometry.ensures.geometry ∙ ap (λ (l : LocksView). l.geometry) c.locks.ensures) c.in-Settled.is c.look.ensures

pub shows-requires-clause-sight : goal.shows-requires-clause-sight
shows-requires-clause-sight g c =
    sight_as c.geometry-geometry.result.now c.args.world.now.locks.geometry (kept_at c.args.cache.now c.args.core.now.host)
    c.args.core.now.call c.look.result (sights.Shows c.in-Shows.number)
    (c.geometry-geometry.ensures.geometry ∙ ap (λ (l : LocksView). l.geometry) c.locks.ensures) c.in-Shows.is c.look.ensures

pub heads-requires-clause-sight : goal.heads-requires-clause-sight
heads-requires-clause-sight g c =
    sight_as c.geometry-geometry.result.now c.args.world.now.locks.geometry (kept_at c.args.cache.now c.args.core.now.host)
    c.args.core.now.call c.look.result (sights.Heads c.in-Heads.number)
    (c.geometry-geometry.ensures.geometry ∙ ap (λ (l : LocksView). l.geometry) c.locks.ensures) c.in-Heads.is c.look.ensures

pub clears-requires-clause-sight : goal.clears-requires-clause-sight
clears-requires-clause-sight g c =
    sight_as c.geometry-geometry.result.now c.args.world.now.locks.geometry (kept_at c.args.cache.now c.args.core.now.host)
    c.args.core.now.call c.look.result sights.Clear
    (c.geometry-geometry.ensures.geometry ∙ ap (λ (l : LocksView). l.geometry) c.locks.ensures) c.in-Clear.is c.look.ensures

pub locks-requires-in-Drops : goal.locks-requires-in-Drops
locks-requires-in-Drops g c = record {
  stands = (
    c.requires.stands.0,
    c.requires.stands.1,
    sight_as c.geometry-geometry.result.now c.args.world.now.locks.geometry (kept_at c.args.cache.now c.args.core.now.host)
        c.args.core.now.call c.look.result (sights.Drops c.in-Drops.number)
        (c.geometry-geometry.ensures.geometry ∙ ap (λ (l : LocksView). l.geometry) c.locks.ensures) c.in-Drops.is c.look.ensures,
  );
}

pub locks-requires-in-Purges : goal.locks-requires-in-Purges
locks-requires-in-Purges g c = record {
  stands = (
    c.requires.stands.0,
    c.requires.stands.1,
    sight_as c.geometry-geometry.result.now c.args.world.now.locks.geometry (kept_at c.args.cache.now c.args.core.now.host)
        c.args.core.now.call c.look.result (sights.Purges c.in-Purges.remains)
        (c.geometry-geometry.ensures.geometry ∙ ap (λ (l : LocksView). l.geometry) c.locks.ensures) c.in-Purges.is c.look.ensures,
  );
}

pub returns-in-Fresh-clause-sooner : goal.returns-in-Fresh-clause-sooner
returns-in-Fresh-clause-sooner g c =
    oks_sooner c.args.world.now c.searches.new.world c.args.cache.now c.args.cache.now c.args.cache.now c.args.core.now
    c.searches.new.core stages.Sees
    (stages.Searches c.in-Fresh.old None (Lock 0)) c.searches.result
    (search_starts c.args.world.now c.args.cache.now c.args.core.now c.in-Fresh.old
    (sight_as c.geometry-geometry.result.now c.args.world.now.locks.geometry (kept_at c.args.cache.now c.args.core.now.host)
    c.args.core.now.call c.look.result (sights.Fresh c.in-Fresh.old)
    (c.geometry-geometry.ensures.geometry ∙ ap (λ (l : LocksView). l.geometry) c.locks.ensures) c.in-Fresh.is c.look.ensures))
    c.searches.ensures.sooner

pub returns-in-Drops-clause-sooner : goal.returns-in-Drops-clause-sooner
returns-in-Drops-clause-sooner g c =
    oks_sooner c.args.world.now c.locks-in-Drops.new.world c.args.cache.now c.args.cache.now c.args.cache.now c.args.core.now
    c.locks-in-Drops.new.core stages.Sees
    (stages.Locks (Drop c.in-Drops.number)) c.locks-in-Drops.result
    (change_starts c.args.world.now c.args.cache.now c.args.core.now (Drop c.in-Drops.number)
    (sight_as c.geometry-geometry.result.now c.args.world.now.locks.geometry (kept_at c.args.cache.now c.args.core.now.host)
    c.args.core.now.call c.look.result (sights.Drops c.in-Drops.number)
    (c.geometry-geometry.ensures.geometry ∙ ap (λ (l : LocksView). l.geometry) c.locks.ensures) c.in-Drops.is c.look.ensures))
    c.locks-in-Drops.ensures.sooner

pub returns-in-Purges-clause-sooner : goal.returns-in-Purges-clause-sooner
returns-in-Purges-clause-sooner g c =
    oks_sooner c.args.world.now c.locks-in-Purges.new.world c.args.cache.now c.args.cache.now c.args.cache.now c.args.core.now
    c.locks-in-Purges.new.core stages.Sees
    (stages.Locks (Purge c.in-Purges.remains)) c.locks-in-Purges.result
    (change_starts c.args.world.now c.args.cache.now c.args.core.now (Purge c.in-Purges.remains)
    (sight_as c.geometry-geometry.result.now c.args.world.now.locks.geometry (kept_at c.args.cache.now c.args.core.now.host)
    c.args.core.now.call c.look.result (sights.Purges c.in-Purges.remains)
    (c.geometry-geometry.ensures.geometry ∙ ap (λ (l : LocksView). l.geometry) c.locks.ensures) c.in-Purges.is c.look.ensures))
    c.locks-in-Purges.ensures.sooner
