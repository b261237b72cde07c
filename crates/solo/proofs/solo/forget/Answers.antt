use Rattle.std.proofs.Common.{◌<◌, subst, sym}
use Rattle.vol_layout.specs.declared.geometry.Geometry.{Geometry}
use Rattle.disk_locks.specs.Consistent.{Consistent}
use Rattle.solo.specs.laws.AloneLaws.{alone_below, forgets_nothing}
use Rattle.solo.proofs.solo.forget.Goals as goal

pub forget_host-requires : goal.forget_host-requires
forget_host-requires g c =
    subst (λ (x : Geometry). 0 < x.hosts) (sym c.requires.cached.volume)
    (alone_below c.args.world.now (subst Consistent c.locks.ensures c.geometry-geometry.ensures.consistent) c.requires.alone)

pub returns : goal.returns
returns g c = forgets_nothing c.args.world.now c.args.cache.now c.forget_host.new.self c.requires.cached c.forget_host.ensures
