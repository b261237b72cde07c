use Rattle.std.proofs.Common.{refl, subst}
use Rattle.disk_locks.specs.Consistent.{Consistent}
use Rattle.host_facts.specs.Views.{with_locks}
use Rattle.host_facts.specs.laws.KeptLaws.{others_lent}
use Rattle.recover_plan.specs.laws.SweepLaws.{sweep_cut, sweep_went, swept_unedited}
use Rattle.recover_plan.proofs.sweeping.sweep.Goals as goal

pub free_lock_of-done-requires-clause-unedited : goal.free_lock_of-done-requires-clause-unedited
free_lock_of-done-requires-clause-unedited g c =
    rw c.locks_mut.ensures.now
    (swept_unedited c.args.world.now c.args.host c.args.of c.args.dead.0 c.args.k c.lock_at-what.result
    (subst Consistent c.locks.ensures c.geometry.ensures.consistent) c.requires.swept)

pub returns-in-Ok-clause-others : goal.returns-in-Ok-clause-others
returns-in-Ok-clause-others g c =
    others_lent c.args.world.now c.args.host c.free_lock_of-done.new.self
    (subst Consistent c.locks.ensures c.geometry.ensures.consistent) (rw c.locks_mut.ensures.now at c.free_lock_of-done.ensures.others)

pub returns-in-Ok-clause-went : goal.returns-in-Ok-clause-went
returns-in-Ok-clause-went g c =
    sweep_went c.args.world.now (with_locks c.args.world.now c.free_lock_of-done.new.self) c.args.host c.args.of c.args.dead c.args.k
    c.lock_at-what.result (subst Consistent c.locks.ensures c.geometry.ensures.consistent)
    (subst Consistent c.locks-3.ensures c.geometry-geometry.ensures.consistent) (returns-in-Ok-clause-others g c)
    (rw (c.geometry.ensures.geometry, c.locks.ensures) at c.lock_at-what.ensures.has) refl c.requires.swept
    (rw (c.geometry.ensures.geometry, c.locks.ensures) at c.lock_at-what.ensures.turn)
    (rw c.locks_mut.ensures.now at c.in-Ok.ensures.did) c.behind_sweep-going.result c.requires.more
    (rw (c.geometry-2.ensures.geometry, c.locks-2.ensures) at c.behind_sweep-going.ensures)

pub returns-in-Err-clause-others : goal.returns-in-Err-clause-others
returns-in-Err-clause-others g c =
    others_lent c.args.world.now c.args.host c.free_lock_of-done.new.self
    (subst Consistent c.locks.ensures c.geometry.ensures.consistent) (rw c.locks_mut.ensures.now at c.free_lock_of-done.ensures.others)

pub returns-in-Err-clause-cut : goal.returns-in-Err-clause-cut
returns-in-Err-clause-cut g c =
    sweep_cut c.args.world.now (with_locks c.args.world.now c.free_lock_of-done.new.self) c.args.host c.args.of c.args.dead c.args.k
    c.lock_at-what.result (subst Consistent c.locks.ensures c.geometry.ensures.consistent)
    (subst Consistent c.locks-3.ensures c.geometry-geometry.ensures.consistent) (returns-in-Err-clause-others g c)
    (rw (c.geometry.ensures.geometry, c.locks.ensures) at c.lock_at-what.ensures.has) c.in-Err.why
    (rw c.locks_mut.ensures.now at c.in-Err.ensures.did) (rw c.locks_mut.ensures.now at c.in-Err.ensures.sound)
