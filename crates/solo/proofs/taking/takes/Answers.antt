use Rattle.std.proofs.Common.{subst, sym}
use Rattle.disk_locks.specs.Consistent.{Consistent}
use Rattle.solo.specs.laws.HoldLaws.{busy_later, busy_untold, cut_cause, cut_later, cut_open, taken_later, taken_on, taking_below, trying_first, trying_on}
use Rattle.solo.specs.Starts.{HasStartCause}
use Rattle.solo.specs.laws.LaterLaws.{later_first}
use Rattle.solo.proofs.taking.takes.Goals as goal

pub new-take-requires-clause-host : goal.new-take-requires-clause-host
new-take-requires-clause-host g c =
    taking_below c.args.world.now c.args.file (subst Consistent c.locks.ensures c.geometry-geometry.ensures.consistent) c.requires.taking

pub loop-taking-init : goal.loop-taking-init
loop-taking-init g c =
    trying_first c.args.world.now c.args.file c.new-take.result (subst Consistent c.locks.ensures c.geometry-geometry.ensures.consistent)
    c.requires.file c.requires.taking c.new-take.ensures (later_first 0 c.args.world.now)

pub next-requires-clause-host : goal.next-requires-clause-host
next-requires-clause-host g c =
    taking_below c.loop-taking.world c.args.file
    (subst Consistent c.locks-in-loop-taking.ensures c.geometry-geometry-in-loop-taking.ensures.consistent) c.loop-taking.invariant.taking

pub loop-taking-preserved : goal.loop-taking-preserved
loop-taking-preserved g c =
    trying_on c.args.world.now c.loop-taking.world c.next.new.world c.args.file c.loop-taking.take
    (subst Consistent c.locks-in-loop-taking.ensures c.geometry-geometry-in-loop-taking.ensures.consistent)
    c.loop-taking.invariant c.in-More.next (rw c.in-More.is at c.in-Ok.ensures.went).1

pub returns-in-Taken-clause-later : goal.returns-in-Taken-clause-later
returns-in-Taken-clause-later g c =
    taken_later c.args.world.now c.loop-taking.world c.next.new.world c.args.file c.loop-taking.take
    (subst Consistent c.locks-in-loop-taking.ensures c.geometry-geometry-in-loop-taking.ensures.consistent)
    c.loop-taking.invariant (rw c.in-Taken.is at c.in-Ok.ensures.went)

pub returns-in-Taken-clause-taken : goal.returns-in-Taken-clause-taken
returns-in-Taken-clause-taken g c =
    taken_on c.args.world.now c.loop-taking.world c.next.new.world c.args.file c.loop-taking.take
    (subst Consistent c.locks-in-loop-taking.ensures c.geometry-geometry-in-loop-taking.ensures.consistent)
    c.loop-taking.invariant (rw c.in-Taken.is at c.in-Ok.ensures.went)

pub returns-in-Busy-clause-later : goal.returns-in-Busy-clause-later
returns-in-Busy-clause-later g c =
    busy_later c.args.world.now c.loop-taking.world c.next.new.world c.args.file c.loop-taking.take
    (subst Consistent c.locks-in-loop-taking.ensures c.geometry-geometry-in-loop-taking.ensures.consistent)
    c.loop-taking.invariant c.in-Busy.key (rw c.in-Busy.is at c.in-Ok.ensures.went)

pub returns-in-Busy-clause-cause : goal.returns-in-Busy-clause-cause
returns-in-Busy-clause-cause g c =
    busy_untold c.args.world.now c.loop-taking.world c.next.new.world c.args.file c.loop-taking.take
    (subst Consistent c.locks-in-loop-taking.ensures c.geometry-geometry-in-loop-taking.ensures.consistent)
    c.loop-taking.invariant c.in-Busy.key (rw c.in-Busy.is at c.in-Ok.ensures.went)

pub refusal_of-requires : goal.refusal_of-requires
refusal_of-requires g c =
    cut_open c.args.world.now c.loop-taking.world c.next.new.world c.args.file c.loop-taking.take
    (subst Consistent c.locks-in-loop-taking.ensures c.geometry-geometry-in-loop-taking.ensures.consistent)
    c.loop-taking.invariant c.in-Err.why c.in-Err.ensures.cut

pub returns-in-Err-clause-later : goal.returns-in-Err-clause-later
returns-in-Err-clause-later g c =
    cut_later c.args.world.now c.loop-taking.world c.next.new.world c.args.file c.loop-taking.take
    (subst Consistent c.locks-in-loop-taking.ensures c.geometry-geometry-in-loop-taking.ensures.consistent)
    c.loop-taking.invariant c.in-Err.why c.in-Err.ensures.cut

pub returns-in-Err-clause-cause : goal.returns-in-Err-clause-cause
returns-in-Err-clause-cause g c =
    subst (HasStartCause c.args.world.now.locks.disk c.next.new.world.locks.disk) (sym c.refusal_of.ensures)
    (cut_cause c.args.world.now c.loop-taking.world c.next.new.world c.args.file c.loop-taking.take
    (subst Consistent c.locks-in-loop-taking.ensures c.geometry-geometry-in-loop-taking.ensures.consistent)
    c.loop-taking.invariant c.in-Err.why c.in-Err.ensures.cut)
