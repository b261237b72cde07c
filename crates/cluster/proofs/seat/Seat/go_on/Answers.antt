use Rattle.std.proofs.Common.{subst, sym, ◌∙◌}
use Rattle.disk_locks.specs.Consistent.{Consistent}
use Rattle.recover_plan.specs.laws.JoinFinds.{others_dropped}
use Rattle.file_plans.specs.laws.BeginLaws.{leaves_then}
use Rattle.cluster.specs.laws.SlotSteps.{forgets_leaves}
use Rattle.cluster.specs.laws.StepTurns.{dies, lives, plan_volume}
use Rattle.cluster.proofs.seat.Seat.go_on.Goals as goal

pub returns-then-counts_last-clause-made : goal.returns-then-counts_last-clause-made
returns-then-counts_last-clause-made g c =
    let moved = rw c.in-Ok.is at c.step-went.ensures.stepped in
    let stands = rw moved.was at c.requires.stands in
    dies c.args.command.now c.args.host c.args.world.now c.step-went.new.world c.step-went.new.cache c.args.self.now c.step-went.new.self c.in-Ok.step
    c.requires.known moved c.drop_host.new.world c.drop_host.new.cache c.drop_host.new.self
    (c.step-went.ensures.leaves.volume ∙ plan_volume c.args.world.now c.args.cache.now c.args.host c.args.self.now.carried moved.before stands.1
    ∙ sym c.step-went.ensures.others.locks.lasts.geometry)
    (sym c.counts_last.ensures.last ∙ c.if-counts_last.true) c.drop_host.ensures

pub returns-then-counts_last-clause-others : goal.returns-then-counts_last-clause-others
returns-then-counts_last-clause-others g c =
    others_dropped c.args.world.now c.step-went.new.world c.drop_host.new.world c.args.host
    (subst Consistent c.locks.ensures c.geometry-geometry.ensures.consistent) (subst Consistent c.locks-2.ensures c.geometry-later.ensures.consistent)
    c.step-went.ensures.others c.drop_host.ensures.world

pub returns-else-counts_last-clause-made : goal.returns-else-counts_last-clause-made
returns-else-counts_last-clause-made g c =
    let moved = rw c.in-Ok.is at c.step-went.ensures.stepped in
    rw c.end.ensures.done
    (lives c.args.command.now c.args.host c.args.world.now c.step-went.new.world c.step-went.new.cache c.args.self.now c.step-went.new.self c.in-Ok.step
    c.requires.known moved c.counts_last.new.self c.end.new.self
    (sym c.counts_last.ensures.last ∙ c.if-counts_last.false) c.counts_last.ensures.left c.end.ensures.left)

pub returns-then-counts_last-clause-leaves : goal.returns-then-counts_last-clause-leaves
returns-then-counts_last-clause-leaves g c =
    leaves_then c.args.cache.now c.step-went.new.cache c.drop_host.new.cache c.args.host c.step-went.ensures.leaves
    (forgets_leaves c.step-went.new.cache c.drop_host.new.cache c.args.host c.drop_host.ensures.cache)
