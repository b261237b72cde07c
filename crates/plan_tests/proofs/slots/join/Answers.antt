use Rattle.std.proofs.Common.{refl, sym, subst}
use Rattle.host_facts.specs.Views.{with_locks}
use Rattle.recover_plan.specs.Plans.{PlanStands}
use Rattle.recover_plan.specs.declared.plan.Doing.TheVariants.{Register}
use Rattle.plan_tests.proofs.SlotLaws.{drop_leaves, joins}
use Rattle.plan_tests.proofs.slots.join.Goals as goal

pub run-requires-clause-stands : goal.run-requires-clause-stands
run-requires-clause-stands g c =
    let begun = with_locks c.args.world.now c.drop_host.new.self in
    subst (λ watch. PlanStands begun c.args.host watch Register) (sym c.new-watch.ensures)
    (joins c.args.world.now.locks c.locks_mut.result.now c.drop_host.new.self begun c.args.host c.requires.host
    c.locks_mut.ensures.now c.drop_host.ensures.did c.drop_host.ensures.others refl)

pub returns-clause-others : goal.returns-clause-others
returns-clause-others g c =
    drop_leaves c.args.world.now c.args.host c.locks.result.now c.locks_mut.result.now c.drop_host.new.self _ c.locks.ensures
    c.geometry-geometry.ensures.consistent c.locks_mut.ensures.now c.drop_host.ensures.others c.run.ensures.others
