use Rattle.std.proofs.Common.{subst}
use Rattle.std.proofs.Common.{sym, ◌∙◌}
use Rattle.file_plans.specs.Forgets.{ForgetsFile}
use Rattle.file_plans.specs.laws.ForgetLaws.{forgets_leaves}
use Rattle.file_plans.specs.declared.stage.Stage.TheVariants as stages
use Rattle.file_plans.specs.laws.BeginLaws.{err_from, leaves_then, ok_from, outside_forgets, sees_noted}
use Rattle.file_plans.proofs.beginning.begins.Goals as goal
use Rattle.file_plans.specs.laws.TurnStepLaws.{oks_sooner}
use Rattle.file_plans.specs.laws.TurnHoldLaws.{begins_forgets, begins_sees}

pub returns-then-has_hold-clause-went : goal.returns-then-has_hold-clause-went
returns-then-has_hold-clause-went g c =
    ok_from c.args.world.now c.sees.new.world c.sees.new.cache c.args.core.now c.sees.new.core stages.Begins stages.Sees
    (sees_noted c.args.world.now c.args.cache.now c.args.core.now c.requires.stands) c.sees.result c.sees.ensures.went

pub returns-then-has_hold-clause-cut : goal.returns-then-has_hold-clause-cut
returns-then-has_hold-clause-cut g c =
    err_from c.args.world.now c.sees.new.world c.args.core.now stages.Begins stages.Sees
    (sees_noted c.args.world.now c.args.cache.now c.args.core.now c.requires.stands) c.sees.result c.sees.ensures.cut

pub tries-requires-clause-stands : goal.tries-requires-clause-stands
tries-requires-clause-stands g c =
    outside_forgets c.args.world.now c.args.cache.now c.forget_file.new.cache c.args.core.now c.requires.stands
    (subst (λ f. ForgetsFile c.args.cache.now c.forget_file.new.cache c.args.core.now.host f) c.file-file.ensures c.forget_file.ensures)

pub returns-clause-leaves : goal.returns-clause-leaves
returns-clause-leaves g c =
    leaves_then c.args.cache.now c.forget_file.new.cache c.tries.new.cache c.args.core.now.host
    (forgets_leaves c.args.cache.now c.forget_file.new.cache c.args.core.now.host c.file-file.result c.forget_file.ensures) c.tries.ensures.leaves

pub returns-then-has_hold-clause-sooner : goal.returns-then-has_hold-clause-sooner
returns-then-has_hold-clause-sooner g c =
    oks_sooner c.args.world.now c.sees.new.world c.args.cache.now c.args.cache.now c.sees.new.cache c.args.core.now c.sees.new.core
    stages.Begins stages.Sees c.sees.result
    (begins_sees c.args.world.now c.args.cache.now c.args.core.now (sym c.has_hold.ensures ∙ c.if-has_hold.true)) c.sees.ensures.sooner

pub returns-clause-sooner : goal.returns-clause-sooner
returns-clause-sooner g c =
    oks_sooner c.args.world.now c.tries.new.world c.args.cache.now c.forget_file.new.cache c.tries.new.cache c.args.core.now c.tries.new.core
    stages.Begins stages.Begins c.tries.result
    (begins_forgets c.args.world.now c.args.cache.now c.forget_file.new.cache c.args.core.now (sym c.has_hold.ensures ∙ c.if-has_hold.false))
    c.tries.ensures.sooner
