use Rattle.vol_base.specs.declared.command.Command.TheVariants as commands
use Rattle.recover_plan.specs.Plans.{Agrees}
use Rattle.recover_plan.specs.declared.plan.Doing.TheVariants.{Begin, First}
use Rattle.recover_plan.specs.laws.BeginLaws.{begin_came}
use Rattle.recover_plan.specs.laws.StepLaws.{cut_stronger}
use Rattle.recover_plan.proofs.recover.begin_with.Goals as goal

pub returns-in-Ok-clause-came : goal.returns-in-Ok-clause-came
returns-in-Ok-clause-came g c =
    begin_came c.args.host c.args.of c.args.world.now c.recovers.new.world c.args.watch.now c.recovers.new.watch c.args.stage
    c.in-Ok.come c.requires.agrees c.requires.most c.in-Ok.ensures.came

pub returns-in-Err-clause-cut : goal.returns-in-Err-clause-cut
returns-in-Err-clause-cut g c =
    cut_stronger (commands.Recover c.args.of) c.args.world.now c.recovers.new.world c.args.host c.in-Err.why
    (Agrees c.args.host c.args.world.now c.args.watch.now (First c.args.of c.args.stage))
    (Agrees c.args.host c.args.world.now c.args.watch.now (Begin c.args.of)) c.requires.agrees c.in-Err.ensures.cut
