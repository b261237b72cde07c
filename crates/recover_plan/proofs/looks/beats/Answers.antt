use Rattle.std.proofs.Common.{arith}
use Rattle.vol_base.specs.declared.command.Command.TheVariants.{Beat}
use Rattle.plan_parts.specs.laws.CutCallLaws.{cut_weaker}
use Rattle.recover_plan.proofs.looks.beats.Goals as goal

pub returns-in-Ok-clause-came : goal.returns-in-Ok-clause-came
returns-in-Ok-clause-came g c = record {
  owes = c.in-Ok.ensures.owes c.args.watch.now;
  stands = c.in-Ok.ensures.watched c.args.watch.now c.requires.stands.watched;
  tables = λ keeps uncut. c.in-Ok.ensures.tables;
  volume = λ leaves uncut. absurd leaves;
  fewer = omega arith;
}

pub returns-in-Err-clause-cut : goal.returns-in-Err-clause-cut
returns-in-Err-clause-cut g c =
    cut_weaker Beat c.args.world.now c.beat.new.world c.args.host c.in-Err.why _ c.in-Err.ensures.cut
