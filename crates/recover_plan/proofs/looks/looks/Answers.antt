use Rattle.std.proofs.Common.{arith}
use Rattle.vol_base.specs.declared.command.Command.TheVariants.{Look}
use Rattle.plan_parts.specs.laws.CutCallLaws.{cut_weaker}
use Rattle.recover_plan.proofs.looks.looks.Goals as goal

pub returns-in-Ok-clause-came : goal.returns-in-Ok-clause-came
returns-in-Ok-clause-came g c = record {
  owes = c.in-Ok.ensures.owes;
  stands = c.in-Ok.ensures.watched;
  tables = λ keeps uncut. c.in-Ok.ensures.tables;
  volume = λ leaves uncut. absurd leaves;
  fewer = omega arith;
}

pub returns-in-Err-clause-cut : goal.returns-in-Err-clause-cut
returns-in-Err-clause-cut g c =
    cut_weaker (Look c.args.of) c.args.world.now c.look.new.world c.args.host c.in-Err.why _
    (c.in-Err.ensures.cut (Look c.args.of))
