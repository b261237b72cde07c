use Rattle.std.proofs.Common.{arith}
use Rattle.gen_load.specs.Generated.{round_lines}
use Rattle.gen_load.proofs.Gaining.{all_below, more_below, none_below}
use Rattle.gen_load.proofs.generating.write_rounds.Goals as goal

pub loop-round-init : goal.loop-round-init
loop-round-init c = none_below c.args.text.now (round_lines)

pub loop-round-preserved : goal.loop-round-preserved
loop-round-preserved c = more_below c.loop-round.round (round_lines) c.loop-round.invariant c.in_ok-write_round.ensures

pub returns : goal.returns
returns c = all_below c.loop-round.round c.args.rounds (round_lines) (omega arith) c.loop-round.invariant
