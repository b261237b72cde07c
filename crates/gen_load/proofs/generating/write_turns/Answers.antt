use Rattle.std.proofs.Common.{arith}
use Rattle.gen_load.specs.Generated.{host_lines}
use Rattle.gen_load.proofs.Gaining.{all_below, more_below, none_below}
use Rattle.gen_load.proofs.generating.write_turns.Goals as goal

pub loop-host-init : goal.loop-host-init
loop-host-init c = none_below c.args.text.now (host_lines c.args.round)

pub loop-host-preserved : goal.loop-host-preserved
loop-host-preserved c = more_below c.loop-host.host (host_lines c.args.round) c.loop-host.invariant c.in_ok-write_turn.ensures

pub returns : goal.returns
returns c = all_below c.loop-host.host 4 (host_lines c.args.round) (omega arith) c.loop-host.invariant
