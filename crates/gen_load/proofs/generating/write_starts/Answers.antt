use Rattle.std.proofs.Common.{arith}
use Rattle.gen_load.specs.Generated.{start_lines}
use Rattle.gen_load.proofs.Gaining.{all_below, more_below, none_below}
use Rattle.gen_load.proofs.generating.write_starts.Goals as goal

pub loop-host-init : goal.loop-host-init
loop-host-init c = none_below c.args.text.now (start_lines c.args.rounds)

pub loop-host-preserved : goal.loop-host-preserved
loop-host-preserved c = more_below c.loop-host.host (start_lines c.args.rounds) c.loop-host.invariant c.in_ok-write_start.ensures

pub returns : goal.returns
returns c = all_below c.loop-host.host 4 (start_lines c.args.rounds) (omega arith) c.loop-host.invariant
