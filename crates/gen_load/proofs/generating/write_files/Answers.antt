use Rattle.std.proofs.Common.{◌+◌, ◌*◌, arith}
use Rattle.gen_load.specs.Generated.{file_lines}
use Rattle.gen_load.proofs.Gaining.{all_below, more_below, none_below}
use Rattle.gen_load.proofs.generating.write_files.Goals as goal

pub loop-quarter-init : goal.loop-quarter-init
loop-quarter-init c = none_below c.args.text.now (λ q. file_lines c.args.rounds c.args.host (4 * q + c.args.host))

pub loop-quarter-preserved : goal.loop-quarter-preserved
loop-quarter-preserved c = more_below c.loop-quarter.quarter (λ q. file_lines c.args.rounds c.args.host (4 * q + c.args.host)) c.loop-quarter.invariant c.in_ok-write_file.ensures

pub returns : goal.returns
returns c = all_below c.loop-quarter.quarter 4 (λ q. file_lines c.args.rounds c.args.host (4 * q + c.args.host)) (omega arith) c.loop-quarter.invariant
