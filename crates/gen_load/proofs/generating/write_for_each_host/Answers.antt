use Rattle.std.proofs.Common.{◌∷◌, [], arith}
use Rattle.gen_load.specs.Generated.{command_line}
use Rattle.gen_load.proofs.Gaining.{all_below, line, more_below, none_below}
use Rattle.gen_load.proofs.generating.write_for_each_host.Goals as goal

pub loop-host-init : goal.loop-host-init
loop-host-init c = none_below c.args.text.now (λ host. command_line host c.args.name.now [] ∷ [])

pub loop-host-preserved : goal.loop-host-preserved
loop-host-preserved c = more_below c.loop-host.host (λ host. command_line host c.args.name.now [] ∷ []) c.loop-host.invariant (line c.in_ok-write_command.ensures)

pub returns : goal.returns
returns c = all_below c.loop-host.host 4 (λ host. command_line host c.args.name.now [] ∷ []) (omega arith) c.loop-host.invariant
