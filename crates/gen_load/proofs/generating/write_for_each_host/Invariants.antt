use Rattle.std.proofs.Common.{◌∷◌, []}
use Rattle.gen_load.specs.Generated.{Gains, command_line, each_below}
use Rattle.gen_load.proofs.generating.write_for_each_host.Given as goal

abbrev pub invariant-loop-host : goal.invariant-loop-host
invariant-loop-host l = Gains l.initial.text l.text (each_below l.host (λ host. command_line host l.name [] ∷ []))
