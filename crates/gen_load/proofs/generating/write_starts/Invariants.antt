use Rattle.gen_load.specs.Generated.{Gains, each_below, start_lines}
use Rattle.gen_load.proofs.generating.write_starts.Given as goal

abbrev pub invariant-loop-host : goal.invariant-loop-host
invariant-loop-host l = Gains l.initial.text l.text (each_below l.host (start_lines l.rounds))
