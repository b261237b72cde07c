use Rattle.std.proofs.Common.{◌+◌, ◌*◌}
use Rattle.gen_load.specs.Generated.{Gains, each_below, file_lines}
use Rattle.gen_load.proofs.generating.write_files.Given as goal

abbrev pub invariant-loop-quarter : goal.invariant-loop-quarter
invariant-loop-quarter l = Gains l.initial.text l.text (each_below l.quarter (λ q. file_lines l.rounds l.host (4 * q + l.host)))
