use Rattle.std.proofs.lemmas.Result.{on_ok_weaker}
use Rattle.gen_load.specs.Generated.{generated_lines}
use Rattle.gen_load.proofs.Gaining.{both, line}
use Rattle.gen_load.proofs.generating.write_workload.Goals as goal

pub returns : goal.returns
unfolding generated_lines
returns c = on_ok_weaker c.write_ending-2.result (λ gains. both (line c.in_ok-write_line.ensures) (both c.in_ok-write_starts.ensures (both c.in_ok-write_rounds.ensures (both c.in_ok-write_ending.ensures gains)))) c.write_ending-2.ensures
