use Rattle.std.proofs.lemmas.Result.{on_ok_weaker}
use Rattle.gen_load.specs.Generated.{ending_lines}
use Rattle.gen_load.proofs.Gaining.{both, line}
use Rattle.gen_load.proofs.generating.write_ending.Goals as goal

pub returns : goal.returns
unfolding ending_lines
returns c = on_ok_weaker c.write_for_each_host.result (λ gains. both (line c.in_ok-write_line.ensures) gains) c.write_for_each_host.ensures
