use Rattle.std.proofs.lemmas.Result.{on_ok_weaker}
use Rattle.gen_load.specs.Generated.{start_lines}
use Rattle.gen_load.proofs.Gaining.{both, line}
use Rattle.gen_load.proofs.generating.write_start.Goals as goal

pub returns : goal.returns
unfolding start_lines
returns c = on_ok_weaker c.write_files.result (λ gains. both (line c.in_ok-write_command.ensures) gains) c.write_files.ensures
