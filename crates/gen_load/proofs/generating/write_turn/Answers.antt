use Rattle.std.proofs.lemmas.Result.{on_ok_weaker}
use Rattle.gen_load.specs.Generated.{host_lines}
use Rattle.gen_load.proofs.Gaining.{both, line}
use Rattle.gen_load.proofs.generating.write_turn.Goals as goal

pub returns : goal.returns
unfolding host_lines
returns c = on_ok_weaker c.write_log.result (λ gains. both c.in_ok-write_blocks.ensures (both (line c.in_ok-write_command.ensures) gains)) c.write_log.ensures
