use Rattle.std.proofs.lemmas.Result.{on_ok_weaker}
use Rattle.gen_load.specs.Generated.{round_lines}
use Rattle.gen_load.proofs.Gaining.{both, line}
use Rattle.gen_load.proofs.generating.write_round.Goals as goal

pub returns : goal.returns
unfolding round_lines
returns c = on_ok_weaker c.write_turns.result (λ gains. both (line c.in_ok-write_line.ensures) gains) c.write_turns.ensures
