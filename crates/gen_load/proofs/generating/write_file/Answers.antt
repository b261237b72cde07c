use Rattle.std.proofs.lemmas.Result.{on_ok_weaker}
use Rattle.gen_load.proofs.Gaining.{both, line}
use Rattle.gen_load.proofs.generating.write_file.Goals as goal

pub returns : goal.returns
returns c = on_ok_weaker c.write_command-2.result (λ gains. both (line {before = c.args.text.now} {after = c.write_command.new.text} c.in_ok-write_command.ensures) (line {before = c.write_command.new.text} {after = c.write_command-2.new.text} gains)) c.write_command-2.ensures
