use Rattle.std.proofs.lemmas.Result.{on_ok_weaker}
use Rattle.gen_load.proofs.Gaining.{line, log, no_log, none, same_lines}
use Rattle.gen_load.proofs.generating.write_log.Goals as goal

pub returns-then-round : goal.returns-then-round
returns-then-round c =
    on_ok_weaker c.write_command.result (λ gained. same_lines (log c.args.round c.args.host c.if-round.true) (line gained)) c.write_command.ensures

pub returns : goal.returns
returns c = same_lines (no_log c.args.round c.args.host c.if-round.false) (none c.args.text.now)
