use Rattle.std.proofs.Common.{inl}
use Rattle.host_threads.proofs.Steps.{moves, hands}
use Rattle.host_threads.proofs.drive.step.Goals as goal

pub returns-in-Work-clause-lowers : goal.returns-in-Work-clause-lowers
returns-in-Work-clause-lowers g c =
    let turn = c.in_ok-block.ensures in
    let waits = (turn.work c.in-Work.block).0 c.in-Work.is in
    inl (hands g.T.Turns.left (λ v. g.T.Turns.awaited v c.args.host) c.in_ok-block.field-0 c.args.value.now c.turn.new.self c.supply.new.self c.in-Work.block c.in-Work.is turn.stays waits
    c.supply.ensures.lowers)

pub returns-in_default : goal.returns-in_default
returns-in_default g c =
    let turn = c.in_ok-block.ensures in record {
      began = turn.began;
      entries = turn.entries;
      lowers = moves g.T.Turns.left c.in_ok-block.field-0 (g.T.Turns.has_command c.args.value.now c.args.host) c.args.value.now c.turn.new.self c.in_default.not-Work turn.lowers turn.stays turn.idle;
      hosts = turn.hosts;
    }
