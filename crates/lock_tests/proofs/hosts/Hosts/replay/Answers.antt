use Rattle.std.proofs.Common.{rules, sym}
use Rattle.vol_layout.specs.Fields.{HasField}
use Rattle.vol_layout.specs.laws.EditLaws.{touches-at}
use Rattle.lock_tests.proofs.hosts.Hosts.replay.Goals as goal

pub replay-requires-clause-edited : goal.replay-requires-clause-edited
replay-requires-clause-edited c =
    let has : HasField c.args.self.now.world.locks.geometry c.get-field.result.field = search rules in (
      c.get-field.result.field,
      has,
      touches-at c.args.entry.now.edits c.args.k c.get-field.result c.get-field.ensures,
      sym c.table_of-which.ensures.table,
    )
