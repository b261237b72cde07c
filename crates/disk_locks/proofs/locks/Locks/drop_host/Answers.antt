use Rattle.std.proofs.Common.{rules, subst}
use Rattle.disk_locks.specs.Consistent.{Consistent}
use Rattle.lock_store.specs.Events.{Notes}
use Rattle.lock_store.specs.Memories.{dropped}
use Rattle.disk_locks.proofs.OtherCalls.{drop_law}
use Rattle.disk_locks.proofs.locks.Locks.drop_host.Goals as goal

pub invariant_of-self : goal.invariant_of-self
invariant_of-self g c =
    let is = subst Consistent c.self.view_is c.self.invariant in
    let did : Notes c.args.host dropped c.args.self.now c.note.new.self = search rules in
    (drop_law c.args.self.now c.args.host c.note.new.self is did).0

pub returns-clause-others : goal.returns-clause-others
returns-clause-others g c =
    let is = subst Consistent c.self.view_is c.self.invariant in
    let did : Notes c.args.host dropped c.args.self.now c.note.new.self = search rules in
    (drop_law c.args.self.now c.args.host c.note.new.self is did).1
