use Rattle.std.proofs.Common.{rules}
use Rattle.lock_store.specs.Calls.{RegistersHost}
use Rattle.disk_locks.proofs.OtherCalls.{register_law}
use Rattle.disk_locks.proofs.locks.Locks.register.Goals as goal

pub invariant_of-self : goal.invariant_of-self
invariant_of-self g c =
    let did : RegistersHost c.args.self.now c.args.host c.register-given.result c.register-given.new.self = search rules in
    (register_law c.args.self.now c.args.host c.register-given.result c.register-given.new.self c.me-memory.ensures.consistent c.requires.host c.requires.none c.known.ensures.device did).0

pub returns-clause-did : goal.returns-clause-did
returns-clause-did g c = let did : RegistersHost c.args.self.now c.args.host c.register-given.result c.register-given.new.self = search rules in did

pub returns-clause-others : goal.returns-clause-others
returns-clause-others g c =
    (register_law c.args.self.now c.args.host c.register-given.result c.register-given.new.self c.me-memory.ensures.consistent c.requires.host c.requires.none c.known.ensures.device (returns-clause-did g c)).1
