use Rattle.std.proofs.Common.{rules}
use Rattle.lock_store.specs.Calls.{ReadsBlock}
use Rattle.disk_locks.proofs.OtherCalls.{get_law}
use Rattle.disk_locks.proofs.locks.Locks.read_kind.Goals as goal

pub invariant_of-self : goal.invariant_of-self
invariant_of-self g c =
    let did : ReadsBlock c.args.self.now c.args.host c.args.kind c.read-block.result c.read-block.new.self = search rules in
    (get_law c.args.self.now c.args.host c.args.kind c.read-block.result c.read-block.new.self c.key-key.ensures.consistent c.requires.key did).0

pub returns-clause-did : goal.returns-clause-did
returns-clause-did g c = let did : ReadsBlock c.args.self.now c.args.host c.args.kind c.read-block.result c.read-block.new.self = search rules in did

pub returns-clause-others : goal.returns-clause-others
returns-clause-others g c =
    (get_law c.args.self.now c.args.host c.args.kind c.read-block.result c.read-block.new.self c.key-key.ensures.consistent c.requires.key (returns-clause-did g c)).1
