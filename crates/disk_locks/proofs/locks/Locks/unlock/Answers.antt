use Rattle.std.proofs.Common.{rules}
use Rattle.disk_locks.specs.Calls.{Unlocks}
use Rattle.disk_locks.proofs.LockCalls.{unlock_law}
use Rattle.disk_locks.proofs.locks.Locks.unlock.Goals as goal

pub invariant_of-self : goal.invariant_of-self
invariant_of-self g c =
    let did : Unlocks c.args.self.now c.args.host c.args.what c.write-freed.result c.write-freed.new.self = search rules in
    (unlock_law c.args.self.now c.args.host c.key-key.ensures.consistent c.requires.host c.requires.joined c.write-freed.new.self c.known.ensures.device c.args.what c.write-freed.result c.requires.what c.requires.held c.requires.unedited did).0

pub returns-clause-did : goal.returns-clause-did
returns-clause-did g c = let did : Unlocks c.args.self.now c.args.host c.args.what c.write-freed.result c.write-freed.new.self = search rules in did

pub returns-clause-others : goal.returns-clause-others
returns-clause-others g c =
    (unlock_law c.args.self.now c.args.host c.key-key.ensures.consistent c.requires.host c.requires.joined c.write-freed.new.self c.known.ensures.device c.args.what c.write-freed.result c.requires.what c.requires.held c.requires.unedited (returns-clause-did g c)).1
