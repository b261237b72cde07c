use Rattle.std.proofs.Common.{rules}
use Rattle.disk_locks.specs.Calls.{ClearsLock}
use Rattle.disk_locks.proofs.LockCalls.{clear_law}
use Rattle.disk_locks.specs.Calls.{FreesLock}
use Rattle.disk_locks.proofs.Sound.{cleared_sound}
use Rattle.disk_locks.proofs.locks.Locks.free_lock_of.Goals as goal

pub invariant_of-self : goal.invariant_of-self
invariant_of-self g c =
    let did : ClearsLock c.args.self.now c.args.host c.args.dead.0 c.args.what c.try_lock-tried.result c.try_lock-tried.new.self = search rules in
    (clear_law c.args.self.now c.args.host c.try_lock-tried.new.self c.args.dead.0 c.args.what c.try_lock-tried.result c.key-key.ensures.consistent c.requires.host c.requires.key c.known.ensures.device c.requires.what c.requires.some c.requires.claimed c.requires.unedited did).0

pub returns-clause-others : goal.returns-clause-others
returns-clause-others g c =
    let did : ClearsLock c.args.self.now c.args.host c.args.dead.0 c.args.what c.try_lock-tried.result c.try_lock-tried.new.self = search rules in
    (clear_law c.args.self.now c.args.host c.try_lock-tried.new.self c.args.dead.0 c.args.what c.try_lock-tried.result c.key-key.ensures.consistent c.requires.host c.requires.key c.known.ensures.device c.requires.what c.requires.some c.requires.claimed c.requires.unedited did).1

pub returns-clause-did : goal.returns-clause-did
returns-clause-did g c = let did : FreesLock c.args.self.now c.args.host c.args.dead.0 c.args.what c.cleared.result c.try_lock-tried.new.self = search rules in did

pub returns-clause-sound : goal.returns-clause-sound
returns-clause-sound g c =
    cleared_sound c.args.self.now c.args.host c.key-key.ensures.consistent (c.requires.key) c.args.dead.0 c.args.what c.cleared.result c.try_lock-tried.new.self c.requires.what (returns-clause-did g c)
