use Rattle.std.proofs.Common.{rules}
use Rattle.disk_locks.specs.Calls.{TriesHold}
use Rattle.disk_locks.proofs.LockCalls.{share_law}
use Rattle.disk_locks.specs.Calls.{TriesShared}
use Rattle.disk_locks.proofs.Sound.{shared_sound}
use Rattle.disk_locks.proofs.locks.Locks.try_lock.Goals as goal

pub invariant_of-self : goal.invariant_of-self
invariant_of-self g c =
    let did : TriesHold c.args.self.now c.args.host c.args.what c.try_lock-tried.result c.try_lock-tried.new.self = search rules in
    (share_law c.args.self.now c.args.host c.key-key.ensures.consistent c.requires.host c.requires.joined c.try_lock-tried.new.self c.known.ensures.device c.args.what c.try_lock-tried.result c.requires.what c.requires.shared did).0

pub returns-clause-others : goal.returns-clause-others
returns-clause-others g c =
    let did : TriesHold c.args.self.now c.args.host c.args.what c.try_lock-tried.result c.try_lock-tried.new.self = search rules in
    (share_law c.args.self.now c.args.host c.key-key.ensures.consistent c.requires.host c.requires.joined c.try_lock-tried.new.self c.known.ensures.device c.args.what c.try_lock-tried.result c.requires.what c.requires.shared did).1

pub returns-clause-did : goal.returns-clause-did
returns-clause-did g c = let did : TriesShared c.args.self.now c.args.host c.args.what c.got.result c.try_lock-tried.new.self = search rules in did

pub returns-clause-sound : goal.returns-clause-sound
returns-clause-sound g c =
    shared_sound c.args.self.now c.args.host c.key-key.ensures.consistent (c.me.ensures.named c.requires.joined) c.args.what c.got.result c.try_lock-tried.new.self c.requires.what c.requires.shared c.requires.out (returns-clause-did g c)
