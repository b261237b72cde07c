use Rattle.lock_store.specs.declared.purpose.Purpose.TheVariants.{Read}
use Rattle.std.proofs.Common.{rules}
use Rattle.disk_locks.specs.Calls.{TriesRead}
use Rattle.disk_locks.proofs.LockCalls.{read_law}
use Rattle.vol_layout.specs.declared.kind.Resource.TheVariants.{File}
use Rattle.disk_locks.proofs.Sound.{may_find_read}
use Rattle.disk_locks.proofs.Sound.{tried_sound}
use Rattle.disk_locks.proofs.locks.Locks.try_read.Goals as goal

pub invariant_of-self : goal.invariant_of-self
invariant_of-self g c =
    let did : TriesRead c.args.self.now c.args.host c.args.file c.args.from.now c.try_lock-tried.result c.try_lock-tried.new.self = search rules in
    (read_law c.args.self.now c.args.host c.key-key.ensures.consistent c.requires.host c.requires.joined c.try_lock-tried.new.self c.known.ensures.device c.args.file c.args.from.now c.try_lock-tried.result c.requires.file c.requires.out c.requires.word c.requires.open did).0

pub returns-clause-did : goal.returns-clause-did
returns-clause-did g c = let did : TriesRead c.args.self.now c.args.host c.args.file c.args.from.now c.try_lock-tried.result c.try_lock-tried.new.self = search rules in did

pub returns-clause-others : goal.returns-clause-others
returns-clause-others g c =
    (read_law c.args.self.now c.args.host c.key-key.ensures.consistent c.requires.host c.requires.joined c.try_lock-tried.new.self c.known.ensures.device c.args.file c.args.from.now c.try_lock-tried.result c.requires.file c.requires.out c.requires.word c.requires.open (returns-clause-did g c)).1

pub returns-clause-sound : goal.returns-clause-sound
returns-clause-sound g c =
    tried_sound c.args.self.now c.args.host c.key-key.ensures.consistent (c.me.ensures.named c.requires.joined) (File c.args.file) Read c.args.from.now _ _ c.try_lock-tried.result c.try_lock-tried.new.self c.requires.file (may_find_read c.args.self.now c.args.host c.key-key.ensures.consistent (c.me.ensures.named c.requires.joined) c.args.file c.args.from.now c.requires.file (c.me.ensures.small c.args.host c.requires.host) c.requires.joined c.requires.out) (returns-clause-did g c)
