use Rattle.std.proofs.Common.{rules}
use Rattle.vol_layout.specs.declared.kind.Resource.TheVariants.{File}
use Rattle.lock_store.specs.Tries.{ConfirmsLock}
use Rattle.disk_locks.proofs.OtherCalls.{confirm_law}
use Rattle.disk_locks.proofs.Sound.{confirm_sound}
use Rattle.disk_locks.proofs.locks.Locks.confirm.Goals as goal

pub invariant_of-self : goal.invariant_of-self
invariant_of-self g c =
    let did : ConfirmsLock c.args.self.now c.args.host (File c.args.file) c.confirm-confirmed.result c.confirm-confirmed.new.self = search rules in
    (confirm_law c.args.self.now c.args.host (File c.args.file) c.confirm-confirmed.result c.confirm-confirmed.new.self c.key-key.ensures.consistent c.requires.key did).0

pub returns-clause-did : goal.returns-clause-did
returns-clause-did g c = let did : ConfirmsLock c.args.self.now c.args.host (File c.args.file) c.confirm-confirmed.result c.confirm-confirmed.new.self = search rules in did

pub returns-clause-others : goal.returns-clause-others
returns-clause-others g c =
    (confirm_law c.args.self.now c.args.host (File c.args.file) c.confirm-confirmed.result c.confirm-confirmed.new.self c.key-key.ensures.consistent c.requires.key (returns-clause-did g c)).1

pub returns-clause-sound : goal.returns-clause-sound
returns-clause-sound g c =
    confirm_sound c.args.self.now c.args.host c.key-key.ensures.consistent (c.requires.key) (File c.args.file) c.confirm-confirmed.result c.confirm-confirmed.new.self c.requires.file (returns-clause-did g c)
