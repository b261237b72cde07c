use Rattle.std.proofs.Common.{rules}
use Rattle.disk_locks.specs.Calls.{ClearsSlot}
use Rattle.disk_locks.proofs.SlotsFreed.{free_law}
use Rattle.disk_locks.specs.Calls.{FreesSlot}
use Rattle.disk_locks.proofs.Sound.{free_sound}
use Rattle.disk_locks.proofs.Sound.{freed_law}
use Rattle.disk_locks.proofs.locks.Locks.free_slot.Goals as goal

pub invariant_of-self : goal.invariant_of-self
invariant_of-self g c =
    let did : ClearsSlot c.args.self.now c.args.host c.args.of c.try_slot-tried.result c.try_slot-tried.new.self = search rules in
    (free_law c.args.self.now c.args.host c.key-key.ensures.consistent c.requires.host c.requires.key c.try_slot-tried.new.self c.known.ensures.device c.args.of c.try_slot-tried.result c.requires.of c.requires.may c.requires.unneeded did).0

pub returns-clause-others : goal.returns-clause-others
returns-clause-others g c =
    let did : ClearsSlot c.args.self.now c.args.host c.args.of c.try_slot-tried.result c.try_slot-tried.new.self = search rules in
    (free_law c.args.self.now c.args.host c.key-key.ensures.consistent c.requires.host c.requires.key c.try_slot-tried.new.self c.known.ensures.device c.args.of c.try_slot-tried.result c.requires.of c.requires.may c.requires.unneeded did).1

pub returns-clause-did : goal.returns-clause-did
returns-clause-did g c = let did : FreesSlot c.args.self.now c.args.host c.args.of c.left.result c.try_slot-tried.new.self = search rules in did

pub returns-clause-sound : goal.returns-clause-sound
returns-clause-sound g c =
    free_sound c.args.self.now c.args.host c.key-key.ensures.consistent (c.requires.key) c.args.of c.left.result c.try_slot-tried.new.self c.requires.of (returns-clause-did g c)

pub returns-clause-freed : goal.returns-clause-freed
returns-clause-freed g c =
    freed_law c.args.self.now c.args.host c.key-key.ensures.consistent c.requires.key c.args.of c.left.result c.try_slot-tried.new.self c.requires.host c.requires.of c.requires.may (returns-clause-did g c)
