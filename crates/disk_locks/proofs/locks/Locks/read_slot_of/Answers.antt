use Rattle.std.proofs.Common.{rules}
use Rattle.lock_store.specs.SlotTries.{ReadsSlot}
use Rattle.disk_locks.proofs.OtherCalls.{look_law}
use Rattle.disk_locks.proofs.Sound.{look_sound}
use Rattle.disk_locks.proofs.locks.Locks.read_slot_of.Goals as goal

pub invariant_of-self : goal.invariant_of-self
invariant_of-self g c =
    let did : ReadsSlot c.args.self.now c.args.host c.args.of c.read_slot-slot.result c.read_slot-slot.new.self = search rules in
    (look_law c.args.self.now c.args.host c.args.of c.read_slot-slot.result c.read_slot-slot.new.self c.key-key.ensures.consistent c.requires.key did).0

pub returns-clause-did : goal.returns-clause-did
returns-clause-did g c = let did : ReadsSlot c.args.self.now c.args.host c.args.of c.read_slot-slot.result c.read_slot-slot.new.self = search rules in did

pub returns-clause-others : goal.returns-clause-others
returns-clause-others g c =
    (look_law c.args.self.now c.args.host c.args.of c.read_slot-slot.result c.read_slot-slot.new.self c.key-key.ensures.consistent c.requires.key (returns-clause-did g c)).1

pub returns-clause-sound : goal.returns-clause-sound
returns-clause-sound g c =
    look_sound c.args.self.now c.args.host c.key-key.ensures.consistent (c.requires.key) c.args.of c.read_slot-slot.result c.read_slot-slot.new.self c.requires.of (returns-clause-did g c)
