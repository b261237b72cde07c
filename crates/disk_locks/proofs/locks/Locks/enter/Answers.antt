use Rattle.std.proofs.Common.{rules}
use Rattle.disk_locks.specs.Calls.{EntersSlot}
use Rattle.disk_locks.proofs.SlotCalls.{enter_law}
use Rattle.disk_locks.proofs.Sound.{enter_sound}
use Rattle.disk_locks.proofs.locks.Locks.enter.Goals as goal

pub invariant_of-self : goal.invariant_of-self
invariant_of-self g c =
    let did : EntersSlot c.args.self.now c.args.host c.args.from.now c.try_slot-entered.result c.try_slot-entered.new.self = search rules in
    (enter_law c.args.self.now c.args.host c.key-key.ensures.consistent c.requires.host c.requires.key c.try_slot-entered.new.self c.known.ensures.device c.args.from.now c.try_slot-entered.result c.requires.out c.requires.stays c.requires.slot c.requires.from c.requires.unneeded did).0

pub returns-clause-did : goal.returns-clause-did
returns-clause-did g c = let did : EntersSlot c.args.self.now c.args.host c.args.from.now c.try_slot-entered.result c.try_slot-entered.new.self = search rules in did

pub returns-clause-others : goal.returns-clause-others
returns-clause-others g c =
    (enter_law c.args.self.now c.args.host c.key-key.ensures.consistent c.requires.host c.requires.key c.try_slot-entered.new.self c.known.ensures.device c.args.from.now c.try_slot-entered.result c.requires.out c.requires.stays c.requires.slot c.requires.from c.requires.unneeded (returns-clause-did g c)).1

pub returns-clause-sound : goal.returns-clause-sound
returns-clause-sound g c =
    enter_sound c.args.self.now c.args.host c.key-key.ensures.consistent (c.requires.key) c.args.from.now _ _ c.try_slot-entered.result c.try_slot-entered.new.self c.requires.host c.requires.slot c.requires.from (returns-clause-did g c)
