use Rattle.std.proofs.Common.{rules}
use Rattle.disk_locks.specs.Calls.{ClaimsSlot}
use Rattle.disk_locks.proofs.SlotCalls.{claim_law}
use Rattle.disk_locks.proofs.Sound.{claim_sound}
use Rattle.disk_locks.proofs.locks.Locks.claim_slot.Goals as goal

pub invariant_of-self : goal.invariant_of-self
invariant_of-self g c =
    let did : ClaimsSlot c.args.self.now c.args.host c.args.of c.args.from.now c.try_slot-claimed.result c.try_slot-claimed.new.self = search rules in
    (claim_law c.args.self.now c.args.host c.key-key.ensures.consistent c.requires.host c.requires.key c.try_slot-claimed.new.self c.known.ensures.device c.args.of c.args.from.now c.try_slot-claimed.result c.requires.of c.requires.own c.requires.slot c.requires.some c.requires.fenced did).0

pub returns-clause-did : goal.returns-clause-did
returns-clause-did g c = let did : ClaimsSlot c.args.self.now c.args.host c.args.of c.args.from.now c.try_slot-claimed.result c.try_slot-claimed.new.self = search rules in did

pub returns-clause-others : goal.returns-clause-others
returns-clause-others g c =
    (claim_law c.args.self.now c.args.host c.key-key.ensures.consistent c.requires.host c.requires.key c.try_slot-claimed.new.self c.known.ensures.device c.args.of c.args.from.now c.try_slot-claimed.result c.requires.of c.requires.own c.requires.slot c.requires.some c.requires.fenced (returns-clause-did g c)).1

pub returns-clause-sound : goal.returns-clause-sound
returns-clause-sound g c =
    claim_sound c.args.self.now c.args.host c.key-key.ensures.consistent (c.requires.key) c.args.of c.args.from.now _ _ c.try_slot-claimed.result c.try_slot-claimed.new.self c.requires.of (returns-clause-did g c)
