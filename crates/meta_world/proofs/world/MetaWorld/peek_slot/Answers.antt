use Rattle.meta_world.proofs.KnownReads.{knows_slot, slot_number, slot_range}
use Rattle.meta_world.proofs.Gets.{slot_looks}
use Rattle.meta_world.proofs.Puts.{others_kept}
use Rattle.meta_world.proofs.world.MetaWorld.peek_slot.Goals as goal

pub returns-clause-others : goal.returns-clause-others
returns-clause-others g c =
    others_kept c.known.ensures.consistent c.peek.ensures.others c.peek.ensures.standing

pub returns-clause-looked : goal.returns-clause-looked
returns-clause-looked g c =
    slot_looks c.args.self.now c.peek.new.self _ c.peek.ensures.others c.peek.ensures.standing _ c.peek.result c.peek.ensures.did

pub returns-clause-range : goal.returns-clause-range
returns-clause-range g c =
    slot_range c.args.self.now c.peek.new.self _ _ c.peek.result c.peek.ensures.did c.requires.slot

pub returns-clause-number : goal.returns-clause-number
returns-clause-number g c = slot_number c.args.self.now c.peek.new.self _ _ c.peek.result c.peek.ensures.did

pub returns-clause-known : goal.returns-clause-known
returns-clause-known g c =
    knows_slot c.args.self.now c.peek.new.self _ _ c.peek.result c.peek.ensures.did c.requires.slot
