use Rattle.std.proofs.Common.{subst}
use Rattle.lock_store.specs.declared.host.HostState.{HostState}
use Rattle.lock_store.specs.SlotTries.{FitsSlot}
use Rattle.lock_store.proofs.Refusals.{unfit_swap}
use Rattle.lock_store.proofs.store.Store.try_slot.Goals as goal

pub returns-in-None : goal.returns-in-None
returns-in-None g c =
    let none = subst (λ (m : HostState). FitsSlot c.args.seen c.args.of m c.in-Ok-Found.block.0 → ⊥) c.host.ensures.memory c.in-None.ensures.none in
    record { did = unfit_swap _ _ _ _ _ _ _ _ _ _ _ _ _ _ c.write_slot.ensures.bytes c.write_slot-2.ensures.bytes c.in-Ok-Found.ensures.did c.in-Ok-Found.field-0-is none c.unfit.ensures.bad c.unfit.ensures.dropped }
