use Rattle.std.proofs.Common.{subst}
use Rattle.lock_store.specs.declared.host.HostState.{HostState}
use Rattle.lock_store.specs.declared.purpose.SlotUse.TheVariants.{Look}
use Rattle.lock_store.specs.SlotTries.{FitsSlot}
use Rattle.lock_store.proofs.Refusals.{unfit_read}
use Rattle.lock_store.proofs.store.Store.read_slot.Goals as goal

pub returns-in-None : goal.returns-in-None
returns-in-None g c =
    let none = subst (λ (m : HostState). FitsSlot Look c.args.of m c.in-Ok.block.0 → ⊥) c.host.ensures.memory c.in-None.ensures.none in
    record { did = unfit_read _ _ _ _ _ _ _ _ c.in-Ok.ensures.did none c.unfit.ensures.bad c.unfit.ensures.dropped }
