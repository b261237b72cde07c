use Rattle.std.proofs.Common.{subst}
use Rattle.lock_store.specs.declared.purpose.Trier.{Trier}
use Rattle.lock_store.specs.Tries.{FitsLock}
use Rattle.lock_store.proofs.Refusals.{unfit_swap}
use Rattle.lock_store.proofs.store.Store.try_lock.Goals as goal

pub returns-in-None : goal.returns-in-None
returns-in-None g c =
    let none = subst (λ (who : Trier). FitsLock c.args.purpose who c.in-Ok-Found.block.0 → ⊥) c.trier-who.ensures c.in-None.ensures.none in
    record { did = unfit_swap _ _ _ _ _ _ _ _ _ _ _ _ _ _ c.write_lock.ensures.bytes c.write_lock-2.ensures.bytes c.in-Ok-Found.ensures.did c.in-Ok-Found.field-0-is none c.unfit.ensures.bad c.unfit.ensures.dropped }
