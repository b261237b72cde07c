use Rattle.lock_store.specs.Tries.{IsLockBlock}
use Rattle.lock_store.proofs.Refusals.{unfit_read}
use Rattle.lock_store.proofs.store.Store.confirm.Goals as goal

pub returns-else-is_lock : goal.returns-else-is_lock
returns-else-is_lock g c =
    let none : IsLockBlock c.in-Ok.block.0 → ⊥ = λ fits. let yes = c.is_lock.ensures.1 fits in let no = c.if-is_lock.false in cc in
    record { did = unfit_read _ _ _ _ _ _ _ _ c.in-Ok.ensures.did none c.unfit.ensures.bad c.unfit.ensures.dropped }
