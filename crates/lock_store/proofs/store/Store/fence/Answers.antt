use Rattle.std.proofs.Common.{refl}
use Rattle.lock_store.proofs.Refusals.{refused_is}
use Rattle.lock_store.proofs.store.Store.fence.Goals as goal

pub returns-in-Err : goal.returns-in-Err
returns-in-Err g c =
    record { did = refused_is _ _ _ _ _ _ _ _ _ _ _ _ _ _ c.self.view_is c.requires.key refl (λ h. h) c.in-Err.ensures.acts c.refused.ensures }
