use Rattle.std.proofs.Common.{ap, ◌∙◌}
use Rattle.vol_layout.specs.Places.{place_of}
use Rattle.shared_disk.specs.Events.{Tests}
use Rattle.lock_store.proofs.Refusals.{refused_is}
use Rattle.lock_store.proofs.store.Store.swap.Goals as goal

pub returns-in-Err : goal.returns-in-Err
returns-in-Err g c =
    let at = c.place-place.ensures.place ∙ ap (λ v. place_of v.geometry c.args.kind) c.self.view_is in
    record { did = refused_is _ _ _ _ _ _ _ _ _ _ _ _ _ _ c.self.view_is c.requires.key (ap (λ p. Tests p c.args.old.now.0 c.args.new.now.0) at) (λ h. h) c.in-Err.ensures.acts c.refused.ensures }
