-- Of a device that tells nothing, every host is sure of all, and it tells nothing after any call.
use Rattle.std.proofs.Common.{◌≡◌, ℕ, Option, Some, None, refl, sym, subst}
use Rattle.std.specs.Prelude.{IfSome}
use Rattle.shared_disk.specs.State.{Told}
use Rattle.image_view.specs.Images.{Image}
use Rattle.lock_store.specs.Views.{LocksView, told_of}
use Rattle.disk_locks.specs.Others.{Others}
use Rattle.disk_locks.specs.Sure.{BothTold, Sure}

none_stays : (old new : Option Told) (R : Image → Image → Type 0) → BothTold old new R → old ≡ None → new ≡ None
none_stays None None R both none = refl
none_stays None (Some t) R both none = absurd both
none_stays (Some t) None R both none = refl
none_stays (Some t) (Some u) R both none = let bad : ⊥ = cc in absurd bad

-- a call leaves a device untold
pub stays : (h : ℕ) (v w : LocksView) → Others h v w → told_of v ≡ None → told_of w ≡ None
stays h v w others none = none_stays (told_of v) (told_of w) _ others.lasts.fades none

-- whatever is asked of the image is sure
pub sure : (v : LocksView) (h : ℕ) (P : Image → Type 0) → told_of v ≡ None → Sure v h P
sure v h P none here = subst (λ (o : Option Told). IfSome o (λ t. P t.image)) (sym none) tt
