-- What a host may be sure of.
use Rattle.std.specs.Prelude.{ℕ, Contains, IfSome, None, Option, Some}
use Rattle.shared_disk.specs.State.{Told}
use Rattle.image_view.specs.Images.{Image}
use Rattle.lock_store.specs.Views.{LocksView, key_at, keys_of, told_of}

-- while the host's key is registered, this holds of the image, where the device tells it
abbrev pub Sure : LocksView → ℕ → (Image → Type 0) → Type 0
Sure v h P = Contains (keys_of v) (key_at v h) → IfSome (told_of v) (λ t. P t.image)

-- where the device tells its content, the two images are in this relation; it tells both or neither
abbrev pub BothTold : Option Told → Option Told → (Image → Image → Type 0) → Type 0
BothTold None None R = Unit {0}
BothTold None (Some new) R = ⊥
BothTold (Some old) None R = ⊥
BothTold (Some old) (Some new) R = R old.image new.image
