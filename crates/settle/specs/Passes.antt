-- What a device shows on the way from one content to a later one.
use Rattle.std.specs.Prelude.{◌≡◌, ℕ, IfSome, Option}
use Rattle.call_effects.specs.Places.{KeepsFiles}
use Rattle.image_view.specs.Valid.{IsVolume}
use Rattle.shared_disk.specs.Prefixes.{EachImage}
use Rattle.shared_disk.specs.State.{State, Told}

-- from a valid volume on, each image between the two is a valid volume with the files of the first, whatever call of the device was the
-- last one; so many keys were given at the first content, and at the last
abbrev pub PassesVolumes : ℕ → ℕ → Option Told → Option Told → Type 0
PassesVolumes given later old new =
    IfSome old (λ t. IsVolume given t.image → EachImage (λ image. IsVolume later image × KeepsFiles t.image image) old new)

-- the same of a device at two times
abbrev pub Passes : State → State → Type 0
Passes old new = PassesVolumes old.counter new.counter old.told new.told

-- no key was given on the way
pub record GoesOn (given later : ℕ) (old new : Option Told) : Type 0 where
  pub counter : later ≡ given
  pub passes : PassesVolumes given later old new
