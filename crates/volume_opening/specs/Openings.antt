-- What an opening leaves of a device.
use Rattle.std.specs.Prelude.{◌≡◌, ◌⊎◌, Option, IfSome, None}
use Rattle.vol_layout.specs.declared.geometry.Geometry.{Geometry}
use Rattle.image_view.specs.Formatted.{IsFormatted}
use Rattle.image_view.specs.Images.{Image, IsBlank}
use Rattle.image_view.specs.Valid.{IsValid}
use Rattle.shared_disk.specs.Calls.{after_register}
use Rattle.shared_disk.specs.State.{State, Told, with_told}
use Rattle.shared_disk.specs.Visits.{after_visit}
use Rattle.volume_opening.specs.Misfits.{misfit}

-- the image is blank, where it is told
abbrev pub WasBlank : Option Told → Type 0
WasBlank before = IfSome before (λ told. IsBlank told.image)

-- the image handed in, or one that is blank as the one handed in is
abbrev pub IsStillBlank : Option Told → Image → Type 0
IsStillBlank before image = IfSome before (λ told. (image ≡ told.image) ⊎ (IsBlank told.image × IsBlank image))

-- the image handed in, or, where that is blank, one that is blank or formatted
abbrev pub IsOnTheWay : Geometry → Option Told → Image → Type 0
IsOnTheWay g before image =
    IfSome before (λ told. (image ≡ told.image) ⊎ (IsBlank told.image × (IsBlank image ⊎ IsFormatted g image)))

-- the geometry fits, and the device has a valid volume of it, an empty one where it was blank
pub record IsOpened (g : Geometry) (before after : State) : Type 0 where
  pub fits : IfSome before.told (λ told. misfit g before.blocks told.image ≡ None)
  pub valid : IfSome after.told (λ told. IsValid g after.counter told.image)
  pub formatted : WasBlank before.told → IfSome after.told (λ told. IsFormatted g told.image)

-- a key was registered and fenced again: the counter has risen by one, and of all else only the content
-- may have changed
abbrev pub IsVisited : State → State → Type 0
IsVisited before after = after ≡ with_told after.told (after_visit before)

-- a key was registered for host 0 and stays: of all else only the content may have changed
abbrev pub IsEntered : State → State → Type 0
IsEntered before after = after ≡ with_told after.told (after_register 0 before)
