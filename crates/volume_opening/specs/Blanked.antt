-- A run of blocks of a blank device that is being formatted.
use Rattle.std.specs.Prelude.{◌≡◌, ◌⊎◌, ◌<◌, ◌≤◌, ℕ, List}
use Rattle.vol_layout.specs.declared.geometry.Geometry.{Geometry}
use Rattle.vol_layout.specs.Blank.{blank_at}
use Rattle.image_view.specs.Images.{IsBlank}
use Rattle.shared_disk.specs.Prefixes.{EachImage}
use Rattle.shared_disk.specs.State.{Stands, State, with_told}

-- the blocks of these places became those that formatting leaves, the others stayed, and so did block 0
-- on the way
pub record Blanked (g : Geometry) (from to : ℕ) (before after : State) : Type 0 where
  pub only : after ≡ with_told after.told before
  pub images : EachImage IsBlank before.told after.told
  pub blank : (place : ℕ) → from ≤ place → place < to → Stands after place (blank_at g place)
  pub others : (place : ℕ) (block : List ℕ) → (place < from) ⊎ (to ≤ place) → Stands before place block → Stands after place block
