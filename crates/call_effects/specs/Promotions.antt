-- The record of a promotion: an empty slot of the arena comes to name a file's block.
use Rattle.std.specs.Prelude.{◌≡◌, ◌+◌, ℕ, List, [], ◌∷◌}
use Rattle.vol_layout.specs.declared.geometry.Geometry.{Geometry}
use Rattle.vol_layout.specs.declared.field.Edit.{Edit}
use Rattle.vol_layout.specs.declared.field.Field.TheVariants.{Count, Pointer, Slot}
use Rattle.image_view.specs.Balances.{edit}
use Rattle.image_view.specs.Held.{HoldsField}
use Rattle.image_view.specs.Images.{Image}
use Rattle.image_view.specs.Links.{marked}
use Rattle.image_view.specs.Numbers.{field, logical}
use Rattle.image_view.specs.Pointers.{IsUnmarked}

-- the edits: the slot names the data block, the pointer gets the mark, and the count comes to be 2
abbrev pub promoted : ℕ → ℕ → ℕ → ℕ → List Edit
promoted t f i d = edit (Slot t) (d + 1) ∷ edit (Pointer f i) (marked d) ∷ edit (Count d) 2 ∷ []

-- a pointer of a held file names a data block of a held group without the mark, and a slot of a held part is empty
pub record IsPromotable (g : Geometry) (image : Image) (key t f i d : ℕ) : Type 0 where
  pub pointer : HoldsField g image key (Pointer f i)
  pub names : logical g image (Pointer f i) ≡ d + 1
  pub lone : IsUnmarked (logical g image (Pointer f i))
  pub slot : HoldsField g image key (Slot t)
  pub table : field g image (Slot t) ≡ 0
  pub empty : logical g image (Slot t) ≡ 0
  pub count : HoldsField g image key (Count d)
