-- The record of a punch: a pointer becomes a hole.
use Rattle.std.specs.Prelude.{◌≡◌, ◌-◌, ℕ, List, [], ◌∷◌, Some}
use Rattle.vol_layout.specs.declared.geometry.Geometry.{Geometry}
use Rattle.vol_layout.specs.declared.field.Edit.{Edit}
use Rattle.vol_layout.specs.declared.field.Field.TheVariants.{Count, Pointer}
use Rattle.image_view.specs.Balances.{edit}
use Rattle.image_view.specs.Held.{HoldsField}
use Rattle.image_view.specs.Images.{Image}
use Rattle.image_view.specs.Numbers.{logical}
use Rattle.image_view.specs.Pointers.{named}

-- the edits: the pointer names nothing, and the count of the data block that it named, which was n, falls by one
abbrev pub dropped : ℕ → ℕ → ℕ → ℕ → List Edit
dropped f i d n = edit (Pointer f i) 0 ∷ edit (Count d) (n - 1) ∷ []

-- a pointer of a held file, with the mark or without it, names a data block of a held group, whose count is known
pub record IsDroppable (g : Geometry) (image : Image) (key f i d n : ℕ) : Type 0 where
  pub pointer : HoldsField g image key (Pointer f i)
  pub names : named (logical g image (Pointer f i)) ≡ Some d
  pub count : HoldsField g image key (Count d)
  pub is : logical g image (Count d) ≡ n
