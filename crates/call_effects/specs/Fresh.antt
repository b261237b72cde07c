-- The records of a write to a data block that nothing names: at a hole, and at a pointer to a shared block.
use Rattle.std.specs.Prelude.{◌≡◌, ◌+◌, ℕ, List, None, Option, Some, [], ◌∷◌}
use Rattle.vol_layout.specs.declared.geometry.Geometry.{Geometry}
use Rattle.vol_layout.specs.declared.field.Edit.{Edit}
use Rattle.vol_layout.specs.declared.field.Field.TheVariants.{Count, Pointer}
use Rattle.image_view.specs.Balances.{edit}
use Rattle.image_view.specs.Held.{HoldsField}
use Rattle.image_view.specs.Images.{Image}
use Rattle.image_view.specs.Numbers.{logical}
use Rattle.image_view.specs.Pointers.{IsUnmarked, named}
use Rattle.call_effects.specs.Counts.{counts_moved}

-- the shared block that a pointer leaves, and its count; none where the pointer is a hole
abbrev pub Left : Type 0
Left = Option (ℕ × ℕ)

-- the counts: that of the free data block rises from 0, and that of the block that is left falls
abbrev pub counts_filled : ℕ → Left → List Edit
counts_filled d None = edit (Count d) 1 ∷ []
counts_filled d (Some left) = counts_moved left.0 d left.1 0

-- the edits: the pointer comes to name the free data block without the mark, and the counts follow
abbrev pub filled : ℕ → ℕ → ℕ → Left → List Edit
filled f i d left = edit (Pointer f i) (d + 1) ∷ counts_filled d left

-- what the pointer leaves: nothing, or a block with the mark, whose count is known and held
abbrev pub Leaves : Geometry → Image → ℕ → ℕ → ℕ → Left → Type 0
Leaves g image key f i None = named (logical g image (Pointer f i)) ≡ None
Leaves g image key f i (Some left) =
    (named (logical g image (Pointer f i)) ≡ Some left.0)
    × (IsUnmarked (logical g image (Pointer f i)) → ⊥)
    × HoldsField g image key (Count left.0)
    × (logical g image (Count left.0) ≡ left.1)

-- a pointer of a held file may be written to a free data block of a held group
pub record IsFillable (g : Geometry) (image : Image) (key f i d : ℕ) (left : Left) : Type 0 where
  pub pointer : HoldsField g image key (Pointer f i)
  pub block : HoldsField g image key (Count d)
  pub free : logical g image (Count d) ≡ 0
  pub leaves : Leaves g image key f i left
