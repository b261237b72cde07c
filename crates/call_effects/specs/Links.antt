-- The record of a link: a pointer comes to name the data block of a source with the mark.
use Rattle.std.specs.Prelude.{◌≡◌, ◌≢◌, ℕ, List, None, Option, Some, ◌∷◌}
use Rattle.vol_layout.specs.declared.geometry.Geometry.{Geometry}
use Rattle.vol_layout.specs.declared.field.Field.{Field}
use Rattle.vol_layout.specs.declared.field.Field.TheVariants.{Count, Pointer}
use Rattle.vol_layout.specs.declared.field.Edit.{Edit}
use Rattle.vol_layout.specs.Fields.{HasField}
use Rattle.image_view.specs.Balances.{edit, share_of}
use Rattle.image_view.specs.Held.{HoldsField}
use Rattle.image_view.specs.Images.{Image}
use Rattle.image_view.specs.Links.{marked}
use Rattle.image_view.specs.Numbers.{logical}
use Rattle.image_view.specs.Pointers.{named}
use Rattle.call_effects.specs.Shares.{IsLone}

-- the pointer of a file source that has no mark yet, and gets it; none for a slot, and for a pointer that has the mark
abbrev pub Unmarked : Type 0
Unmarked = Option (ℕ × ℕ)

-- the edits: the pointer names the source's data block with the mark, the source gets the mark, and the counts are moved
abbrev pub linked : ℕ → ℕ → ℕ → Unmarked → List Edit → List Edit
linked f i to None counts = edit (Pointer f i) (marked to) ∷ counts
linked f i to (Some source) counts = edit (Pointer f i) (marked to) ∷ edit (Pointer source.0 source.1) (marked to) ∷ counts

-- a source without the mark is a pointer of a held file; every other source has the mark or is a slot
abbrev pub IsSource : Geometry → Image → ℕ → Field → Unmarked → Type 0
IsSource g image key source None = IsLone source (logical g image source) → ⊥
IsSource g image key source (Some at) = (source ≡ Pointer at.0 at.1) × HoldsField g image key (Pointer at.0 at.1)

-- a pointer of a held file names one data block, and the source another one, whose counts are known and held
pub record IsLinkable (g : Geometry) (image : Image) (key f i from to n m : ℕ) (source : Field) (unmarked : Unmarked) : Type 0 where
  pub pointer : HoldsField g image key (Pointer f i)
  pub names : named (logical g image (Pointer f i)) ≡ Some from
  pub has : HasField g source
  pub source_names : share_of source (logical g image source) to ≡ 1
  pub is_source : IsSource g image key source unmarked
  pub other : from ≢ to
  pub left : HoldsField g image key (Count from)
  pub left_is : logical g image (Count from) ≡ n
  pub taken : HoldsField g image key (Count to)
  pub taken_is : logical g image (Count to) ≡ m
