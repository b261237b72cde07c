-- What the edits of a record owe, said of the image before it stands.
use Rattle.std.specs.Prelude.{◌≡◌, ◌+◌, ◌-◌, ℕ, true, false, List}
use Rattle.vol_layout.specs.declared.geometry.Geometry.{Geometry}
use Rattle.vol_layout.specs.declared.field.Field.{Field}
use Rattle.vol_layout.specs.declared.field.Field.TheVariants.{Pointer}
use Rattle.vol_layout.specs.declared.field.Edit.{Edit}
use Rattle.vol_layout.specs.Edits.{AreEdits, edited, touches}
use Rattle.vol_layout.specs.Fields.{HasField}
use Rattle.image_view.specs.Images.{Image}
use Rattle.image_view.specs.Numbers.{logical}
use Rattle.image_view.specs.Pointers.{IsUnmarked}
use Rattle.image_view.specs.Mappings.{uses}
use Rattle.image_view.specs.Held.{CountsSlots, HoldsField}
use Rattle.image_view.specs.Balances.{Balances, gained, lost}

-- the logical numbers of an image are those of an older one with the edits made
abbrev pub IsEdited : Geometry → Image → Image → List Edit → Type 0
IsEdited g old new es = (x : Field) → HasField g x → logical g new x ≡ edited es x (logical g old x)

-- after the edits too, a data number that a pointer names without the mark is mapped once
pub record KeepsMarks (g : Geometry) (image : Image) (es : List Edit) : Type 0 where
  pub edits : (f i n : ℕ) → HasField g (Pointer f i) → touches es (Pointer f i) ≡ true
      → n ≡ edited es (Pointer f i) (logical g image (Pointer f i)) → IsUnmarked n
      → uses g image (n - 1) + gained es (n - 1) ≡ lost (λ x. logical g image x) es (n - 1) + 1
  pub others : (f i : ℕ) → HasField g (Pointer f i) → touches es (Pointer f i) ≡ false → IsUnmarked (logical g image (Pointer f i))
      → gained es (logical g image (Pointer f i) - 1) ≡ 0

-- the edits of a record under this key: in range, of resources that the key holds, with the counts of the
-- slots that they edit, and such that counts and marks stay right
pub record IsRecord (g : Geometry) (image : Image) (key : ℕ) (es : List Edit) : Type 0 where
  pub edits : AreEdits g es
  pub held : (x : Field) → touches es x ≡ true → HoldsField g image key x
  pub slots : CountsSlots g image es
  pub balances : Balances g (λ x. logical g image x) es
  pub marks : KeepsMarks g image es
