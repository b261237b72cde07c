-- What one edit of a record owes to marks, to the counts of slots, and to the files.
use Rattle.std.specs.Prelude.{◌≡◌, ◌≢◌, ◌≤◌, ◌⊎◌, ◌+◌, ℕ, List, true}
use Rattle.vol_layout.specs.declared.geometry.Geometry.{Geometry}
use Rattle.vol_layout.specs.declared.field.Field.{Field}
use Rattle.vol_layout.specs.declared.field.Field.TheVariants.{Head, Pointer, Slot, Count}
use Rattle.vol_layout.specs.declared.field.Edit.{Edit}
use Rattle.vol_layout.specs.Edits.{touches}
use Rattle.vol_layout.specs.Fields.{HasField}
use Rattle.image_view.specs.Balances.{gained, share_of}
use Rattle.image_view.specs.Files.{content}
use Rattle.image_view.specs.Images.{Image}
use Rattle.image_view.specs.Mappings.{uses}
use Rattle.image_view.specs.Numbers.{field, logical}
use Rattle.image_view.specs.Pointers.{IsUnmarked}

-- the number of a pointer without the mark
abbrev pub IsLone : Field → ℕ → Type 0
IsLone (Pointer f i) n = IsUnmarked n
IsLone (Head f) n = ⊥
IsLone (Slot s) n = ⊥
IsLone (Count d) n = ⊥

-- a pointer or slot names the data number; where the record leaves it, it has the mark or is a slot
pub record IsShared (g : Geometry) (image : Image) (es : List Edit) (d : ℕ) : Type 0 where
  pub by : Field
  pub has : HasField g by
  pub names : share_of by (logical g image by) d ≡ 1
  pub shown : (touches es by ≡ true) ⊎ (IsLone by (logical g image by) → ⊥)

-- an edit may name a data number that nothing named before, and which no other edit names; or one that another field
-- names, but not without the mark
abbrev pub MayName : Geometry → Image → List Edit → Edit → Type 0
MayName g image es e =
    (d : ℕ) → share_of e.field e.number d ≢ 0
    → ((uses g image d ≡ 0) × (gained es d ≡ 1)) ⊎ (IsShared g image es d × (IsLone e.field e.number → ⊥))

-- an edit of a slot comes with an edit of the count of each data number that the slot's table entry or the edit names
abbrev pub CountsSlot : Geometry → Image → List Edit → Edit → Type 0
CountsSlot g image es e =
    (s d : ℕ) → e.field ≡ Slot s → (field g image (Slot s) ≡ d + 1) ⊎ (e.number ≡ d + 1) → touches es (Count d) ≡ true

-- a field that gets this number shows the same blocks of files: a pointer at or past its file's length shows none
abbrev pub LeavesShown : Geometry → Image → Field → ℕ → Type 0
LeavesShown g image (Head f) n = ⊥
LeavesShown g image (Pointer f i) n =
    (logical g image (Head f) ≤ i + 1) ⊎ (content g image n ≡ content g image (logical g image (Pointer f i)))
LeavesShown g image (Slot s) n = Unit {0}
LeavesShown g image (Count d) n = Unit {0}

-- the edit is of no file but this one
abbrev pub IsOfFile : ℕ → Field → Type 0
IsOfFile f (Head h) = h ≡ f
IsOfFile f (Pointer h i) = h ≡ f
IsOfFile f (Slot s) = Unit {0}
IsOfFile f (Count d) = Unit {0}
