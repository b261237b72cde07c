use Rattle.std.specs.Prelude.{◌≡◌, ◌==◌, ◌&&◌, ◌||◌, ◌≤◌, Bool, false, ℕ, List, [], ◌∷◌, All, length, if◌then◌else◌}
use Rattle.vol_layout.specs.declared.geometry.Geometry.{Geometry}
use Rattle.vol_layout.specs.declared.field.Field.{Field}
use Rattle.vol_layout.specs.declared.field.Field.TheVariants.{Head, Pointer, Slot, Count}
use Rattle.vol_layout.specs.declared.field.Edit.{Edit}
use Rattle.vol_layout.specs.Fields.{HasField, IsInRange}

-- the three numbers by which an edit spells its field
abbrev pub tag : Field → ℕ
tag (Head f) = 0
tag (Pointer f i) = 1
tag (Slot s) = 2
tag (Count d) = 3

abbrev pub first : Field → ℕ
first (Head f) = f
first (Pointer f i) = f
first (Slot s) = s
first (Count d) = d

abbrev pub second : Field → ℕ
second (Head f) = 0
second (Pointer f i) = i
second (Slot s) = 0
second (Count d) = 0

-- whether two fields are the same
unfoldable pub same_field : Field → Field → Bool
same_field x y = (tag x == tag y) && (first x == first y) && (second x == second y)

-- whether one of the edits is of the field
abbrev pub touches : List Edit → Field → Bool
touches [] x = false
touches (e ∷ es) x = same_field e.field x || touches es x

-- the field's number after the edits, where it was n before; the first edit of the field counts
abbrev pub edited : List Edit → Field → ℕ → ℕ
edited [] x n = n
edited (e ∷ es) x n = if same_field e.field x then e.number else edited es x n

-- no two edits are of one field
abbrev pub AreApart : List Edit → Type 0
AreApart [] = Unit {0}
AreApart (e ∷ es) = (touches es e.field ≡ false) × AreApart es

-- an edit of a field that the volume has, with a number that may stand there
abbrev pub IsEdit : Geometry → Edit → Type 0
IsEdit g e = HasField g e.field × IsInRange g e.field e.number

-- the edits that a record can have: at most eight, each in range, no two of one field
pub record AreEdits (g : Geometry) (es : List Edit) : Type 0 where
  pub few : length es ≤ 8
  pub each : All (IsEdit g) es
  pub apart : AreApart es
