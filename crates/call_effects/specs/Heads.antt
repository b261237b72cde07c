-- The record of a head: a file comes to be, goes, or gets another length.
use Rattle.std.specs.Prelude.{◌≡◌, ◌<◌, ◌≤◌, ℕ, List, [], ◌∷◌, None}
use Rattle.vol_layout.specs.declared.geometry.Geometry.{Geometry}
use Rattle.vol_layout.specs.declared.field.Edit.{Edit}
use Rattle.vol_layout.specs.declared.field.Field.TheVariants.{Head, Pointer}
use Rattle.image_view.specs.Balances.{edit}
use Rattle.image_view.specs.Images.{Image}
use Rattle.image_view.specs.Numbers.{logical}
use Rattle.image_view.specs.Pointers.{named}

-- the edits: the head alone
abbrev pub headed : ℕ → ℕ → List Edit
headed f n = edit (Head f) n ∷ []

-- the pointers of a file from one length to another are holes, so that the file may grow over them
abbrev pub HasNoRemain : Geometry → Image → ℕ → ℕ → ℕ → Type 0
HasNoRemain g image f from to = (i : ℕ) → from ≤ i → i < to → named (logical g image (Pointer f i)) ≡ None
