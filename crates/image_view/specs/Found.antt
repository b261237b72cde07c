-- The edit of a field in a list of edits.
use Rattle.std.specs.Prelude.{ℕ, List, [], ◌∷◌, Option, Some, None, if◌then◌else◌}
use Rattle.vol_layout.specs.declared.field.Field.{Field}
use Rattle.vol_layout.specs.declared.field.Edit.{Edit}
use Rattle.vol_layout.specs.Edits.{same_field}

-- the number of the first edit of the field
abbrev pub found : List Edit → Field → Option ℕ
found [] x = None
found (e ∷ es) x = if same_field e.field x then Some e.number else found es x
