-- What edits give and take of the uses of a data number.
use Rattle.std.specs.Prelude.{◌≡◌, ◌+◌, ◌==◌, ℕ, List, sum_by, if◌then◌else◌}
use Rattle.std.specs.Option.{option_map_or}
use Rattle.vol_layout.specs.declared.geometry.Geometry.{Geometry}
use Rattle.vol_layout.specs.declared.field.Field.{Field}
use Rattle.vol_layout.specs.declared.field.Field.TheVariants.{Head, Pointer, Slot, Count}
use Rattle.vol_layout.specs.declared.field.Edit.{Edit}
use Rattle.vol_layout.specs.Edits.{edited}
use Rattle.vol_layout.specs.Fields.{HasField}
use Rattle.image_view.specs.Pointers.{named}

-- 1 where a number names the data number, and else 0
unfoldable pub share : ℕ → ℕ → ℕ
share n d = option_map_or (λ e. if e == d then 1 else 0) (named n) 0

-- the same for the number of a field: heads and counts name no data number
abbrev pub share_of : Field → ℕ → ℕ → ℕ
share_of (Pointer f i) n d = share n d
share_of (Slot s) n d = share n d
share_of (Head f) n d = 0
share_of (Count e) n d = 0

-- the edit that gives a field a number
abbrev pub edit : Field → ℕ → Edit
edit x n = record { field = x; number = n }

-- how many uses of a data number the edits take away, from fields that had these numbers
abbrev pub lost : (Field → ℕ) → List Edit → ℕ → ℕ
lost numbers es d = sum_by (λ e. share_of e.field (numbers e.field) d) es

-- how many uses of a data number the edits give
abbrev pub gained : List Edit → ℕ → ℕ
gained es d = sum_by (λ e. share_of e.field e.number d) es

-- each count after the edits is the count before, less the uses that they take and with those that they give
abbrev pub Balances : Geometry → (Field → ℕ) → List Edit → Type 0
Balances g numbers es =
    (d : ℕ) → HasField g (Count d)
    → edited es (Count d) (numbers (Count d)) + lost numbers es d ≡ numbers (Count d) + gained es d
