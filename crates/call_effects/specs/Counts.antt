-- Counts that a record moves.
use Rattle.std.specs.Prelude.{◌+◌, ◌-◌, ℕ, List, [], ◌∷◌, if◌then◌else◌, nat_lt}
use Rattle.vol_layout.specs.declared.field.Edit.{Edit}
use Rattle.vol_layout.specs.declared.field.Field.TheVariants.{Count}
use Rattle.image_view.specs.Balances.{edit}

-- the count of one data number, which was n, falls by one, and that of another, which was m, rises by one; the lower
-- number stands first
abbrev pub counts_moved : ℕ → ℕ → ℕ → ℕ → List Edit
counts_moved from to n m =
    if nat_lt from to then edit (Count from) (n - 1) ∷ edit (Count to) (m + 1) ∷ []
    else edit (Count to) (m + 1) ∷ edit (Count from) (n - 1) ∷ []
