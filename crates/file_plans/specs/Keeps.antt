-- What is kept of a table that was written.
use Rattle.std.specs.Prelude.{◌≡◌, ℕ, Some}
use Rattle.vol_layout.specs.declared.kind.Table.{Table}
use Rattle.held_cache.specs.Kept.{Cache, CanKeep, IsFileTable, kept_at}
use Rattle.plan_parts.specs.declared.kept.Kept.{Kept}

-- for one host a table is kept if it is one of a file, and all else is kept as before
pub record KeepsWritten (c d : Cache) (h : ℕ) (kept : Kept) : Type 0 where
  pub volume : d.volume ≡ c.volume
  pub changed : IsFileTable c.volume kept.which → kept_at d h kept.which ≡ Some kept.table
  pub others : (x : ℕ) (t : Table) → CanKeep c.volume x t → (x ≡ h → t ≡ kept.which → ⊥) → kept_at d x t ≡ kept_at c x t
