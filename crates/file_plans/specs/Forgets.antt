-- The forgetting of a file's kept tables.
use Rattle.std.specs.Prelude.{◌≡◌, ◌<◌, ◌≤◌, ℕ, None}
use Rattle.vol_layout.specs.declared.kind.Resource.TheVariants.{File}
use Rattle.vol_layout.specs.declared.kind.Table.{Table}
use Rattle.vol_layout.specs.declared.kind.Table.TheVariants as tables
use Rattle.disk_locks.specs.Keys.{owner}
use Rattle.held_cache.specs.Kept.{Cache, CanKeep, IsFileTable, kept_at}

-- no table of the file is kept for the host any more, and all else is kept as before
pub record ForgetsFile (old new : Cache) (h f : ℕ) : Type 0 where
  pub volume : new.volume ≡ old.volume
  pub forgotten : (t : Table) → IsFileTable old.volume t → owner t ≡ File f → kept_at new h t ≡ None
  pub others : (x : ℕ) (t : Table) → CanKeep old.volume x t → (x ≡ h → owner t ≡ File f → ⊥) → kept_at new x t ≡ kept_at old x t

-- so it is of its first table blocks
pub record ForgetsFirst (old new : Cache) (h f n : ℕ) : Type 0 where
  pub volume : new.volume ≡ old.volume
  pub first : kept_at new h (tables.File f) ≡ None
  pub forgotten : (t : ℕ) → 1 ≤ t → t < n → t < old.volume.tables → kept_at new h (tables.More f t) ≡ None
  pub others : (x : ℕ) (t : Table) → CanKeep old.volume x t → (x ≡ h → owner t ≡ File f → ⊥) → kept_at new x t ≡ kept_at old x t
