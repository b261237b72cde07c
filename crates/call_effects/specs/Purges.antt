-- The record of a purge: pointers at or past a file's end become holes.
use Rattle.std.specs.Prelude.{◌≡◌, ◌≤◌, ◌+◌, ◌++◌, ℕ, All, List, Some, length, map, sum_by, true}
use Rattle.vol_layout.specs.declared.geometry.Geometry.{Geometry}
use Rattle.vol_layout.specs.declared.field.Edit.{Edit}
use Rattle.vol_layout.specs.declared.field.Field.TheVariants.{Count, Head, Pointer}
use Rattle.vol_layout.specs.Edits.{AreApart, touches}
use Rattle.image_view.specs.Balances.{edit, share}
use Rattle.image_view.specs.Held.{HoldsField}
use Rattle.image_view.specs.Images.{Image}
use Rattle.image_view.specs.Numbers.{logical}
use Rattle.image_view.specs.Pointers.{named}

-- pointers of a file that become holes
abbrev pub emptied : ℕ → List ℕ → List Edit
emptied f indexes = map (λ i. edit (Pointer f i) 0) indexes

-- counts that get these numbers
abbrev pub counted : List (ℕ × ℕ) → List Edit
counted counts = map (λ (p : ℕ × ℕ). edit (Count p.0) p.1) counts

-- the edits: the remains, and then the counts, one for each data block
abbrev pub purged : ℕ → List ℕ → List (ℕ × ℕ) → List Edit
purged f indexes counts = emptied f indexes ++ counted counts

-- how many of the pointers name a data block
abbrev pub named_by : Geometry → Image → ℕ → List ℕ → ℕ → ℕ
named_by g image f indexes d = sum_by (λ i. share (logical g image (Pointer f i)) d) indexes

-- a remain of a held file, whose data block is counted
pub record IsRemain (g : Geometry) (image : Image) (key f : ℕ) (counts : List (ℕ × ℕ)) (i : ℕ) : Type 0 where
  pub held : HoldsField g image key (Pointer f i)
  pub past : logical g image (Head f) ≤ i + 1
  pub is_counted : (d : ℕ) → named (logical g image (Pointer f i)) ≡ Some d → touches (counted counts) (Count d) ≡ true

-- a data block of a held group, with its count less the remains that name it
pub record IsLowered (g : Geometry) (image : Image) (key f : ℕ) (indexes : List ℕ) (count : ℕ × ℕ) : Type 0 where
  pub held : HoldsField g image key (Count count.0)
  pub lowered : count.1 + named_by g image f indexes count.0 ≡ logical g image (Count count.0)

-- up to four different remains of one file, and the counts of all data blocks that they name
pub record IsPurgeable (g : Geometry) (image : Image) (key f : ℕ) (indexes : List ℕ) (counts : List (ℕ × ℕ)) : Type 0 where
  pub few : length indexes ≤ 4
  pub as_many : length counts ≤ 4
  pub remains : All (IsRemain g image key f counts) indexes
  pub lowered : All (IsLowered g image key f indexes) counts
  pub indexes_apart : AreApart (emptied f indexes)
  pub counts_apart : AreApart (counted counts)
