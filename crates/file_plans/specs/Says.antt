-- What kept tables say of a file.
use Rattle.std.specs.Prelude.{◌≡◌, ◌≢◌, ◌<◌, ◌≤◌, ◌+◌, ◌/◌, ◌==◌, ◌&&◌, ◌++◌, ℕ, Bool, true, All, List, [], ◌∷◌, None, Option, Some, length, nat_lt, if◌then◌else◌}
use Rattle.vol_base.specs.Packing.{Packing}
use Rattle.vol_layout.specs.declared.field.Field.{Field}
use Rattle.vol_layout.specs.declared.field.Field.TheVariants.{Count, Head, Pointer}
use Rattle.vol_layout.specs.declared.geometry.Geometry.{Geometry}
use Rattle.vol_layout.specs.declared.kind.Table.{Table}
use Rattle.vol_layout.specs.Fields.{HasField, table_of}
use Rattle.vol_layout.specs.Ranges.{per_table}
use Rattle.image_view.specs.declared.pointer.Number.{Number}
use Rattle.image_view.specs.declared.pointer.Number.TheVariants.{At, Hole}
use Rattle.image_view.specs.Images.{Image}
use Rattle.image_view.specs.Numbers.{logical}
use Rattle.image_view.specs.Pointers.{pointer_number}
use Rattle.table_blocks.specs.Tables.{IsPackingOf, number_in}
use Rattle.held_cache.specs.Kept.{Cache, IsFileTable, kept_at}
use Rattle.file_plans.specs.declared.remains.Remain.{Remain}

-- the tables that are known of a file: for each table block nothing, or what it spells
abbrev pub Known : Type 0
Known = Table → Option Packing

-- each table that is kept for the host spells numbers in range
abbrev pub ArePacked : Cache → ℕ → Type 0
ArePacked c h = (t : Table) (p : Packing) → IsFileTable c.volume t → kept_at c h t ≡ Some p → IsPackingOf c.volume t p

-- the table of a field is known, and has this number for it
pub record Says (known : Known) (x : Field) (n : ℕ) : Type 0 where
  pub table : Packing
  pub kept : known (table_of x) ≡ Some table
  pub is : number_in table x ≡ n

-- the image has the numbers that the known tables say
abbrev pub Reads : Geometry → Known → Image → Type 0
Reads g known image = (x : Field) (n : ℕ) → HasField g x → Says known x n → logical g image x ≡ n

-- a data block that a pointer names is one of the volume
abbrev pub IsInVolume : Geometry → Number → Type 0
IsInVolume g Hole = Unit {0}
IsInVolume g (At d shared) = HasField g (Count d)

-- the pointer of a file at an index, by the known tables
pub record PointsTo (g : Geometry) (known : Known) (f i : ℕ) (p : Number) : Type 0 where
  pub has : HasField g (Pointer f i)
  pub says : Says known (Pointer f i) (pointer_number p)
  pub inside : IsInVolume g p

-- a block below the length of a file that is there, with its pointer
pub record HasBlock (g : Geometry) (known : Known) (f i : ℕ) (p : Number) : Type 0 where
  pub length : ℕ
  pub head : Says known (Head f) (length + 1)
  pub below : i < length
  pub pointer : PointsTo g known f i p

-- all pointers from one index to below another are holes
abbrev pub AreHoles : Geometry → Known → ℕ → ℕ → ℕ → Type 0
AreHoles g known f from to = (i : ℕ) → from ≤ i → i < to → PointsTo g known f i Hole

-- a pointer in a range of indexes that is no hole
pub record IsRemain (g : Geometry) (known : Known) (f from to : ℕ) (r : Remain) : Type 0 where
  pub after : from ≤ r.index
  pub before : r.index < to
  pub shared : Bool
  pub pointer : PointsTo g known f r.index (At r.number shared)

-- each index is greater than the one before it
abbrev pub AreAscending : List Remain → Type 0
AreAscending [] = Unit {0}
AreAscending (r ∷ []) = Unit {0}
AreAscending (r ∷ s ∷ more) = (r.index < s.index) × AreAscending (s ∷ more)

-- whether two stand in one table block, and their data blocks are of one group
abbrev pub are_together : Remain → Remain → Bool
are_together r s = r.index / per_table == s.index / per_table && r.number / per_table == s.number / per_table

-- the remains with one more, where it is the first one, or stands together with the first and less than four are there
abbrev pub gathered : List Remain → Remain → List Remain
gathered [] next = next ∷ []
gathered (first ∷ more) next =
    if nat_lt (length (first ∷ more)) 4 && are_together first next then (first ∷ more) ++ next ∷ [] else first ∷ more

abbrev pub remains_in : Option (List Remain) → List Remain
remains_in None = []
remains_in (Some rs) = rs

-- the tables of all pointers from one index to below another are known
abbrev pub AreKnown : Known → ℕ → ℕ → ℕ → Type 0
AreKnown known f from to = (i : ℕ) → from ≤ i → i < to → known (table_of (Pointer f i)) ≢ None

-- up to four remains, ascending, of one table block and one group
pub record AreRemains (g : Geometry) (known : Known) (f from to : ℕ) (rs : List Remain) : Type 0 where
  pub first : Remain
  pub more : List Remain
  pub are : rs ≡ first ∷ more
  pub few : length rs ≤ 4
  pub each : All (IsRemain g known f from to) rs
  pub ascending : AreAscending rs
  pub together : All (λ r. are_together first r ≡ true) rs

-- what was found in a range: nothing where all pointers are holes, or remains
abbrev pub AreFound : Geometry → Known → ℕ → ℕ → ℕ → Option (List Remain) → Type 0
AreFound g known f from to None = AreHoles g known f from to
AreFound g known f from to (Some rs) = AreRemains g known f from to rs
