-- The places of the blocks that are read of a volume.
use Rattle.std.specs.Prelude.{◌≡◌, ◌⊎◌, ◌≤◌, ℕ, IfSome, Option}
use Rattle.vol_layout.specs.declared.geometry.Geometry.{Geometry}
use Rattle.vol_layout.specs.declared.kind.Kind.{Kind}
use Rattle.vol_layout.specs.Places.{place_of}
use Rattle.vol_layout.specs.Ranges.{HasKind, IsGeometry}
use Rattle.vol_layout.specs.Regions.{total}
use Rattle.volume_faults.specs.Sites.{IsChecked}

-- the place of a slot, journal, lock or table of a volume of this geometry
pub record IsCheckedPlace (g : Geometry) (p : ℕ) : Type 0 where
  pub kind : Kind
  pub has : HasKind g kind
  pub checked : IsChecked kind
  pub here : place_of g kind ≡ p

-- a place that is read on a device of so many blocks: block 0, or the place of a slot, journal, lock or table of a volume
-- that has room there, whose geometry is in range, and the expected one if one is expected
abbrev pub IsReadPlace : Option Geometry → ℕ → ℕ → Type 0
IsReadPlace expected blocks p =
    (p ≡ 0)
    ⊎ ((g : Geometry) × IfSome expected (λ known. known ≡ g) × IsGeometry g × (total g ≤ blocks) × IsCheckedPlace g p)
