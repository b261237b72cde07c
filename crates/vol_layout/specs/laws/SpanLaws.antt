-- Which blocks stand at a volume's front, and which at its end.
use Rattle.std.proofs.Common.{◌<◌, ◌≤◌, ◌+◌, ◌⊎◌, ℕ, inl, inr, arith}
use Rattle.vol_layout.specs.declared.geometry.Geometry.{Geometry}
use Rattle.vol_layout.specs.declared.kind.Kind.TheVariants as kinds
use Rattle.vol_layout.specs.declared.kind.Resource.{Resource}
use Rattle.vol_layout.specs.declared.kind.Resource.TheVariants as resources
use Rattle.vol_layout.specs.declared.kind.Table.{Table}
use Rattle.vol_layout.specs.declared.kind.Table.TheVariants as tables
use Rattle.vol_layout.specs.Places.{IsAtEnd, IsAtFront, front_end, further_tables, place_of}
use Rattle.vol_layout.specs.Ranges.{HasResource, HasTable}
use Rattle.vol_layout.specs.Regions.{regions, total}
use Rattle.vol_layout.specs.laws.PlaceLaws.{place_of-inside}

-- the front and the further tables lie apart in the volume
pub spans_fit : (g : Geometry) → (1 ≤ front_end g) × (front_end g + further_tables g ≤ total g)
unfolding place_of regions total
spans_fit g = (omega arith, omega arith)

pub slot_at_front : (g : Geometry) (h : ℕ) → h < g.hosts → IsAtFront g (place_of g (kinds.Slot h))
unfolding place_of regions
slot_at_front g h below = (omega arith, omega arith)

pub journal_at_front : (g : Geometry) (h : ℕ) → h < g.hosts → IsAtFront g (place_of g (kinds.Journal h))
unfolding place_of regions
journal_at_front g h below = (omega arith, omega arith)

pub lock_at_front : (g : Geometry) (r : Resource) → HasResource g r → IsAtFront g (place_of g (kinds.Lock r))
unfolding place_of regions
lock_at_front g (resources.File f) below = (omega arith, omega arith)
lock_at_front g (resources.Part p) below = (omega arith, omega arith)
lock_at_front g (resources.Group r) below = (omega arith, omega arith)

-- a first table stands at the front, a further one at the end
pub table_at_front_or_end : (g : Geometry) (t : Table) → HasTable g t
    → IsAtFront g (place_of g (kinds.Table t)) ⊎ IsAtEnd g (place_of g (kinds.Table t))
unfolding place_of total regions
table_at_front_or_end g (tables.File f) below = inl (omega arith, omega arith)
table_at_front_or_end g (tables.Group r) below = inl (omega arith, omega arith)
table_at_front_or_end g (tables.Part p) below = inl (omega arith, omega arith)
table_at_front_or_end g (tables.More f b) has = inr (omega arith, place_of-inside g (kinds.Table (tables.More f b)) has)
