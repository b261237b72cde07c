-- What the tables that were read say of a file's block.
use Rattle.std.proofs.Common.{◌≡◌, ◌<◌, ◌≤◌, ◌+◌, ◌-◌, ◌%◌, ◌^◌, ℕ, true, false, None, Some, refl, ap, sym, subst, arith, nat_lt}
use Rattle.std.specs.Prelude.{Bool, if◌then◌else◌}
use Rattle.std.proofs.lemmas.Bool.{ltb-true}
use Rattle.vol_base.specs.Packing.{Packing}
use Rattle.vol_layout.specs.declared.field.Field.TheVariants.{Head, Pointer}
use Rattle.vol_layout.specs.declared.geometry.Geometry.{Geometry}
use Rattle.vol_layout.specs.Fields.{HasField, IsPointer, table_of}
use Rattle.vol_layout.specs.Ranges.{data_blocks}
use Rattle.image_view.specs.declared.pointer.Number.{Number}
use Rattle.image_view.specs.declared.pointer.Number.TheVariants.{At, Hole}
use Rattle.image_view.specs.Numbers.{logical}
use Rattle.image_view.specs.Pointers.{IsNumber, named, pointer_number}
use Rattle.table_blocks.specs.Tables.{number_in}
use Rattle.share_plans.specs.ReadTables.{ArePacked, Known, Says}
use Rattle.share_plans.specs.Spots.{IsInVolume, IsSpot, PointsTo}
use Rattle.share_plans.specs.declared.sight.Spot.TheVariants as spots
use Rattle.disk_locks.specs.Keys.{owner}
use Rattle.host_facts.specs.laws.KindLaws.{owner_table}
use Rattle.vol_layout.specs.declared.kind.Resource.TheVariants as resources

-- a file that is not longer has no block at the index
pub nothing_past : (g : Geometry) (known : Known) (f i head : ℕ) → f < g.files → Says known (Head f) head → head - 1 ≤ i
    → IsSpot g known f i spots.Nothing
nothing_past g known f i head below says past image reads =
    let is : logical g image (Head f) ≡ head = reads (Head f) head below says in
    pick (nat_lt (i + 1) (logical g image (Head f)))
    (λ less. let lt = ltb-true (i + 1) (logical g image (Head f)) less in omega (arith, lt, is, past))
  where
    pick : (b : Bool) → (b ≡ true → ⊥) → (if b then named (logical g image (Pointer f i)) else None) ≡ None
    pick true never = absurd (never refl)
    pick false never = refl

-- a hole is none
pub nothing_there : (g : Geometry) (known : Known) (f i : ℕ) → PointsTo g known f i Hole → IsSpot g known f i spots.Nothing
nothing_there g known f i points image reads =
    let is : logical g image (Pointer f i) ≡ 0 = reads (Pointer f i) 0 points.has points.pointer in
    pick (nat_lt (i + 1) (logical g image (Head f))) (ap named is)
  where
    pick : (b : Bool) → named (logical g image (Pointer f i)) ≡ None → (if b then named (logical g image (Pointer f i)) else None) ≡ None
    pick true hole = hole
    pick false hole = refl

-- what is read as a pointer names a data block of the volume
in_volume : (g : Geometry) (p : Number) → IsPointer g (pointer_number p) → IsNumber p → IsInVolume g p
unfolding data_blocks
in_volume g Hole range fits = tt
in_volume g (At d false) range fits = omega (arith, range.names, fits)
in_volume g (At d true) range fits = omega (arith, range.names, fits)

module _ (g : Geometry) (known : Known) (packed : ArePacked g known) (f i : ℕ) (table : Packing)
    (kept : known (table_of (Pointer f i)) ≡ Some table) where
  -- a number in the table of a pointer is one
  pub pointer_hole : HasField g (Pointer f i) → number_in table (Pointer f i) % 2 ^ 31 ≡ 0 → number_in table (Pointer f i) ≡ 0
  pointer_hole has = ((packed (table_of (Pointer f i)) table kept).range (Pointer f i) has refl).hole

  pub points_to : (head : ℕ) (p : Number) → Says known (Head f) head → i + 1 < head → HasField g (Pointer f i)
      → pointer_number p ≡ number_in table (Pointer f i) → IsNumber p → PointsTo g known f i p
  points_to head p says below has is fits = record {
    head = head;
    length_is = says;
    below = below;
    has = has;
    pointer = record { table = table; kept = kept; is = sym is };
    inside = in_volume g p (subst (IsPointer g) (sym is) ((packed (table_of (Pointer f i)) table kept).range (Pointer f i) has refl)) fits;
  }

-- the table of a block below the length of a file is to be read
pub owner_of : (f i : ℕ) → owner (table_of (Pointer f i)) ≡ resources.File f
owner_of f i = owner_table (Pointer f i)
