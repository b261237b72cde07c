-- What a host is sure of, of a block that the file's first table shows.
use Rattle.std.proofs.Common.{◌≡◌, ◌<◌, ◌≤◌, ◌/◌, ◌%◌, ◌^◌, ◌∙◌, ℕ, [], arith, eq-eqb, refl}
use Rattle.vol_base.specs.Packing.{Packing}
use Rattle.vol_layout.specs.declared.kind.Table.TheVariants.{File}
use Rattle.vol_layout.specs.declared.field.Field.TheVariants.{Count, Head, Pointer}
use Rattle.vol_layout.specs.declared.geometry.Geometry.{Geometry}
use Rattle.vol_layout.specs.Fields.{HasField, IsPointer, table_of}
use Rattle.vol_layout.specs.Ranges.{data_blocks, per_table}
use Rattle.image_view.specs.Images.{Image}
use Rattle.image_view.specs.Numbers.{logical}
use Rattle.table_blocks.specs.Tables.{IsPackingOf, number_in}
use Rattle.disk_locks.specs.Consistent.{Consistent}
use Rattle.disk_locks.specs.Sure.{Sure}
use Rattle.host_facts.specs.Facts.Fact.{RecordIs, TableIs}
use Rattle.host_facts.specs.Knows.{Knows}
use Rattle.host_facts.specs.OwnBlocks.{IsOwnBlock}
use Rattle.host_facts.specs.Views.{WorldView}
use Rattle.host_facts.specs.laws.DoneLaws.{number_known}
use Rattle.host_facts.specs.laws.ToldLaws.{sure_and, sure_of}
use Rattle.world_callers.specs.Rewrites.{ShowsOwn}

-- a pointer of the first table block stands there
first_table : (f i : ℕ) → i < per_table → table_of (Pointer f i) ≡ File f
unfolding per_table
first_table f i below = let zero : i / per_table ≡ 0 = omega arith in rw (eq-eqb (i / per_table) 0 zero) refl

-- which is one that may stand in a pointer
pub pointer_range : (g : Geometry) (f i : ℕ) (p : Packing) → HasField g (Pointer f i) → i < per_table → IsPackingOf g (File f) p
    → IsPointer g (number_in p (Pointer f i))
pointer_range g f i p has below packing = packing.range (Pointer f i) has (first_table f i below)

-- the data block is one of the volume
pub shown_number : (g : Geometry) (f i d : ℕ) (p : Packing) → HasField g (Pointer f i) → i < per_table → IsPackingOf g (File f) p
    → ShowsOwn p f i d → HasField g (Count d)
shown_number g f i d p has below packing shows =
    let names : number_in p (Pointer f i) % 2 ^ 31 ≤ data_blocks g = (pointer_range g f i p has below packing).names in
    omega (arith, names, shows.pointer, shows.unmarked)

-- it is the file's, and nothing else names it
pub own_sure : (v : WorldView) (h f i d : ℕ) (p : Packing) → Consistent v.locks → HasField v.locks.geometry (Pointer f i) → i < per_table
    → IsPackingOf v.locks.geometry (File f) p → Knows v h (TableIs (File f) p) → Knows v h (RecordIs []) → ShowsOwn p f i d
    → Sure v.locks h (IsOwnBlock v.locks.geometry f i d)
own_sure v h f i d p is has below packing known empty shows =
    let g = v.locks.geometry in
    let Long = λ (image : Image). logical g image (Head f) ≡ number_in p (Head f) in
    let Named = λ (image : Image). logical g image (Pointer f i) ≡ number_in p (Pointer f i) in
    sure_of v.locks h (λ image. Long image × Named image) (IsOwnBlock g f i d)
    (λ image both. record { inside = omega (arith, both.0, shows.inside); pointer = both.1 ∙ shows.pointer })
    (sure_and v.locks h Long Named (number_known v h (File f) p (Head f) is known packing empty has.0 refl)
    (number_known v h (File f) p (Pointer f i) is known packing empty has (first_table f i below)))
