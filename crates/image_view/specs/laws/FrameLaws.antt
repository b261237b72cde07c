-- What a write of one block changes, and what it leaves.
use Rattle.std.proofs.Common.{◌≡◌, ◌≢◌, ◌<◌, ◌≤◌, ◌/◌, ◌==◌, ℕ, List, [], length, ap, ◌∙◌, arith, get_or-set_other, get_or-set_same, inl, inr}
use Rattle.std.proofs.lemmas.Bool.{cases_Bool, eqb-false}
use Rattle.std.proofs.lemmas.Nat.{div_below}
use Rattle.vol_base.specs.laws.RangeLaws.{flat_map_kept}
use Rattle.vol_base.specs.Bytes.{u32_at, u64_at}
use Rattle.vol_layout.specs.declared.geometry.Geometry.{Geometry}
use Rattle.vol_layout.specs.declared.kind.Kind.{Kind}
use Rattle.vol_layout.specs.declared.kind.Kind.TheVariants as kinds
use Rattle.vol_layout.specs.declared.kind.Resource.{Resource}
use Rattle.vol_layout.specs.declared.kind.Table.{Table}
use Rattle.vol_layout.specs.declared.field.Field.{Field}
use Rattle.vol_layout.specs.declared.field.Field.TheVariants.{Head, Pointer, Slot, Count}
use Rattle.vol_layout.specs.Fields.{HasField, byte_of, resource_of, table_of}
use Rattle.vol_layout.specs.Journal.{edits_of}
use Rattle.vol_layout.specs.Places.{place_of}
use Rattle.vol_layout.specs.Ranges.{HasKind, HasResource, HasTable, arena_slots, data_blocks, limit, per_table}
use Rattle.vol_layout.specs.Regions.{total}
use Rattle.vol_layout.specs.laws.PlaceLaws.{place_of-inside, places_apart}
use Rattle.image_view.specs.Images.{Image, OnlyChanges, block_at, written}
use Rattle.image_view.specs.Numbers.{field, journal, logical, standing}
use Rattle.image_view.specs.HostKeys.{IsHeldBy, journal_key_at, lock_key_at, lock_state_at, slot_key_at}

-- a write of one kind of block changes no other
pub write_only : (g : Geometry) (image : Image) (kind : Kind) (block : List ℕ) → HasKind g kind
    → OnlyChanges g image (written g image kind block) kind
unfolding block_at
write_only g image kind block has other has' ne =
    get_or-set_other image (place_of g kind) (place_of g other) block [] (λ e. ne (places_apart g other kind has' has e))

-- and that block is what was written
pub block_at-written : (g : Geometry) (image : Image) (kind : Kind) (block : List ℕ) → HasKind g kind → total g ≤ length image
    → block_at g (written g image kind block) kind ≡ block
unfolding block_at
block_at-written g image kind block has long =
    let inside = place_of-inside g kind has in
    get_or-set_same image (place_of g kind) block [] (omega arith)

-- the table and the resource of a field are the volume's
pub HasTable-table_of : (g : Geometry) (x : Field) → HasField g x → HasTable g (table_of x)
unfolding limit data_blocks arena_slots per_table
HasTable-table_of g (Head f) h = h
HasTable-table_of g (Slot s) h = div_below s 1008 g.parts (omega arith) (omega (arith, h))
HasTable-table_of g (Count d) h = div_below d 1008 g.groups (omega arith) (omega (arith, h))
HasTable-table_of g (Pointer f i) h =
    let below = div_below i 1008 g.tables (omega arith) (omega (arith, h.1)) in
    elim (cases_Bool (i / 1008 == 0)) [
      | inl y ↦ rw y (h.0)
      | inr n ↦ rw n (h.0, omega (arith, eqb-false (i / 1008) 0 n), below)
    ]

pub HasResource-resource_of : (g : Geometry) (x : Field) → HasField g x → HasResource g (resource_of x)
unfolding data_blocks arena_slots per_table
HasResource-resource_of g (Head f) h = h
HasResource-resource_of g (Pointer f i) h = h.0
HasResource-resource_of g (Slot s) h = div_below s 1008 g.parts (omega arith) (omega (arith, h))
HasResource-resource_of g (Count d) h = div_below d 1008 g.groups (omega arith) (omega (arith, h))

-- a field in another table keeps its number
pub field_kept : (g : Geometry) (old new : Image) (kind : Kind) (x : Field) → OnlyChanges g old new kind → HasField g x
    → kinds.Table (table_of x) ≢ kind → field g new x ≡ field g old x
unfolding field
field_kept g old new kind x only has ne =
    ap (λ (block : List ℕ). u32_at block (byte_of x)) (only (kinds.Table (table_of x)) (HasTable-table_of g x has) ne)

-- another host's journal keeps its edits
pub journal_kept : (g : Geometry) (old new : Image) (kind : Kind) (h : ℕ) → OnlyChanges g old new kind → h < g.hosts
    → kinds.Journal h ≢ kind → journal g new h ≡ journal g old h
unfolding journal
journal_kept g old new kind h only has ne = ap edits_of (only (kinds.Journal h) has ne)

pub journal_key_kept : (g : Geometry) (old new : Image) (kind : Kind) (h : ℕ) → OnlyChanges g old new kind → h < g.hosts
    → kinds.Journal h ≢ kind → journal_key_at g new h ≡ journal_key_at g old h
unfolding journal_key_at
journal_key_kept g old new kind h only has ne = ap (λ (block : List ℕ). u64_at block 16) (only (kinds.Journal h) has ne)

-- another slot and another lock show the same keys
pub slot_key_kept : (g : Geometry) (old new : Image) (kind : Kind) (h : ℕ) → OnlyChanges g old new kind → h < g.hosts → kinds.Slot h ≢ kind
    → slot_key_at g new h ≡ slot_key_at g old h
unfolding slot_key_at
slot_key_kept g old new kind h only has ne = ap (λ (block : List ℕ). u64_at block 16) (only (kinds.Slot h) has ne)

pub lock_state_kept : (g : Geometry) (old new : Image) (kind : Kind) (r : Resource) → OnlyChanges g old new kind → HasResource g r
    → kinds.Lock r ≢ kind → lock_state_at g new r ≡ lock_state_at g old r
unfolding lock_state_at
lock_state_kept g old new kind r only has ne = ap (λ (block : List ℕ). u32_at block 8) (only (kinds.Lock r) has ne)

pub lock_key_kept : (g : Geometry) (old new : Image) (kind : Kind) (r : Resource) → OnlyChanges g old new kind → HasResource g r
    → kinds.Lock r ≢ kind → lock_key_at g new r ≡ lock_key_at g old r
unfolding lock_key_at
lock_key_kept g old new kind r only has ne = ap (λ (block : List ℕ). u64_at block 16) (only (kinds.Lock r) has ne)

pub IsHeldBy_kept : (g : Geometry) (old new : Image) (kind : Kind) (r : Resource) (key : ℕ) → OnlyChanges g old new kind → HasResource g r
    → kinds.Lock r ≢ kind → IsHeldBy g old r key → IsHeldBy g new r key
IsHeldBy_kept g old new kind r key only has ne h =
    record {
      held = lock_state_kept g old new kind r only has ne ∙ h.held;
      by = lock_key_kept g old new kind r only has ne ∙ h.by;
    }

-- a write of no journal leaves all standing edits
pub standing_kept : (g : Geometry) (old new : Image) (kind : Kind) → OnlyChanges g old new kind → ((h : ℕ) → kinds.Journal h ≢ kind)
    → standing g new ≡ standing g old
unfolding standing
standing_kept g old new kind only ne =
    flat_map_kept (λ h. journal g old h) (λ h. journal g new h) 0 g.hosts g.hosts (omega arith) (λ h below. journal_kept g old new kind h only below (ne h))

-- a write of no journal and no table leaves all logical numbers
pub logical_kept : (g : Geometry) (old new : Image) (kind : Kind) (x : Field) → OnlyChanges g old new kind
    → ((h : ℕ) → kinds.Journal h ≢ kind) → ((t : Table) → kinds.Table t ≢ kind) → HasField g x
    → logical g new x ≡ logical g old x
unfolding logical
logical_kept g old new kind x only no_journal no_table has =
    let e = standing_kept g old new kind only no_journal in
    let f = field_kept g old new kind x only has (no_table (table_of x)) in
    cc
