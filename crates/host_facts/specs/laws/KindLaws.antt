-- Kinds of blocks: which ones a host may write, which ones are apart, whose a table is, and what the write of a block leaves that is
-- neither the superblock, a journal, a table nor a data block.
use Rattle.std.proofs.Common.{◌≡◌, ◌≢◌, ◌⊎◌, ◌/◌, ◌==◌, ◌∙◌, ℕ, [], List, None, refl, sym, ap, subst, inl, inr}
use Rattle.std.proofs.lemmas.Bool.{cases_Bool, cases_eq}
use Rattle.vol_layout.specs.declared.geometry.Geometry.{Geometry}
use Rattle.vol_layout.specs.declared.kind.Kind.{Kind}
use Rattle.vol_layout.specs.declared.kind.Kind.TheVariants as kinds
use Rattle.vol_layout.specs.declared.kind.Resource.{Resource}
use Rattle.vol_layout.specs.declared.kind.Table.{Table}
use Rattle.vol_layout.specs.declared.kind.Table.TheVariants as tables
use Rattle.vol_layout.specs.declared.field.Edit.{Edit}
use Rattle.vol_layout.specs.declared.field.Field.{Field}
use Rattle.vol_layout.specs.declared.field.Field.TheVariants.{Count, Head, Pointer, Slot}
use Rattle.vol_layout.specs.Fields.{resource_of, table_of}
use Rattle.vol_layout.specs.Places.{place_of}
use Rattle.vol_layout.specs.Ranges.{HasKind, HasResource, HasTable, per_table}
use Rattle.vol_layout.specs.laws.PlaceLaws.{places_apart}
use Rattle.image_view.specs.Images.{Image, OnlyChanges}
use Rattle.image_view.specs.Records.{IsEdited}
use Rattle.image_view.specs.laws.FrameLaws.{logical_kept}
use Rattle.image_view.specs.laws.GeometryLaws.{first_block-is}
use Rattle.call_effects.specs.Changes.{Changes}
use Rattle.disk_locks.specs.Keys.{owner}
use Rattle.disk_locks.specs.MayWrite.{IsWritable}
use Rattle.host_facts.specs.Hints.{IsHint}
use Rattle.host_facts.specs.Passes.{IsLockKind}

-- two kinds of block are one or not
pub cases_kind : (g : Geometry) (kind other : Kind) → HasKind g kind → HasKind g other → (other ≡ kind) ⊎ (other ≢ kind)
cases_kind g kind other has there =
    elim (cases_eq (place_of g other) (place_of g kind)) [
      | inl e ↦ inl (places_apart g other kind there has e)
      | inr ne ↦ inr (λ e. ne (ap (place_of g) e))
    ]

-- a block that is neither slot nor lock
abbrev pub LeavesHosts : Kind → Type 0
LeavesHosts kind = ((k : ℕ) → kinds.Slot k ≢ kind) × ((r : Resource) → kinds.Lock r ≢ kind)

-- a block that a host may write is one of the volume, and such a block
pub writable_has : (g : Geometry) (kind : Kind) → IsWritable g kind → HasKind g kind
writable_has g kinds.Super is = absurd is
writable_has g (kinds.Slot y) is = absurd is
writable_has g (kinds.Journal y) is = is
writable_has g (kinds.Lock r) is = absurd is
writable_has g (kinds.Table t) is = is
writable_has g (kinds.Log y l) is = is
writable_has g (kinds.Shard s) is = is
writable_has g (kinds.Request f) is = is
writable_has g (kinds.Number d) is = is

pub writable_leaves : (g : Geometry) (kind : Kind) → IsWritable g kind → LeavesHosts kind
writable_leaves g kind is = (λ k e. subst (IsWritable g) (sym e) is, λ r e. subst (IsWritable g) (sym e) is)

-- a hint block is one that a host may write
pub hint_writable : (g : Geometry) (kind : Kind) → IsHint kind → HasKind g kind → IsWritable g kind
hint_writable g kinds.Super hint has = hint
hint_writable g (kinds.Slot y) hint has = hint
hint_writable g (kinds.Journal y) hint has = has
hint_writable g (kinds.Lock r) hint has = hint
hint_writable g (kinds.Table t) hint has = has
hint_writable g (kinds.Log y l) hint has = has
hint_writable g (kinds.Shard s) hint has = has
hint_writable g (kinds.Request f) hint has = has
hint_writable g (kinds.Number d) hint has = has

-- the resource of a table is one of the volume, and that of its fields
pub owner_has : (g : Geometry) (t : Table) → HasTable g t → HasResource g (owner t)
owner_has g (tables.File f) has = has
owner_has g (tables.Group r) has = has
owner_has g (tables.Part p) has = has
owner_has g (tables.More f t) has = has.0

pub owner_table : (x : Field) → owner (table_of x) ≡ resource_of x
owner_table (Head f) = refl
owner_table (Pointer f i) = elim (cases_Bool (i / per_table == 0)) [ inl first ↦ rw first refl | inr later ↦ rw later refl ]
owner_table (Slot s) = refl
owner_table (Count d) = refl

-- a block that is neither the superblock, a journal, a table nor a data block: a hint block, a slot or a lock
pub record LeavesData (kind : Kind) : Type 0 where
  pub super : kinds.Super ≢ kind
  pub journal : (y : ℕ) → kinds.Journal y ≢ kind
  pub table : (t : Table) → kinds.Table t ≢ kind
  pub number : (d : ℕ) → kinds.Number d ≢ kind

leaves_by : (P : Kind → Type 0) (kind : Kind) → P kind → (P kinds.Super → ⊥) → ((y : ℕ) → P (kinds.Journal y) → ⊥)
    → ((t : Table) → P (kinds.Table t) → ⊥) → ((d : ℕ) → P (kinds.Number d) → ⊥) → LeavesData kind
leaves_by P kind is super journal table number = record {
  super = λ e. super (subst P (sym e) is);
  journal = λ y e. journal y (subst P (sym e) is);
  table = λ t e. table t (subst P (sym e) is);
  number = λ d e. number d (subst P (sym e) is);
}

pub hint_leaves : (kind : Kind) → IsHint kind → LeavesData kind
hint_leaves kind hint = leaves_by IsHint kind hint (λ p. p) (λ y p. p) (λ t p. p) (λ d p. p)

pub lock_leaves : (kind : Kind) → IsLockKind kind → LeavesData kind
lock_leaves kind lock = leaves_by IsLockKind kind lock (λ p. p) (λ y p. p) (λ t p. p) (λ d p. p)

-- where it changes, all logical numbers stay
pub numbers_left : (g : Geometry) (old new : Image) (kind : Kind) → LeavesData kind → OnlyChanges g old new kind → IsEdited g old new []
numbers_left g old new kind leaves only x has = logical_kept g old new kind x only leaves.journal leaves.table has

-- where a block changes that is neither the superblock nor a data block, an image changes as its logical numbers do
pub changes_by : (g : Geometry) (es : List Edit) (old new : Image) (kind : Kind) → OnlyChanges g old new kind → kinds.Super ≢ kind
    → ((d : ℕ) → kinds.Number d ≢ kind) → IsEdited g old new es → Changes g es None old new
changes_by g es old new kind only no_super no_number edits = record {
  super = sym (first_block-is g new) ∙ only kinds.Super tt no_super ∙ first_block-is g old;
  numbers = edits;
  blocks = λ d there. only (kinds.Number d) there (no_number d);
}

pub nothing_changes : (g : Geometry) (old new : Image) (kind : Kind) → LeavesData kind → OnlyChanges g old new kind
    → Changes g [] None old new
nothing_changes g old new kind leaves only =
    changes_by g [] old new kind only leaves.super leaves.number (numbers_left g old new kind leaves only)
