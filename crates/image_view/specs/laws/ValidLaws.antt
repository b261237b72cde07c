-- What keeps an image valid.
use Rattle.std.proofs.Common.{◌≡◌, ◌≢◌, ◌<◌, ◌≤◌, ◌-◌, ◌%◌, ℕ, true, length, sym, ap, ◌∙◌, subst, arith}
use Rattle.vol_layout.specs.declared.geometry.Geometry.{Geometry}
use Rattle.vol_layout.specs.declared.kind.Kind.{Kind}
use Rattle.vol_layout.specs.declared.kind.Kind.TheVariants as kinds
use Rattle.vol_layout.specs.declared.kind.Resource.{Resource}
use Rattle.vol_layout.specs.declared.kind.Table.{Table}
use Rattle.vol_layout.specs.declared.field.Field.{Field}
use Rattle.vol_layout.specs.declared.field.Field.TheVariants.{Pointer, Slot, Count}
use Rattle.vol_layout.specs.Edits.{touches}
use Rattle.vol_layout.specs.Fields.{HasField, resource_of, table_of}
use Rattle.vol_layout.specs.Ranges.{HasResource}
use Rattle.image_view.specs.Images.{Image, OnlyChanges, block_at}
use Rattle.image_view.specs.Numbers.{journal, logical}
use Rattle.image_view.specs.Mappings.{uses}
use Rattle.image_view.specs.Balances.{share}
use Rattle.image_view.specs.HostKeys.{journal_key_at, lock_key_at}
use Rattle.image_view.specs.Counted.{IsCounted}
use Rattle.image_view.specs.Held.{IsHeld}
use Rattle.image_view.specs.Spelled.{IsLockOf, IsSlotOf}
use Rattle.image_view.specs.Valid.{IsValid}
use Rattle.image_view.specs.laws.FrameLaws.{HasResource-resource_of, IsHeldBy_kept, field_kept, journal_key_kept, journal_kept, lock_key_kept, lock_state_kept, logical_kept, slot_key_kept}
use Rattle.image_view.specs.laws.GeometryLaws.{first_block-is}
use Rattle.image_view.specs.laws.UseLaws.{sum_by_references_same, uses-sum_by}

-- a valid image stays valid while the device's counter rises
pub IsValid-later : (g : Geometry) (counter later : ℕ) (image : Image) → counter ≤ later → IsValid g counter image → IsValid g later image
IsValid-later g counter later image le valid = record {
  geometry = valid.geometry;
  long = valid.long;
  slots = λ h below. let s = valid.slots h below in record { slot = s.slot; spelled = s.spelled; host = s.host; given = λ k d lt. let was = s.given k d lt in omega arith };
  journals = λ h below. let j = valid.journals h below in record { spelled = j.spelled; given = λ k d lt. let was = j.given k d lt in omega arith };
  locks = λ r has. let l = valid.locks r has in record { word = l.word; spelled = l.spelled; resource = l.resource; given = λ k d lt. let was = l.given k d lt in omega arith };
  tables = valid.tables;
  numbers = valid.numbers;
  held = valid.held;
  counted = valid.counted;
}

-- blocks from which no logical number is read: all but the superblock, journals and tables
abbrev pub IsUnnumbered : Kind → Type 0
IsUnnumbered kinds.Super = ⊥
IsUnnumbered (kinds.Journal h) = ⊥
IsUnnumbered (kinds.Table t) = ⊥
IsUnnumbered _ = Unit {0}

-- hint blocks and data blocks, of whose content validity says nothing
abbrev pub IsPlainKind : Kind → Type 0
IsPlainKind kinds.Super = ⊥
IsPlainKind (kinds.Slot h) = ⊥
IsPlainKind (kinds.Journal h) = ⊥
IsPlainKind (kinds.Lock r) = ⊥
IsPlainKind (kinds.Table t) = ⊥
IsPlainKind (kinds.Log h l) = Unit {0}
IsPlainKind (kinds.Shard s) = Unit {0}
IsPlainKind (kinds.Request f) = Unit {0}
IsPlainKind (kinds.Number d) = Unit {0}

plain_unnumbered : (kind : Kind) → IsPlainKind kind → IsUnnumbered kind
plain_unnumbered kinds.Super plain = plain
plain_unnumbered (kinds.Slot h) plain = tt
plain_unnumbered (kinds.Journal h) plain = plain
plain_unnumbered (kinds.Lock r) plain = tt
plain_unnumbered (kinds.Table t) plain = plain
plain_unnumbered (kinds.Log h l) plain = tt
plain_unnumbered (kinds.Shard s) plain = tt
plain_unnumbered (kinds.Request f) plain = tt
plain_unnumbered (kinds.Number d) plain = tt

other_kind : (kind other : Kind) → IsPlainKind kind → (IsPlainKind other → ⊥) → other ≢ kind
other_kind kind other plain not_plain e = not_plain (subst IsPlainKind (sym e) plain)

-- where all logical numbers stay, so do the uses of each data number, and counts stay right
pub uses_kept : (g : Geometry) (old new : Image) (d : ℕ) → ((x : Field) → HasField g x → logical g new x ≡ logical g old x)
    → uses g new d ≡ uses g old d
uses_kept g old new d same =
    uses-sum_by g new d
    ∙ sum_by_references_same g (λ x. share (logical g new x) d) (λ x. share (logical g old x) d) (λ x has. ap (λ n. share n d) (same x has))
    ∙ sym (uses-sum_by g old d)

pub counted_kept : (g : Geometry) (old new : Image) → ((x : Field) → HasField g x → logical g new x ≡ logical g old x)
    → IsCounted g old → IsCounted g new
counted_kept g old new same was = record {
  counts = λ d has. same (Count d) has ∙ was.counts d has ∙ sym (uses_kept g old new d same);
  unmarked = λ f i has un.
      let number = same (Pointer f i) has in
      rw (number, uses_kept g old new (logical g old (Pointer f i) - 1) same) (was.unmarked f i has (rw number at un));
}

-- a write of a hint block or a data block leaves what locks, slots and records say
pub held_kept : (g : Geometry) (old new : Image) (kind : Kind) → IsPlainKind kind → OnlyChanges g old new kind → IsHeld g old → IsHeld g new
held_kept g old new kind plain only was =
    let slot_same = λ (h : ℕ) (below : h < g.hosts). slot_key_kept g old new kind h only below (other_kind kind (kinds.Slot h) plain (λ p. p)) in
    let journal_same = λ (h : ℕ) (below : h < g.hosts). journal_kept g old new kind h only below (other_kind kind (kinds.Journal h) plain (λ p. p)) in
    let key_same = λ (h : ℕ) (below : h < g.hosts). journal_key_kept g old new kind h only below (other_kind kind (kinds.Journal h) plain (λ p. p)) in
    record {
      locks = λ r has is.
          let ne = other_kind kind (kinds.Lock r) plain (λ p. p) in
          let s = was.locks r has (sym (lock_state_kept g old new kind r only has ne) ∙ is) in
          rw (lock_key_kept g old new kind r only has ne) (record { some = s.some; host = s.host; shown = slot_same (lock_key_at g old r % 16) s.host ∙ s.shown });
      records = λ h below some.
          let r = was.records h below (λ e. some (journal_same h below ∙ e)) in
          (λ e. r.0 (sym (slot_same h below) ∙ e), key_same h below ∙ r.1 ∙ sym (slot_same h below));
      edits = λ h x below touched.
          let e = was.edits h x below (ap (λ es. touches es x) (sym (journal_same h below)) ∙ touched) in
          rw (key_same h below) (e.0, IsHeldBy_kept g old new kind (resource_of x) (journal_key_at g old h) only (HasResource-resource_of g x e.0) (other_kind kind (kinds.Lock (resource_of x)) plain (λ p. p)) e.1);
      slots = λ h below s d touched names.
          let same = journal_same h below in
          let before : touches (journal g old h) (Slot s) ≡ true = ap (λ es. touches es (Slot s)) (sym same) ∙ touched in
          let has = (was.edits h (Slot s) below before).0 in
          let number = field_kept g old new kind (Slot s) only has (other_kind kind (kinds.Table (table_of (Slot s))) plain (λ p. p)) in
          ap (λ es. touches es (Count d)) same ∙ was.slots h below s d before (rw (same, number) at names);
    }

-- a block that is neither superblock, journal nor table is written; slots and locks are in range and agree with the
-- records: the image stays valid
pub valid_unnumbered_write : (g : Geometry) (counter : ℕ) (old new : Image) (kind : Kind) → IsUnnumbered kind → OnlyChanges g old new kind
    → length new ≡ length old
    → ((h : ℕ) → h < g.hosts → IsSlotOf counter h (block_at g new (kinds.Slot h)))
    → ((r : Resource) → HasResource g r → IsLockOf g counter r (block_at g new (kinds.Lock r)))
    → IsHeld g new
    → IsValid g counter old → IsValid g counter new
valid_unnumbered_write g counter old new kind unnumbered only long slots locks held valid =
    let other = λ (k : Kind) (numbered : IsUnnumbered k → ⊥) (e : k ≡ kind). numbered (subst IsUnnumbered (sym e) unnumbered) in
    let no_journal = λ (h : ℕ). other (kinds.Journal h) (λ p. p) in
    let no_table = λ (t : Table). other (kinds.Table t) (λ p. p) in
    record {
      geometry = (valid.geometry.0, sym (first_block-is g new) ∙ only kinds.Super tt (other kinds.Super (λ p. p)) ∙ first_block-is g old ∙ valid.geometry.1);
      long = rw long valid.long;
      slots = slots;
      journals = λ h below. rw (only (kinds.Journal h) below (no_journal h)) (valid.journals h below);
      locks = locks;
      tables = λ t has. rw (only (kinds.Table t) has (no_table t)) (valid.tables t has);
      numbers = λ x has. rw (field_kept g old new kind x only has (no_table (table_of x))) (valid.numbers x has);
      held = held;
      counted = counted_kept g old new (λ x has. logical_kept g old new kind x only no_journal no_table has) valid.counted;
    }

-- writing a hint block or a data block leaves an image valid
pub valid_plain_write : (g : Geometry) (counter : ℕ) (old new : Image) (kind : Kind) → IsPlainKind kind → OnlyChanges g old new kind
    → length new ≡ length old → IsValid g counter old → IsValid g counter new
valid_plain_write g counter old new kind plain only long valid =
    valid_unnumbered_write g counter old new kind (plain_unnumbered kind plain) only long
    (λ h below. rw (only (kinds.Slot h) below (other_kind kind (kinds.Slot h) plain (λ p. p))) (valid.slots h below))
    (λ r has. rw (only (kinds.Lock r) has (other_kind kind (kinds.Lock r) plain (λ p. p))) (valid.locks r has))
    (held_kept g old new kind plain only valid.held) valid
