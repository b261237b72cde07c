-- What keeps an image valid where a journal or a table is written.
use Rattle.std.proofs.Common.{◌≡◌, ◌≢◌, ◌⊎◌, ◌+◌, ◌%◌, ◌<◌, ℕ, true, List, [], length, sym, ap, ◌∙◌, subst, inl, inr}
use Rattle.std.proofs.lemmas.Bool.{cases_eq}
use Rattle.vol_layout.specs.declared.geometry.Geometry.{Geometry}
use Rattle.vol_layout.specs.declared.kind.Kind.{Kind}
use Rattle.vol_layout.specs.declared.kind.Kind.TheVariants as kinds
use Rattle.vol_layout.specs.declared.kind.Resource.{Resource}
use Rattle.vol_layout.specs.declared.kind.Table.{Table}
use Rattle.vol_layout.specs.declared.field.Edit.{Edit}
use Rattle.vol_layout.specs.declared.field.Field.{Field}
use Rattle.vol_layout.specs.declared.field.Field.TheVariants.{Slot}
use Rattle.vol_layout.specs.Edits.{edited, touches}
use Rattle.vol_layout.specs.Fields.{HasField, IsInRange, resource_of, table_of}
use Rattle.vol_layout.specs.Ranges.{HasResource}
use Rattle.image_view.specs.Counted.{IsCounted}
use Rattle.image_view.specs.Held.{CountsSlots, HoldsField, IsHeld, IsShown}
use Rattle.image_view.specs.HostKeys.{journal_key_at, lock_key_at, lock_state_at, slot_key_at}
use Rattle.image_view.specs.Images.{Image, OnlyChanges, block_at}
use Rattle.image_view.specs.Numbers.{field, journal, logical}
use Rattle.image_view.specs.Spelled.{IsJournal, IsTable}
use Rattle.image_view.specs.Valid.{IsValid}
use Rattle.image_view.specs.laws.EditLaws.{edited_touched, edited_untouched}
use Rattle.image_view.specs.laws.FileLaws.{edited_in_range}
use Rattle.image_view.specs.laws.FrameLaws.{HasResource-resource_of, IsHeldBy_kept, field_kept, journal_key_kept, journal_kept}
use Rattle.image_view.specs.laws.FrameLaws.{lock_key_kept, lock_state_kept, slot_key_kept}
use Rattle.image_view.specs.laws.GeometryLaws.{first_block-is}
use Rattle.image_view.specs.laws.JournalLaws.{cases_Table, journals_apart, logical-advance}
use Rattle.image_view.specs.laws.ValidLaws.{counted_kept}
use Rattle.host_facts.specs.laws.KindLaws.{LeavesHosts}

-- the write of a block that is neither slot nor lock leaves what locks say
locks_kept : (g : Geometry) (old new : Image) (kind : Kind) → OnlyChanges g old new kind → LeavesHosts kind → IsHeld g old
    → (r : Resource) → HasResource g r → lock_state_at g new r ≡ 1 → IsShown g new (lock_key_at g new r)
locks_kept g old new kind only leaves was r has is =
    let s = was.locks r has (sym (lock_state_kept g old new kind r only has (leaves.1 r)) ∙ is) in
    rw (lock_key_kept g old new kind r only has (leaves.1 r)) (record {
      some = s.some;
      host = s.host;
      shown = slot_key_kept g old new kind (lock_key_at g old r % 16) only s.host (leaves.0 (lock_key_at g old r % 16)) ∙ s.shown;
    })

holds_kept : (g : Geometry) (old new : Image) (kind : Kind) (key : ℕ) (x : Field) → OnlyChanges g old new kind → LeavesHosts kind
    → HoldsField g old key x → HoldsField g new key x
holds_kept g old new kind key x only leaves h =
    (h.0, IsHeldBy_kept g old new kind (resource_of x) key only (HasResource-resource_of g x h.0) (leaves.1 (resource_of x)) h.1)

-- the record of a journal is right
record IsRight (g : Geometry) (image : Image) (k : ℕ) : Type 0 where
  pub keyed : journal g image k ≢ [] → (slot_key_at g image k ≢ 0) × (journal_key_at g image k ≡ slot_key_at g image k)
  pub held : (x : Field) → touches (journal g image k) x ≡ true → HoldsField g image (journal_key_at g image k) x
  pub slots : CountsSlots g image (journal g image k)

-- and stays so where another block is written that leaves how the slots in it are counted
right_kept : (g : Geometry) (old new : Image) (kind : Kind) (k : ℕ) → OnlyChanges g old new kind → LeavesHosts kind → k < g.hosts
    → kinds.Journal k ≢ kind → CountsSlots g new (journal g old k) → IsHeld g old → IsRight g new k
right_kept g old new kind k only leaves below other slots was =
    let same = journal_kept g old new kind k only below other in
    let key_same = journal_key_kept g old new kind k only below other in
    let slot_same = slot_key_kept g old new kind k only below (leaves.0 k) in
    record {
      keyed = λ some. let r = was.records k below (λ e. some (same ∙ e)) in (λ e. r.0 (sym slot_same ∙ e), key_same ∙ r.1 ∙ sym slot_same);
      held = λ x touched.
          let before = was.edits k x below (ap (λ (es : List Edit). touches es x) (sym same) ∙ touched) in
          rw key_same (holds_kept g old new kind (journal_key_at g old k) x only leaves before);
      slots = subst (CountsSlots g new) (sym same) slots;
    }

held_written : (g : Geometry) (old new : Image) (kind : Kind) → OnlyChanges g old new kind → LeavesHosts kind → IsHeld g old
    → ((k : ℕ) → k < g.hosts → IsRight g new k) → IsHeld g new
held_written g old new kind only leaves was right = record {
  locks = locks_kept g old new kind only leaves was;
  records = λ k below. (right k below).keyed;
  edits = λ k x below. (right k below).held x;
  slots = λ k below. (right k below).slots;
}

-- slots whose numbers in the tables stay are counted as before
counts_kept : (g : Geometry) (old new : Image) (es : List Edit)
    → ((s : ℕ) → touches es (Slot s) ≡ true → field g new (Slot s) ≡ field g old (Slot s)) → CountsSlots g old es → CountsSlots g new es
counts_kept g old new es same was s d touched names = was s d touched (rw (same s touched) at names)

journal_leaves : (h : ℕ) → LeavesHosts (kinds.Journal h)
journal_leaves h = (λ k e. cc, λ r e. cc)

table_leaves : (t : Table) → LeavesHosts (kinds.Table t)
table_leaves t = (λ k e. cc, λ r e. cc)

-- a journal is written: a spelling with the key that its host's slot shows, which holds what it edits, with the counts of the slots
-- that it edits; and the counts are the mappings afterwards
pub valid_journal_write : (g : Geometry) (counter : ℕ) (old new : Image) (h : ℕ) → OnlyChanges g old new (kinds.Journal h)
    → length new ≡ length old
    → IsJournal g counter (block_at g new (kinds.Journal h))
    → (journal g new h ≢ [] → (slot_key_at g old h ≢ 0) × (journal_key_at g new h ≡ slot_key_at g old h))
    → ((x : Field) → touches (journal g new h) x ≡ true → HoldsField g old (journal_key_at g new h) x)
    → CountsSlots g old (journal g new h)
    → IsCounted g new → IsValid g counter old → IsValid g counter new
valid_journal_write g counter old new h only long spelled shown holds slots counted valid =
    let kind = kinds.Journal h in
    let leaves = journal_leaves h in
    let number = λ (x : Field) (has : HasField g x). field_kept g old new kind x only has (λ e. cc) in
    let here : h < g.hosts → IsRight g new h = λ below.
    let slot_same = slot_key_kept g old new kind h only below (leaves.0 h) in
    record {
      keyed = λ some. let s = shown some in (λ e. s.0 (sym slot_same ∙ e), s.1 ∙ sym slot_same);
      held = λ x touched. holds_kept g old new kind (journal_key_at g new h) x only leaves (holds x touched);
      slots = counts_kept g old new (journal g new h) (λ s touched. number (Slot s) (holds (Slot s) touched).0) slots;
    } in
    record {
      geometry = (valid.geometry.0, sym (first_block-is g new) ∙ only kinds.Super tt (λ e. cc) ∙ first_block-is g old ∙ valid.geometry.1);
      long = rw long valid.long;
      slots = λ k below. rw (only (kinds.Slot k) below (λ e. cc)) (valid.slots k below);
      journals = λ k below. elim (cases_eq k h) [
        | inl same ↦ subst (λ (n : ℕ). IsJournal g counter (block_at g new (kinds.Journal n))) (sym same) spelled
        | inr other ↦ rw (only (kinds.Journal k) below (λ e. other cc)) (valid.journals k below)
      ];
      locks = λ r has. rw (only (kinds.Lock r) has (λ e. cc)) (valid.locks r has);
      tables = λ t has. rw (only (kinds.Table t) has (λ e. cc)) (valid.tables t has);
      numbers = λ x has. rw (number x has) (valid.numbers x has);
      held = held_written g old new kind only leaves valid.held (λ k below. elim (cases_eq k h) [
        | inl same ↦ subst (IsRight g new) (sym same) (here (subst (λ (n : ℕ). n < g.hosts) same below))
        | inr other ↦
            let same_slots = λ (s : ℕ) (touched : touches (journal g old k) (Slot s) ≡ true).
            number (Slot s) (valid.held.edits k (Slot s) below touched).0 in
            let counts = counts_kept g old new (journal g old k) same_slots (valid.held.slots k below) in
            right_kept g old new kind k only leaves below (λ e. other cc) counts valid.held
      ]);
      counted = counted;
    }

-- a slot's number in a table that got the numbers of the record of host y, where another record or this one edits the slot
before_applied : (g : Geometry) (counter : ℕ) (old new : Image) (y k s n : ℕ) (t : Table) → OnlyChanges g old new (kinds.Table t)
    → y < g.hosts → k < g.hosts → HasField g (Slot s)
    → ((x : Field) → HasField g x → table_of x ≡ t → field g new x ≡ edited (journal g old y) x (field g old x))
    → IsValid g counter old → touches (journal g old k) (Slot s) ≡ true → field g new (Slot s) ≡ n
    → (field g old (Slot s) ≡ n) ⊎ (edited (journal g old k) (Slot s) (field g old (Slot s)) ≡ n)
before_applied g counter old new y k s n t only below below' has numbers valid touched is =
    elim (cases_Table (table_of (Slot s)) t) [
      | inl here ↦
          let now = sym (numbers (Slot s) has here) ∙ is in
          elim (cases_eq y k) [
            | inl same ↦ inr (ap (λ (m : ℕ). edited (journal g old m) (Slot s) (field g old (Slot s))) (sym same) ∙ now)
            | inr other ↦
                let apart = journals_apart g counter old k y (Slot s) valid below' below touched other in
                inl (sym (edited_untouched (journal g old y) (Slot s) (field g old (Slot s)) apart) ∙ now)
          ]
      | inr other ↦ inl (sym (field_kept g old new (kinds.Table t) (Slot s) only has (λ e. other cc)) ∙ is)
    ]

-- a table is written that has the numbers which the record of one host gives its fields: valid, and all logical numbers stay
pub valid_table_write : (g : Geometry) (counter : ℕ) (old new : Image) (y : ℕ) (t : Table) → OnlyChanges g old new (kinds.Table t)
    → length new ≡ length old → y < g.hosts
    → IsTable t (block_at g new (kinds.Table t))
    → ((x : Field) → HasField g x → table_of x ≡ t → field g new x ≡ edited (journal g old y) x (field g old x))
    → IsValid g counter old
    → IsValid g counter new × ((x : Field) → HasField g x → logical g new x ≡ logical g old x)
unfolding journal
valid_table_write g counter old new y t only long below spelled numbers valid =
    let kind = kinds.Table t in
    let same = logical-advance g old new y t only below numbers in
    let edits = (valid.journals y below).spelled.edits in
    let valid_new : IsValid g counter new = record {
      geometry = (valid.geometry.0, sym (first_block-is g new) ∙ only kinds.Super tt (λ e. cc) ∙ first_block-is g old ∙ valid.geometry.1);
      long = rw long valid.long;
      slots = λ k lt. rw (only (kinds.Slot k) lt (λ e. cc)) (valid.slots k lt);
      journals = λ k lt. rw (only (kinds.Journal k) lt (λ e. cc)) (valid.journals k lt);
      locks = λ r has. rw (only (kinds.Lock r) has (λ e. cc)) (valid.locks r has);
      tables = λ u has. elim (cases_Table u t) [
        | inl here ↦ subst (λ (w : Table). IsTable w (block_at g new (kinds.Table w))) (sym here) spelled
        | inr other ↦ rw (only (kinds.Table u) has (λ e. other cc)) (valid.tables u has)
      ];
      numbers = λ x has. elim (cases_Table (table_of x) t) [
        | inl here ↦
            let after = edited_in_range g (journal g old y) x (field g old x) edits.each (valid.numbers x has) in
            subst (IsInRange g x) (sym (numbers x has here)) after
        | inr other ↦ rw (field_kept g old new kind x only has (λ e. other cc)) (valid.numbers x has)
      ];
      held = held_written g old new kind only (table_leaves t) valid.held (λ k lt.
          right_kept g old new kind k only (table_leaves t) lt (λ e. cc) (λ s d touched names.
          let has = (valid.held.edits k (Slot s) lt touched).0 in
          valid.held.slots k lt s d touched (elim names [
            | inl before ↦ before_applied g counter old new y k s (d + 1) t only below lt has numbers valid touched before
            | inr after ↦ inr (edited_touched (journal g old k) (Slot s) (field g old (Slot s)) (field g new (Slot s)) touched ∙ after)
          ])) valid.held);
      counted = counted_kept g old new same valid.counted;
    } in
    (valid_new, same)
