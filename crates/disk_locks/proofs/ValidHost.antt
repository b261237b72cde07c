-- An image stays valid after a write of a slot or a lock.
use Rattle.std.proofs.Common.{◌≡◌, ◌⊎◌, ◌<◌, ◌%◌, ℕ, List, sym, ap, ◌∙◌, subst, inl, inr, length-set}
use Rattle.std.proofs.lemmas.Bool.{cases_eq}
use Rattle.vol_base.specs.Bytes.{u32_at, u64_at}
use Rattle.vol_layout.specs.declared.geometry.Geometry.{Geometry}
use Rattle.vol_layout.specs.declared.kind.Kind.{Kind}
use Rattle.vol_layout.specs.declared.kind.Kind.TheVariants as kinds
use Rattle.vol_layout.specs.declared.kind.Resource.{Resource}
use Rattle.vol_layout.specs.declared.field.Field.{Field}
use Rattle.vol_layout.specs.declared.field.Field.TheVariants.{Count, Slot}
use Rattle.vol_layout.specs.Edits.{touches}
use Rattle.vol_layout.specs.Fields.{HasField, resource_of, table_of}
use Rattle.vol_layout.specs.Places.{place_of}
use Rattle.vol_layout.specs.Ranges.{HasKind, HasResource}
use Rattle.image_view.specs.Held.{IsHeld, IsShown}
use Rattle.image_view.specs.HostKeys.{journal_key_at, lock_key_at, lock_state_at, slot_key_at}
use Rattle.image_view.specs.Images.{Image, OnlyChanges, block_at, written}
use Rattle.image_view.specs.Numbers.{journal}
use Rattle.image_view.specs.Spelled.{IsLockOf, IsSlotOf}
use Rattle.image_view.specs.Valid.{IsValid}
use Rattle.image_view.specs.laws.FrameLaws.{HasResource-resource_of, IsHeldBy_kept, block_at-written, field_kept, journal_key_kept, journal_kept, lock_key_kept, lock_state_kept, logical_kept, slot_key_kept, write_only}
use Rattle.image_view.specs.laws.GeometryLaws.{first_block-is}
use Rattle.image_view.specs.laws.ValidLaws.{counted_kept}
use Rattle.disk_locks.specs.Freeing.{IsUnneeded, Unedited}
use Rattle.disk_locks.proofs.Written.{IsHostKind, cases_kind, not_host}

-- what is left to show behind such a write: slots, locks, and that locks, slots and records agree
valid_host : (g : Geometry) (counter : ℕ) (old : Image) (kind : Kind) (block : List ℕ) → IsHostKind kind → HasKind g kind → IsValid g counter old
    → ((y : ℕ) → y < g.hosts → IsSlotOf counter y (block_at g (written g old kind block) (kinds.Slot y)))
    → ((r : Resource) → HasResource g r → IsLockOf g counter r (block_at g (written g old kind block) (kinds.Lock r)))
    → IsHeld g (written g old kind block) → IsValid g counter (written g old kind block)
valid_host g counter old kind block host has valid slots locks held =
    let new = written g old kind block in
    let only : OnlyChanges g old new kind = write_only g old kind block has in
    let same = λ (other : Kind) (has' : HasKind g other) (no_host : IsHostKind other → ⊥). only other has' (not_host kind other host no_host) in
    let numbers = λ (x : Field) (has' : HasField g x). logical_kept g old new kind x only (λ h. not_host kind (kinds.Journal h) host (λ p. p)) (λ t. not_host kind (kinds.Table t) host (λ p. p)) has' in
    record {
      geometry = (valid.geometry.0, sym (first_block-is g new) ∙ same kinds.Super tt (λ p. p) ∙ first_block-is g old ∙ valid.geometry.1);
      long = rw (length-set old (place_of g kind) block) valid.long;
      slots = slots;
      journals = λ h below. rw (same (kinds.Journal h) below (λ p. p)) (valid.journals h below);
      locks = locks;
      tables = λ t has'. rw (same (kinds.Table t) has' (λ p. p)) (valid.tables t has');
      numbers = λ x has'. rw (field_kept g old new kind x only has' (not_host kind (kinds.Table (table_of x)) host (λ p. p))) (valid.numbers x has');
      held = held;
      counted = counted_kept g old new numbers valid.counted;
    }

-- the locks, slots and records of an image that differs in one lock, whose resource no record edits
module _ (g : Geometry) (counter : ℕ) (old : Image) (r : Resource) (block : List ℕ) (valid : IsValid g counter old) (has : HasResource g r) where
  lock_new : block_at g (written g old (kinds.Lock r) block) (kinds.Lock r) ≡ block
  lock_new = block_at-written g old (kinds.Lock r) block has valid.long

  held_lock : (u32_at block 8 ≡ 1 → IsShown g old (u64_at block 16)) → Unedited g r old → IsHeld g (written g old (kinds.Lock r) block)
  unfolding lock_state_at lock_key_at
  held_lock shown unedited =
      let new = written g old (kinds.Lock r) block in
      let kind = kinds.Lock r in
      let only : OnlyChanges g old new kind = write_only g old kind block has in
      let was = valid.held in
      let no_slot = λ (h : ℕ) (e : kinds.Slot h ≡ kind). let bad : ⊥ = cc in bad in
      let no_journal = λ (h : ℕ) (e : kinds.Journal h ≡ kind). let bad : ⊥ = cc in bad in
      let no_table = λ (x : Field) (e : kinds.Table (table_of x) ≡ kind). let bad : ⊥ = cc in bad in
      let still = λ (key : ℕ) (s : IsShown g old key). let is : IsShown g new key = record { some = s.some; host = s.host; shown = slot_key_kept g old new kind (key % 16) only s.host (no_slot (key % 16)) ∙ s.shown } in is in
      let journal_same = λ (h : ℕ) (below : h < g.hosts). journal_kept g old new kind h only below (no_journal h) in
      record {
        locks = λ q has' is. elim (cases_kind g kind (kinds.Lock q) has has') [
          | inl e ↦
              let here : block_at g new (kinds.Lock q) ≡ block = ap (block_at g new) e ∙ lock_new in
              let state : u32_at block 8 ≡ 1 = ap (λ (b : List ℕ). u32_at b 8) (sym here) ∙ is in
              subst (λ key. IsShown g new key) (ap (λ (b : List ℕ). u64_at b 16) (sym here)) (still (u64_at block 16) (shown state))
          | inr ne ↦
              let there = only (kinds.Lock q) has' ne in
              let state : lock_state_at g old q ≡ 1 = ap (λ (b : List ℕ). u32_at b 8) (sym there) ∙ is in
              subst (λ key. IsShown g new key) (ap (λ (b : List ℕ). u64_at b 16) (sym there)) (still (lock_key_at g old q) (was.locks q has' state))
        ];
        records = λ h below some.
            let r = was.records h below (λ e. some (journal_same h below ∙ e)) in
            let slot = slot_key_kept g old new kind h only below (no_slot h) in
            (λ e. r.0 (sym slot ∙ e), journal_key_kept g old new kind h only below (no_journal h) ∙ r.1 ∙ sym slot);
        edits = λ h x below touched.
            let before = ap (λ es. touches es x) (sym (journal_same h below)) ∙ touched in
            let e = was.edits h x below before in
            rw (journal_key_kept g old new kind h only below (no_journal h))
            (e.0, IsHeldBy_kept g old new kind (resource_of x) (journal_key_at g old h) only (HasResource-resource_of g x e.0) (λ same. unedited h x below before cc) e.1);
        slots = λ h below s d touched names.
            let same = journal_same h below in
            let before = ap (λ es. touches es (Slot s)) (sym same) ∙ touched in
            let number = field_kept g old new kind (Slot s) only (was.edits h (Slot s) below before).0 (no_table (Slot s)) in
            ap (λ es. touches es (Count d)) same ∙ was.slots h below s d before (rw (same, number) at names);
      }

  -- a lock is written
  pub valid_lock : IsLockOf g counter r block → (u32_at block 8 ≡ 1 → IsShown g old (u64_at block 16)) → Unedited g r old
      → IsValid g counter (written g old (kinds.Lock r) block)
  valid_lock of shown unedited =
      let new = written g old (kinds.Lock r) block in
      let only : OnlyChanges g old new (kinds.Lock r) = write_only g old (kinds.Lock r) block has in
      valid_host g counter old (kinds.Lock r) block tt has valid
      (λ y below. rw (only (kinds.Slot y) below (λ e. cc)) (valid.slots y below))
      (λ q has'. elim (cases_kind g (kinds.Lock r) (kinds.Lock q) has has') [
        | inl e ↦ let same : q ≡ r = cc in rw same (rw lock_new of)
        | inr ne ↦ rw (only (kinds.Lock q) has' ne) (valid.locks q has')
      ])
      (held_lock shown unedited)

-- the same of an image that differs in one slot, which shows the same key, or whose key nothing needed
module _ (g : Geometry) (counter : ℕ) (old : Image) (y : ℕ) (block : List ℕ) (valid : IsValid g counter old) (has : y < g.hosts) where
  slot_new : block_at g (written g old (kinds.Slot y) block) (kinds.Slot y) ≡ block
  slot_new = block_at-written g old (kinds.Slot y) block has valid.long

  held_slot : (u64_at block 16 ≡ slot_key_at g old y) ⊎ IsUnneeded g old y → IsHeld g (written g old (kinds.Slot y) block)
  unfolding slot_key_at
  held_slot why =
      let new = written g old (kinds.Slot y) block in
      let kind = kinds.Slot y in
      let only : OnlyChanges g old new kind = write_only g old kind block has in
      let was = valid.held in
      let no_lock = λ (q : Resource) (e : kinds.Lock q ≡ kind). let bad : ⊥ = cc in bad in
      let no_journal = λ (h : ℕ) (e : kinds.Journal h ≡ kind). let bad : ⊥ = cc in bad in
      let no_table = λ (x : Field) (e : kinds.Table (table_of x) ≡ kind). let bad : ⊥ = cc in bad in
      let journal_same = λ (h : ℕ) (below : h < g.hosts). journal_kept g old new kind h only below (no_journal h) in
      let slot_same = λ (h : ℕ) (below : h < g.hosts) (needed : h ≡ y → IsUnneeded g old y → ⊥).
      let is : slot_key_at g new h ≡ slot_key_at g old h =
      elim (cases_eq h y) [
        | inl e ↦ elim why [
          | inl same ↦ ap (λ (k : ℕ). slot_key_at g new k) e ∙ ap (λ (b : List ℕ). u64_at b 16) slot_new ∙ same ∙ ap (λ (k : ℕ). slot_key_at g old k) (sym e)
          | inr un ↦ absurd (needed e un)
        ]
        | inr ne ↦ slot_key_kept g old new kind h only below (λ e. ne cc)
      ] in is in
      record {
        locks = λ q has' is.
            let ne = no_lock q in
            let s = was.locks q has' (sym (lock_state_kept g old new kind q only has' ne) ∙ is) in
            let state : lock_state_at g old q ≡ 1 = sym (lock_state_kept g old new kind q only has' ne) ∙ is in
            rw (lock_key_kept g old new kind q only has' ne) (record {
              some = s.some;
              host = s.host;
              shown = slot_same (lock_key_at g old q % 16) s.host (λ e un. un.unheld q has' (record { held = state; by = sym s.shown ∙ ap (λ (k : ℕ). slot_key_at g old k) e })) ∙ s.shown;
            });
        records = λ h below some.
            let r = was.records h below (λ e. some (journal_same h below ∙ e)) in
            let slot = slot_same h below (λ e un. some (journal_same h below ∙ ap (journal g old) e ∙ un.empty)) in
            (λ e. r.0 (sym slot ∙ e), journal_key_kept g old new kind h only below (no_journal h) ∙ r.1 ∙ sym slot);
        edits = λ h x below touched.
            let before = ap (λ es. touches es x) (sym (journal_same h below)) ∙ touched in
            let e = was.edits h x below before in
            rw (journal_key_kept g old new kind h only below (no_journal h))
            (e.0, IsHeldBy_kept g old new kind (resource_of x) (journal_key_at g old h) only (HasResource-resource_of g x e.0) (no_lock (resource_of x)) e.1);
        slots = λ h below s d touched names.
            let same = journal_same h below in
            let before = ap (λ es. touches es (Slot s)) (sym same) ∙ touched in
            let number = field_kept g old new kind (Slot s) only (was.edits h (Slot s) below before).0 (no_table (Slot s)) in
            ap (λ es. touches es (Count d)) same ∙ was.slots h below s d before (rw (same, number) at names);
      }

  -- a slot is written
  pub valid_slot : IsSlotOf counter y block → (u64_at block 16 ≡ slot_key_at g old y) ⊎ IsUnneeded g old y
      → IsValid g counter (written g old (kinds.Slot y) block)
  valid_slot of why =
      let new = written g old (kinds.Slot y) block in
      let only : OnlyChanges g old new (kinds.Slot y) = write_only g old (kinds.Slot y) block has in
      valid_host g counter old (kinds.Slot y) block tt has valid
      (λ x below. elim (cases_kind g (kinds.Slot y) (kinds.Slot x) has below) [
        | inl e ↦ let same : x ≡ y = cc in rw same (rw slot_new of)
        | inr ne ↦ rw (only (kinds.Slot x) below ne) (valid.slots x below)
      ])
      (λ q has'. rw (only (kinds.Lock q) has' (λ e. cc)) (valid.locks q has'))
      (held_slot why)
