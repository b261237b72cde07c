-- What the blocks say that a host writes into locks and slots.
use Rattle.std.proofs.Common.{◌≡◌, ◌≢◌, ◌<◌, ◌%◌, ◌^◌, ◌++◌, ℕ, List, set, slice_index, refl, ap, sym, ◌∙◌, arith, append_assoc, inl, inr}
use Rattle.std.specs.Prelude.{codes}
use Rattle.std.specs.Str.{bytes_eq}
use Rattle.std.proofs.lemmas.Bool.{cases_Bool}
use Rattle.std.proofs.lemmas.List.{get_or-set_other, get_or-set_same}
use Rattle.std.proofs.lemmas.Slice.Eq.{bytes_eq-Decides}
use Rattle.vol_base.specs.Bytes.{bytes_of, u32_at, zeros}
use Rattle.slot_lock_blocks.specs.declared.lock.LockWord.{LockWord}
use Rattle.slot_lock_blocks.specs.declared.lock.LockWord.TheVariants.{Free, Held, Read}
use Rattle.slot_lock_blocks.specs.declared.slot.Slot.{Slot}
use Rattle.slot_lock_blocks.specs.declared.slot.Slot.TheVariants as slots
use Rattle.slot_lock_blocks.specs.Keys.{IsKey, header_bytes}
use Rattle.slot_lock_blocks.specs.LockWords.{IsLockWord, lock_bytes, lock_readers, lock_state}
use Rattle.slot_lock_blocks.specs.ReaderKeys.{AreReaders, nobody}
use Rattle.slot_lock_blocks.specs.Slots.{IsSlot, slot_bytes, slot_key, slot_second, slot_state}
use Rattle.slot_lock_blocks.specs.laws.HeaderLaws.{header-state}
use Rattle.slot_lock_blocks.specs.laws.LockLaws.{lock_numbers}
use Rattle.slot_lock_blocks.specs.laws.ReaderLaws.{AreReaders-nobody, AreReaders-set, somebody}
use Rattle.slot_lock_blocks.specs.laws.SlotLaws.{slot_numbers}
use Rattle.disk_locks.specs.Calls.{key, with_reader, without_reader}
use Rattle.host_runs.specs.Words.{key_in, reader_in, state_in}

readers_are : (word : LockWord) → IsLockWord word → AreReaders (lock_readers word)
readers_are Free is = AreReaders-nobody
readers_are (Held key) is = AreReaders-nobody
readers_are (Read readers) is = is.0

pub lock_says : (word : LockWord) → IsLockWord word
    → (state_in (lock_bytes word) ≡ lock_state word)
    × ((n : ℕ) → n < 16 → reader_in (lock_bytes word) n ≡ slice_index (lock_readers word) n)
lock_says word is = let n = lock_numbers (lock_bytes word) word (is, refl) in (n.state, n.readers)

-- a word with one more reader: the host's key is the host's, and the others are as before
pub record IsReading (from : LockWord) (h own : ℕ) (block : List ℕ) : Type 0 where
  pub state : state_in block ≡ 2
  pub mine : reader_in block h ≡ own
  pub others : (n : ℕ) → n < 16 → n ≢ h → reader_in block n ≡ reader_in (lock_bytes from) n

pub reading_word : (from : LockWord) (h own : ℕ) → IsLockWord from → h < 16 → IsKey own → own % 16 ≡ h
    → IsReading from h own (lock_bytes (with_reader from h own))
reading_word from h own is below key of =
    let are = readers_are from is in
    let readers = set (lock_readers from) h own in
    let at : slice_index readers h ≡ own = get_or-set_same (lock_readers from) h own 0 (omega (arith, below, are.long)) in
    let word : IsLockWord (with_reader from h own) =
    (AreReaders-set (lock_readers from) h own are below key.1 (λ some. of), somebody readers h (λ none. key.0 (sym at ∙ none))) in
    let says = lock_says (with_reader from h own) word in
    let old = lock_says from is in
    record {
      state = says.0;
      mine = says.1 h below ∙ at;
      others = λ n lt other. says.1 n lt ∙ get_or-set_other (lock_readers from) h n own 0 other ∙ sym (old.1 n lt);
    }

-- a word without a reader: it is not held, and where it is read, the host's place is 0 and the others are as before
pub record IsReleased (from : LockWord) (h : ℕ) (block : List ℕ) : Type 0 where
  pub unheld : state_in block ≢ 1
  pub mine : state_in block ≡ 2 → reader_in block h ≡ 0
  pub others : state_in block ≡ 2 → (n : ℕ) → n < 16 → n ≢ h → reader_in block n ≡ reader_in (lock_bytes from) n

-- a free word
pub free_word : state_in (lock_bytes Free) ≡ 0
free_word = (lock_says Free tt).0

pub released_word : (from : LockWord) (h : ℕ) → IsLockWord from → h < 16 → IsReleased from h (lock_bytes (without_reader from h))
released_word from h is below =
    let are = readers_are from is in
    let readers = set (lock_readers from) h 0 in
    let at : slice_index readers h ≡ 0 = get_or-set_same (lock_readers from) h 0 0 (omega (arith, below, are.long)) in
    elim (cases_Bool (bytes_eq readers nobody)) [
      | inl none ↦
          rw none (record {
            unheld = λ e. let z = free_word in absurd (omega (arith, e, z));
            mine = λ e. let z = free_word in absurd (omega (arith, e, z));
            others = λ e. let z = free_word in absurd (omega (arith, e, z));
          })
      | inr n ↦
          let some : readers ≢ nobody = λ e. let y = (bytes_eq-Decides readers nobody).1 e in let bad : ⊥ = cc in bad in
          let new = AreReaders-set (lock_readers from) h 0 are below (omega arith) (λ zero. absurd (zero refl)) in
          let says = lock_says (Read readers) (new, some) in
          let old = lock_says from is in
          let state = says.0 in
          rw n (record {
            unheld = λ e. absurd (omega (arith, e, state));
            mine = λ e. says.1 h below ∙ at;
            others = λ e n lt other. says.1 n lt ∙ get_or-set_other (lock_readers from) h n 0 0 other ∙ sym (old.1 n lt);
          })
    ]

-- a held word
pub held_word : (own : ℕ) → IsKey own → (state_in (lock_bytes (Held (key own))) ≡ 1) × (key_in (lock_bytes (Held (key own))) ≡ own)
held_word own is = let n = lock_numbers (lock_bytes (Held (key own))) (Held (key own)) (is, refl) in (n.state, n.key)

-- the state of a slot, whatever its keys are
pub slot_says : (slot : Slot) → state_in (slot_bytes slot) ≡ slot_state slot
unfolding slot_bytes
slot_says slot =
    let front = header_bytes (codes "DEDESLOT") (slot_state slot) (slot_key slot) in
    ap (λ (xs : List ℕ). u32_at xs 8) (append_assoc front (bytes_of 8 (slot_second slot)) (zeros 4064))
    ∙ header-state (codes "DEDESLOT") (bytes_of 8 (slot_second slot) ++ zeros 4064) (slot_state slot) (slot_key slot) refl (small slot)
  where
    small : (slot : Slot) → slot_state slot < 256 ^ 4
    small slots.Free = omega arith
    small (slots.Live key beat) = omega arith
    small (slots.Recovering key by) = omega arith

pub slot_shows : (slot : Slot) → IsSlot slot → key_in (slot_bytes slot) ≡ slot_key slot
slot_shows slot is = (slot_numbers (slot_bytes slot) slot (is, refl)).key

pub live_not_free : (slot : Slot) → slot_state slot ≡ 1 → state_in (slot_bytes slot) ≢ 0
live_not_free slot live free = let says = slot_says slot in absurd (omega (arith, live, says, free))

pub live_not_recovering : (slot : Slot) → slot_state slot ≡ 1 → state_in (slot_bytes slot) ≢ 2
live_not_recovering slot live two = let says = slot_says slot in absurd (omega (arith, live, says, two))

-- a state is one
pub zero_is_no_one : {n : ℕ} → n ≡ 0 → n ≡ 1 → ⊥
zero_is_no_one zero one = omega (arith, zero, one)

pub zero_is_no_two : {n : ℕ} → n ≡ 0 → n ≡ 2 → ⊥
zero_is_no_two zero two = omega (arith, zero, two)

pub one_is_no_two : {n : ℕ} → n ≡ 1 → n ≡ 2 → ⊥
one_is_no_two one two = omega (arith, one, two)
