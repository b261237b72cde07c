-- What the blocks say that a try of a file's lock finds: its holder, its lowest other reader, and what the slot of a reader shows.
use Rattle.std.proofs.Common.{◌≡◌, ◌≢◌, ◌⊎◌, ◌<◌, ◌%◌, ◌==◌, ◌∷◌, ℕ, suc, zero, [], Bool, List, None, Option, Some, false, true, refl, ap, sym, subst, ◌∙◌, arith, inl, inr}
use Rattle.std.proofs.lemmas.Bool.{cases_Bool, cases_eq, eq-eqb, ne_eqb}
use Rattle.std.proofs.lemmas.List.{ext_get_or, get_or-set_other, get_or-set_same, get_or_past, length-set}
use Rattle.std.proofs.lemmas.List.FromFn.{get_or-map-range_with_len, length-map-range_with_len}
use Rattle.std.specs.Prelude.{IfSome, IsNone, length, map, option_map, slice_index, slice_set}
use Rattle.vol_base.specs.declared.block.Key.{Key}
use Rattle.std.specs.List.{range_with_len}
use Rattle.slot_lock_blocks.specs.declared.lock.LockWord.{LockWord}
use Rattle.slot_lock_blocks.specs.declared.lock.LockWord.TheVariants as words
use Rattle.slot_lock_blocks.specs.declared.slot.Slot.{Slot}
use Rattle.slot_lock_blocks.specs.declared.slot.Slot.TheVariants as slots
use Rattle.slot_lock_blocks.specs.LockWords.{IsLockWord, lock_bytes, lock_readers}
use Rattle.slot_lock_blocks.specs.ReaderKeys.{AreReaders, nobody}
use Rattle.slot_lock_blocks.specs.Slots.{IsSlot, slot_bytes, slot_key, slot_state}
use Rattle.slot_lock_blocks.specs.laws.LockLaws.{lock_numbers}
use Rattle.slot_lock_blocks.specs.laws.ReaderLaws.{AreReaders-nobody, slice_index-nobody}
use Rattle.slot_lock_blocks.specs.laws.SlotLaws.{slot_numbers}
use Rattle.host_runs.specs.Tries.{holder_in, reader_shows}
use Rattle.host_runs.specs.Words.{key_in, lowest_other, other_readers, reader_in, state_in}
use Rattle.plan_parts.specs.Holds.{alone, holder_of}
use Rattle.plan_parts.specs.OtherReaders.{HasNone, IsNext, IsOther, is_other, lowest_in}

-- the test says what it tests
other_true : (own key : ℕ) → IsOther own key → is_other own key ≡ true
other_true own key is = rw (ne_eqb key 0 is.0) (rw (ne_eqb key own is.1) refl)

other_false : (own key : ℕ) → (IsOther own key → ⊥) → is_other own key ≡ false
other_false own key none = elim (cases_eq key 0) [
  | inl zero_ ↦ rw (eq-eqb key 0 zero_) refl
  | inr some ↦ elim (cases_eq key own) [
    | inl same ↦ rw (ne_eqb key 0 some) (rw (eq-eqb key own same) refl)
    | inr other ↦ absurd (none (some, other))
  ]
]

other_is : (own key : ℕ) → is_other own key ≡ true → IsOther own key
other_is own key is = elim (cases_eq key 0) [
  | inl zero_ ↦ let bad : false ≡ true = rw (eq-eqb key 0 zero_) at is in absurd cc
  | inr some ↦ elim (cases_eq key own) [
    | inl same ↦ let bad : false ≡ true = rw (ne_eqb key 0 some) at (rw (eq-eqb key own same) at is) in absurd cc
    | inr other ↦ (some, other)
  ]
]

-- the lowest other key, by the first place that has one; and none, where no place has
pub lowest_next : (own : ℕ) (xs : List ℕ) (at : ℕ) → at < length xs → IsOther own (slice_index xs at)
    → ((y : ℕ) → y < at → IsOther own (slice_index xs y) → ⊥) → lowest_in own xs ≡ Some (slice_index xs at)
lowest_next own [] at lt other first = absurd (omega (arith, lt))
lowest_next own (x ∷ xs) zero lt other first = rw (other_true own x other) refl
lowest_next own (x ∷ xs) (suc at) lt other first =
    rw (other_false own x (first 0 (omega arith)))
    (lowest_next own xs at (omega (arith, lt)) other (λ y below. first (suc y) (omega (arith, below))))

pub lowest_none : (own : ℕ) (xs : List ℕ) → ((y : ℕ) → y < length xs → IsOther own (slice_index xs y) → ⊥) → lowest_in own xs ≡ None
lowest_none own [] none = refl
lowest_none own (x ∷ xs) none =
    rw (other_false own x (none 0 (omega arith))) (lowest_none own xs (λ y below. none (suc y) (omega (arith, below))))

later_none : (own x : ℕ) (xs : List ℕ) (y : ℕ) → ((z : ℕ) → IsOther own (slice_index xs z) → ⊥) → is_other own x ≡ false
    → IsOther own (slice_index (x ∷ xs) y) → ⊥
later_none own x xs zero rest else_ other = let bad : true ≡ false = sym (other_true own x other) ∙ else_ in absurd cc
later_none own x xs (suc y) rest else_ other = rest y other

pub none_lowest : (own : ℕ) (xs : List ℕ) → lowest_in own xs ≡ None → (y : ℕ) → IsOther own (slice_index xs y) → ⊥
none_lowest own [] none y other = other.0 (get_or_past [] y 0 (omega arith))
none_lowest own (x ∷ xs) none y other = elim (cases_Bool (is_other own x)) [
  | inl here ↦ let bad : Some x ≡ None = rw here at none in absurd cc
  | inr else_ ↦ later_none own x xs y (none_lowest own xs (rw else_ at none)) else_ other
]

pub lowest_is : (own : ℕ) (xs : List ℕ) (key : ℕ) → lowest_in own xs ≡ Some key → IsOther own key
lowest_is own [] key is = absurd cc
lowest_is own (x ∷ xs) key is = elim (cases_Bool (is_other own x)) [
  | inl here ↦ let same : Some x ≡ Some key = rw here at is in let one : x ≡ key = cc in subst (IsOther own) one (other_is own x here)
  | inr else_ ↦ lowest_is own xs key (rw else_ at is)
]

-- a lock's readers
pub readers_are : (word : LockWord) → IsLockWord word → AreReaders (lock_readers word)
readers_are words.Free is = AreReaders-nobody
readers_are (words.Held key) is = AreReaders-nobody
readers_are (words.Read readers) is = is.0

-- who holds a lock, and its lowest other reader, by its block
pub holder_says : (word : LockWord) → IsLockWord word → holder_in (lock_bytes word) ≡ holder_of word
holder_says words.Free is =
    let n = (lock_numbers (lock_bytes words.Free) words.Free (is, refl)).state in
    rw (ne_eqb (state_in (lock_bytes words.Free)) 1 (λ one. absurd (omega (arith, n, one)))) refl
holder_says (words.Held key) is =
    let n = lock_numbers (lock_bytes (words.Held key)) (words.Held key) (is, refl) in
    rw (eq-eqb (state_in (lock_bytes (words.Held key))) 1 n.state) (ap (λ (k : ℕ). Some k) n.key)
holder_says (words.Read readers) is =
    let n = (lock_numbers (lock_bytes (words.Read readers)) (words.Read readers) (is, refl)).state in
    rw (ne_eqb (state_in (lock_bytes (words.Read readers))) 1 (λ one. absurd (omega (arith, n, one)))) refl

pub lowest_says : (own : ℕ) (word : LockWord) → IsLockWord word → lowest_other own (lock_bytes word) ≡ lowest_in own (lock_readers word)
unfolding other_readers
lowest_says own word is =
    let block = lock_bytes word in
    let are = readers_are word is in
    let says = (lock_numbers block word (is, refl)).readers in
    let long = length-map-range_with_len (reader_in block) 0 16 in
    let same : map (reader_in block) (range_with_len 0 16) ≡ lock_readers word =
    ext_get_or 0 (map (reader_in block) (range_with_len 0 16)) (lock_readers word) (long ∙ sym are.long) (λ y below.
    let small : y < 16 = omega (arith, below, long) in
    get_or-map-range_with_len (reader_in block) 0 16 y y 0 small (omega arith) ∙ says y small) in
    ap (λ (xs : List ℕ). lowest_in own xs) same

-- where no other key is among the readers, the own one alone is, or nobody
own_only : (readers : List ℕ) (h own y : ℕ) → AreReaders readers → own % 16 ≡ h → ((y : ℕ) → IsOther own (slice_index readers y) → ⊥)
    → y ≢ h → slice_index readers y ≡ 0
own_only readers h own y are of none apart = elim (cases_eq (slice_index readers y) 0) [
  | inl zero_ ↦ zero_
  | inr some ↦ elim (cases_eq (slice_index readers y) own) [
    | inl same ↦ absurd (apart (sym (are.hosts y some) ∙ ap (λ n. n % 16) same ∙ of))
    | inr other ↦ absurd (none y (some, other))
  ]
]

pub alone_is : (word : LockWord) (r : Bool) (h own : ℕ) → IsLockWord word → holder_of word ≡ None → own % 16 ≡ h → h < 16
    → ((y : ℕ) → IsOther own (slice_index (lock_readers word) y) → ⊥) → (word ≡ words.Free → r ≡ false)
    → (slice_index (lock_readers word) h ≡ own → r ≡ true) → word ≡ alone r h own
alone_is words.Free r h own is held of small none free among = sym (ap (λ (b : Bool). alone b h own) (free refl))
alone_is (words.Held key) r h own is held of small none free among = absurd cc
alone_is (words.Read readers) r h own is held of small none free among = elim (cases_eq (slice_index readers h) own) [
  | inl same ↦ ap words.Read (each same) ∙ sym (ap (λ (b : Bool). alone b h own) (among same))
  | inr other ↦ absurd (is.1 (nobodys other))
]
  where
    each : slice_index readers h ≡ own → readers ≡ slice_set nobody h own
    each same =
        let long = is.0.long in
        let nobodys_ = AreReaders-nobody.long in
        ext_get_or 0 readers (slice_set nobody h own) (long ∙ sym nobodys_ ∙ sym (length-set nobody h own)) (λ y below. elim
        (cases_eq y h) [
          | inl here ↦ ap (slice_index readers) here ∙ same
              ∙ sym (get_or-set_same nobody h own 0 (omega (arith, small, nobodys_)))
              ∙ ap (slice_index (slice_set nobody h own)) (sym here)
          | inr apart ↦ own_only readers h own y is.0 of none apart ∙ sym (slice_index-nobody y)
              ∙ sym (get_or-set_other nobody h y own 0 apart)
        ])

    nobodys : slice_index readers h ≢ own → readers ≡ nobody
    nobodys other =
        ext_get_or 0 readers nobody (is.0.long ∙ sym AreReaders-nobody.long) (λ y below. elim (cases_eq y h) [
          | inl here ↦ elim (cases_eq (slice_index readers h) 0) [
            | inl zero_ ↦ ap (slice_index readers) here ∙ zero_ ∙ sym (slice_index-nobody y)
            | inr some ↦ absurd (none h (some, other))
          ]
          | inr apart ↦ own_only readers h own y is.0 of none apart ∙ sym (slice_index-nobody y)
        ])

-- what the slot of a reader shows
live_state : (slot : Slot) → slot_key slot ≢ 0 → slot_state slot ≢ 0
live_state slots.Free some = absurd (some refl)
live_state (slots.Live key beat) some = λ e. absurd (omega (arith, e))
live_state (slots.Recovering key by) some = λ e. absurd (omega (arith, e))

module _ (slot : Slot) (fits : IsSlot slot) (readers : List ℕ) (word : IsLockWord (words.Read readers)) (of : ℕ) (small : of < 16) where
  abbrev block : List ℕ
  block = lock_bytes (words.Read readers)

  key_says : key_in (slot_bytes slot) ≡ slot_key slot
  key_says = (slot_numbers (slot_bytes slot) slot (fits, refl)).key

  reader_says : reader_in block of ≡ slice_index readers of
  reader_says = (lock_numbers block (words.Read readers) (word, refl)).readers of small

  pub slot_shown : slice_index readers of ≢ 0 → slot_key slot ≡ slice_index readers of
      → reader_shows of (Some block) (slot_bytes slot) ≡ Some (slice_index readers of)
  slot_shown some same =
      let state = (slot_numbers (slot_bytes slot) slot (fits, refl)).state in
      let live = live_state slot (λ none. some (sym same ∙ none)) in
      rw (ne_eqb (state_in (slot_bytes slot)) 0 (λ none. live (sym state ∙ none)))
      (rw (eq-eqb (key_in (slot_bytes slot)) (reader_in block of) (key_says ∙ same ∙ sym reader_says))
      (ap (λ (k : ℕ). Some k) (key_says ∙ same)))

  pub slot_hidden : slot_key slot ≢ slice_index readers of → reader_shows of (Some block) (slot_bytes slot) ≡ None
  slot_hidden other =
      let apart = ne_eqb (key_in (slot_bytes slot)) (reader_in block of) (λ e. other (sym key_says ∙ e ∙ reader_says)) in
      elim (cases_Bool (state_in (slot_bytes slot) == 0)) [
        | inl free ↦ rw free refl
        | inr live ↦ rw live (rw apart refl)
      ]

-- the lowest other key, as it is looked for
pub lowest_got : (own : ℕ) (readers : List ℕ) (at : ℕ) (got : Option Key) → AreReaders readers → IsNext own readers 0 16 at
    → (IsNone got → slice_index readers at ≡ 0) → IfSome got (λ key. key.0 ≡ slice_index readers at)
    → option_map (λ (k : Key). k.0) got ≡ lowest_in own readers
lowest_got own readers at None are next none key = absurd (next.other.0 (none refl))
lowest_got own readers at (Some got) are next none key =
    let long = are.long in
    let below = next.below in
    ap (λ (n : ℕ). Some n) key
    ∙ sym (lowest_next own readers at (omega (arith, long, below)) next.other (λ y lt. next.first y (omega arith) lt))

pub lowest_missing : (own : ℕ) (readers : List ℕ) → AreReaders readers → HasNone own readers 0 16 → None ≡ lowest_in own readers
lowest_missing own readers are none =
    let long = are.long in sym (lowest_none own readers (λ y below. none y (omega arith) (omega (arith, below, long))))

nobody_lowest : (own : ℕ) → None ≡ lowest_in own nobody
nobody_lowest own = sym (lowest_none own nobody (λ y below other. other.0 (slice_index-nobody y)))

pub lowest_unread : (own : ℕ) (word : LockWord) → (word ≡ words.Free) ⊎ ((key : Key) × (word ≡ words.Held key))
    → None ≡ lowest_in own (lock_readers word)
lowest_unread own word (inl free) = nobody_lowest own ∙ ap (λ (w : LockWord). lowest_in own (lock_readers w)) (sym free)
lowest_unread own word (inr held) = nobody_lowest own ∙ ap (λ (w : LockWord). lowest_in own (lock_readers w)) (sym held.1)
