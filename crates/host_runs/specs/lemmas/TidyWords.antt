-- What words say when one block is written, or a host's memory changes.
use Rattle.std.proofs.Common.{◌≡◌, ◌≢◌, ◌<◌, ◌≤◌, ◌/◌, ◌%◌, ◌==◌, ◌⊎◌, ℕ, Bool, true, false, not, suc, List, [], Option, Some, length, refl, ap, sym, ◌∙◌, subst, inl, inr, arith}
use Rattle.std.specs.Prelude.{Contains, if◌then◌else◌, slice_get, slice_index, slice_set}
use Rattle.std.proofs.lemmas.Bool.{cases_eq, ne_eqb}
use Rattle.std.proofs.lemmas.Option.{get_or_from_slice_get}
use Rattle.vol_layout.specs.declared.geometry.Geometry.{Geometry}
use Rattle.vol_layout.specs.declared.kind.Kind.{Kind}
use Rattle.vol_layout.specs.declared.kind.Kind.TheVariants as kinds
use Rattle.vol_layout.specs.declared.kind.Resource.{Resource}
use Rattle.vol_layout.specs.Places.{kind_at, place_of}
use Rattle.slot_lock_blocks.specs.LockWords.{IsLockWord, lock_readers, lock_state}
use Rattle.slot_lock_blocks.specs.declared.lock.LockWord.{LockWord}
use Rattle.slot_lock_blocks.specs.declared.lock.LockWord.TheVariants as words
use Rattle.slot_lock_blocks.specs.laws.LockLaws.{lock_numbers}
use Rattle.slot_lock_blocks.specs.laws.ReaderLaws.{length-nobody, slice_index-nobody}
use Rattle.image_view.specs.Images.{Image, block_at}
use Rattle.image_view.specs.Spelled.{IsLockOf}
use Rattle.image_view.specs.Valid.{IsValid}
use Rattle.host_runs.specs.Memories.{Memory, frees_own, leave_out, put_in, with_block}
use Rattle.host_runs.specs.lemmas.TidyStates.{AreShown, IsReader, WordSays}
use Rattle.host_runs.specs.Words.{reader_in, state_in}
use Rattle.host_runs.specs.laws.GetLaws.{get_set}
use Rattle.shared_disk.specs.laws.CalledLaws.{kept_by}
use Rattle.vol_layout.specs.laws.KindLaws.{kind_at-backs}

-- the memories of all hosts but one are as before
abbrev pub IsSameBut : ℕ → (ℕ → Memory) → (ℕ → Memory) → Type 0
IsSameBut host later memories = (k : ℕ) → k ≢ host → later k ≡ memories k

-- a memory keeps what it says of one place
pub record KeepsPlace (later old : Memory) (q : ℕ) : Type 0 where
  pub key : later.key ≡ old.key
  pub holds : Contains old.holds q → Contains later.holds q
  pub reads : IsReader old q → IsReader later q

pub keeps_same : (later old : Memory) (q : ℕ) → later ≡ old → KeepsPlace later old q
keeps_same later old q same =
    subst (λ (m : Memory). KeepsPlace m old q) (sym same) (record { key = refl; holds = λ has. has; reads = λ is. is })

pub keeps_all : (host : ℕ) (memories later : ℕ → Memory) (q : ℕ) → KeepsPlace (later host) (memories host) q → IsSameBut host later memories
    → (h : ℕ) → KeepsPlace (later h) (memories h) q
keeps_all host memories later q here same h =
    elim (cases_eq h host) [
      | inl at ↦ subst (λ (k : ℕ). KeepsPlace (later k) (memories k) q) (sym at) here
      | inr other ↦ keeps_same (later h) (memories h) q (same h other)
    ]

pub says_kept : (memories later : ℕ → Memory) (q : ℕ) (kind : Option Kind) (block : List ℕ)
    → ((h : ℕ) → KeepsPlace (later h) (memories h) q)
    → WordSays memories q kind block → WordSays later q kind block
says_kept memories later q (Some (kinds.Lock r)) block keeps says = (
  λ held. let holder = says.0 held in (holder.0, (keeps holder.0).key ∙ holder.1, (keeps holder.0).holds holder.2),
  λ read h key small is at. (keeps h).reads (says.1 read h key small (sym (keeps h).key ∙ is) at),
)
says_kept memories later q (Some (kinds.Slot h)) block keeps says =
    elim says [
      | inl free ↦ inl free
      | inr live ↦ inr (live.0, (keeps h).key ∙ live.1)
    ]
says_kept memories later q kind block keeps says = tt

-- one block was written
pub shown_written : (g : Geometry) (memories later : ℕ → Memory) (image : Image) (place : ℕ) (block : List ℕ) → AreShown g memories image
    → ((q : ℕ) → q ≢ place → (h : ℕ) → KeepsPlace (later h) (memories h) q) → WordSays later place (kind_at g place) block
    → AreShown g later (slice_set image place block)
shown_written g memories later image place block shown keeps says q b is =
    elim (get_set image place q block b is) [
      | inl old ↦ says_kept memories later q (kind_at g q) b (keeps q old.0) (shown q b old.1)
      | inr new ↦ subst (λ (n : ℕ). WordSays later n (kind_at g n) b) (sym new.0) (subst (WordSays later place (kind_at g place)) new.1 says)
    ]

-- places in lists
pub is_in : (x : ℕ) (xs : List ℕ) → Contains (put_in x xs) x
is_in x xs = (0, omega arith, refl)

still_in : (x q : ℕ) (xs : List ℕ) → q ≢ x → Contains xs q → Contains (leave_out x xs) q
still_in x q xs other has = kept_by (λ y. not (y == x)) xs q has (rw (ne_eqb q x other) refl)

put_still : (x q : ℕ) (xs : List ℕ) → q ≢ x → Contains xs q → Contains (put_in x xs) q
put_still x q xs other has = let rest = still_in x q xs other has in (suc rest.0, omega (arith, rest.1), rest.2)

choose_still : (b : Bool) (x q : ℕ) (xs : List ℕ) → q ≢ x → Contains xs q → Contains (if b then put_in x xs else leave_out x xs) q
choose_still true x q xs other has = put_still x q xs other has
choose_still false x q xs other has = still_in x q xs other has

choose_twice : (a b : Bool) (x q : ℕ) (xs : List ℕ) → q ≢ x → Contains xs q
    → Contains (if a then (if b then put_in x xs else leave_out x xs) else leave_out x xs) q
choose_twice true b x q xs other has = choose_still b x q xs other has
choose_twice false b x q xs other has = still_in x q xs other has

reads_or_left : (b : Bool) (reads : List ℕ) (left : Bool) (q : ℕ) → Contains reads q ⊎ (left ≡ true)
    → Contains (if b then [] else reads) q ⊎ ((if b then true else left) ≡ true)
reads_or_left true reads left q is = inr refl
reads_or_left false reads left q is = is

-- a block that the host wrote changes what it has in mind of that place alone
pub block_keeps : (kind : Option Kind) (host own place q : ℕ) (block : List ℕ) (memory : Memory) → q ≢ place
    → KeepsPlace (with_block kind host own place block memory) memory q
block_keeps (Some (kinds.Lock r)) host own place q block memory other = record {
  key = refl;
  holds = choose_still (state_in block == 1) place q memory.holds other;
  reads = λ is. elim is [
    | inl has ↦ inl (choose_twice (state_in block == 2) (reader_in block (own % 16) == own) place q memory.reads other has)
    | inr left ↦ inr left
  ];
}
block_keeps (Some (kinds.Slot of)) host own place q block memory other = record {
  key = refl;
  holds = λ has. has;
  reads = reads_or_left (frees_own host of block) memory.reads memory.left q;
}
block_keeps kind host own place q block memory other = record { key = refl; holds = λ has. has; reads = λ is. is }

-- the lock word at a place of a valid image
pub lock_at : (g : Geometry) (counter : ℕ) (image : Image) (place : ℕ) (r : Resource) (block : List ℕ) → IsValid g counter image
    → kind_at g place ≡ Some (kinds.Lock r)
    → slice_get image place ≡ Some block → IsLockOf g counter r block
unfolding block_at
lock_at g counter image place r block valid kind is =
    let backs = kind_at-backs g place (kinds.Lock r) kind in
    let here : slice_get image (place_of g (kinds.Lock r)) ≡ Some block = ap (slice_get image) (sym backs.1) ∙ is in
    subst (IsLockOf g counter r) (get_or_from_slice_get image (place_of g (kinds.Lock r)) block [] here) (valid.locks r backs.0)

word_readers : (word : LockWord) (h : ℕ) → lock_state word ≢ 2 → slice_index (lock_readers word) h ≡ 0
word_readers words.Free h other = slice_index-nobody h
word_readers (words.Held key) h other = slice_index-nobody h
word_readers (words.Read readers) h other = absurd (other refl)

-- a lock that is not read has no readers
pub no_readers : (g : Geometry) (counter : ℕ) (r : Resource) (block : List ℕ) (h : ℕ) → IsLockOf g counter r block → state_in block ≢ 2
    → h < 16 → reader_in block h ≡ 0
no_readers g counter r block h lock other small =
    let numbers = lock_numbers block lock.word lock.spelled in
    numbers.readers h small ∙ word_readers lock.word h (λ same. other (numbers.state ∙ same))

readers_long : (word : LockWord) → IsLockWord word → length (lock_readers word) ≡ 16
readers_long words.Free h = length-nobody
readers_long (words.Held key) h = length-nobody
readers_long (words.Read readers) h = h.0.long

-- a reader's key was given by the device
pub reader_given : (g : Geometry) (counter : ℕ) (r : Resource) (block : List ℕ) (h : ℕ) → IsLockOf g counter r block → h < 16
    → reader_in block h / 16 ≤ counter
reader_given g counter r block h lock small =
    let numbers = lock_numbers block lock.word lock.spelled in
    let long = readers_long lock.word lock.spelled.0 in
    let below = lock.given (suc h) 0 (omega (arith, long, small)) in
    let is = numbers.readers h small in
    omega (arith, below, is)
