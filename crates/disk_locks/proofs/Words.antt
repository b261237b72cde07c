-- Lock words that are taken, read and freed: what they spell, and whose keys they have.
use Rattle.std.proofs.Common.{◌≡◌, ◌≢◌, ◌⊎◌, ◌<◌, ◌≤◌, ◌/◌, ◌%◌, ◌^◌, ℕ, List, ◌∷◌, slice_index, set, true, refl, sym, ap, ◌∙◌, subst, arith, inl, inr}
use Rattle.std.specs.Prelude.{Contains}
use Rattle.std.specs.Str.{bytes_eq}
use Rattle.std.proofs.lemmas.Bool.{cases_Bool}
use Rattle.std.proofs.lemmas.List.{ext_get_or, get_or-set_same, get_or-set_other}
use Rattle.std.proofs.lemmas.List.Elements.{All-cons, All-replicate, All-set, All-tail}
use Rattle.std.proofs.lemmas.Slice.Eq.{bytes_eq-Decides}
use Rattle.vol_base.specs.declared.block.Key.{Key}
use Rattle.vol_layout.specs.declared.geometry.Geometry.{Geometry}
use Rattle.vol_layout.specs.declared.kind.Resource.{Resource}
use Rattle.vol_layout.specs.declared.kind.Resource.TheVariants.{File}
use Rattle.slot_lock_blocks.specs.declared.lock.LockWord.{LockWord}
use Rattle.slot_lock_blocks.specs.declared.lock.LockWord.TheVariants.{Free, Held, Read}
use Rattle.slot_lock_blocks.specs.LockWords.{IsLockWord, SpellsLock, lock_bytes, lock_key, lock_readers, lock_state}
use Rattle.slot_lock_blocks.specs.ReaderKeys.{AreReaders, nobody}
use Rattle.slot_lock_blocks.specs.laws.ReaderLaws.{AreReaders-nobody, AreReaders-set, slice_index-nobody, somebody}
use Rattle.image_view.specs.Spelled.{AreGiven, IsLockOf, MayBe}
use Rattle.lock_store.specs.declared.host.HostState.{HostState}
use Rattle.lock_store.specs.Memories.{holds, key_of, reads}
use Rattle.disk_locks.specs.Agreement.{LockAgrees}
use Rattle.disk_locks.specs.Calls.{with_reader, word_of}
use Rattle.disk_locks.specs.Freeing.{IsOpen}
use Rattle.disk_locks.specs.laws.GivenLaws.{lock_places}

-- a block spells one lock word
same_readers : (a b : List ℕ) → AreReaders a → AreReaders b → ((x : ℕ) → x < 16 → slice_index a x ≡ slice_index b x) → a ≡ b
same_readers a b is of same = ext_get_or 0 a b (is.long ∙ sym of.long) (λ x lt. same x (omega (arith, lt, is.long)))

apart : (m n : ℕ) → (m ≡ n → ⊥) → m ≡ n → ⊥
apart m n no_path e = no_path e

pub spelled_once : (block : List ℕ) (a b : LockWord) → SpellsLock block a → SpellsLock block b → a ≡ b
spelled_once block Free Free p q = refl
spelled_once block Free (Held k) p q = absurd (apart 0 1 (λ e. cc) (sym (lock_places block Free p).state ∙ (lock_places block (Held k) q).state))
spelled_once block Free (Read rs) p q = absurd (apart 0 2 (λ e. cc) (sym (lock_places block Free p).state ∙ (lock_places block (Read rs) q).state))
spelled_once block (Held k) Free p q = absurd (apart 1 0 (λ e. cc) (sym (lock_places block (Held k) p).state ∙ (lock_places block Free q).state))
spelled_once block (Held k) (Held l) p q =
    let e : k.0 ≡ l.0 = sym (lock_places block (Held k) p).holder ∙ (lock_places block (Held l) q).holder in
    ap (λ n. let key : Key = record { 0 = n } in Held key) e
spelled_once block (Held k) (Read rs) p q = absurd (apart 1 2 (λ e. cc) (sym (lock_places block (Held k) p).state ∙ (lock_places block (Read rs) q).state))
spelled_once block (Read rs) Free p q = absurd (apart 2 0 (λ e. cc) (sym (lock_places block (Read rs) p).state ∙ (lock_places block Free q).state))
spelled_once block (Read rs) (Held k) p q = absurd (apart 2 1 (λ e. cc) (sym (lock_places block (Read rs) p).state ∙ (lock_places block (Held k) q).state))
spelled_once block (Read as_) (Read bs) p q =
    ap (λ (xs : List ℕ). Read xs) (same_readers as_ bs p.0.0 q.0.0
    (λ x lt. sym ((lock_places block (Read as_) p).reader x lt) ∙ (lock_places block (Read bs) q).reader x lt))

-- the lock in a valid image, by the word that its block spells
pub lock_of : (g : Geometry) (counter : ℕ) (r : Resource) (block : List ℕ) (word : LockWord) → IsLockOf g counter r block → SpellsLock block word
    → MayBe g r word × AreGiven counter (lock_key word ∷ lock_readers word)
lock_of g counter r block word l spells =
    let same = spelled_once block l.word word l.spelled spells in
    (subst (λ (w : LockWord). MayBe g r w) same l.resource, subst (λ (w : LockWord). AreGiven counter (lock_key w ∷ lock_readers w)) same l.given)

nobody_given : (counter : ℕ) → AreGiven counter nobody
unfolding nobody
nobody_given counter = All-replicate (λ key. key / 16 ≤ counter) 16 0 (omega arith)

pub free_of : (g : Geometry) (counter : ℕ) (r : Resource) → IsLockOf g counter r (lock_bytes Free)
free_of g counter r = record {
  word = Free;
  spelled = (tt, refl);
  resource = tt;
  given = All-cons (λ key. key / 16 ≤ counter) 0 nobody (omega arith) (nobody_given counter);
}

pub held_of : (g : Geometry) (counter : ℕ) (r : Resource) (key : Key) → IsLockWord (Held key) → key.0 / 16 ≤ counter → IsLockOf g counter r (lock_bytes (Held key))
held_of g counter r key is given = record {
  word = Held key;
  spelled = (is, refl);
  resource = tt;
  given = All-cons (λ key. key / 16 ≤ counter) key.0 nobody given (nobody_given counter);
}

pub readers_are : (word : LockWord) → IsLockWord word → AreReaders (lock_readers word)
readers_are Free is = AreReaders-nobody
readers_are (Held key) is = AreReaders-nobody
readers_are (Read readers) is = is.0

-- who may read the lock of a file
pub within : (g : Geometry) (f : ℕ) (word : LockWord) → MayBe g (File f) word → (x : ℕ) → g.hosts ≤ x → slice_index (lock_readers word) x ≡ 0
within g f Free may x past = slice_index-nobody x
within g f (Held key) may x past = slice_index-nobody x
within g f (Read readers) may x past = may x past

-- one more reader: its word, and that it may stand there
pub reader_word : (word : LockWord) (h key : ℕ) → IsLockWord word → h < 16 → key < 2 ^ 64 → key ≢ 0 → key % 16 ≡ h → IsLockWord (with_reader word h key)
reader_word word h key is below small some host =
    let are = readers_are word is in
    let new = AreReaders-set (lock_readers word) h key are below small (λ s. host) in
    let at : slice_index (set (lock_readers word) h key) h ≡ key = get_or-set_same (lock_readers word) h key 0 (omega (arith, below, are.long)) in
    (new, somebody (set (lock_readers word) h key) h (λ none. some (sym at ∙ none)))

pub reader_of : (g : Geometry) (counter f : ℕ) (word : LockWord) (h key : ℕ) → IsLockWord (with_reader word h key) → MayBe g (File f) word
    → AreGiven counter (lock_key word ∷ lock_readers word) → h < g.hosts → key / 16 ≤ counter → IsLockOf g counter (File f) (lock_bytes (with_reader word h key))
reader_of g counter f word h key is may given below own = record {
  word = with_reader word h key;
  spelled = (is, refl);
  resource = λ x past. get_or-set_other (lock_readers word) h x key 0 (λ e. absurd (omega (arith, below, past, e))) ∙ within g f word may x past;
  given = All-cons (λ key. key / 16 ≤ counter) 0 (set (lock_readers word) h key) (omega arith)
      (All-set (λ key. key / 16 ≤ counter) (lock_readers word) h key own (All-tail (λ key. key / 16 ≤ counter) (lock_key word) (lock_readers word) given));
}

-- the word of these readers
pub record IsWordOf (g : Geometry) (counter f : ℕ) (readers : List ℕ) (word : LockWord) : Type 0 where
  pub word_is : IsLockWord word
  pub of : IsLockOf g counter (File f) (lock_bytes word)
  pub keyless : lock_key word ≡ 0
  pub unheld : lock_state word ≢ 1
  pub each : (x : ℕ) → slice_index (lock_readers word) x ≡ slice_index readers x

pub word_is : (g : Geometry) (counter f : ℕ) (readers : List ℕ) → AreReaders readers → ((x : ℕ) → g.hosts ≤ x → slice_index readers x ≡ 0) → AreGiven counter readers
    → IsWordOf g counter f readers (word_of readers)
word_is g counter f readers are inside given =
    elim (cases_Bool (bytes_eq readers nobody)) [
      | inl y ↦
          let none : readers ≡ nobody = (bytes_eq-Decides readers nobody).0 y in
          rw y (record { word_is = tt; of = free_of g counter (File f); keyless = refl; unheld = λ e. cc; each = λ x. ap (λ (xs : List ℕ). slice_index xs x) (sym none) })
      | inr n ↦
          let some : readers ≢ nobody = λ e. let y = (bytes_eq-Decides readers nobody).1 e in let bad : ⊥ = cc in bad in
          rw n (record {
            word_is = (are, some);
            of = record { word = Read readers; spelled = ((are, some), refl); resource = inside; given = All-cons (λ key. key / 16 ≤ counter) 0 readers (omega arith) given };
            keyless = refl;
            unheld = λ e. cc;
            each = λ x. refl;
          })
    ]

-- a lock that nobody holds has no holder
pub open_key : (word : LockWord) → IsOpen word → (lock_key word ≡ 0) × (lock_state word ≢ 1)
open_key Free is = (refl, λ e. cc)
open_key (Held key) is = absurd is
open_key (Read readers) is = (refl, λ e. cc)

-- what a host has in memory of a lock, by the word
pub own_of : (keys : List ℕ) (h : ℕ) (m : HostState) (r : Resource) (to : LockWord) → IsLockWord to → h < 16
    → (lock_key to ≡ key_of m → holds m r ≡ true)
    → (slice_index (lock_readers to) h ≡ key_of m → (reads m r ≡ true) ⊎ (m.freed ≡ true))
    → (Contains keys (key_of m) → holds m r ≡ true → lock_key to ≡ key_of m)
    → (Contains keys (key_of m) → reads m r ≡ true → slice_index (lock_readers to) h ≡ key_of m)
    → LockAgrees keys h m r (lock_bytes to)
own_of keys h m r to is below mine read_mine held read =
    let n = lock_places (lock_bytes to) to (is, refl) in
    record {
      mine = λ e. mine (sym n.holder ∙ e);
      read_mine = λ e. read_mine (sym (n.reader h below) ∙ e);
      held = λ here own. n.holder ∙ held here own;
      read = λ here own. n.reader h below ∙ read here own;
    }
