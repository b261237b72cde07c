-- The keys of readers: that they have entered, and that they have ended.
use Rattle.std.proofs.Common.{◌≡◌, ◌≢◌, ◌+◌, ◌<◌, ◌≤◌, ◌/◌, ◌%◌, ℕ, List, Option, ap, sym, subst, ◌∙◌, arith, inl, inr}
use Rattle.std.specs.Prelude.{Contains, IfSome, slice_index}
use Rattle.std.proofs.lemmas.Bool.{cases_eq, cases_lt}
use Rattle.std.proofs.lemmas.List.{get_or_past}
use Rattle.vol_layout.specs.declared.kind.Kind.TheVariants as kinds
use Rattle.vol_layout.specs.declared.kind.Resource.TheVariants.{File}
use Rattle.vol_layout.specs.Places.{place_of}
use Rattle.shared_disk.specs.State.{Stands, State, Told}
use Rattle.slot_lock_blocks.specs.declared.lock.LockWord.{LockWord}
use Rattle.slot_lock_blocks.specs.declared.lock.LockWord.TheVariants as words
use Rattle.slot_lock_blocks.specs.declared.slot.Slot.{Slot}
use Rattle.slot_lock_blocks.specs.LockWords.{IsLockWord, lock_bytes, lock_readers}
use Rattle.slot_lock_blocks.specs.Slots.{IsSlot, slot_bytes, slot_key}
use Rattle.image_view.specs.HostKeys.{reader_key_at, slot_key_at}
use Rattle.image_view.specs.Images.{Image, block_at}
use Rattle.lock_store.specs.Memories.{key_of}
use Rattle.lock_store.specs.Views.{LocksView, counter_of, host_at, key_at, keys_of, told_of}
use Rattle.disk_locks.specs.Consistent.{Consistent}
use Rattle.disk_locks.specs.Freeing.{HaveEnded}
use Rattle.disk_locks.specs.Keys.{HasEnded, HasEntered}
use Rattle.disk_locks.specs.Others.{Lasts}
use Rattle.disk_locks.specs.Sure.{Sure}
use Rattle.disk_locks.specs.laws.GivenLaws.{lock_given, lock_places}
use Rattle.disk_locks.specs.laws.ReaderLaws.{found_entered, read_ended}
use Rattle.host_facts.specs.Finds.{Finds}
use Rattle.host_facts.specs.laws.FindsLaws.{shown_by, stands_sure, sure_found}
use Rattle.host_facts.specs.laws.ToldLaws.{map_told, sure_and, sure_of}
use Rattle.plan_parts.specs.Holds.{AreChecked, ReadersAre}
use Rattle.plan_parts.specs.OtherReaders.{HasNone, IsNext, IsOther}

-- what a host is sure of, where the device and its memory are as before
pub sure_on : (v w : LocksView) (h : ℕ) (P Q : Image → Type 0) → w.disk.state ≡ v.disk.state → host_at w h ≡ host_at v h
    → ((image : Image) → P image → Q image) → Sure v h P → Sure w h Q
sure_on v w h P Q state memory f sure here =
    let mine : Contains (keys_of w) (key_at v h) = subst (λ (n : ℕ). Contains (keys_of w) n) (ap key_of memory) here in
    let was : Contains (keys_of v) (key_at v h) = subst (λ (s : State). Contains s.keys (key_at v h)) state mine in
    subst (λ (o : Option Told). IfSome o (λ t. Q t.image)) (sym (ap (λ (s : State). s.told) state))
    (map_told (told_of v) (λ t. P t.image) (λ t. Q t.image) (sure was) (λ t. f t.image))

module _ (v : LocksView) (h : ℕ) (readers : List ℕ) (c : Consistent v) (fits : IsLockWord (words.Read readers)) where
  reader_small : (y : ℕ) → slice_index readers y ≢ 0 → y < 16
  reader_small y some = elim (cases_lt y 16) [
    | inl below ↦ below
    | inr past ↦ let long = fits.0.long in absurd (some (get_or_past readers y 0 (omega (arith, past, long))))
  ]

  -- the readers of a lock that stands
  reader_entered : (f : ℕ) (image : Image) → f < v.geometry.files → Finds v h image
      → block_at v.geometry image (kinds.Lock (File f)) ≡ lock_bytes (words.Read readers) → (y : ℕ)
      → IsOther (key_at v h) (slice_index readers y) → HasEntered v (slice_index readers y)
  unfolding reader_key_at
  reader_entered f image has finds at y other =
      let block = block_at v.geometry image (kinds.Lock (File f)) in
      let small = reader_small y other.0 in
      let reader = (lock_places block (words.Read readers) (fits, at)).reader y small in
      let given = (lock_given v.geometry (counter_of v) (File f) block (finds.agrees.valid.locks (File f) has)).1 y small in
      found_entered v image (File f) y (slice_index readers y) c finds.agrees has reader other.0 (fits.0.hosts y other.0)
      (subst (λ (n : ℕ). n / 16 ≤ counter_of v) reader given)

  pub found_checked : (f : ℕ) → f < v.geometry.files
      → Stands v.disk.state (place_of v.geometry (kinds.Lock (File f))) (lock_bytes (words.Read readers)) → AreChecked v h readers 0
  found_checked f has stands =
      sure_found v h (λ image. block_at v.geometry image (kinds.Lock (File f)) ≡ lock_bytes (words.Read readers))
      (λ image. ReadersAre v h readers 0) c (λ image finds at. record {
        entered = reader_entered f image has finds at;
        ended = λ y below other. absurd (omega (arith, below));
      }) (stands_sure v h (kinds.Lock (File f)) (lock_bytes (words.Read readers)) stands)

  -- the slot of one more was read, and shows another key
  seen_ended : (at : ℕ) (slot : Slot) (image : Image) → IsSlot slot → slot_key slot ≢ slice_index readers at → Finds v h image
      → ReadersAre v h readers at → block_at v.geometry image (kinds.Slot at) ≡ slot_bytes slot → (y : ℕ) → y < at + 1
      → IsOther (key_at v h) (slice_index readers y) → HasEnded v (slice_index readers y)
  seen_ended at slot image shape apart finds are stands y below other = elim (cases_eq y at) [
    | inl here ↦
        let key = slice_index readers y in
        let shown : slot_key_at v.geometry image (key % 16) ≡ slot_key slot =
        ap (slot_key_at v.geometry image) (fits.0.hosts y other.0 ∙ here) ∙ shown_by v.geometry image at slot shape stands in
        read_ended v image key c finds.agrees (are.entered y other)
        (λ e. apart (sym shown ∙ e ∙ ap (slice_index readers) here))
    | inr before ↦ are.ended y (omega (arith, below, before)) other
  ]

  pub one_checked : (at : ℕ) (slot : Slot) → IsSlot slot → slot_key slot ≢ slice_index readers at
      → Stands v.disk.state (place_of v.geometry (kinds.Slot at)) (slot_bytes slot) → AreChecked v h readers at
      → AreChecked v h readers (at + 1)
  one_checked at slot shape apart stands checked =
      sure_found v h (λ image. ReadersAre v h readers at × (block_at v.geometry image (kinds.Slot at) ≡ slot_bytes slot))
      (λ image. ReadersAre v h readers (at + 1)) c (λ image finds both. record {
        entered = both.0.entered;
        ended = seen_ended at slot image shape apart finds both.0 both.1;
      })
      (sure_and v h (λ image. ReadersAre v h readers at) (λ image. block_at v.geometry image (kinds.Slot at) ≡ slot_bytes slot) checked
      (stands_sure v h (kinds.Slot at) (slot_bytes slot) stands))

  -- no other key stands before the next one
  pub next_checked : (from end at : ℕ) → IsNext (key_at v h) readers from end at → AreChecked v h readers from → AreChecked v h readers at
  next_checked from end at next checked =
      sure_of v h (λ image. ReadersAre v h readers from) (λ image. ReadersAre v h readers at) (λ image are. record {
        entered = are.entered;
        ended = λ y below other. elim (cases_lt y from) [
          | inl early ↦ are.ended y early other
          | inr late ↦ absurd (next.first y late below other)
        ];
      }) checked

  -- the key of a host that the volume does not have
  stray_ended : (y : ℕ) → v.geometry.hosts ≤ y → HasEntered v (slice_index readers y) → HasEnded v (slice_index readers y)
  stray_ended y past is = record {
    some = is.some;
    given = is.given;
    ended = λ its.
        let mine : key_at v y ≡ slice_index readers y = ap (key_at v) (sym (fits.0.hosts y is.some)) ∙ its in
        let below = ((c.memories y).named (λ none. is.some (sym mine ∙ none))).0 in
        absurd (omega (arith, below, past));
  }

  -- where none is left, all have ended
  pub all_ended : (from : ℕ) → HasNone (key_at v h) readers from v.geometry.hosts → AreChecked v h readers from
      → Sure v h (λ image. HaveEnded v h (words.Read readers))
  all_ended from none checked =
      sure_of v h (λ image. ReadersAre v h readers from) (λ image. HaveEnded v h (words.Read readers)) (λ image are y some apart.
      elim (cases_lt y from) [
        | inl early ↦ are.ended y early (some, apart)
        | inr late ↦ elim (cases_lt y v.geometry.hosts) [
          | inl below ↦ absurd (none y late below (some, apart))
          | inr past ↦ stray_ended y past (are.entered y (some, apart))
        ]
      ]) checked

-- what lasts over every call
pub readers_last : (v w : LocksView) (h : ℕ) (readers : List ℕ) (at : ℕ) → Lasts v w → host_at w h ≡ host_at v h → ReadersAre v h readers at
    → ReadersAre w h readers at
readers_last v w h readers at lasts memory are = record {
  entered = λ y other. lasts.entered (slice_index readers y) (are.entered y (back y other));
  ended = λ y below other. lasts.ended (slice_index readers y) (are.ended y below (back y other));
}
  where
    back : (y : ℕ) → IsOther (key_at w h) (slice_index readers y) → IsOther (key_at v h) (slice_index readers y)
    back y other = subst (λ (n : ℕ). IsOther n (slice_index readers y)) (ap key_of memory) other

pub ended_last : (v w : LocksView) (h : ℕ) (word : LockWord) → Lasts v w → host_at w h ≡ host_at v h → HaveEnded v h word
    → HaveEnded w h word
ended_last v w h word lasts memory ended y some apart =
    lasts.ended (slice_index (lock_readers word) y) (ended y some (λ e. apart (e ∙ sym (ap key_of memory))))
