-- Each call on a lock keeps all consistent, and leaves to others what is theirs.
use Rattle.std.proofs.Common.{◌≡◌, ◌≢◌, ◌<◌, ◌≤◌, ◌/◌, ◌%◌, ℕ, Bool, List, Option, Some, None, set, slice_index, true, false, refl, sym, ap, ◌∙◌, subst, arith, inl, inr}
use Rattle.std.specs.Prelude.{Contains, Err, IfSome, Ok, Result, slice_get}
use Rattle.std.proofs.lemmas.List.{get_or-set_same, get_or-set_other}
use Rattle.std.proofs.lemmas.List.Elements.{All-set, All-tail}
use Rattle.vol_base.specs.Bytes.{u32_at, u64_at}
use Rattle.vol_layout.specs.declared.geometry.Geometry.{Geometry}
use Rattle.vol_layout.specs.declared.kind.Kind.TheVariants as kinds
use Rattle.vol_layout.specs.declared.kind.Resource.{Resource}
use Rattle.vol_layout.specs.declared.kind.Resource.TheVariants.{File, Group, Part}
use Rattle.vol_layout.specs.Places.{place_of}
use Rattle.vol_layout.specs.Ranges.{HasResource}
use Rattle.shared_disk.specs.State.{Stands, Told}
use Rattle.slot_lock_blocks.specs.declared.lock.LockWord.{LockWord}
use Rattle.slot_lock_blocks.specs.declared.lock.LockWord.TheVariants as words
use Rattle.slot_lock_blocks.specs.LockWords.{IsLockWord, lock_bytes, lock_key, lock_readers, lock_state}
use Rattle.slot_lock_blocks.specs.laws.ReaderLaws.{AreReaders-set, slice_index-nobody}
use Rattle.image_view.specs.HostKeys.{IsHeldBy, lock_key_at, lock_state_at}
use Rattle.image_view.specs.Images.{Image, block_at, written}
use Rattle.image_view.specs.Valid.{IsValid}
use Rattle.lock_store.specs.declared.answers.StepNo.{StepNo}
use Rattle.lock_store.specs.declared.answers.Took.{Took}
use Rattle.lock_store.specs.declared.answers.Took.TheVariants as took
use Rattle.lock_store.specs.declared.host.HostState.{HostState}
use Rattle.lock_store.specs.declared.purpose.Purpose.{Purpose}
use Rattle.lock_store.specs.declared.purpose.Purpose.TheVariants as purposes
use Rattle.lock_store.specs.declared.purpose.Trier.{Trier}
use Rattle.slot_lock_blocks.specs.Keys.{IsKey}
use Rattle.lock_store.specs.Calls.{AnyBlock}
use Rattle.lock_store.specs.Devices.{IsDevice}
use Rattle.lock_store.specs.Memories.{claim_of, holds, key_of, reads, with_hold, with_read, writing}
use Rattle.lock_store.specs.Tries.{FitsLock, TriesLock, trier}
use Rattle.lock_store.specs.Views.{LocksView, counter_of, host_at, key_at, keys_of, told_of}
use Rattle.disk_locks.specs.Agreement.{holder_in, reader_in}
use Rattle.disk_locks.specs.Calls.{ClearsLock, IsShared, ReleasesRead, TriesHold, TriesRead, TriesWrite, Unlocks, key, own_lock, with_reader, without_reader}
use Rattle.disk_locks.specs.Consistent.{Consistent}
use Rattle.disk_locks.specs.Freeing.{HaveEnded, IsOpen, Unedited, UneditedBy}
use Rattle.disk_locks.specs.Memories.{IsMemory}
use Rattle.disk_locks.specs.Others.{Others}
use Rattle.disk_locks.specs.Sure.{Sure}
use Rattle.disk_locks.proofs.Called.{grounded, moves_same, refusal_law, shows_law, stands_block, stays_in, told_map, told_with, write_law}
use Rattle.disk_locks.specs.laws.GivenLaws.{lock_places}
use Rattle.disk_locks.proofs.Ground.{Ground}
use Rattle.disk_locks.proofs.Holds.{clash, hold_is, hold_renoted, read_is, read_renoted, writing_renoted}
use Rattle.disk_locks.proofs.LockSteps.{LockMoves, lock_step}
use Rattle.disk_locks.proofs.Steps.{Moves, StepImage}
use Rattle.disk_locks.proofs.Words.{free_of, held_of, lock_of, open_key, own_of, reader_of, reader_word, readers_are, within, word_is}

-- a lock that is not held guards nothing that a record edits
pub open_unedited : (g : Geometry) (counter : ℕ) (image : Image) (r : Resource) (from : LockWord) → IsValid g counter image → IsLockWord from
    → block_at g image (kinds.Lock r) ≡ lock_bytes from → lock_state from ≢ 1 → Unedited g r image
unfolding lock_state_at
open_unedited g counter image r from valid is stands unheld y x below touched e =
    let held = (valid.held.edits y x below touched).1.held in
    let here : u32_at (block_at g image (kinds.Lock r)) 8 ≡ 1 = subst (λ (q : Resource). u32_at (block_at g image (kinds.Lock q)) 8 ≡ 1) e held in
    unheld (sym (lock_places (lock_bytes from) from (is, refl)).state ∙ ap (λ (b : List ℕ). u32_at b 8) (sym stands) ∙ here)

-- what a try of a lock owes of the image
abbrev pub Owes : LocksView → ℕ → HostState → Resource → LockWord → LockWord → Image → Type 0
Owes v h m r from to image =
    Ground v h image → block_at v.geometry image (kinds.Lock r) ≡ lock_bytes from → LockMoves v h m r from to × Unedited v.geometry r image

-- any write of a lock that has this word
pub lock_image : (v : LocksView) (h : ℕ) (m : HostState) (r : Resource) (from to : LockWord) → Consistent v → HasResource v.geometry r → key_at v h ≢ 0
    → Contains (keys_of v) (key_at v h) → Stands v.disk.state (place_of v.geometry (kinds.Lock r)) (lock_bytes from)
    → IfSome (told_of v) (λ t. Owes v h m r from to t.image)
    → IfSome (told_of v) (λ t. StepImage v.geometry v.disk.state (counter_of v) (keys_of v) v.hosts h m t.image (written v.geometry t.image (kinds.Lock r) (lock_bytes to)))
lock_image v h m r from to is has some here stands owes =
    told_with (told_of v) (λ t. Ground v h t.image × (block_at v.geometry t.image (kinds.Lock r) ≡ lock_bytes from)) (λ t. Owes v h m r from to t.image) _
    (told_with (told_of v) (λ t. Ground v h t.image) (λ t. slice_get t.image (place_of v.geometry (kinds.Lock r)) ≡ Some (lock_bytes from)) _ (grounded v h is here some) stands
    (λ t ground at_place. (ground, stands_block v.geometry t.image (kinds.Lock r) (lock_bytes from) at_place)))
    owes
    (λ t known owe. let both = owe known.0 known.1 in lock_step v h m r from to t.image is.geometry known.0 has known.1 both.0 both.1)

pub tried_law : (v : LocksView) (h : ℕ) (r : Resource) (purpose : Purpose) (who : Trier) (from to : LockWord) (m : HostState) (result : Result Took StepNo) (w : LocksView)
    → Consistent v → HasResource v.geometry r → key_at v h ≢ 0 → TriesLock v h r purpose who from to m result w → IsDevice w.disk.state
    → IsMemory v.geometry.hosts (counter_of v) h m → Moves (counter_of v) (host_at v h) m
    → Sure v h (Owes v h m r from to) → Consistent w × Others h v w
tried_law v h r purpose who from to m (Ok took.Took) w is has some did device memory moves owes =
    write_law v h _ _ m w (kinds.Lock r) (lock_bytes to) is did device did.acts.changes.1 memory moves
    (lock_image v h m r from to is has some did.acts.admitted did.acts.changes.0 (owes did.acts.admitted))
tried_law v h r purpose who from to m (Ok (took.Found word)) w is has some did device memory moves owes =
    shows_law v h _ _ (host_at v h) w is some did.0 (inr refl)
tried_law v h r purpose who from to m (Err why) w is has some did device memory moves owes =
    refusal_law v h _ (place_of v.geometry (kinds.Lock r)) (FitsLock purpose who) why w is some did

told_all : (told : Option Told) (R : Told → Type 0) → ((t : Told) → R t) → IfSome told R
told_all None R f = tt
told_all (Some t) R f = f t

-- what is known of the calling host
module _ (v : LocksView) (h : ℕ) (is : Consistent v) (below : h < v.geometry.hosts) where
  pub joined_some : (host_at v h).joined ≡ true → key_at v h ≢ 0
  joined_some joined none = clash (host_at v h).joined joined ((is.memories h).keyless none)

  pub small_host : h < 16
  small_host = omega (arith, below, is.geometry.hosts.1)

  pub own_word : key_at v h ≢ 0 → IsLockWord (own_lock v h)
  own_word some = (some, let given = ((is.memories h).named some).2 in let fits = is.device.fits in omega (arith, given, fits))

-- a lock that is held is read by nobody
held_readers : (word : LockWord) → lock_key word ≢ 0 → (x : ℕ) → slice_index (lock_readers word) x ≡ 0
held_readers words.Free some x = absurd (some refl)
held_readers (words.Held key) some x = slice_index-nobody x
held_readers (words.Read readers) some x = absurd (some refl)

reads_hold : (q r : Resource) (b : Bool) (m : HostState) → reads (with_hold q b m) r ≡ reads m r
reads_hold q (File f) b m = refl
reads_hold q (Part p) b m = refl
reads_hold q (Group g) b m = refl

held_by : (g : Geometry) (image : Image) (r : Resource) (dead : ℕ) → IsLockWord (words.Held (key dead)) → block_at g image (kinds.Lock r) ≡ lock_bytes (words.Held (key dead))
    → IsHeldBy g image r dead
unfolding lock_state_at lock_key_at
held_by g image r dead is stands =
    let n = lock_places (lock_bytes (words.Held (key dead))) (words.Held (key dead)) (is, refl) in
    record { held = ap (λ (b : List ℕ). u32_at b 8) stands ∙ n.state; by = ap (λ (b : List ℕ). u64_at b 16) stands ∙ n.holder }

-- a dead host's lock is freed
pub clear_law : (v : LocksView) (h : ℕ) (w : LocksView) (dead : ℕ) (r : Resource) (result : Result Took StepNo) → Consistent v → h < v.geometry.hosts → key_at v h ≢ 0
    → IsDevice w.disk.state → HasResource v.geometry r → IsKey dead → ((y : ℕ) × (y < v.geometry.hosts) × (claim_of (host_at v h) y ≡ dead))
    → Sure v h (UneditedBy v.geometry r dead) → ClearsLock v h dead r result w → Consistent w × Others h v w
clear_law v h w dead r result is below some device has dead_is claim unedited did =
    let m = host_at v h in
    let from = words.Held (key dead) in
    let small = small_host v h is below in
    tried_law v h r purposes.Clear (trier h m r) from words.Free m result w is has some did device (is.memories h) (moves_same (counter_of v) m m refl (stays_in m) (λ e. e))
    (λ here. told_map (told_of v) (λ t. UneditedBy v.geometry r dead t.image) (λ t. Owes v h m r from words.Free t.image) (unedited here) (λ t by ground stands.
    let slot = ground.agrees.agree h some (kinds.Slot claim.0) claim.1 in
    let claimed : claim_of m claim.0 ≢ 0 = λ none. dead_is.0 (sym claim.2 ∙ none) in
    let off : Contains (keys_of v) dead → ⊥ = λ now. slot.dead here claimed (subst (λ k. Contains (keys_of v) k) (sym ((slot.by here claimed).1 ∙ claim.2)) now) in
    let old = ground.agrees.agree h some (kinds.Lock r) has in
    let was = lock_places (lock_bytes from) from (dead_is, refl) in
    let holder : holder_in (block_at v.geometry t.image (kinds.Lock r)) ≡ dead = ap holder_in stands ∙ was.holder in
    let reader : reader_in (block_at v.geometry t.image (kinds.Lock r)) h ≡ 0 = ap (λ (b : List ℕ). reader_in b h) stands ∙ was.reader h small ∙ slice_index-nobody h in (
      record {
        word = dead_is;
        of = free_of v.geometry (counter_of v) r;
        to_word = tt;
        holder = inl refl;
        shown = λ e. absurd (let bad : ⊥ = cc in bad);
        before = inr (inr off);
        readers = λ x ne. inl refl;
        own = own_of (keys_of v) h m r words.Free tt small (λ e. absurd (some (sym e))) (λ e. absurd (some (sym e ∙ slice_index-nobody h)))
            (λ k e. absurd (off (subst (λ n. Contains (keys_of v) n) (sym (old.held here e) ∙ holder) here)))
            (λ k e. absurd (some (sym (old.read here e) ∙ reader)));
        same = record { key = refl; beat = refl; joined = refl; freed = refl; holds_same = λ q h n. refl; reads_same = λ q h n. refl; claims_same = λ y. refl };
      },
      by (held_by v.geometry t.image r dead dead_is stands),
    )))

module _ (v : LocksView) (h : ℕ) (is : Consistent v) (below : h < v.geometry.hosts) (joined : (host_at v h).joined ≡ true) (w : LocksView) (device : IsDevice w.disk.state) where
  own_some : key_at v h ≢ 0
  own_some = joined_some v h is below joined

  own_given : key_at v h / 16 ≤ counter_of v
  own_given = ((is.memories h).named own_some).2

  own_host : key_at v h % 16 ≡ h
  own_host = ((is.memories h).named own_some).1

  nobody_reads : (m : HostState) → key_of m ≡ key_at v h → (n : ℕ) → n ≡ 0 → n ≡ key_of m → ⊥
  nobody_reads m same n none e = own_some (sym same ∙ sym e ∙ none)

  -- a part or a group is held
  pub share_law : (r : Resource) (result : Result Took StepNo) → HasResource v.geometry r → IsShared r → TriesHold v h r result w → Consistent w × Others h v w
  share_law r result has shared did =
      let m = with_hold r true (host_at v h) in
      let noted = hold_renoted v.geometry v.geometry.hosts (counter_of v) h (host_at v h) is.geometry (is.memories h) joined r true has in
      let held = hold_is v.geometry v.geometry.hosts (counter_of v) h (host_at v h) is.geometry (is.memories h) joined r true has in
      let word = own_word v h is below own_some in
      tried_law v h r purposes.Share (trier h (host_at v h) r) words.Free (own_lock v h) m result w is has own_some did device noted.memory noted.moves
      (λ here. told_all (told_of v) (λ t. Owes v h m r words.Free (own_lock v h) t.image) (λ t ground stands. (
        record {
          word = tt;
          of = held_of v.geometry (counter_of v) r (key (key_at v h)) word own_given;
          to_word = word;
          holder = inr refl;
          shown = λ e. (refl, joined);
          before = inl refl;
          readers = λ x ne. inl refl;
          own = own_of (keys_of v) h m r (own_lock v h) word (small_host v h is below) (λ e. held) (λ e. absurd (nobody_reads m refl _ (slice_index-nobody h) e)) (λ k e. refl)
              (λ k e. absurd (no_reads r shared e));
          same = noted.same;
        },
        open_unedited v.geometry (counter_of v) t.image r words.Free ground.agrees.valid tt stands (λ e. cc),
      )))
    where
      no_reads : (r : Resource) → IsShared r → reads (with_hold r true (host_at v h)) r ≡ true → ⊥
      no_reads (File f) shared e = shared
      no_reads (Part p) shared e = cc
      no_reads (Group q) shared e = cc

  -- a file is read
  pub read_law : (f : ℕ) (from : LockWord) (result : Result Took StepNo) → f < v.geometry.files → holds (host_at v h) (File f) ≡ false → IsLockWord from → IsOpen from
      → TriesRead v h f from result w → Consistent w × Others h v w
  read_law f from result has out word free did =
      let m = with_read f true (host_at v h) in
      let own = key_at v h in
      let to = with_reader from h own in
      let noted = read_renoted v.geometry v.geometry.hosts (counter_of v) h (host_at v h) is.geometry (is.memories h) joined f true has in
      let read = read_is v.geometry v.geometry.hosts (counter_of v) h (host_at v h) is.geometry (is.memories h) joined f true has in
      let small = small_host v h is below in
      let are = readers_are from word in
      let new = reader_word from h own word small (own_word v h is below own_some).1 own_some own_host in
      let mine : slice_index (lock_readers to) h ≡ own = get_or-set_same (lock_readers from) h own 0 (omega (arith, small, are.long)) in
      tried_law v h (File f) purposes.Read (trier h (host_at v h) (File f)) from to m result w is has own_some did device noted.memory noted.moves
      (λ here. told_all (told_of v) (λ t. Owes v h m (File f) from to t.image) (λ t ground stands.
      let l = lock_of v.geometry (counter_of v) (File f) (block_at v.geometry t.image (kinds.Lock (File f))) from (ground.agrees.valid.locks (File f) has) (word, stands) in (
        record {
          word = word;
          of = reader_of v.geometry (counter_of v) f from h own new l.0 l.1 below own_given;
          to_word = new;
          holder = inl refl;
          shown = λ e. absurd (let bad : ⊥ = cc in bad);
          before = inl (open_key from free).0;
          readers = λ x ne. inl (get_or-set_other (lock_readers from) h x own 0 ne);
          own = own_of (keys_of v) h m (File f) to new small (λ e. absurd (own_some (sym e))) (λ e. inl read) (λ k e. absurd (clash (holds m (File f)) e out)) (λ k e. mine);
          same = noted.same;
        },
        open_unedited v.geometry (counter_of v) t.image (File f) from ground.agrees.valid word stands (open_key from free).1,
      )))

  -- a file is held
  pub write_hold_law : (f : ℕ) (from : LockWord) (result : Result Took StepNo) → f < v.geometry.files → IsLockWord from → IsOpen from
      → Sure v h (λ image. HaveEnded v h from) → TriesWrite v h f from result w → Consistent w × Others h v w
  write_hold_law f from result has word free ended did =
      let m = writing f (host_at v h) in
      let noted = writing_renoted v.geometry v.geometry.hosts (counter_of v) h (host_at v h) is.geometry (is.memories h) joined f has in
      let held : holds m (File f) ≡ true = hold_is v.geometry v.geometry.hosts (counter_of v) h (host_at v h) is.geometry (is.memories h) joined (File f) true has in
      let unread : reads m (File f) ≡ false = read_is v.geometry v.geometry.hosts (counter_of v) h (host_at v h) is.geometry (is.memories h) joined f false has in
      let own = own_word v h is below own_some in
      tried_law v h (File f) purposes.Write (trier h (host_at v h) (File f)) from (own_lock v h) m result w is has own_some did device noted.memory noted.moves
      (λ here. told_map (told_of v) (λ t. HaveEnded v h from) (λ t. Owes v h m (File f) from (own_lock v h) t.image) (ended here) (λ t over ground stands. (
        record {
          word = word;
          of = held_of v.geometry (counter_of v) (File f) (key (key_at v h)) own own_given;
          to_word = own;
          holder = inr refl;
          shown = λ e. (refl, joined);
          before = inl (open_key from free).0;
          readers = λ x ne. inr (slice_index-nobody x, λ some. over x some (λ e. ne (sym ((readers_are from word).hosts x some) ∙ ap (λ n. n % 16) e ∙ own_host)));
          own = own_of (keys_of v) h m (File f) (own_lock v h) own (small_host v h is below) (λ e. held) (λ e. absurd (nobody_reads m refl _ (slice_index-nobody h) e)) (λ k e. refl)
              (λ k e. absurd (clash (reads m (File f)) e unread));
          same = noted.same;
        },
        open_unedited v.geometry (counter_of v) t.image (File f) from ground.agrees.valid word stands (open_key from free).1,
      )))

  -- a file is read no more
  pub release_law : (f : ℕ) (from : LockWord) (result : Result Took StepNo) → f < v.geometry.files → holds (host_at v h) (File f) ≡ false → IsLockWord from → IsOpen from
      → ReleasesRead v h f from result w → Consistent w × Others h v w
  release_law f from result has out word free did =
      let m = with_read f false (host_at v h) in
      let to = without_reader from h in
      let readers = set (lock_readers from) h 0 in
      let noted = read_renoted v.geometry v.geometry.hosts (counter_of v) h (host_at v h) is.geometry (is.memories h) joined f false has in
      let unread : reads m (File f) ≡ false = read_is v.geometry v.geometry.hosts (counter_of v) h (host_at v h) is.geometry (is.memories h) joined f false has in
      let small = small_host v h is below in
      let are = readers_are from word in
      tried_law v h (File f) purposes.Release (trier h (host_at v h) (File f)) from to m result w is has own_some did device noted.memory noted.moves
      (λ here. told_all (told_of v) (λ t. Owes v h m (File f) from to t.image) (λ t ground stands.
      let l = lock_of v.geometry (counter_of v) (File f) (block_at v.geometry t.image (kinds.Lock (File f))) from (ground.agrees.valid.locks (File f) has) (word, stands) in
      let new = word_is v.geometry (counter_of v) f readers (AreReaders-set (lock_readers from) h 0 are small (omega arith) (λ some. absurd (some refl)))
      (λ x past. get_or-set_other (lock_readers from) h x 0 0 (λ e. absurd (omega (arith, below, past, e))) ∙ within v.geometry f from l.0 x past)
      (All-set (λ k. k / 16 ≤ counter_of v) (lock_readers from) h 0 (omega arith) (All-tail (λ k. k / 16 ≤ counter_of v) (lock_key from) (lock_readers from) l.1)) in
      let gone : slice_index (lock_readers to) h ≡ 0 = new.each h ∙ get_or-set_same (lock_readers from) h 0 0 (omega (arith, small, are.long)) in (
        record {
          word = word;
          of = new.of;
          to_word = new.word_is;
          holder = inl new.keyless;
          shown = λ e. absurd (new.unheld e);
          before = inl (open_key from free).0;
          readers = λ x ne. inl (new.each x ∙ get_or-set_other (lock_readers from) h x 0 0 ne);
          own = own_of (keys_of v) h m (File f) to new.word_is small (λ e. absurd (own_some (sym e ∙ new.keyless))) (λ e. absurd (own_some (sym e ∙ gone)))
              (λ k e. absurd (clash (holds m (File f)) e out)) (λ k e. absurd (clash (reads m (File f)) e unread));
          same = noted.same;
        },
        open_unedited v.geometry (counter_of v) t.image (File f) from ground.agrees.valid word stands (open_key from free).1,
      )))

  -- a lock is freed by its holder
  pub unlock_law : (r : Resource) (result : Result Unit StepNo) → HasResource v.geometry r → holds (host_at v h) r ≡ true → Sure v h (Unedited v.geometry r)
      → Unlocks v h r result w → Consistent w × Others h v w
  unlock_law r (Err why) has held unedited did = refusal_law v h _ (place_of v.geometry (kinds.Lock r)) AnyBlock why w is own_some did
  unlock_law r (Ok done) has held unedited did =
      let m = with_hold r false (host_at v h) in
      let noted = hold_renoted v.geometry v.geometry.hosts (counter_of v) h (host_at v h) is.geometry (is.memories h) joined r false has in
      let unheld : holds m r ≡ false = hold_is v.geometry v.geometry.hosts (counter_of v) h (host_at v h) is.geometry (is.memories h) joined r false has in
      let small = small_host v h is below in
      let here = did.acts.admitted in
      write_law v h _ _ m w (kinds.Lock r) (lock_bytes words.Free) is did device did.acts.changes noted.memory noted.moves
      (told_with (told_of v) (λ t. Ground v h t.image) (λ t. Unedited v.geometry r t.image) _ (grounded v h is here own_some) (unedited here) (λ t ground free.
      let block = block_at v.geometry t.image (kinds.Lock r) in
      let l = ground.agrees.valid.locks r has in
      let old = ground.agrees.agree h own_some (kinds.Lock r) has in
      let was = lock_places block l.word l.spelled in
      let its : lock_key l.word ≡ key_at v h = sym was.holder ∙ old.held here held in
      let none = held_readers l.word (λ e. own_some (sym its ∙ e)) in
      lock_step v h m r l.word words.Free t.image is.geometry ground has l.spelled.1 (record {
        word = l.spelled.0;
        of = free_of v.geometry (counter_of v) r;
        to_word = tt;
        holder = inl refl;
        shown = λ e. absurd (let bad : ⊥ = cc in bad);
        before = inr (inl its);
        readers = λ x ne. inl (slice_index-nobody x ∙ sym (none x));
        own = own_of (keys_of v) h m r words.Free tt small (λ e. absurd (own_some (sym e))) (λ e. absurd (nobody_reads m refl _ (slice_index-nobody h) e))
            (λ k e. absurd (clash (holds m r) e unheld))
            (λ k e. absurd (own_some (sym (old.read here (sym (reads_hold r r false (host_at v h)) ∙ e)) ∙ was.reader h small ∙ none h)));
        same = noted.same;
      }) free))
