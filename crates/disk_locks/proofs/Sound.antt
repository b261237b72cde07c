-- A block that is not of its kind comes only where the device does not tell its content.
use Rattle.std.proofs.Common.{◌≡◌, ◌≢◌, ◌<◌, ◌==◌, ℕ, List, Option, Some, None, slice_index, true, false, refl, sym, ap, ◌∙◌, subst, inl, inr}
use Rattle.std.specs.Prelude.{Contains, Err, IfSome, Ok, Result, slice_get}
use Rattle.std.proofs.lemmas.Bool.{cases_Bool}
use Rattle.vol_base.specs.declared.block.Key.{Key}
use Rattle.vol_layout.specs.declared.kind.Kind.{Kind}
use Rattle.vol_layout.specs.declared.kind.Kind.TheVariants as kinds
use Rattle.vol_layout.specs.declared.kind.Resource.{Resource}
use Rattle.vol_layout.specs.declared.kind.Resource.TheVariants.{File, Group, Part}
use Rattle.vol_layout.specs.Places.{place_of}
use Rattle.vol_layout.specs.Ranges.{HasResource}
use Rattle.shared_disk.specs.Events.{Call, Shows}
use Rattle.shared_disk.specs.State.{Stands, Told}
use Rattle.slot_lock_blocks.specs.declared.lock.LockWord.{LockWord}
use Rattle.slot_lock_blocks.specs.declared.lock.LockWord.TheVariants as words
use Rattle.slot_lock_blocks.specs.declared.slot.Slot.{Slot}
use Rattle.slot_lock_blocks.specs.declared.slot.Slot.TheVariants as slots
use Rattle.slot_lock_blocks.specs.LockWords.{SpellsLock, lock_bytes, lock_readers}
use Rattle.slot_lock_blocks.specs.Slots.{IsSlot, SpellsSlot, slot_bytes, slot_key, slot_second}
use Rattle.slot_lock_blocks.specs.laws.ReaderLaws.{slice_index-nobody}
use Rattle.image_view.specs.Images.{Image, block_at}
use Rattle.image_view.specs.Spelled.{MayBe}
use Rattle.lock_store.specs.declared.answers.Claim.{Claim}
use Rattle.lock_store.specs.declared.answers.Claim.TheVariants as claim
use Rattle.lock_store.specs.declared.answers.StepNo.{StepNo}
use Rattle.lock_store.specs.declared.answers.StepNo.TheVariants as steps
use Rattle.lock_store.specs.declared.answers.Took.{Took}
use Rattle.lock_store.specs.declared.host.HostState.{HostState}
use Rattle.lock_store.specs.declared.purpose.Purpose.{Purpose}
use Rattle.lock_store.specs.declared.purpose.Purpose.TheVariants as purposes
use Rattle.lock_store.specs.declared.purpose.SlotUse.{SlotUse}
use Rattle.lock_store.specs.declared.purpose.SlotUse.TheVariants as uses
use Rattle.lock_store.specs.Events.{Did, IsRefusal, swap_of}
use Rattle.lock_store.specs.Memories.{claim_of, dropped, holds, reads}
use Rattle.lock_store.specs.SlotTries.{FitsSlot, MayShow, ReadsSlot, TriesSlot, slot_by}
use Rattle.lock_store.specs.Tries.{ConfirmsLock, FitsLock, IsLockBlock, MayFind, TriesLock, trier}
use Rattle.lock_store.specs.Views.{LocksView, host_at, key_at, told_of}
use Rattle.disk_locks.specs.Agreement.{LockAgrees, SlotAgrees}
use Rattle.disk_locks.specs.Calls.{ClearsSlot, FreesLock, FreesSlot, IsFreed, IsShared, IsSound, TriesShared, entry_use, key, slot_of}
use Rattle.disk_locks.specs.declared.answers.Got.{Got}
use Rattle.disk_locks.specs.Consistent.{Consistent}
use Rattle.disk_locks.specs.Freeing.{MayEnterFrom, MayFreeSlot}
use Rattle.disk_locks.proofs.Called.{grounded, stands_block, told_map, told_with}
use Rattle.disk_locks.specs.laws.GivenLaws.{lock_places, slot_live, slot_places}
use Rattle.disk_locks.proofs.Ground.{Ground}
use Rattle.disk_locks.proofs.Holds.{clash}
use Rattle.disk_locks.proofs.SlotsFreed.{not_zero, zero_is}

untold : (told : Option Told) (F : Type 0) → IfSome told (λ t. F) → (F → ⊥) → told ≡ None
untold None F f none = refl
untold (Some t) F f none = absurd (none f)

-- a refusal by a block that does not fit, where every told block fits
refused_sound : (v : LocksView) (h : ℕ) (call : Call) (place : ℕ) (Fits : List ℕ → Type 0) (why : StepNo) (w : LocksView) → IsRefusal v h call place Fits why w
    → ((block : List ℕ) → Did v h call (Shows block) dropped w → IfSome (told_of v) (λ t. Fits block)) → (at : ℕ) → why ≡ steps.Bad at → told_of v ≡ None
refused_sound v h call place Fits steps.Fenced w r fits at e = absurd (let bad : ⊥ = cc in bad)
refused_sound v h call place Fits steps.Failed w r fits at e = absurd (let bad : ⊥ = cc in bad)
refused_sound v h call place Fits steps.NoMemory w r fits at e = absurd (let bad : ⊥ = cc in bad)
refused_sound v h call place Fits (steps.Bad there) w r fits at e = untold (told_of v) (Fits r.1.0) (fits r.1.0 r.1.1) r.1.2

abbrev refusal : (T : Type 0) → StepNo → Result T StepNo
refusal T why = Err why

err_is : (T : Type 0) (why : StepNo) (at : ℕ) → refusal T why ≡ refusal T (steps.Bad at) → why ≡ steps.Bad at
err_is T why at e = cc

told_unit : (told : Option Told) → IfSome told (λ t. Unit {0})
told_unit None = tt
told_unit (Some t) = tt

-- a slot by its numbers
recovering_is : (slot : Slot) (dead own : ℕ) → slot_key slot ≡ dead → slot_by slot ≡ own → own ≢ 0 → slot ≡ slots.Recovering (key dead) (key own)
recovering_is slots.Free dead own shown by some = absurd (some (sym by))
recovering_is (slots.Live k beat) dead own shown by some = absurd (some (sym by))
recovering_is (slots.Recovering k b) dead own shown by some = ap (λ n. slots.Recovering (key n) b) shown ∙ ap (λ n. slots.Recovering (key dead) (key n)) by

live_is : (slot : Slot) (own beat : ℕ) → slot_live slot ≡ own → slot_second slot ≡ beat → own ≢ 0 → slot ≡ slots.Live (key own) beat
live_is slots.Free own beat live second some = absurd (some (sym live))
live_is (slots.Live k b) own beat live second some = ap (λ n. slots.Live (key n) b) live ∙ ap (λ n. slots.Live (key own) n) second
live_is (slots.Recovering k b) own beat live second some = absurd (some (sym live))

-- what was found at the place of a kind, on the ground of a registered host
module _ (v : LocksView) (h : ℕ) (is : Consistent v) (some : key_at v h ≢ 0) where
  found_at : (kind : Kind) (block : List ℕ) (Fits : Type 0) → Contains (v.disk.state.keys) (key_at v h) → Stands v.disk.state (place_of v.geometry kind) block
      → ((image : Image) → Ground v h image → block_at v.geometry image kind ≡ block → Fits) → IfSome (told_of v) (λ t. Fits)
  found_at kind block Fits here stands f =
      told_with (told_of v) (λ t. Ground v h t.image) (λ t. slice_get t.image (place_of v.geometry kind) ≡ Some block) (λ t. Fits) (grounded v h is here some) stands
      (λ t ground at_place. f t.image ground (stands_block v.geometry t.image kind block at_place))

  -- the word of a valid image fits a try, where memory agrees
  lock_fits : (r : Resource) (purpose : Purpose) (from : LockWord) → HasResource v.geometry r
      → ((image : Image) (word : LockWord) → Ground v h image → SpellsLock (block_at v.geometry image (kinds.Lock r)) word → MayBe v.geometry r word
      → block_at v.geometry image (kinds.Lock r) ≢ lock_bytes from → MayFind purpose (trier h (host_at v h) r) word)
      → (to : List ℕ) (block : List ℕ) (m : HostState) (w : LocksView) → Did v h (swap_of v (kinds.Lock r) (lock_bytes from) to) (Shows block) m w
      → IfSome (told_of v) (λ t. FitsLock purpose (trier h (host_at v h) r) block)
  lock_fits r purpose from has may to block m w did =
      found_at (kinds.Lock r) block (FitsLock purpose (trier h (host_at v h) r) block) did.acts.admitted did.acts.changes.0 (λ image ground stands.
      let l = ground.agrees.valid.locks r has in (
        l.word,
        subst (λ (b : List ℕ). SpellsLock b l.word) stands l.spelled,
        may image l.word ground l.spelled l.resource (λ e. did.acts.changes.1 (sym stands ∙ e)),
      ))

  pub tried_sound : (r : Resource) (purpose : Purpose) (from to : LockWord) (m : HostState) (result : Result Took StepNo) (w : LocksView) → HasResource v.geometry r
      → ((image : Image) (word : LockWord) → Ground v h image → SpellsLock (block_at v.geometry image (kinds.Lock r)) word → MayBe v.geometry r word
      → block_at v.geometry image (kinds.Lock r) ≢ lock_bytes from → MayFind purpose (trier h (host_at v h) r) word)
      → TriesLock v h r purpose (trier h (host_at v h) r) from to m result w → IsSound result v
  tried_sound r purpose from to m (Ok _) w has may did place e = absurd (let bad : ⊥ = cc in bad)
  tried_sound r purpose from to m (Err why) w has may did place e =
      refused_sound v h (swap_of v (kinds.Lock r) (lock_bytes from) (lock_bytes to)) (place_of v.geometry (kinds.Lock r)) (FitsLock purpose (trier h (host_at v h) r)) why w did
      (λ block shown. lock_fits r purpose from has may (lock_bytes to) block dropped w shown) place (err_is Took why place e)

  -- what each try may find
  agree_lock : (image : Image) (r : Resource) → Ground v h image → HasResource v.geometry r → LockAgrees v.disk.state.keys h (host_at v h) r (block_at v.geometry image (kinds.Lock r))
  agree_lock image r ground has = ground.agrees.agree h some (kinds.Lock r) has

  not_own : (image : Image) (r : Resource) (other : Key) → Ground v h image → HasResource v.geometry r → SpellsLock (block_at v.geometry image (kinds.Lock r)) (words.Held other)
      → holds (host_at v h) r ≡ false → other.0 ≢ key_at v h
  not_own image r other ground has spells out e =
      clash (holds (host_at v h) r) ((agree_lock image r ground has).mine ((lock_places (block_at v.geometry image (kinds.Lock r)) (words.Held other) spells).holder ∙ e)) out

  reads_if : (image : Image) (r : Resource) (word : LockWord) → h < 16 → Ground v h image → HasResource v.geometry r → SpellsLock (block_at v.geometry image (kinds.Lock r)) word
      → (host_at v h).joined ≡ true → slice_index (lock_readers word) h ≡ key_at v h → reads (host_at v h) r ≡ true
  reads_if image r word small ground has spells joined e =
      elim ((agree_lock image r ground has).read_mine ((lock_places (block_at v.geometry image (kinds.Lock r)) word spells).reader h small ∙ e)) [
        | inl reads_it ↦ reads_it
        | inr freed ↦ absurd (clash (host_at v h).joined joined ((ground.memories h).gone freed))
      ]

  reader_if : (image : Image) (r : Resource) (word : LockWord) → h < 16 → Ground v h image → HasResource v.geometry r → SpellsLock (block_at v.geometry image (kinds.Lock r)) word
      → reads (host_at v h) r ≡ true → slice_index (lock_readers word) h ≡ key_at v h
  reader_if image r word small ground has spells reads_it =
      sym ((lock_places (block_at v.geometry image (kinds.Lock r)) word spells).reader h small) ∙ (agree_lock image r ground has).read ground.here reads_it

  pub may_share : (r : Resource) → HasResource v.geometry r → IsShared r → holds (host_at v h) r ≡ false
      → (image : Image) (word : LockWord) → Ground v h image → SpellsLock (block_at v.geometry image (kinds.Lock r)) word → MayBe v.geometry r word
      → block_at v.geometry image (kinds.Lock r) ≢ lock_bytes words.Free → MayFind purposes.Share (trier h (host_at v h) r) word
  may_share r has shared out image words.Free ground spells may other = other spells.1
  may_share r has shared out image (words.Held key) ground spells may other = not_own image r key ground has spells out
  may_share (File f) has shared out image (words.Read readers) ground spells may other = shared
  may_share (Part p) has shared out image (words.Read readers) ground spells may other = may
  may_share (Group q) has shared out image (words.Read readers) ground spells may other = may

  pub may_find_read : (f : ℕ) (from : LockWord) → f < v.geometry.files → h < 16 → (host_at v h).joined ≡ true → holds (host_at v h) (File f) ≡ false
      → (image : Image) (word : LockWord) → Ground v h image → SpellsLock (block_at v.geometry image (kinds.Lock (File f))) word → MayBe v.geometry (File f) word
      → block_at v.geometry image (kinds.Lock (File f)) ≢ lock_bytes from → MayFind purposes.Read (trier h (host_at v h) (File f)) word
  may_find_read f from has small joined out image words.Free ground spells may other = tt
  may_find_read f from has small joined out image (words.Held key) ground spells may other = not_own image (File f) key ground has spells out
  may_find_read f from has small joined out image (words.Read readers) ground spells may other = reads_if image (File f) (words.Read readers) small ground has spells joined

  pub may_find_write : (f : ℕ) (from : LockWord) → f < v.geometry.files → h < 16 → (host_at v h).joined ≡ true → holds (host_at v h) (File f) ≡ false
      → (image : Image) (word : LockWord) → Ground v h image → SpellsLock (block_at v.geometry image (kinds.Lock (File f))) word → MayBe v.geometry (File f) word
      → block_at v.geometry image (kinds.Lock (File f)) ≢ lock_bytes from → MayFind purposes.Write (trier h (host_at v h) (File f)) word
  may_find_write f from has small joined out image words.Free ground spells may other =
      elim (cases_Bool (reads (host_at v h) (File f))) [
        | inl reads_it ↦ absurd (some (sym (reader_if image (File f) words.Free small ground has spells reads_it) ∙ slice_index-nobody h))
        | inr none ↦ none
      ]
  may_find_write f from has small joined out image (words.Held key) ground spells may other = not_own image (File f) key ground has spells out
  may_find_write f from has small joined out image (words.Read readers) ground spells may other = reads_if image (File f) (words.Read readers) small ground has spells joined

  pub may_find_release : (f : ℕ) (from : LockWord) → f < v.geometry.files → h < 16 → reads (host_at v h) (File f) ≡ true
      → (image : Image) (word : LockWord) → Ground v h image → SpellsLock (block_at v.geometry image (kinds.Lock (File f))) word → MayBe v.geometry (File f) word
      → block_at v.geometry image (kinds.Lock (File f)) ≢ lock_bytes from → MayFind purposes.Release (trier h (host_at v h) (File f)) word
  may_find_release f from has small reads_it image words.Free ground spells may other =
      absurd (some (sym (reader_if image (File f) words.Free small ground has spells reads_it) ∙ slice_index-nobody h))
  may_find_release f from has small reads_it image (words.Held key) ground spells may other =
      absurd (some (sym (reader_if image (File f) (words.Held key) small ground has spells reads_it) ∙ slice_index-nobody h))
  may_find_release f from has small reads_it image (words.Read readers) ground spells may other = reader_if image (File f) (words.Read readers) small ground has spells reads_it

  pub shared_sound : (r : Resource) (result : Result Got StepNo) (w : LocksView) → HasResource v.geometry r → IsShared r → holds (host_at v h) r ≡ false → TriesShared v h r result w → IsSound result v
  shared_sound r (Ok _) w has shared out did place e = absurd (let bad : ⊥ = cc in bad)
  shared_sound r (Err why) w has shared out did place e =
      tried_sound r purposes.Share words.Free _ (host_at v h) (Err why) w has (may_share r has shared out) did place (ap (refusal Took) (err_is Got why place e))

  pub cleared_sound : (dead : ℕ) (r : Resource) (result : Result Unit StepNo) (w : LocksView) → HasResource v.geometry r → FreesLock v h dead r result w → IsSound result v
  cleared_sound dead r (Ok _) w has did place e = absurd (let bad : ⊥ = cc in bad)
  cleared_sound dead r (Err why) w has did place e =
      tried_sound r purposes.Clear (words.Held (key dead)) _ (host_at v h) (Err why) w has (λ image word ground spells may other. tt) did place (ap (refusal Took) (err_is Unit why place e))

  pub confirm_sound : (r : Resource) (result : Result Unit StepNo) (w : LocksView) → HasResource v.geometry r → ConfirmsLock v h r result w → IsSound result v
  confirm_sound r (Ok _) w has did place e = absurd (let bad : ⊥ = cc in bad)
  confirm_sound r (Err why) w has did place e =
      refused_sound v h _ (place_of v.geometry (kinds.Lock r)) IsLockBlock why w did
      (λ block shown. found_at (kinds.Lock r) block (IsLockBlock block) shown.acts.admitted shown.acts.changes.0 (λ image ground stands.
      let l = ground.agrees.valid.locks r has in (l.word, subst (λ (b : List ℕ). SpellsLock b l.word) stands l.spelled)))
      place (err_is Unit why place e)

  -- the slot of a valid image fits what it is seen for
  agree_slot : (image : Image) (y : ℕ) → Ground v h image → y < v.geometry.hosts → SlotAgrees v.disk.state.keys h (host_at v h) y (block_at v.geometry image (kinds.Slot y))
  agree_slot image y ground has = ground.agrees.agree h some (kinds.Slot y) has

  slot_fits : (y : ℕ) (seen : SlotUse) (block : List ℕ) → y < v.geometry.hosts → Contains v.disk.state.keys (key_at v h) → Stands v.disk.state (place_of v.geometry (kinds.Slot y)) block
      → ((image : Image) (slot : Slot) → Ground v h image → SpellsSlot (block_at v.geometry image (kinds.Slot y)) slot → block_at v.geometry image (kinds.Slot y) ≡ block
      → MayShow seen y (host_at v h) slot) → IfSome (told_of v) (λ t. FitsSlot seen y (host_at v h) block)
  slot_fits y seen block has here stands may =
      found_at (kinds.Slot y) block (FitsSlot seen y (host_at v h) block) here stands (λ image ground at_block.
      let l = ground.agrees.valid.slots y has in
      (l.slot, subst (λ (b : List ℕ). SpellsSlot b l.slot) at_block l.spelled, l.host, may image l.slot ground l.spelled at_block))

  by_if : (image : Image) (y : ℕ) (slot : Slot) → Ground v h image → y < v.geometry.hosts → SpellsSlot (block_at v.geometry image (kinds.Slot y)) slot
      → slot_by slot ≡ key_at v h → claim_of (host_at v h) y ≢ 0
  by_if image y slot ground has spells e = (agree_slot image y ground has).by_mine ((slot_places (block_at v.geometry image (kinds.Slot y)) slot spells).by ∙ e)

  shown_if : (image : Image) (y : ℕ) (slot : Slot) → Ground v h image → y < v.geometry.hosts → SpellsSlot (block_at v.geometry image (kinds.Slot y)) slot
      → slot_key slot ≡ key_at v h → (host_at v h).joined ≡ true
  shown_if image y slot ground has spells e = (agree_slot image y ground has).mine ((slot_places (block_at v.geometry image (kinds.Slot y)) slot spells).shown ∙ e)

  -- a slot that the host claimed says so
  claimed_word : (image : Image) (y dead : ℕ) (slot : Slot) → Ground v h image → y < v.geometry.hosts → SpellsSlot (block_at v.geometry image (kinds.Slot y)) slot
      → claim_of (host_at v h) y ≢ 0 → claim_of (host_at v h) y ≡ dead → slot ≡ slots.Recovering (key dead) (key (key_at v h))
  claimed_word image y dead slot ground has spells claimed is_dead =
      let a = (agree_slot image y ground has).by ground.here claimed in
      let n = slot_places (block_at v.geometry image (kinds.Slot y)) slot spells in
      recovering_is slot dead (key_at v h) (sym n.shown ∙ a.1 ∙ is_dead) (sym n.by ∙ a.0) some

  pub look_sound : (y : ℕ) (result : Result Slot StepNo) (w : LocksView) → y < v.geometry.hosts → ReadsSlot v h y result w → IsSound result v
  look_sound y (Ok _) w has did place e = absurd (let bad : ⊥ = cc in bad)
  look_sound y (Err why) w has did place e =
      refused_sound v h _ (place_of v.geometry (kinds.Slot y)) (FitsSlot uses.Look y (host_at v h)) why w did
      (λ block shown. slot_fits y uses.Look block has shown.acts.admitted shown.acts.changes.0 (λ image slot ground spells at_block. by_if image y slot ground has spells))
      place (err_is Slot why place e)

  tried_slot_sound : (y : ℕ) (seen : SlotUse) (from to : Slot) (m : HostState) (result : Result Claim StepNo) (w : LocksView) → y < v.geometry.hosts
      → ((image : Image) (slot : Slot) → Ground v h image → SpellsSlot (block_at v.geometry image (kinds.Slot y)) slot
      → block_at v.geometry image (kinds.Slot y) ≢ slot_bytes from → MayShow seen y (host_at v h) slot)
      → TriesSlot v h y seen from to m result w → IsSound result v
  tried_slot_sound y seen from to m (Ok _) w has may did place e = absurd (let bad : ⊥ = cc in bad)
  tried_slot_sound y seen from to m (Err why) w has may did place e =
      refused_sound v h (swap_of v (kinds.Slot y) (slot_bytes from) (slot_bytes to)) (place_of v.geometry (kinds.Slot y)) (FitsSlot seen y (host_at v h)) why w did
      (λ block shown. slot_fits y seen block has shown.acts.admitted shown.acts.changes.0
      (λ image slot ground spells at_block. may image slot ground spells (λ e. shown.acts.changes.1 (sym at_block ∙ e))))
      place (err_is Claim why place e)

  pub claim_sound : (y : ℕ) (from to : Slot) (m : HostState) (result : Result Claim StepNo) (w : LocksView) → y < v.geometry.hosts
      → TriesSlot v h y uses.Take from to m result w → IsSound result v
  claim_sound y from to m result w has did =
      tried_slot_sound y uses.Take from to m result w has
      (λ image slot ground spells other. (by_if image y slot ground has spells, shown_if image y slot ground has spells)) did

  pub enter_sound : (from to : Slot) (m : HostState) (result : Result Claim StepNo) (w : LocksView) → h < v.geometry.hosts → IsSlot from
      → MayEnterFrom (key_at v h) (claim_of (host_at v h) h) from → TriesSlot v h h (entry_use from) from to m result w → IsSound result v
  enter_sound slots.Free to m result w has slot may did = claim_sound h slots.Free to m result w has did
  enter_sound (slots.Live key beat) to m result w has slot may did = absurd may
  enter_sound (slots.Recovering dead by) to m result w has slot may did =
      let claimed : claim_of (host_at v h) h ≢ 0 = λ none. slot.0.0 (may.1 ∙ none) in
      tried_slot_sound h uses.Retake (slots.Recovering dead by) to m result w has
      (λ image found ground spells other.
      let word = claimed_word image h dead.0 found ground has spells claimed (sym may.1) in
      let from_is : slots.Recovering (key dead.0) (key (key_at v h)) ≡ slots.Recovering dead by = ap (λ n. slots.Recovering dead (key n)) (sym may.0) in
      absurd (other (spells.1 ∙ ap slot_bytes (word ∙ from_is)))) did

  -- what the host knows of a slot that it frees stands there
  known_slot : (y : ℕ) (image : Image) → Ground v h image → h < v.geometry.hosts → y < v.geometry.hosts → MayFreeSlot v.geometry y h (host_at v h)
      → block_at v.geometry image (kinds.Slot y) ≡ slot_bytes (slot_of (host_at v h) y)
  known_slot y image ground below has (inl claimed) =
      let l = ground.agrees.valid.slots y has in
      let other : (claim_of (host_at v h) y == 0) ≡ false = not_zero (claim_of (host_at v h) y) claimed.0 in
      rw other (l.spelled.1 ∙ ap slot_bytes (claimed_word image y (claim_of (host_at v h) y) l.slot ground has l.spelled claimed.0 refl))
  known_slot y image ground below has (inr own) =
      let l = ground.agrees.valid.slots y has in
      let none : (claim_of (host_at v h) y == 0) ≡ true = zero_is (claim_of (host_at v h) y) own.3 in
      let n = slot_places (block_at v.geometry image (kinds.Slot y)) l.slot l.spelled in
      let live = (agree_slot image y ground has).live ground.here own.1 own.0 in
      rw none (l.spelled.1 ∙ ap slot_bytes (live_is l.slot (key_at v h) (host_at v h).beat (sym n.live ∙ live.0) (sym n.second ∙ live.1) some))

  pub freed_law : (y : ℕ) (result : Result Unit StepNo) (w : LocksView) → h < v.geometry.hosts → y < v.geometry.hosts → MayFreeSlot v.geometry y h (host_at v h)
      → FreesSlot v h y result w → IsFreed v h y result w
  freed_law y (Err why) w below has may did = tt
  freed_law y (Ok _) w below has may (inl claimed) = told_map (told_of v) (λ t. Unit {0}) (λ t. ClearsSlot v h y (Ok claim.Claimed) w) (told_unit (told_of v)) (λ t u. claimed)
  freed_law y (Ok _) w below has may (inr found) =
      let did = found.1.0 in
      let bad = found_at (kinds.Slot y) (slot_bytes found.0) ⊥ did.acts.admitted did.acts.changes.0
      (λ image ground at_block. did.acts.changes.1 (sym at_block ∙ known_slot y image ground below has may)) in
      told_map (told_of v) (λ t. ⊥) (λ t. ClearsSlot v h y (Ok claim.Claimed) w) bad (λ t b. absurd b)

  pub free_sound : (y : ℕ) (result : Result Unit StepNo) (w : LocksView) → y < v.geometry.hosts → FreesSlot v h y result w → IsSound result v
  free_sound y (Ok _) w has did place e = absurd (let bad : ⊥ = cc in bad)
  free_sound y (Err why) w has did place e =
      tried_slot_sound y uses.Clear _ _ (host_at v h) (Err why) w has (λ image slot ground spells other. tt) did place (ap (refusal Claim) (err_is Unit why place e))
