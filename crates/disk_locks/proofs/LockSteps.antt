-- Any write of a lock, as a step.
use Rattle.std.proofs.Common.{◌≡◌, ◌≢◌, ◌⊎◌, ◌<◌, ◌%◌, ℕ, List, slice_index, true, refl, sym, ap, ◌∙◌, subst, arith, inl, inr}
use Rattle.std.specs.Prelude.{Contains}
use Rattle.std.proofs.lemmas.Bool.{cases_Bool}
use Rattle.vol_base.specs.Bytes.{u32_at, u64_at}
use Rattle.vol_layout.specs.declared.geometry.Geometry.{Geometry}
use Rattle.vol_layout.specs.declared.kind.Kind.{Kind}
use Rattle.vol_layout.specs.declared.kind.Kind.TheVariants as kinds
use Rattle.vol_layout.specs.declared.kind.Resource.{Resource}
use Rattle.vol_layout.specs.Ranges.{HasKind, HasResource, IsGeometry}
use Rattle.slot_lock_blocks.specs.declared.lock.LockWord.{LockWord}
use Rattle.slot_lock_blocks.specs.LockWords.{IsLockWord, lock_bytes, lock_key, lock_readers, lock_state}
use Rattle.image_view.specs.Held.{IsShown}
use Rattle.image_view.specs.HostKeys.{lock_key_at, lock_state_at}
use Rattle.image_view.specs.Images.{Image, OnlyChanges, block_at, written}
use Rattle.image_view.specs.Spelled.{IsLockOf}
use Rattle.image_view.specs.laws.FrameLaws.{block_at-written, lock_key_kept, lock_state_kept, write_only}
use Rattle.lock_store.specs.declared.host.HostState.{HostState}
use Rattle.lock_store.specs.Memories.{holds, key_of, may_read, reads}
use Rattle.lock_store.specs.Views.{LocksView, counter_of, host_at, key_at, keys_of}
use Rattle.disk_locks.specs.Agreement.{BlockAgrees, LockAgrees, holder_in, reader_in}
use Rattle.disk_locks.specs.Freeing.{Unedited}
use Rattle.disk_locks.specs.Keys.{HasEnded}
use Rattle.disk_locks.specs.Others.{Fades}
use Rattle.disk_locks.specs.SameElse.{SameElse}
use Rattle.disk_locks.specs.laws.GivenLaws.{lock_places}
use Rattle.disk_locks.proofs.Ground.{Ground, keys_apart, own_shown}
use Rattle.disk_locks.proofs.Steps.{StepImage}
use Rattle.disk_locks.proofs.ValidHost.{valid_lock}
use Rattle.disk_locks.proofs.Written.{cases_kind, keeps_host, written_step}

-- what a write of a lock from one word to another owes: it goes to nobody or to the own key, and comes from nobody, the own key
-- or one that is off; other readers stay, or have ended; and the host's memory says the same of the lock
pub record LockMoves (v : LocksView) (h : ℕ) (m : HostState) (r : Resource) (from to : LockWord) : Type 0 where
  pub word : IsLockWord from
  pub of : IsLockOf v.geometry (counter_of v) r (lock_bytes to)
  pub to_word : IsLockWord to
  pub holder : (lock_key to ≡ 0) ⊎ (lock_key to ≡ key_at v h)
  pub shown : lock_state to ≡ 1 → (lock_key to ≡ key_at v h) × ((host_at v h).joined ≡ true)
  pub before : (lock_key from ≡ 0) ⊎ ((lock_key from ≡ key_at v h) ⊎ (Contains (keys_of v) (lock_key from) → ⊥))
  pub readers : (x : ℕ) → x ≢ h → (slice_index (lock_readers to) x ≡ slice_index (lock_readers from) x)
      ⊎ ((slice_index (lock_readers to) x ≡ 0) × (slice_index (lock_readers from) x ≢ 0 → HasEnded v (slice_index (lock_readers from) x)))
  pub own : LockAgrees (keys_of v) h m r (lock_bytes to)
  pub same : SameElse v.geometry r (host_at v h) m

pub may_by_reads : (m : HostState) (r : Resource) → reads m r ≡ true → may_read m r ≡ true
may_by_reads m r is = rw is (elim (cases_Bool (holds m r)) [ inl y ↦ rw y refl | inr n ↦ rw n refl ])

-- what memory says of all other blocks stays
frame_lock : (g : Geometry) (keys : List ℕ) (h : ℕ) (r : Resource) (m n : HostState) (image : Image) → SameElse g r m n
    → (other : Kind) → HasKind g other → other ≢ kinds.Lock r
    → BlockAgrees keys h m other (block_at g image other) → BlockAgrees keys h n other (block_at g image other)
frame_lock g keys h r m n image same kinds.Super has ne a = tt
frame_lock g keys h r m n image same (kinds.Slot y) has ne a =
    let was = λ (here : Contains keys (key_of n)). subst (λ k. Contains keys k) same.key here in
    record {
      mine = λ e. same.joined ∙ a.mine (e ∙ same.key);
      by_mine = λ e none. a.by_mine (e ∙ same.key) (sym (same.claims_same y) ∙ none);
      live = λ here joined own. let l = a.live (was here) (sym same.joined ∙ joined) own in (l.0 ∙ sym same.key, l.1 ∙ sym same.beat);
      by = λ here claim. let b = a.by (was here) (λ none. claim (same.claims_same y ∙ none)) in (b.0 ∙ sym same.key, b.1 ∙ sym (same.claims_same y));
      dead = λ here claim. a.dead (was here) (λ none. claim (same.claims_same y ∙ none));
    }
frame_lock g keys h r m n image same (kinds.Journal y) has ne a = tt
frame_lock g keys h r m n image same (kinds.Lock q) has ne a =
    let apart : q ≢ r = λ e. ne (ap (λ (x : Resource). kinds.Lock x) e) in
    let holds_is = same.holds_same q has apart in
    let reads_is = same.reads_same q has apart in
    let was = λ (here : Contains keys (key_of n)). subst (λ k. Contains keys k) same.key here in
    record {
      mine = λ e. holds_is ∙ a.mine (e ∙ same.key);
      read_mine = λ e. elim (a.read_mine (e ∙ same.key)) [ inl is ↦ inl (reads_is ∙ is) | inr gone ↦ inr (same.freed ∙ gone) ];
      held = λ here is. a.held (was here) (sym holds_is ∙ is) ∙ sym same.key;
      read = λ here is. a.read (was here) (sym reads_is ∙ is) ∙ sym same.key;
    }
frame_lock g keys h r m n image same (kinds.Table t) has ne a = tt
frame_lock g keys h r m n image same (kinds.Log y l) has ne a = tt
frame_lock g keys h r m n image same (kinds.Shard s) has ne a = tt
frame_lock g keys h r m n image same (kinds.Request f) has ne a = tt
frame_lock g keys h r m n image same (kinds.Number d) has ne a = tt

module _ (v : LocksView) (h : ℕ) (m : HostState) (r : Resource) (from to : LockWord) (image : Image) (range : IsGeometry v.geometry) (ground : Ground v h image)
    (has : HasResource v.geometry r) (stands : block_at v.geometry image (kinds.Lock r) ≡ lock_bytes from)
    (moves : LockMoves v h m r from to) (unedited : Unedited v.geometry r image) where
  -- what another host has in memory of the lock stays true
  other_lock : (x : ℕ) → x ≢ h → key_at v x ≢ 0 → LockAgrees (keys_of v) x (host_at v x) r (lock_bytes to)
  other_lock x ne named =
      let own = key_at v h in
      let key = key_at v x in
      let apart : key ≢ own = keys_apart v h x ground.memories ground.some named ne in
      let memory = ground.memories x in
      let below : x < v.geometry.hosts = (memory.named named).0 in
      let small : x < 16 = omega (arith, below, range.hosts.1) in
      let old = ground.agrees.agree x named (kinds.Lock r) has in
      let was = lock_places (lock_bytes from) from (moves.word, refl) in
      let now = lock_places (lock_bytes to) to (moves.to_word, refl) in
      let holder_was : holder_in (block_at v.geometry image (kinds.Lock r)) ≡ lock_key from = ap holder_in stands ∙ was.holder in
      let reader_was : reader_in (block_at v.geometry image (kinds.Lock r)) x ≡ slice_index (lock_readers from) x = ap (λ (b : List ℕ). reader_in b x) stands ∙ was.reader x small in
      record {
        mine = λ e. elim moves.holder [
          | inl none ↦ absurd (named (sym e ∙ now.holder ∙ none))
          | inr its ↦ absurd (apart (sym e ∙ now.holder ∙ its))
        ];
        read_mine = λ e. elim (moves.readers x ne) [
          | inl same ↦ old.read_mine (reader_was ∙ sym same ∙ sym (now.reader x small) ∙ e)
          | inr gone ↦ absurd (named (sym e ∙ now.reader x small ∙ gone.0))
        ];
        held = λ here is. let its : lock_key from ≡ key = sym holder_was ∙ old.held here is in elim moves.before [
          | inl none ↦ absurd (named (sym its ∙ none))
          | inr rest ↦ elim rest [
            | inl mine ↦ absurd (apart (sym its ∙ mine))
            | inr off ↦ absurd (off (subst (λ k. Contains (keys_of v) k) (sym its) here))
          ]
        ];
        read = λ here is. let its : slice_index (lock_readers from) x ≡ key = sym reader_was ∙ old.read here is in elim (moves.readers x ne) [
          | inl same ↦ now.reader x small ∙ same ∙ its
          | inr gone ↦
              let over = gone.1 (λ none. named (sym its ∙ none)) in
              let ended : HasEnded v key = subst (λ k. HasEnded v k) its over in
              let host : key % 16 ≡ x = (memory.named named).1 in
              let mine : key_at v (key % 16) ≡ key = ap (λ y. key_at v y) host in
              absurd (elim (ended.ended mine) [
                | inl freed ↦
                    let left : (host_at v x).freed ≡ true = ap (λ y. (host_at v y).freed) (sym host) ∙ freed in
                    let out = memory.out (memory.gone left) r in
                    let may = may_by_reads (host_at v x) r is in
                    let bad : ⊥ = cc in bad
                | inr off ↦ off here
              ])
        ];
      }

  -- no lock comes to be held by a key that is off
  fades_lock : Fades v.geometry v.disk.state image (written v.geometry image (kinds.Lock r) (lock_bytes to))
  unfolding lock_state_at lock_key_at
  fades_lock q key has' off held =
      let g = v.geometry in
      let new = written g image (kinds.Lock r) (lock_bytes to) in
      let only : OnlyChanges g image new (kinds.Lock r) = write_only g image (kinds.Lock r) (lock_bytes to) has in
      elim (cases_kind g (kinds.Lock r) (kinds.Lock q) has has') [
        | inl e ↦
            let here : block_at g new (kinds.Lock q) ≡ lock_bytes to = ap (block_at g new) e ∙ block_at-written g image (kinds.Lock r) (lock_bytes to) has ground.agrees.valid.long in
            let now = lock_places (lock_bytes to) to (moves.to_word, refl) in
            let state : lock_state to ≡ 1 = sym now.state ∙ ap (λ (b : List ℕ). u32_at b 8) (sym here) ∙ held.held in
            let by : lock_key to ≡ key = sym now.holder ∙ ap (λ (b : List ℕ). u64_at b 16) (sym here) ∙ held.by in
            absurd (off.off (subst (λ k. Contains (keys_of v) k) (sym (moves.shown state).0 ∙ by) ground.here))
        | inr ne ↦ record {
          held = sym (lock_state_kept g image new (kinds.Lock r) q only has' ne) ∙ held.held;
          by = sym (lock_key_kept g image new (kinds.Lock r) q only has' ne) ∙ held.by;
        }
      ]

  shown_lock : u32_at (lock_bytes to) 8 ≡ 1 → IsShown v.geometry image (u64_at (lock_bytes to) 16)
  shown_lock state =
      let now = lock_places (lock_bytes to) to (moves.to_word, refl) in
      let s = moves.shown (sym now.state ∙ state) in
      subst (λ k. IsShown v.geometry image k) (sym s.0 ∙ sym now.holder) (own_shown v h image ground s.1)

  pub lock_step : StepImage v.geometry v.disk.state (counter_of v) (keys_of v) v.hosts h m image (written v.geometry image (kinds.Lock r) (lock_bytes to))
  lock_step = written_step v.geometry v.disk.state (counter_of v) (keys_of v) v.hosts h m (kinds.Lock r) (lock_bytes to) image has ground.agrees ground.some (record {
    valid = valid_lock v.geometry (counter_of v) image r (lock_bytes to) ground.agrees.valid has moves.of shown_lock unedited;
    own = moves.own;
    frame = frame_lock v.geometry (keys_of v) h r (host_at v h) m image moves.same;
    agree = other_lock;
    keeps = λ x ne named here. keeps_host v.geometry (counter_of v) x (host_at v x) (kinds.Lock r) (lock_bytes to) image ground.agrees.valid tt has
        ((ground.memories x).named named).0 (λ y below claim. λ e. cc) (λ e. absurd (let bad : ⊥ = cc in bad));
    fades = fades_lock;
  })
