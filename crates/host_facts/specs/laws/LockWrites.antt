-- What any write of a slot or a lock leaves to the host that makes it, and what a call that shows a block leaves.
use Rattle.std.proofs.Common.{◌≡◌, ◌≢◌, ◌<◌, ◌∙◌, ℕ, List, Some, refl, ap}
use Rattle.std.specs.Prelude.{Contains}
use Rattle.vol_layout.specs.declared.kind.Kind.{Kind}
use Rattle.vol_layout.specs.declared.kind.Kind.TheVariants as kinds
use Rattle.vol_layout.specs.Places.{place_of}
use Rattle.vol_layout.specs.Ranges.{HasKind}
use Rattle.shared_disk.specs.Calls.{after_write}
use Rattle.shared_disk.specs.Events.{Call, Changes, Done, Fences, IsAdmitted, Reads, Registers, Shows, Tests, Writes}
use Rattle.shared_disk.specs.State.{State}
use Rattle.image_view.specs.HostKeys.{slot_key_at}
use Rattle.image_view.specs.Images.{Image, written}
use Rattle.image_view.specs.laws.FrameLaws.{slot_key_kept, write_only}
use Rattle.lock_store.specs.declared.host.HostState.{HostState}
use Rattle.lock_store.specs.Events.{Did, swap_of}
use Rattle.lock_store.specs.Memories.{claim_of, key_of}
use Rattle.lock_store.specs.Views.{LocksView, counter_of, host_at, key_at, keys_of, told_of}
use Rattle.disk_locks.specs.Agreement.{Agrees}
use Rattle.disk_locks.specs.Consistent.{Consistent}
use Rattle.disk_locks.specs.Others as locks'
use Rattle.disk_locks.specs.Sure.{BothTold}
use Rattle.host_facts.specs.Facts.{Fact, IsGuarded}
use Rattle.host_facts.specs.Facts.Fact.{Swept}
use Rattle.host_facts.specs.Knows.{Knows}
use Rattle.host_facts.specs.Looks.{Looks}
use Rattle.host_facts.specs.Passes.{IsLockKind, Passes}
use Rattle.host_facts.specs.Relocks.{claim_guard_of}
use Rattle.host_facts.specs.Views.{WorldView, edits_under, record_at, standing_at, with_locks}
use Rattle.host_facts.specs.laws.FactLaws.{guard_as}
use Rattle.host_facts.specs.laws.OwnLaws.{looked_law}
use Rattle.host_facts.specs.laws.PassLaws.{passes_law, swept_law}
use Rattle.host_facts.specs.laws.ToldLaws.{both_with, both_written}

-- a slot or a lock was written
pub record LockWritten (h : ℕ) (kind : Kind) (block : List ℕ) (v w : WorldView) : Type 0 where
  pub has : HasKind v.locks.geometry kind
  pub state : w.locks.disk.state ≡ after_write (place_of v.locks.geometry kind) block v.locks.disk.state
  pub registered : Contains (keys_of v.locks) (key_at v.locks h)
  pub keys : keys_of w.locks ≡ keys_of v.locks
  pub passes : Passes h v w

-- the slot shows the key that it showed
abbrev pub ShowsAgain : ℕ → WorldView → WorldView → Type 0
ShowsAgain y v w =
    BothTold (told_of v.locks) (told_of w.locks) (λ i j. slot_key_at v.locks.geometry j y ≡ slot_key_at v.locks.geometry i y)

-- so does the slot whose claim guards the fact, before and behind the call
abbrev pub ShowsStill : ℕ → Fact → WorldView → WorldView → Type 0
ShowsStill h a v w =
    (y : ℕ) → claim_guard_of a ≡ Some y → y < v.locks.geometry.hosts → claim_of (host_at v.locks h) y ≢ 0
    → claim_of (host_at w.locks h) y ≢ 0 → ShowsAgain y v w

-- a call that shows a block leaves the device's state, and was admitted
shows_same : (call : Call) (block : List ℕ) (s t : State) → Changes call (Shows block) s t → t ≡ s
shows_same (Reads place) block s t c = c.1
shows_same (Writes place b) block s t c = absurd c
shows_same (Tests place old new) block s t c = c.2
shows_same (Registers host) block s t c = absurd c
shows_same (Fences target) block s t c = absurd c

shows_admitted : (key : ℕ) (call : Call) (block : List ℕ) (s t : State) → Changes call (Shows block) s t
    → IsAdmitted key call (Shows block) s → Contains s.keys key
shows_admitted key (Registers host) block s t c admitted = absurd c
shows_admitted key call block s t c admitted = admitted

module _ (v : WorldView) (h : ℕ) (l : LocksView) (is : Consistent v.locks) (others : locks'.Others h v.locks l) where
  -- a test-and-set, and a plain write
  pub tested : (kind : Kind) (old new : List ℕ) (m : HostState) → HasKind v.locks.geometry kind → IsLockKind kind
      → key_of m ≡ key_at v.locks h → Did v.locks h (swap_of v.locks kind old new) Done m l → LockWritten h kind new v (with_locks v l)
  tested kind old new m has lock key did = record {
    has = has;
    state = did.acts.changes.1;
    registered = did.acts.admitted;
    keys = ap (λ (s : State). s.keys) did.acts.changes.1;
    passes = passes_law v h (swap_of v.locks kind old new) Done m l is others did key
        (record { kind = kind; lock = lock; has = has; at = refl });
  }

  pub wrote : (kind : Kind) (block : List ℕ) (m : HostState) → HasKind v.locks.geometry kind → IsLockKind kind
      → key_of m ≡ key_at v.locks h → Did v.locks h (Writes (place_of v.locks.geometry kind) block) Done m l
      → LockWritten h kind block v (with_locks v l)
  wrote kind block m has lock key did = record {
    has = has;
    state = did.acts.changes;
    registered = did.acts.admitted;
    keys = ap (λ (s : State). s.keys) did.acts.changes;
    passes = passes_law v h (Writes (place_of v.locks.geometry kind) block) Done m l is others did key
        (record { kind = kind; lock = lock; has = has; at = refl });
  }

  -- the image is that with the one block written
  pub image_written : (kind : Kind) (block : List ℕ) → LockWritten h kind block v (with_locks v l)
      → BothTold (told_of v.locks) (told_of l) (λ i j. j ≡ written v.locks.geometry i kind block)
  image_written kind block step =
      both_written v.locks.disk.state l.disk.state (place_of v.locks.geometry kind) block step.state

  -- another slot shows what it showed
  pub shown_kept : (kind : Kind) (block : List ℕ) (y : ℕ) → LockWritten h kind block v (with_locks v l) → y < v.locks.geometry.hosts
      → kinds.Slot y ≢ kind → ShowsAgain y v (with_locks v l)
  shown_kept kind block y step below ne =
      let g = v.locks.geometry in
      both_with (told_of v.locks) (told_of l) (λ i. Agrees g (counter_of v.locks) (keys_of v.locks) v.locks.hosts i)
      (λ i j. j ≡ written g i kind block) (λ i j. slot_key_at g j y ≡ slot_key_at g i y) is.told (image_written kind block step)
      (λ i j agrees e.
      ap (λ (k : Image). slot_key_at g k y) e
      ∙ slot_key_kept g i (written g i kind block) kind y (write_only g i kind block step.has) below ne)

  pub other_shown : (z : ℕ) (block : List ℕ) (y : ℕ) → LockWritten h (kinds.Slot z) block v (with_locks v l) → y < v.locks.geometry.hosts
      → y ≢ z → ShowsAgain y v (with_locks v l)
  other_shown z block y step below ne = shown_kept (kinds.Slot z) block y step below (λ e. ne cc)

  -- the guard behind the call, from the memory that the host then has
  guard_there : (m : HostState) (a : Fact) → l.geometry ≡ v.locks.geometry → host_at l h ≡ m → key_of m ≡ key_at v.locks h
      → IsGuarded v.locks.geometry m (record_at v h) a → IsGuarded l.geometry (host_at l h) (record_at (with_locks v l) h) a
  guard_there m a geometry mine key =
      let same = ap (λ k. edits_under k (standing_at v h)) (ap key_of mine ∙ key) in
      guard_as v.locks.geometry l.geometry m (host_at l h) (record_at v h) (record_at (with_locks v l) h) a geometry mine same

  -- every fact stays that is guarded still, a sweep where the slot shows the key that it showed
  pub fact_stays : Passes h v (with_locks v l) → (m : HostState) → host_at l h ≡ m → key_of m ≡ key_at v.locks h → (a : Fact)
      → (IsGuarded v.locks.geometry (host_at v.locks h) (record_at v h) a → IsGuarded v.locks.geometry m (record_at v h) a)
      → ShowsStill h a v (with_locks v l) → Knows v h a → Knows (with_locks v l) h a
  fact_stays passes m mine key a step shown known = cases a shown (guard_there m a passes.geometry mine key (step known.guard)) known
    where
      cases : (a : Fact) → ShowsStill h a v (with_locks v l)
          → IsGuarded l.geometry (host_at l h) (record_at (with_locks v l) h) a → Knows v h a → Knows (with_locks v l) h a
      cases (Swept y k) shown guard known =
          swept_law v h y k l is others passes.key passes.registered guard.1 (shown y refl known.guard.0 known.guard.1 guard.1) known
      cases a shown guard known = passes.facts a tt guard known

  -- a call that shows a block, under the memory that the host had
  pub shows_law : (call : Call) (block : List ℕ) → Did v.locks h call (Shows block) (host_at v.locks h) l → Looks h v (with_locks v l)
  shows_law call block did =
      let state = shows_same call block v.locks.disk.state l.disk.state did.acts.changes in
      let here = shows_admitted (key_at v.locks h) call block v.locks.disk.state l.disk.state did.acts.changes did.acts.admitted in
      looked_law v (with_locks v l) h call (Shows block) did state here others.lasts refl
