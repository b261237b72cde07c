-- What the clearing of a dead host's lock leaves to the host that makes the call.
use Rattle.std.proofs.Common.{◌≡◌, ◌≢◌, ◌+◌, ◌<◌, ◌∙◌, ℕ, List, refl, sym, ap, subst, arith, inl, inr}
use Rattle.std.specs.Prelude.{Contains, Ok}
use Rattle.std.proofs.lemmas.Bool.{cases_eq}
use Rattle.vol_base.specs.Bytes.{u32_at, u64_at}
use Rattle.vol_base.specs.declared.block.Key.{Key}
use Rattle.vol_layout.specs.declared.geometry.Geometry.{Geometry}
use Rattle.vol_layout.specs.declared.kind.Kind.TheVariants as kinds
use Rattle.vol_layout.specs.declared.kind.Resource.{Resource}
use Rattle.vol_layout.specs.declared.kind.Resource.TheVariants.{File, Group, Part}
use Rattle.vol_layout.specs.Ranges.{HasResource}
use Rattle.shared_disk.specs.Events.{Shows}
use Rattle.shared_disk.specs.State.{State}
use Rattle.slot_lock_blocks.specs.declared.lock.LockWord.{LockWord}
use Rattle.slot_lock_blocks.specs.declared.lock.LockWord.TheVariants as words
use Rattle.slot_lock_blocks.specs.LockWords.{IsLockWord, lock_bytes, lock_key, lock_state}
use Rattle.image_view.specs.HostKeys.{IsHeldBy, lock_key_at, lock_state_at, slot_key_at}
use Rattle.image_view.specs.Images.{Image, block_at, written}
use Rattle.image_view.specs.laws.FrameLaws.{block_at-written}
use Rattle.lock_store.specs.declared.answers.Took.TheVariants as took
use Rattle.lock_store.specs.Events.{swap_of}
use Rattle.lock_store.specs.Memories.{claim_of}
use Rattle.lock_store.specs.Views.{LocksView, host_at, key_at, keys_of, told_of}
use Rattle.disk_locks.specs.Calls.{ClearsLock, FreesLock, key}
use Rattle.disk_locks.specs.Consistent.{Consistent}
use Rattle.disk_locks.specs.Others as locks'
use Rattle.disk_locks.specs.Sure.{Sure}
use Rattle.disk_locks.specs.laws.GivenLaws.{lock_places}
use Rattle.host_facts.specs.Facts.{AreUnheld, Fact, turn_of}
use Rattle.host_facts.specs.Facts.Fact.{Swept}
use Rattle.host_facts.specs.Knows.{Knows}
use Rattle.host_facts.specs.LockResults.{HasCleared}
use Rattle.host_facts.specs.Passes.{Passes}
use Rattle.host_facts.specs.Views.{WorldView, with_locks}
use Rattle.host_facts.specs.laws.FindsLaws.{stands_sure, sure_later}
use Rattle.host_facts.specs.laws.FoundLaws.{claim_found}
use Rattle.host_facts.specs.laws.ToldLaws.{both_same, join_told, sure_all}
use Rattle.host_facts.specs.laws.LockWrites.{fact_stays, image_written, shown_kept, shows_law, tested}
use Rattle.host_facts.specs.laws.PassLaws.{passes_law}

-- two resources of a volume have two turns
turns_apart : (g : Geometry) (q r : Resource) → HasResource g q → HasResource g r → turn_of g q ≡ turn_of g r → q ≡ r
turns_apart g (File f) (File f') a b e = ap (λ n. File n) e
turns_apart g (File f) (Part p) a b e = absurd (omega (arith, a, e))
turns_apart g (File f) (Group r) a b e = absurd (omega (arith, a, e))
turns_apart g (Part p) (File f) a b e = absurd (omega (arith, b, e))
turns_apart g (Part p) (Part p') a b e = ap (λ n. Part n) (omega (arith, e))
turns_apart g (Part p) (Group r) a b e = absurd (omega (arith, a, e))
turns_apart g (Group r) (File f) a b e = absurd (omega (arith, b, e))
turns_apart g (Group r) (Part p) a b e = absurd (omega (arith, b, e))
turns_apart g (Group r) (Group r') a b e = ap (λ n. Group n) (omega (arith, e))

-- a sweep has passed a lock that it came to, and that the dead key does not hold
swept_more : (w : WorldView) (h y : ℕ) (r : Resource) → HasResource w.locks.geometry r
    → Knows w h (Swept y (turn_of w.locks.geometry r))
    → Sure w.locks h (λ image. IsHeldBy w.locks.geometry image r (slot_key_at w.locks.geometry image y) → ⊥)
    → Knows w h (Swept y (turn_of w.locks.geometry r + 1))
swept_more w h y r has known free =
    let g = w.locks.geometry in
    record {
      guard = known.guard;
      sure = λ here. join_told (told_of w.locks) (λ t. AreUnheld g t.image (turn_of g r) (slot_key_at g t.image y))
          (λ t. IsHeldBy g t.image r (slot_key_at g t.image y) → ⊥) (λ t. AreUnheld g t.image (turn_of g r + 1) (slot_key_at g t.image y))
          (known.sure here) (free here) (λ t unheld none q has' lt held. elim (cases_eq (turn_of g q) (turn_of g r)) [
            | inl e ↦ none (subst (λ (x : Resource). IsHeldBy g t.image x (slot_key_at g t.image y)) (turns_apart g q r has' has e) held)
            | inr ne ↦ unheld q has' (omega (arith, lt, ne)) held
          ]);
    }

-- which lock is held, by the word that it spells
word_unheld : (g : Geometry) (image : Image) (r : Resource) (word : LockWord) (k : ℕ) → IsLockWord word
    → block_at g image (kinds.Lock r) ≡ lock_bytes word → (lock_state word ≡ 1 → lock_key word ≡ k → ⊥) → IsHeldBy g image r k → ⊥
unfolding lock_state_at lock_key_at
word_unheld g image r word k fits stands other held =
    let n = lock_places (lock_bytes word) word (fits, refl) in
    other (sym n.state ∙ ap (λ (b : List ℕ). u32_at b 8) (sym stands) ∙ held.held)
    (sym n.holder ∙ ap (λ (b : List ℕ). u64_at b 16) (sym stands) ∙ held.by)

-- a lock is not held in the image behind a call, by what that image is
unheld_there : (g k : Geometry) (image old : Image) (r : Resource) (y : ℕ) → k ≡ g → image ≡ old
    → (IsHeldBy g old r (slot_key_at g old y) → ⊥) → IsHeldBy k image r (slot_key_at k image y) → ⊥
unheld_there g k image old r y same now unheld =
    subst (λ (k : Geometry). IsHeldBy k image r (slot_key_at k image y) → ⊥) (sym same)
    (subst (λ (x : Image). IsHeldBy g x r (slot_key_at g x y) → ⊥) (sym now) unheld)

-- a word that is held by this key is the one that is cleared
held_word : (word : LockWord) (dead : ℕ) → lock_state word ≡ 1 → lock_key word ≡ dead → word ≡ words.Held (key dead)
held_word words.Free dead held by = absurd (let bad : ⊥ = cc in bad)
held_word (words.Held k) dead held by = ap (λ n. let own : Key = record { 0 = n } in words.Held own) by
held_word (words.Read readers) dead held by = absurd (let bad : ⊥ = cc in bad)

module _ (v : WorldView) (h : ℕ) (l : LocksView) (is : Consistent v.locks) (others : locks'.Others h v.locks l) where
  -- a lock was cleared, from what both answers have in common
  cleared : (dead : ℕ) (r : Resource) → HasResource v.locks.geometry r → host_at l h ≡ host_at v.locks h
      → Contains (keys_of v.locks) (key_at v.locks h) → keys_of l ≡ keys_of v.locks → Passes h v (with_locks v l)
      → ((a : Fact) → Knows v h a → Knows (with_locks v l) h a)
      → ((y : ℕ) → y < v.locks.geometry.hosts → claim_of (host_at v.locks h) y ≢ 0 → claim_of (host_at v.locks h) y ≡ dead
      → Sure l h (λ image. IsHeldBy l.geometry image r (slot_key_at l.geometry image y) → ⊥))
      → HasCleared h dead r v (with_locks v l)
  cleared dead r has mine registered keys passes facts free = record {
    memory = mine;
    registered = registered;
    keys = keys;
    passes = passes;
    facts = facts;
    sweeps = λ y k claim turn known.
        let w = with_locks v l in
        let now : turn_of l.geometry r ≡ k = ap (λ (g : Geometry). turn_of g r) passes.geometry ∙ turn in
        subst (λ n. Knows w h (Swept y (n + 1))) now
        (swept_more w h y r (subst (λ (g : Geometry). HasResource g r) (sym passes.geometry) has)
        (subst (λ n. Knows w h (Swept y n)) (sym now) (facts (Swept y k) known)) (free y known.guard.0 known.guard.1 claim));
  }

  -- the lock is free now
  cleared_free : (dead : ℕ) (r : Resource) → HasResource v.locks.geometry r → ClearsLock v.locks h dead r (Ok took.Took) l
      → HasCleared h dead r v (with_locks v l)
  cleared_free dead r has did =
      let g = v.locks.geometry in
      let free = lock_bytes words.Free in
      let step = tested v h l is others (kinds.Lock r) (lock_bytes (words.Held (key dead))) free (host_at v.locks h) has tt refl did in
      cleared dead r has did.mine step.registered step.keys step.passes
      (λ a. fact_stays v h l is others step.passes (host_at v.locks h) did.mine refl a (λ guard. guard)
      (λ y of below was now. shown_kept v h l is others (kinds.Lock r) free y step below (λ e. cc)))
      (λ y below claims claim.
      sure_later v.locks l h (λ i j. j ≡ written g i (kinds.Lock r) free) (λ i. Unit {0})
      (λ j. IsHeldBy l.geometry j r (slot_key_at l.geometry j y) → ⊥) is step.passes.key step.passes.registered
      (image_written v h l is others (kinds.Lock r) free step)
      (λ i j finds now any.
      let new = written g i (kinds.Lock r) free in
      unheld_there g l.geometry j new r y did.geometry now
      (word_unheld g new r words.Free (slot_key_at g new y) tt (block_at-written g i (kinds.Lock r) free has finds.agrees.valid.long)
      (λ held by. cc)))
      (sure_all v.locks h (λ i. Unit {0}) (λ i. tt)))

  -- the lock had another word, which was shown
  cleared_found : (dead : ℕ) (r : Resource) (word : LockWord) → HasResource v.locks.geometry r
      → ClearsLock v.locks h dead r (Ok (took.Found word)) l → HasCleared h dead r v (with_locks v l)
  cleared_found dead r word has did =
      let g = v.locks.geometry in
      let call = swap_of v.locks (kinds.Lock r) (lock_bytes (words.Held (key dead))) (lock_bytes words.Free) in
      let looks = shows_law v h l is others call (lock_bytes word) did.0 in
      let passes = passes_law v h call (Shows (lock_bytes word)) (host_at v.locks h) l is others did.0 refl
      (record { kind = kinds.Lock r; lock = tt; has = has; at = refl }) in
      cleared dead r has looks.memory looks.registered (ap (λ (s : State). s.keys) looks.state) passes looks.facts
      (λ y below claims claim.
      sure_later v.locks l h (λ i j. j ≡ i) (λ i. block_at g i (kinds.Lock r) ≡ lock_bytes word)
      (λ j. IsHeldBy l.geometry j r (slot_key_at l.geometry j y) → ⊥) is passes.key passes.registered
      (both_same (told_of v.locks) (told_of l) (λ i j. j ≡ i) (ap (λ (s : State). s.told) looks.state) (λ i. refl))
      (λ i j finds now stands.
      unheld_there g l.geometry j i r y looks.geometry now
      (word_unheld g i r word (slot_key_at g i y) did.1 stands (λ held by.
      did.0.acts.changes.1 (ap lock_bytes (held_word word dead held (by ∙ claim_found v.locks h i y finds below claims ∙ claim))))))
      (stands_sure v.locks h (kinds.Lock r) (lock_bytes word) did.0.acts.changes.0))

  pub cleared_law : (dead : ℕ) (r : Resource) → HasResource v.locks.geometry r → FreesLock v.locks h dead r (Ok tt) l
      → HasCleared h dead r v (with_locks v l)
  cleared_law dead r has did = elim did [
    | inl free ↦ cleared_free dead r has free
    | inr found ↦ cleared_found dead r found.0 has found.1
  ]
