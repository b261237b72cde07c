-- What a host remembers of slots, behind each call of the locks.
use Rattle.std.proofs.Common.{◌≡◌, ◌≢◌, ◌<◌, ℕ, false, true, refl, sym, ap, ◌∙◌, arith, inl, inr, true≢false}
use Rattle.std.specs.Prelude.{Ok}
use Rattle.std.proofs.lemmas.Bool.{eq-eqb, ne_eqb}
use Rattle.vol_layout.specs.declared.geometry.Geometry.{Geometry}
use Rattle.vol_layout.specs.declared.kind.Kind.TheVariants as kinds
use Rattle.vol_layout.specs.declared.kind.Resource.{Resource}
use Rattle.vol_layout.specs.Ranges.{HasResource, IsGeometry}
use Rattle.shared_disk.specs.Events.{Done, Shows}
use Rattle.slot_lock_blocks.specs.declared.slot.Slot.{Slot}
use Rattle.slot_lock_blocks.specs.declared.slot.Slot.TheVariants as slots
use Rattle.slot_lock_blocks.specs.Slots.{IsSlot, slot_bytes, slot_key}
use Rattle.lock_store.specs.declared.answers.Claim.TheVariants.{Claimed, Found}
use Rattle.lock_store.specs.Events.{read_of}
use Rattle.lock_store.specs.Memories.{claim_of, entered, holds, left, with_beat, with_claim}
use Rattle.lock_store.specs.SlotTries.{ReadsSlot}
use Rattle.lock_store.specs.Views.{LocksView, host_at, key_at}
use Rattle.disk_locks.specs.Calls.{Beats, ClaimsSlot, ClearsSlot, EntersSlot, FreesSlot, freeing, key, next_beat}
use Rattle.disk_locks.specs.Consistent.{Consistent}
use Rattle.host_facts.specs.laws.GuardLaws.{claim_else, claim_is}
use Rattle.host_runs.specs.Memories.{Memory}
use Rattle.host_notes.specs.Asked.{beat_call, claim_call, enter_call, free_call}
use Rattle.host_notes.specs.Remembered.{IsRemembered, RemembersCall, RemembersMade}
use Rattle.host_notes.specs.laws.QuietMemories.{remembered_same}
use Rattle.host_notes.specs.lemmas.OwnKeys.{joined_key, own_key}
use Rattle.host_notes.specs.lemmas.SlotNotes.{claim_written, locks_kept, not_freed, other_freed, own_freed, slot_noted, still_unclaimed}
use Rattle.host_notes.specs.lemmas.WrittenBlocks.{block_written}
use Rattle.host_notes.specs.lemmas.Words.{live_not_free, live_not_recovering, slot_says, zero_is_no_two}

host_small : (g : Geometry) (y : ℕ) → IsGeometry g → y < g.hosts → y < 16
host_small g y range below = omega (arith, range.hosts.1, below)

module _ (v l : LocksView) (h : ℕ) (memory : Memory) (is : IsRemembered v.geometry memory (host_at v h)) where
  -- a slot was read
  pub remembered_look : (y : ℕ) (slot : Slot) → ReadsSlot v h y (Ok slot) l
      → RemembersCall v h memory (read_of v (kinds.Slot y)) (Shows (slot_bytes slot)) l
  remembered_look y slot did = remembered_same v l h memory (read_of v (kinds.Slot y)) (Shows (slot_bytes slot)) is tt did.0.mine

  -- the own slot shows the next beat
  pub remembered_beat : (done : Unit) → Consistent v → h < v.geometry.hosts → (host_at v h).joined ≡ true → Beats v h (Ok done) l
      → RemembersCall v h memory (beat_call v h) Done l
  remembered_beat done c below joined did =
      let own = joined_key v h c joined in
      let m = host_at v h in
      let beat = next_beat m.beat in
      let n = with_beat beat m in
      let slot = slots.Live (key (key_at v h)) beat in
      let block = slot_bytes slot in
      let unclaimed : claim_of m h ≡ 0 = ap (claim_of m) (sym own.of) ∙ is.own joined in
      let noted = slot_noted v.geometry h h block memory m n (locks_kept m n refl)
      (not_freed h h block (live_not_free slot refl))
      (λ y lt. claim_written h y block memory.claims m n (λ two. absurd (live_not_recovering slot refl two)) (λ other. unclaimed)
      (λ other. refl) (is.claims y lt))
      is.own is in
      block_written v.geometry h (key_at v h) (kinds.Slot h) block memory below n (host_at l h) did.mine noted

  -- the own slot was entered, or another one found there
  pub remembered_enter : (from : Slot) → Consistent v → h < v.geometry.hosts → key_at v h ≢ 0 → EntersSlot v h from (Ok Claimed) l
      → RemembersCall v h memory (enter_call v h from) Done l
  remembered_enter from c below some did =
      let own = own_key v h c some in
      let m = host_at v h in
      let n = entered h m in
      let slot = slots.Live (key (key_at v h)) 0 in
      let block = slot_bytes slot in
      let none = claim_is h 0 m own.small (c.memories h).claims in
      let noted = slot_noted v.geometry h h block memory m n (locks_kept m n refl)
      (not_freed h h block (live_not_free slot refl))
      (λ y lt. claim_written h y block memory.claims m n (λ two. absurd (live_not_recovering slot refl two)) (λ other. none)
      (λ other. claim_else h 0 y m other) (is.claims y lt))
      (λ joined. ap (claim_of n) own.of ∙ none) is in
      block_written v.geometry h (key_at v h) (kinds.Slot h) block memory below n (host_at l h) did.mine noted

  pub remembered_enter_found : (from slot : Slot) → EntersSlot v h from (Ok (Found slot)) l
      → RemembersCall v h memory (enter_call v h from) (Shows (slot_bytes slot)) l
  remembered_enter_found from slot did = remembered_same v l h memory (enter_call v h from) (Shows (slot_bytes slot)) is tt did.0.mine

  -- a slot was claimed, or another one found there
  pub remembered_claim : (y : ℕ) (from : Slot) → Consistent v → y < v.geometry.hosts → key_at v h ≢ 0
      → (y ≡ h → (host_at v h).joined ≡ false) → IsSlot from → slot_key from ≢ 0 → ClaimsSlot v h y from (Ok Claimed) l
      → RemembersCall v h memory (claim_call v h y from) Done l
  remembered_claim y from c below key' out slot some did =
      let own = own_key v h c key' in
      let m = host_at v h in
      let dead = slot_key from in
      let n = with_claim y dead m in
      let block = slot_bytes (slots.Recovering (key dead) (key (key_at v h))) in
      let state = slot_says (slots.Recovering (key dead) (key (key_at v h))) in
      let small = host_small v.geometry y c.geometry below in
      let here = claim_is y dead m small (c.memories h).claims in
      let noted = slot_noted v.geometry h y block memory m n (locks_kept m n refl)
      (not_freed h y block (λ zero. absurd (zero_is_no_two zero state)))
      (λ z lt. claim_written y z block memory.claims m n (λ two none. some (sym here ∙ none)) (λ other. absurd (other state))
      (λ other. claim_else y dead z m other) (is.claims z lt))
      (λ joined. let apart = λ (e : h ≡ y). true≢false (sym joined ∙ out (sym e)) in
      ap (claim_of n) own.of ∙ claim_else y dead h m apart ∙ ap (claim_of m) (sym own.of) ∙ is.own joined) is in
      block_written v.geometry h (key_at v h) (kinds.Slot y) block memory below n (host_at l h) did.mine noted

  pub remembered_claim_found : (y : ℕ) (from slot : Slot) → ClaimsSlot v h y from (Ok (Found slot)) l
      → RemembersCall v h memory (claim_call v h y from) (Shows (slot_bytes slot)) l
  remembered_claim_found y from slot did = remembered_same v l h memory (claim_call v h y from) (Shows (slot_bytes slot)) is tt did.0.mine

  -- a slot of another host that the host claimed was freed; the own one was, which the host has left then; or another one was found
  pub remembered_free_claimed : (y : ℕ) → Consistent v → y < v.geometry.hosts → y ≢ h → claim_of (host_at v h) y ≢ 0
      → ClearsSlot v h y (Ok Claimed) l → RemembersCall v h memory (free_call v h y) Done l
  remembered_free_claimed y c below other claimed did =
      let m = host_at v h in
      let n = with_claim y 0 m in
      let block = slot_bytes slots.Free in
      let state = slot_says slots.Free in
      let small = host_small v.geometry y c.geometry below in
      let none = claim_is y 0 m small (c.memories h).claims in
      let freed : freeing y m ≡ n = rw (ne_eqb (claim_of m y) 0 claimed) refl in
      let noted = slot_noted v.geometry h y block memory m n (locks_kept m n refl) (other_freed h y block other)
      (λ z lt. claim_written y z block memory.claims m n (λ two. absurd (zero_is_no_two state two)) (λ else_. none)
      (λ apart. claim_else y 0 z m apart) (is.claims z lt))
      (λ joined. still_unclaimed y m none (is.own joined)) is in
      block_written v.geometry h (key_at v h) (kinds.Slot y) block memory below n (host_at l h) (did.mine ∙ freed) noted

  pub remembered_free_own : Consistent v → h < v.geometry.hosts → (host_at v h).joined ≡ true
      → ((r : Resource) → HasResource v.geometry r → holds (host_at v h) r ≡ false) → ClearsSlot v h h (Ok Claimed) l
      → RemembersCall v h memory (free_call v h h) Done l
  remembered_free_own c below joined none did =
      let own = joined_key v h c joined in
      let m = host_at v h in
      let unclaimed : claim_of m h ≡ 0 = ap (claim_of m) (sym own.of) ∙ is.own joined in
      let freed : freeing h m ≡ left m = rw (eq-eqb (claim_of m h) 0 unclaimed) refl in
      block_written v.geometry h (key_at v h) (kinds.Slot h) (slot_bytes slots.Free) memory below (left m) (host_at l h) (did.mine ∙ freed)
      (own_freed v.geometry h memory m own.known none unclaimed is)

  pub remembered_free_found : (y : ℕ) (slot : Slot) → ClearsSlot v h y (Ok (Found slot)) l
      → RemembersCall v h memory (free_call v h y) (Shows (slot_bytes slot)) l
  remembered_free_found y slot did = remembered_same v l h memory (free_call v h y) (Shows (slot_bytes slot)) is tt did.0.mine

  -- either, as it is told of the call
  freed_or_found : (y : ℕ) (done : Unit) → FreesSlot v h y (Ok done) l
      → (ClearsSlot v h y (Ok Claimed) l → RemembersCall v h memory (free_call v h y) Done l) → RemembersMade v h memory (free_call v h y) l
  freed_or_found y done did freed = elim did [
    | inl cleared ↦ (Done, cleared.acts, freed cleared)
    | inr found ↦ (Shows (slot_bytes found.0), found.1.0.acts, remembered_free_found y found.0 found.1)
  ]

  pub remembered_frees_claimed : (y : ℕ) (done : Unit) → Consistent v → y < v.geometry.hosts → y ≢ h → claim_of (host_at v h) y ≢ 0
      → FreesSlot v h y (Ok done) l → RemembersMade v h memory (free_call v h y) l
  remembered_frees_claimed y done c below other claimed did = freed_or_found y done did (remembered_free_claimed y c below other claimed)

  pub remembered_frees_own : (done : Unit) → Consistent v → h < v.geometry.hosts → (host_at v h).joined ≡ true
      → ((r : Resource) → HasResource v.geometry r → holds (host_at v h) r ≡ false) → FreesSlot v h h (Ok done) l
      → RemembersMade v h memory (free_call v h h) l
  remembered_frees_own done c below joined none did = freed_or_found h done did (remembered_free_own c below joined none)
