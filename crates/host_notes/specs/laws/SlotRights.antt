-- Each call at a slot is one that its turn may make, and writes what a host may write there.
use Rattle.std.proofs.Common.{◌≡◌, ◌≢◌, ◌⊎◌, ◌<◌, ◌%◌, ◌^◌, ℕ, true, refl, ap, sym, ◌∙◌, inl, inr, arith}
use Rattle.std.proofs.lemmas.Bool.{ne_eqb}
use Rattle.vol_base.specs.declared.command.Command.TheVariants.{Recover}
use Rattle.vol_layout.specs.declared.kind.Kind.TheVariants as kinds
use Rattle.shared_disk.specs.Events.{Reply, event}
use Rattle.slot_lock_blocks.specs.declared.slot.Slot.{Slot}
use Rattle.slot_lock_blocks.specs.declared.slot.Slot.TheVariants as slots
use Rattle.slot_lock_blocks.specs.Slots.{IsSlot, slot_bytes, slot_key}
use Rattle.lock_store.specs.Memories.{claim_of}
use Rattle.lock_store.specs.SlotTries.{IsOfHost}
use Rattle.lock_store.specs.Views.{LocksView, host_at, key_at}
use Rattle.disk_locks.specs.Calls.{key, next_beat, slot_of}
use Rattle.disk_locks.specs.Consistent.{Consistent}
use Rattle.host_runs.specs.Moments.{Moment}
use Rattle.host_runs.specs.Words.{state_in}
use Rattle.host_notes.specs.Allowed.{IsAllowed, IsTurnOf}
use Rattle.host_notes.specs.Asked.{beat_call, claim_call, enter_call, free_call}
use Rattle.host_notes.specs.lemmas.CallMarks.{test_allowed, write_allowed}
use Rattle.host_notes.specs.lemmas.OwnKeys.{joined_key, own_key}
use Rattle.host_notes.specs.lemmas.Words.{live_not_free, slot_says, slot_shows, zero_is_no_two}

beat_small : (beat : ℕ) → next_beat beat < 2 ^ 64
beat_small beat = omega arith

-- a slot that shows a key is not free
shown_not_free : (slot : Slot) → slot_key slot ≢ 0 → state_in (slot_bytes slot) ≢ 0
shown_not_free slots.Free some = absurd (some refl)
shown_not_free (slots.Live key beat) some = live_not_free (slots.Live key beat) refl
shown_not_free (slots.Recovering key by) some = λ free. zero_is_no_two free (slot_says (slots.Recovering key by))

module _ (v : LocksView) (h : ℕ) (m : Moment) (turn : IsTurnOf v h m) (c : Consistent v) where
  own_or_recovered : (y : ℕ) → (y ≡ h) ⊎ (m.command ≡ Recover y) → (y ≡ m.host) ⊎ (m.command ≡ Recover y)
  own_or_recovered y of = elim of [ inl own ↦ inl (own ∙ sym turn.host) | inr recovers ↦ inr recovers ]

  -- to show the next beat, and to enter the own slot
  pub allowed_beat : (reply : Reply) → h < v.geometry.hosts → (host_at v h).joined ≡ true
      → IsAllowed m (event (key_at v h) (beat_call v h) reply)
  allowed_beat reply below joined =
      let own = joined_key v h c joined in
      let slot = slots.Live (key (key_at v h)) (next_beat (host_at v h).beat) in
      let small = beat_small (host_at v h).beat in
      write_allowed v h m turn (kinds.Slot h) below reply (slot_bytes slot)
      (sym turn.host, inr (slot_says slot, slot_shows slot (own.is, small)))

  pub allowed_enter : (from : Slot) (reply : Reply) → h < v.geometry.hosts → key_at v h ≢ 0
      → IsAllowed m (event (key_at v h) (enter_call v h from) reply)
  allowed_enter from reply below key' =
      let own = own_key v h c key' in
      let slot = slots.Live (key (key_at v h)) 0 in
      test_allowed v h m turn (kinds.Slot h) below reply (slot_bytes from) (slot_bytes slot) (inl (sym turn.host))
      (inl (sym turn.host, slot_says slot, slot_shows slot (own.is, omega arith)))

  -- to claim a slot that shows another key, the own one or that which is to be recovered
  pub allowed_claim : (y : ℕ) (from : Slot) (reply : Reply) → y < v.geometry.hosts → key_at v h ≢ 0 → IsSlot from → slot_key from ≢ 0
      → slot_key from ≢ key_at v h → (y ≡ h) ⊎ (m.command ≡ Recover y)
      → IsAllowed m (event (key_at v h) (claim_call v h y from) reply)
  allowed_claim y from reply below key' slot some other of =
      let to = slots.Recovering (key (slot_key from)) (key (key_at v h)) in
      let shown = slot_shows from slot in
      test_allowed v h m turn (kinds.Slot y) below reply (slot_bytes from) (slot_bytes to) (own_or_recovered y of)
      (inr (inl (slot_says to, shown_not_free from some, λ e. other (sym shown ∙ e))))

  -- the key of another host's slot is not the own one
  pub other_key : (y : ℕ) (from : Slot) → key_at v h ≢ 0 → y ≢ h → IsOfHost y from → slot_key from ≢ key_at v h
  other_key y from key' other of =
      let own = own_key v h c key' in
      λ same. let some : slot_key from ≢ 0 = λ none. key' (sym same ∙ none) in
      other (sym (of some) ∙ ap (λ n. n % 16) same ∙ own.of)

  -- to free a claimed slot, the own one or that which is to be recovered; and to leave the own slot
  pub allowed_free_claimed : (y : ℕ) (reply : Reply) → y < v.geometry.hosts → claim_of (host_at v h) y ≢ 0
      → (y ≡ h) ⊎ (m.command ≡ Recover y) → IsAllowed m (event (key_at v h) (free_call v h y) reply)
  allowed_free_claimed y reply below claimed of =
      let slot = slots.Recovering (key (claim_of (host_at v h) y)) (key (key_at v h)) in
      let known : slot_of (host_at v h) y ≡ slot = rw (ne_eqb (claim_of (host_at v h) y) 0 claimed) refl in
      test_allowed v h m turn (kinds.Slot y) below reply (slot_bytes (slot_of (host_at v h) y)) (slot_bytes slots.Free)
      (own_or_recovered y of)
      (inr (inr (slot_says slots.Free, inr (ap (λ s. state_in (slot_bytes s)) known ∙ slot_says slot))))

  pub allowed_free_own : (reply : Reply) → h < v.geometry.hosts → IsAllowed m (event (key_at v h) (free_call v h h) reply)
  allowed_free_own reply below =
      test_allowed v h m turn (kinds.Slot h) below reply (slot_bytes (slot_of (host_at v h) h)) (slot_bytes slots.Free)
      (inl (sym turn.host)) (inr (inr (slot_says slots.Free, inl (sym turn.host))))
