-- Any write of a slot, as a step.
use Rattle.std.proofs.Common.{◌≡◌, ◌≢◌, ◌⊎◌, ◌<◌, ℕ, List, refl, sym, ap, ◌∙◌, subst, inl, inr}
use Rattle.std.specs.Prelude.{Contains}
use Rattle.vol_base.specs.Bytes.{u32_at, u64_at}
use Rattle.vol_layout.specs.declared.kind.Kind.{Kind}
use Rattle.vol_layout.specs.declared.kind.Kind.TheVariants as kinds
use Rattle.vol_layout.specs.Ranges.{HasKind}
use Rattle.slot_lock_blocks.specs.declared.slot.Slot.{Slot}
use Rattle.slot_lock_blocks.specs.Slots.{IsSlot, slot_bytes, slot_key, slot_state}
use Rattle.image_view.specs.HostKeys.{slot_key_at, slot_state_at}
use Rattle.image_view.specs.Images.{Image, block_at, written}
use Rattle.image_view.specs.Spelled.{IsSlotOf}
use Rattle.image_view.specs.laws.FrameLaws.{block_at-written}
use Rattle.lock_store.specs.declared.host.HostState.{HostState}
use Rattle.lock_store.specs.Memories.{claim_of}
use Rattle.lock_store.specs.SlotTries.{slot_by}
use Rattle.lock_store.specs.Views.{LocksView, counter_of, host_at, key_at, keys_of}
use Rattle.disk_locks.specs.Agreement.{BlockAgrees, SlotAgrees, by_in, shown_in}
use Rattle.disk_locks.specs.Freeing.{IsUnneeded}
use Rattle.disk_locks.specs.laws.GivenLaws.{slot_places}
use Rattle.disk_locks.proofs.Ground.{Ground, keys_apart, live_shown}
use Rattle.disk_locks.proofs.Steps.{StepImage}
use Rattle.disk_locks.proofs.ValidHost.{valid_slot}
use Rattle.disk_locks.proofs.Written.{fades_kept, keeps_host, written_step}

-- what a write of slot y from one content to another owes: it shows nothing, the own key or what it showed, has no `by` or the own
-- key, and came from no other registered host's `by` and, where it is another host's, from no registered key, and is free where it was
-- so; its key stays, or nothing needed it; and the host's memory says the same of the slot
pub record SlotMoves (v : LocksView) (h : ℕ) (m : HostState) (y : ℕ) (from to : Slot) (image : Image) : Type 0 where
  pub slot : IsSlot from
  pub of : IsSlotOf (counter_of v) y (slot_bytes to)
  pub to_slot : IsSlot to
  pub shown : (slot_key to ≡ 0) ⊎ ((slot_key to ≡ key_at v h) ⊎ (slot_key to ≡ slot_key from))
  pub by : (slot_by to ≡ 0) ⊎ (slot_by to ≡ key_at v h)
  pub by_before : (slot_by from ≡ 0) ⊎ ((slot_by from ≡ key_at v h) ⊎ (Contains (keys_of v) (slot_by from) → ⊥))
  pub shown_before : (y ≡ h) ⊎ (Contains (keys_of v) (slot_key from) → ⊥)
  pub stays_free : y ≢ h → slot_state from ≡ 0 → slot_state to ≡ 0
  pub needed : (slot_key to ≡ slot_key from) ⊎ IsUnneeded v.geometry image y
  pub own : SlotAgrees (keys_of v) h m y (slot_bytes to)
  pub frame : (other : Kind) → HasKind v.geometry other → other ≢ kinds.Slot y
      → BlockAgrees (keys_of v) h (host_at v h) other (block_at v.geometry image other) → BlockAgrees (keys_of v) h m other (block_at v.geometry image other)

module _ (v : LocksView) (h : ℕ) (m : HostState) (y : ℕ) (from to : Slot) (image : Image) (ground : Ground v h image)
    (has : y < v.geometry.hosts) (stands : block_at v.geometry image (kinds.Slot y) ≡ slot_bytes from)
    (moves : SlotMoves v h m y from to image) where
  shown_was : shown_in (block_at v.geometry image (kinds.Slot y)) ≡ slot_key from
  shown_was = ap shown_in stands ∙ (slot_places (slot_bytes from) from (moves.slot, refl)).shown

  by_was : by_in (block_at v.geometry image (kinds.Slot y)) ≡ slot_by from
  by_was = ap by_in stands ∙ (slot_places (slot_bytes from) from (moves.slot, refl)).by

  -- another host that is registered did not claim the slot
  unclaimed : (x : ℕ) → x ≢ h → key_at v x ≢ 0 → Contains (keys_of v) (key_at v x) → claim_of (host_at v x) y ≢ 0 → ⊥
  unclaimed x ne named here claim =
      let old = ground.agrees.agree x named (kinds.Slot y) has in
      let its : slot_by from ≡ key_at v x = sym by_was ∙ (old.by here claim).0 in
      elim moves.by_before [
        | inl none ↦ named (sym its ∙ none)
        | inr rest ↦ elim rest [
          | inl mine ↦ keys_apart v h x ground.memories ground.some named ne (sym its ∙ mine)
          | inr off ↦ off (subst (λ k. Contains (keys_of v) k) (sym its) here)
        ]
      ]

  -- what another host has in memory of the slot stays true
  other_slot : (x : ℕ) → x ≢ h → key_at v x ≢ 0 → SlotAgrees (keys_of v) x (host_at v x) y (slot_bytes to)
  other_slot x ne named =
      let apart = keys_apart v h x ground.memories ground.some named ne in
      let old = ground.agrees.agree x named (kinds.Slot y) has in
      let now = slot_places (slot_bytes to) to (moves.to_slot, refl) in
      record {
        mine = λ e. elim moves.shown [
          | inl none ↦ absurd (named (sym e ∙ now.shown ∙ none))
          | inr rest ↦ elim rest [
            | inl mine ↦ absurd (apart (sym e ∙ now.shown ∙ mine))
            | inr same ↦ old.mine (shown_was ∙ sym same ∙ sym now.shown ∙ e)
          ]
        ];
        by_mine = λ e. elim moves.by [
          | inl none ↦ absurd (named (sym e ∙ now.by ∙ none))
          | inr mine ↦ absurd (apart (sym e ∙ now.by ∙ mine))
        ];
        live = λ here joined own. absurd (elim moves.shown_before [
          | inl mine ↦ ne (sym own ∙ mine)
          | inr off ↦
              let shown = live_shown (block_at v.geometry image (kinds.Slot y)) (key_at v x) named (old.live here joined own).0 in
              off (subst (λ k. Contains (keys_of v) k) (sym shown ∙ shown_was) here)
        ]);
        by = λ here claim. absurd (unclaimed x ne named here claim);
        dead = λ here claim. absurd (unclaimed x ne named here claim);
      }

  needed_key : (u64_at (slot_bytes to) 16 ≡ slot_key_at v.geometry image y) ⊎ IsUnneeded v.geometry image y
  unfolding slot_key_at
  needed_key = elim moves.needed [
    | inl same ↦ inl ((slot_places (slot_bytes to) to (moves.to_slot, refl)).shown ∙ same ∙ sym shown_was)
    | inr un ↦ inr un
  ]

  -- the slot of another host is free where it was
  free_slot : (x : ℕ) → x ≢ h → x ≡ y → slot_state_at v.geometry image x ≡ 0
      → slot_state_at v.geometry (written v.geometry image (kinds.Slot y) (slot_bytes to)) x ≡ 0
  unfolding slot_state_at
  free_slot x ne e free =
      let new = written v.geometry image (kinds.Slot y) (slot_bytes to) in
      let state = λ (b : List ℕ). u32_at b 8 in
      let was : slot_state from ≡ 0 = sym (slot_places (slot_bytes from) from (moves.slot, refl)).state ∙ ap state (sym stands)
      ∙ ap (λ k. u32_at (block_at v.geometry image (kinds.Slot k)) 8) (sym e) ∙ free in
      let now : block_at v.geometry new (kinds.Slot x) ≡ slot_bytes to = ap (λ k. block_at v.geometry new (kinds.Slot k)) e
      ∙ block_at-written v.geometry image (kinds.Slot y) (slot_bytes to) has ground.agrees.valid.long in
      ap state now ∙ (slot_places (slot_bytes to) to (moves.to_slot, refl)).state ∙ moves.stays_free (λ own. ne (e ∙ own)) was

  pub slot_step : StepImage v.geometry v.disk.state (counter_of v) (keys_of v) v.hosts h m image (written v.geometry image (kinds.Slot y) (slot_bytes to))
  slot_step = written_step v.geometry v.disk.state (counter_of v) (keys_of v) v.hosts h m (kinds.Slot y) (slot_bytes to) image has ground.agrees ground.some (record {
    valid = valid_slot v.geometry (counter_of v) image y (slot_bytes to) ground.agrees.valid has moves.of needed_key;
    own = moves.own;
    frame = moves.frame;
    agree = other_slot;
    keeps = λ x ne named here. keeps_host v.geometry (counter_of v) x (host_at v x) (kinds.Slot y) (slot_bytes to) image ground.agrees.valid tt has
        ((ground.memories x).named named).0 (λ z below claim same. unclaimed x ne named here (λ none. claim (ap (claim_of (host_at v x)) (slot_of_kind z same) ∙ none)))
        (λ same. free_slot x ne (slot_of_kind x same));
    fades = fades_kept v.geometry v.disk.state image (kinds.Slot y) (slot_bytes to) has (λ r e. cc);
  })
    where
      slot_of_kind : (z : ℕ) → kinds.Slot z ≡ kinds.Slot y → z ≡ y
      slot_of_kind z e = cc
