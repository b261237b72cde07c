-- The key that a slot shows to a `join`, which it has to answer or goes on from.
use Rattle.std.proofs.Common.{◌≡◌, ◌≢◌, ◌%◌, ◌==◌, ℕ, None, Some, true, false, refl, arith}
use Rattle.std.proofs.lemmas.Bool.{eq-eqb, ne_eqb}
use Rattle.vol_base.specs.declared.block.Key.{Key}
use Rattle.vol_base.specs.declared.command.Command.TheVariants.{Join}
use Rattle.slot_lock_blocks.specs.declared.slot.Slot.TheVariants as slots
use Rattle.slot_lock_blocks.specs.Slots.{IsSlot, slot_bytes}
use Rattle.slot_lock_blocks.specs.laws.SlotLaws.{slot_numbers}
use Rattle.host_runs.specs.Words.{by_in, state_in}
use Rattle.host_notes.specs.lemmas.Words.{slot_says, slot_shows}
use Rattle.recover_plan.specs.RecoverNotes.{key_found}

module _ (h own : ℕ) where
  -- a free slot shows none
  pub free_shows : (k : ℕ) → key_found Join h own k slots.Free ≡ None
  free_shows k =
      let says = slot_says slots.Free in
      rw (
        ne_eqb (state_in (slot_bytes slots.Free)) 1 (λ e. omega (arith, says, e)),
        ne_eqb (state_in (slot_bytes slots.Free)) 2 (λ e. omega (arith, says, e)),
      ) refl

  module _ (key : Key) (beat : ℕ) where
    pub live_first : key_found Join h own 0 (slots.Live key beat) ≡ None
    live_first = rw (eq-eqb (state_in (slot_bytes (slots.Live key beat))) 1 (slot_says (slots.Live key beat))) refl

    pub live_again : (k : ℕ) → k ≢ 0 → IsSlot (slots.Live key beat) → key.0 ≢ own
        → key_found Join h own k (slots.Live key beat) ≡ Some key.0
    live_again k later spelled other =
        let slot = slots.Live key beat in
        rw (eq-eqb (state_in (slot_bytes slot)) 1 (slot_says slot), ne_eqb k 0 later, slot_shows slot spelled, ne_eqb key.0 own other) refl

  module _ (key by : Key) (spelled : IsSlot (slots.Recovering key by)) where
    not_one : state_in (slot_bytes (slots.Recovering key by)) ≢ 1
    not_one e = let says = slot_says (slots.Recovering key by) in absurd (omega (arith, says, e))

    by_is : by_in (slot_bytes (slots.Recovering key by)) ≡ by.0
    by_is = (slot_numbers (slot_bytes (slots.Recovering key by)) (slots.Recovering key by) (spelled, refl)).second

    pub own_first : (by.0 % 16 == h) ≡ true → key_found Join h own 0 (slots.Recovering key by) ≡ None
    own_first is =
        let slot = slots.Recovering key by in
        rw (ne_eqb (state_in (slot_bytes slot)) 1 not_one, eq-eqb (state_in (slot_bytes slot)) 2 (slot_says slot), by_is, is) refl

    pub other_first : (by.0 % 16 == h) ≡ false → by.0 ≢ own → key_found Join h own 0 (slots.Recovering key by) ≡ Some by.0
    other_first is other =
        let slot = slots.Recovering key by in
        rw (
          ne_eqb (state_in (slot_bytes slot)) 1 not_one,
          eq-eqb (state_in (slot_bytes slot)) 2 (slot_says slot),
          by_is,
          is,
          ne_eqb by.0 own other,
        ) refl

    pub by_again : (k : ℕ) → k ≢ 0 → by.0 ≢ own → key_found Join h own k (slots.Recovering key by) ≡ Some by.0
    by_again k later other =
        let slot = slots.Recovering key by in
        rw (
          ne_eqb (state_in (slot_bytes slot)) 1 not_one,
          eq-eqb (state_in (slot_bytes slot)) 2 (slot_says slot),
          ne_eqb k 0 later,
          by_is,
          ne_eqb by.0 own other,
        ) refl
