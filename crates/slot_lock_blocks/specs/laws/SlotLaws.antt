-- The numbers of a spelled slot are those of the slot.
use Rattle.std.proofs.Common.{◌≡◌, ◌<◌, ◌^◌, ℕ, List, ◌++◌, refl, ap, ◌∙◌, arith, append_assoc}
use Rattle.std.specs.Prelude.{codes}
use Rattle.vol_base.specs.Bytes.{bytes_of, zeros, u32_at, u64_at}
use Rattle.vol_base.specs.laws.BytesLaws.{number_at-written}
use Rattle.slot_lock_blocks.specs.declared.slot.Slot.{Slot}
use Rattle.slot_lock_blocks.specs.declared.slot.Slot.TheVariants.{Free, Live, Recovering}
use Rattle.slot_lock_blocks.specs.Keys.{header_bytes}
use Rattle.slot_lock_blocks.specs.laws.HeaderLaws.{header-state, header-key, length-header_bytes}
use Rattle.slot_lock_blocks.specs.Slots.{IsSlot, SpellsSlot, slot_bytes, slot_key, slot_second, slot_state}

small : (slot : Slot) → IsSlot slot → (slot_state slot < 3) × (slot_key slot < 256 ^ 8) × (slot_second slot < 256 ^ 8)
small Free h = (omega arith, omega arith, omega arith)
small (Live key beat) h = (omega arith, omega (arith, h.0.1), omega (arith, h.1))
small (Recovering key by) h = (omega arith, omega (arith, h.0.1), omega (arith, h.1.1))

-- what stands at each place of a slot
pub record SlotNumbers (bytes : List ℕ) (slot : Slot) : Type 0 where
  pub state : u32_at bytes 8 ≡ slot_state slot
  pub key : u64_at bytes 16 ≡ slot_key slot
  pub second : u64_at bytes 24 ≡ slot_second slot

written : (slot : Slot) → IsSlot slot → SlotNumbers (slot_bytes slot) slot
unfolding slot_bytes
written slot h =
    let s = small slot h in
    let front = header_bytes (codes "DEDESLOT") (slot_state slot) (slot_key slot) in
    let behind = append_assoc front (bytes_of 8 (slot_second slot)) (zeros 4064) in
    record {
      state = ap (λ (xs : List ℕ). u32_at xs 8) behind ∙ header-state (codes "DEDESLOT") (bytes_of 8 (slot_second slot) ++ zeros 4064) (slot_state slot) (slot_key slot) refl (omega (arith, s.0));
      key = ap (λ (xs : List ℕ). u64_at xs 16) behind ∙ header-key (codes "DEDESLOT") (bytes_of 8 (slot_second slot) ++ zeros 4064) (slot_state slot) (slot_key slot) refl s.1;
      second = number_at-written 8 (slot_second slot) 24 front (zeros 4064) (omega (arith, length-header_bytes (codes "DEDESLOT") (slot_state slot) (slot_key slot) refl)) s.2;
    }

-- the numbers of a block that spells a slot
pub slot_numbers : (bytes : List ℕ) (slot : Slot) → SpellsSlot bytes slot → SlotNumbers bytes slot
slot_numbers bytes slot h =
    let w = written slot h.0 in
    record {
      state = ap (λ (xs : List ℕ). u32_at xs 8) h.1 ∙ w.state;
      key = ap (λ (xs : List ℕ). u64_at xs 16) h.1 ∙ w.key;
      second = ap (λ (xs : List ℕ). u64_at xs 24) h.1 ∙ w.second;
    }
