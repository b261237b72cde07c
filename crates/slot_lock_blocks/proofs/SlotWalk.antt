-- A slot is what its three numbers say.
use Rattle.std.proofs.Common.{◌≡◌, ◌≢◌, ◌<◌, ℕ, List, refl, sym, ◌∙◌, arith}
use Rattle.vol_base.specs.declared.block.Key.{Key}
use Rattle.vol_base.specs.Bytes.{u32_at, u64_at}
use Rattle.slot_lock_blocks.specs.declared.slot.Slot.{Slot}
use Rattle.slot_lock_blocks.specs.declared.slot.Slot.TheVariants.{Free, Live, Recovering}
use Rattle.slot_lock_blocks.specs.Slots.{SpellsSlot}
use Rattle.slot_lock_blocks.specs.laws.SlotLaws.{slot_numbers}
use Rattle.slot_lock_blocks.proofs.KeyLaws.{same_key}

-- the numbers that were read, of a slot whose state was read
pub is_free : (bytes : List ℕ) (slot : Slot) → SpellsSlot bytes slot → u32_at bytes 8 ≡ 0 → slot ≡ Free
is_free bytes Free h zero = refl
is_free bytes (Live key beat) h zero = absurd (omega (arith, (slot_numbers bytes (Live key beat) h).state))
is_free bytes (Recovering key by) h zero = absurd (omega (arith, (slot_numbers bytes (Recovering key by) h).state))

pub is_live : (bytes : List ℕ) (slot : Slot) (key : Key) (beat : ℕ) → SpellsSlot bytes slot → u32_at bytes 8 ≡ 1 → key.0 ≡ u64_at bytes 16
    → beat ≡ u64_at bytes 24 → slot ≡ Live key beat
is_live bytes Free key beat h one k b = absurd (omega (arith, (slot_numbers bytes Free h).state))
is_live bytes (Live x n) key beat h one k b =
    let are = slot_numbers bytes (Live x n) h in
    let same : x ≡ key = same_key x key (sym (k ∙ are.key)) in
    let second : n ≡ beat = sym (b ∙ are.second) in
    cc
is_live bytes (Recovering x by) key beat h one k b = absurd (omega (arith, (slot_numbers bytes (Recovering x by) h).state))

pub is_recovering : (bytes : List ℕ) (slot : Slot) (key by : Key) → SpellsSlot bytes slot → u32_at bytes 8 ≡ 2 → key.0 ≡ u64_at bytes 16
    → by.0 ≡ u64_at bytes 24 → slot ≡ Recovering key by
is_recovering bytes Free key by h two k b = absurd (omega (arith, (slot_numbers bytes Free h).state))
is_recovering bytes (Live x n) key by h two k b = absurd (omega (arith, (slot_numbers bytes (Live x n) h).state))
is_recovering bytes (Recovering x y) key by h two k b =
    let are = slot_numbers bytes (Recovering x y) h in
    let same : x ≡ key = same_key x key (sym (k ∙ are.key)) in
    let second : y ≡ by = same_key y by (sym (b ∙ are.second)) in
    cc

-- the keys that are not 0
pub has_key : (bytes : List ℕ) (slot : Slot) → SpellsSlot bytes slot → u32_at bytes 8 ≢ 0 → u64_at bytes 16 ≢ 0
has_key bytes Free h some = absurd (some (slot_numbers bytes Free h).state)
has_key bytes (Live key beat) h some = λ none. h.0.0.0 (sym (slot_numbers bytes (Live key beat) h).key ∙ none)
has_key bytes (Recovering key by) h some = λ none. h.0.0.0 (sym (slot_numbers bytes (Recovering key by) h).key ∙ none)

pub has_by : (bytes : List ℕ) (slot : Slot) → SpellsSlot bytes slot → u32_at bytes 8 ≡ 2 → u64_at bytes 24 ≢ 0
has_by bytes Free h two = absurd (omega (arith, (slot_numbers bytes Free h).state))
has_by bytes (Live key beat) h two = absurd (omega (arith, (slot_numbers bytes (Live key beat) h).state))
has_by bytes (Recovering key by) h two = λ none. h.0.1.0 (sym (slot_numbers bytes (Recovering key by) h).second ∙ none)

pub has_state : (bytes : List ℕ) (slot : Slot) → SpellsSlot bytes slot → u32_at bytes 8 < 3
has_state bytes Free h = omega (arith, (slot_numbers bytes Free h).state)
has_state bytes (Live key beat) h = omega (arith, (slot_numbers bytes (Live key beat) h).state)
has_state bytes (Recovering key by) h = omega (arith, (slot_numbers bytes (Recovering key by) h).state)
