-- The look at a live slot by hand: what it shows is that slot alone, and the answer counts it once more.
use Rattle.std.proofs.Common.{◌≡◌, ℕ, List, ap, sym, ◌∙◌, arith}
use Rattle.vol_base.specs.declared.block.Key.{Key}
use Rattle.slot_lock_blocks.specs.Slots.{SpellsSlot}
use Rattle.slot_lock_blocks.specs.declared.slot.Slot.{Slot}
use Rattle.slot_lock_blocks.specs.declared.slot.Slot.TheVariants as slots
use Rattle.slot_lock_blocks.specs.laws.SlotLaws.{slot_numbers}
use Rattle.host_runs.specs.laws.EnterLaws.{same_key}

-- a block that spells a live slot spells no other
pub only_live : (slot : Slot) (key : Key) (beat : ℕ) (block : List ℕ) → SpellsSlot block slot → SpellsSlot block (slots.Live key beat)
    → slot ≡ slots.Live key beat
only_live slots.Free key beat block one two =
    let a = (slot_numbers block slots.Free one).state in
    let b = (slot_numbers block (slots.Live key beat) two).state in
    absurd (omega (arith, a, b))
only_live (slots.Live k n) key beat block one two =
    let a = slot_numbers block (slots.Live k n) one in
    let b = slot_numbers block (slots.Live key beat) two in
    ap (λ (x : Key). let s : Slot = slots.Live x n in s) (same_key k key (sym a.key ∙ b.key))
    ∙ ap (λ (x : ℕ). let s : Slot = slots.Live key x in s) (sym a.second ∙ b.second)
only_live (slots.Recovering k by) key beat block one two =
    let a = (slot_numbers block (slots.Recovering k by) one).state in
    let b = (slot_numbers block (slots.Live key beat) two).state in
    absurd (omega (arith, a, b))
