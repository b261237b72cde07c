-- What a host remembers of slots, without a world.
use Rattle.std.specs.Prelude.{◌≡◌, ◌≢◌, ◌<◌, ◌%◌, ◌^◌, ℕ, List, Option, Some}
use Rattle.slot_lock_blocks.specs.Slots.{slot_key, slot_second, slot_state}
use Rattle.watch.specs.declared.watch.Look.{Look}
use Rattle.watch.specs.Looks.{look_at}

-- each slot that a host of three remembers is spelled, not free, and of its host
abbrev pub AreSeen : List (Option Look) → Type 0
AreSeen watch =
    (of : ℕ) (look : Look) → of < 3 → look_at watch of ≡ Some look
    → (slot_key look.slot ≢ 0) × (slot_key look.slot < 2 ^ 64) × (slot_key look.slot % 16 ≡ of) × (slot_second look.slot < 2 ^ 64)
    × (slot_state look.slot ≡ 2 → slot_second look.slot ≢ 0)
