use Rattle.std.specs.Prelude.{◌≡◌, ◌≢◌, ◌⊎◌, ◌+◌, ◌-◌, ◌*◌, ◌^◌, ◌++◌, ◌∷◌, [], ℕ, List, filter, min, nat_eq, not, option_map, slice_set}
use Rattle.shared_disk.specs.declared.answers.Tested.{Tested}
use Rattle.shared_disk.specs.declared.answers.Tested.TheVariants.{Swapped, Found}
use Rattle.shared_disk.specs.State.{State, Told, Stands}

-- a write sets that one block, and adds itself to the writes
abbrev pub told_after : ℕ → List ℕ → Told → Told
told_after place block told =
    record { image = slice_set told.image place block; writes = told.writes ++ (place, block) ∷ [] }

-- a write changes nothing but what the device tells of its content
abbrev pub after_write : ℕ → List ℕ → State → State
after_write place block s = record s { told = option_map (told_after place block) s.told }

-- a call wrote this block at most
abbrev pub WritesAtMost : ℕ → List ℕ → State → State → Type 0
WritesAtMost place block before after = (after ≡ before) ⊎ (after ≡ after_write place block before)

-- the counter of a device that has given all its keys, so that a key is below 2 ^ 63
abbrev pub last_counter : ℕ
last_counter = 2 ^ 59 - 1

-- the key that a host gets: the counter after its rise, times 16, and the host
abbrev pub next_key : ℕ → State → ℕ
next_key host s = (s.counter + 1) * 16 + host

-- a registration raises the counter by one, and adds the new key
abbrev pub after_register : ℕ → State → State
after_register host s = record s { keys = s.keys ++ next_key host s ∷ []; counter = s.counter + 1 }

-- a fence takes the key off, if it is registered
abbrev pub after_fence : ℕ → State → State
after_fence target s = record s { keys = filter (λ key. not (nat_eq key target)) s.keys }

-- a block is swapped exactly where it equals the old one; where it differs, it is handed out and nothing changes
abbrev pub Swaps : ℕ → List ℕ → List ℕ → State → State → Tested → Type 0
Swaps place old new before after Swapped = Stands before place old × (after ≡ after_write place new before)
Swaps place old new before after (Found block) =
    Stands before place block.0 × (block.0 ≢ old) × (after ≡ before)

-- the number of answered calls after one more, which stands still at its type's end
abbrev pub next_count : ℕ → ℕ
next_count calls = min (calls + 1) (2 ^ 64 - 1)
