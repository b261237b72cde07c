-- Looks at a host's slot.
use Rattle.std.specs.Prelude.{◌≡◌, ◌≢◌, ◌+◌, ◌-◌, ◌^◌, ℕ, List, Option, Some, None, min, replicate, slice_index_or}
use Rattle.slot_lock_blocks.specs.declared.slot.Slot.{Slot}
use Rattle.slot_lock_blocks.specs.declared.slot.Slot.TheVariants.{Free}
use Rattle.watch.specs.declared.watch.Look.{Look}

-- nothing is remembered of any of the 16 hosts
unfoldable pub nothing : List (Option Look)
nothing = replicate 16 None

-- what is remembered of a host
abbrev pub look_at : List (Option Look) → ℕ → Option Look
look_at looks host = slice_index_or looks host None

-- how often in a row a slot was seen as it is remembered
abbrev pub count_of : Option Look → ℕ
count_of None = 0
count_of (Some look) = look.count

-- a slot that was seen so often in a row
abbrev pub seen : Slot → ℕ → Option Look
seen slot n = Some (record { slot = slot; count = n })

-- what is remembered after a slot was seen: a free one is forgotten, one that is remembered was seen once
-- more, where the count stands still at its type's end, and any other was seen once
pub record IsLook (slot : Slot) (before after : Option Look) : Type 0 where
  pub free : slot ≡ Free → after ≡ None
  pub same : (n : ℕ) → slot ≢ Free → before ≡ seen slot n → after ≡ seen slot (min (n + 1) (2 ^ 32 - 1))
  pub other : slot ≢ Free → ((n : ℕ) → before ≢ seen slot n) → after ≡ seen slot 1
