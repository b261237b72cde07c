-- The entries of a shelf that are handled without a device call.
use Rattle.std.specs.Prelude.{◌≡◌, ◌+◌, ◌<◌, ◌≤◌, ℕ, zero, suc, All, List, None, Option, Some, false, length, slice_get, true}
use Rattle.vol_layout.specs.declared.kind.Resource.TheVariants.{File}
use Rattle.hint_blocks.specs.Entries.{IsLogEntry}
use Rattle.lock_store.specs.Memories.{holds}
use Rattle.lock_store.specs.Views.{host_at}
use Rattle.merge_decide.specs.Decision.{decision}
use Rattle.merge_decide.specs.declared.action.Action.TheVariants.{Post}
use Rattle.merge_shelves.specs.Handlings.{IsPassed}
use Rattle.merge_shelves.specs.Parts.{shelf_of, shelves}
use Rattle.merge_shelves.specs.Tallies.{total}
use Rattle.merge_shelves.specs.declared.room.Noted.{Noted}
use Rattle.sorted_shard.specs.Shelves.{with_digest}
use Rattle.host_facts.specs.Views.{WorldView}
use Rattle.merge_steps.specs.declared.sweep.Due.{Due}
use Rattle.merge_steps.specs.declared.sweep.Due.TheVariants as dues
use Rattle.merge_steps.specs.declared.sweep.Sweep.{Sweep}

-- a host of the volume, with entries in range
pub record IsOfHost (v : WorldView) (h : ℕ) (room : List Noted) : Type 0 where
  pub host : h < v.locks.geometry.hosts
  pub entries : All (λ noted. IsLogEntry v.locks.geometry noted.entry) room
  pub few : length room ≤ 2016

-- the counts add up to the entries that are done
pub record IsSweeping (v : WorldView) (room : List Noted) (s : Sweep) : Type 0 where
  pub geometry : s.shelf.geometry ≡ v.locks.geometry
  pub done : total s.counts ≡ s.at
  pub within : s.at ≤ length room

-- the next entry is of this shelf
pub record IsHere (v : WorldView) (room : List Noted) (number at : ℕ) (noted : Noted) : Type 0 where
  pub next : slice_get room at ≡ Some noted
  pub shelf : shelf_of (shelves v.locks.geometry) noted.entry.digest.0 ≡ number

abbrev pub IsHeld : WorldView → ℕ → Noted → Type 0
IsHeld v h noted = holds (host_at v.locks h) (File noted.entry.file) ≡ true

abbrev pub IsFree : WorldView → ℕ → Noted → Type 0
IsFree v h noted = holds (host_at v.locks h) (File noted.entry.file) ≡ false

-- what the next entry asks for
abbrev pub IsDue : WorldView → ℕ → List Noted → ℕ → Sweep → Due → Type 0
IsDue v h room number s dues.Looks = (noted : Noted) × IsHere v room number s.at noted × IsHeld v h noted
IsDue v h room number s (dues.Posts slot) =
    (noted : Noted) × IsHere v room number s.at noted × IsFree v h noted
    × (decision noted.entry false None (with_digest noted.entry.digest.0 s.shelf.entries) ≡ Post slot)
IsDue v h room number s dues.Ends = (noted : Noted) → IsHere v room number s.at noted → ⊥

-- one entry was handled, of a file that is not held
pub record IsOne (v : WorldView) (h : ℕ) (room : List Noted) (number : ℕ) (old new : Sweep) : Type 0 where
  pub noted : Noted
  pub here : IsHere v room number old.at noted
  pub free : IsFree v h noted
  pub passed : IsPassed None noted.entry old.shelf new.shelf old.counts new.counts
  pub at : new.at ≡ old.at + 1

abbrev pub HasPassed : WorldView → ℕ → List Noted → ℕ → Sweep → Sweep → Option Due → Type 0
HasPassed v h room number old new None = IsOne v h room number old new
HasPassed v h room number old new (Some due) = (new ≡ old) × IsDue v h room number old due

-- so many were handled, one after the other
abbrev pub ArePassed : WorldView → ℕ → List Noted → ℕ → Sweep → ℕ → Sweep → Type 0
ArePassed v h room number begin zero now = now ≡ begin
ArePassed v h room number begin (suc k) now =
    (before : Sweep) × ArePassed v h room number begin k before × IsOne v h room number before now
