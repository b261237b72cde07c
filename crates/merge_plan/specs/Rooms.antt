-- What a merge has read and counted, between two of its steps.
use Rattle.std.specs.Prelude.{◌≡◌, ◌<◌, ◌≤◌, ℕ, List, [], Some, length, replicate, slice_get, false, true}
use Rattle.std.specs.List.Sorted.{IsSortedByKey}
use Rattle.vol_layout.specs.declared.geometry.Geometry.{Geometry}
use Rattle.merge_shelves.specs.Parts.{blocks_of, shelves}
use Rattle.merge_shelves.specs.Rooms.{key_cmp, sort_key}
use Rattle.merge_shelves.specs.Tallies.{total}
use Rattle.merge_shelves.specs.declared.room.Noted.{Noted}
use Rattle.host_facts.specs.Views.{WorldView}
use Rattle.merge_steps.specs.Sweeps.{IsHere, IsOfHost, IsSweeping}
use Rattle.merge_plan.specs.declared.room.MergeRoom.{MergeRoom}

-- nothing was read
pub record IsCleared (g : Geometry) (room : MergeRoom) : Type 0 where
  pub logs : room.logs ≡ []
  pub filled : room.filled ≡ replicate 16 false
  pub read : room.read ≡ []
  pub at : room.sweep.at ≡ 0
  pub counts : total room.sweep.counts ≡ 0
  pub shelf : room.sweep.shelf.geometry ≡ g

-- one of the own log blocks had an entry
abbrev pub HasFilled : Geometry → MergeRoom → Type 0
HasFilled g room = (l : ℕ) × (l < g.logs) × (slice_get room.filled l ≡ Some true)

-- an entry up to this place is of the shelf
pub record IsMet (v : WorldView) (logs : List Noted) (shelf at : ℕ) : Type 0 where
  pub place : ℕ
  pub noted : Noted
  pub before : place ≤ at
  pub here : IsHere v logs shelf place noted

-- the blocks of a shelf of the volume were read, to which an entry belongs that has come up
pub record IsOpen (v : WorldView) (room : MergeRoom) (shelf : ℕ) : Type 0 where
  pub below : shelf < shelves v.locks.geometry
  pub read : length room.read ≡ blocks_of v.locks.geometry shelf
  pub blocks : room.sweep.shelf.blocks ≡ blocks_of v.locks.geometry shelf
  pub met : IsMet v room.logs shelf room.sweep.at

-- the next entry is of this shelf, and so
abbrev pub IsNext : WorldView → ℕ → MergeRoom → ℕ → (Noted → Type 0) → Type 0
IsNext v h room shelf So = (noted : Noted) × IsHere v room.logs shelf room.sweep.at noted × So noted

-- all own log blocks were read, and their entries sorted, some of which are handled
pub record IsSorted (v : WorldView) (h : ℕ) (room : MergeRoom) : Type 0 where
  pub of : IsOfHost v h room.logs
  pub sorted : IsSortedByKey (sort_key (shelves v.locks.geometry)) key_cmp room.logs
  pub sweep : IsSweeping v room.logs room.sweep
  pub filled : HasFilled v.locks.geometry room
  pub marks : length room.filled ≡ 16
