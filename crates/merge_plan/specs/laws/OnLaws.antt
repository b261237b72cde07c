-- What a merge has read stands behind a call that keeps its host's files, and over the calls of other hosts.
use Rattle.std.proofs.Common.{◌≡◌, ◌<◌, ◌∙◌, ℕ, List, Some, ap, subst, sym}
use Rattle.std.specs.Prelude.{All}
use Rattle.std.specs.List.Sorted.{IsSortedByKey}
use Rattle.vol_layout.specs.declared.geometry.Geometry.{Geometry}
use Rattle.hint_blocks.specs.Entries.{IsLogEntry}
use Rattle.host_facts.specs.Views.{WorldView}
use Rattle.merge_shelves.specs.Changes.{IsNextChanged}
use Rattle.merge_steps.specs.declared.sweep.Sweep.{Sweep}
use Rattle.merge_shelves.specs.Parts.{blocks_of, shelf_of, shelves}
use Rattle.merge_shelves.specs.Rooms.{key_cmp, sort_key}
use Rattle.merge_shelves.specs.declared.room.Noted.{Noted}
use Rattle.merge_steps.specs.Sweeps.{IsHeld, IsHere, IsOfHost, IsSweeping}
use Rattle.share_plans.specs.Closings.{KeepsHolds}
use Rattle.merge_plan.specs.Plans.{IsEmptying, IsFilling, IsSwapping}
use Rattle.merge_plan.specs.Rooms.{HasFilled, IsOpen, IsSorted}
use Rattle.merge_plan.specs.declared.room.MergeRoom.{MergeRoom}

module _ (v w : WorldView) (h : ℕ) (same : w.locks.geometry ≡ v.locks.geometry) where
  abbrev g : Geometry
  g = v.locks.geometry

  pub of_on : (room : List Noted) → IsOfHost v h room → IsOfHost w h room
  of_on room of = record {
    host = subst (λ (x : Geometry). h < x.hosts) (sym same) of.host;
    entries = subst (λ (x : Geometry). All (λ noted. IsLogEntry x noted.entry) room) (sym same) of.entries;
    few = of.few;
  }

  pub sweeping_on : (room : List Noted) (s : Sweep) → IsSweeping v room s → IsSweeping w room s
  sweeping_on room s is = record { geometry = is.geometry ∙ sym same; done = is.done; within = is.within }

  pub here_on : (logs : List Noted) (shelf at : ℕ) (noted : Noted) → IsHere v logs shelf at noted → IsHere w logs shelf at noted
  here_on logs shelf at noted here = record {
    next = here.next;
    shelf = ap (λ (x : Geometry). shelf_of (shelves x) noted.entry.digest.0) same ∙ here.shelf;
  }

  pub here_back : (logs : List Noted) (shelf at : ℕ) (noted : Noted) → IsHere w logs shelf at noted → IsHere v logs shelf at noted
  here_back logs shelf at noted here = record {
    next = here.next;
    shelf = ap (λ (x : Geometry). shelf_of (shelves x) noted.entry.digest.0) (sym same) ∙ here.shelf;
  }

  pub sorted_on : (room : MergeRoom) → IsSorted v h room → IsSorted w h room
  sorted_on room is = record {
    of = of_on room.logs is.of;
    sorted = subst (λ (x : Geometry). IsSortedByKey (sort_key (shelves x)) key_cmp room.logs) (sym same) is.sorted;
    sweep = sweeping_on room.logs room.sweep is.sweep;
    filled = subst (λ (x : Geometry). HasFilled x room) (sym same) is.filled;
    marks = is.marks;
  }

  pub open_on : (room : MergeRoom) (shelf : ℕ) → IsOpen v room shelf → IsOpen w room shelf
  open_on room shelf is = record {
    below = subst (λ (x : Geometry). shelf < shelves x) (sym same) is.below;
    read = is.read ∙ ap (λ (x : Geometry). blocks_of x shelf) (sym same);
    blocks = is.blocks ∙ ap (λ (x : Geometry). blocks_of x shelf) (sym same);
    met = record {
      place = is.met.place;
      noted = is.met.noted;
      before = is.met.before;
      here = here_on room.logs shelf is.met.place is.met.noted is.met.here;
    };
  }

  pub filling_on : (room : MergeRoom) (shelf k : ℕ) → IsFilling v h room shelf k → IsFilling w h room shelf k
  filling_on room shelf k is = record {
    sorted = sorted_on room is.sorted;
    below = subst (λ (x : Geometry). shelf < shelves x) (sym same) is.below;
    block = subst (λ (x : Geometry). k < blocks_of x shelf) (sym same) is.block;
    read = is.read;
    next = (is.next.0, here_on room.logs shelf room.sweep.at is.next.0 is.next.1);
  }

  pub swapping_on : (room : MergeRoom) (shelf k : ℕ) → IsSwapping v h room shelf k → IsSwapping w h room shelf k
  swapping_on room shelf k is = record {
    sorted = sorted_on room is.sorted;
    opened = open_on room shelf is.opened;
    ends = λ noted here. is.ends noted (here_back room.logs shelf room.sweep.at noted here);
    changed = subst (λ (x : Geometry). (from : ℕ) × IsNextChanged x room.read room.sweep.shelf.entries from (Some k)) (sym same) is.changed;
  }

  pub emptying_on : (room : MergeRoom) (log : ℕ) → IsEmptying v h room log → IsEmptying w h room log
  emptying_on room log is = record {
    sorted = sorted_on room is.sorted;
    done = is.done;
    below = subst (λ (x : Geometry). log < x.logs) (sym same) is.below;
    filled = is.filled;
  }

-- the host holds the file of an entry still
pub held_on : (v w : WorldView) (h : ℕ) (noted : Noted) → KeepsHolds h v w → noted.entry.file < v.locks.geometry.files → IsHeld v h noted
    → IsHeld w h noted
held_on v w h noted keeps below held = keeps.held noted.entry.file below ∙ held
