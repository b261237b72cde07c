-- The beginning of a cluster.
use Rattle.std.specs.Prelude.{All, ◌≡◌, ◌≢◌, ◌⊎◌, ◌<◌, ◌≤◌, ◌*◌, ◌^◌, ℕ, List, [], None, Option, false, length, replicate, slice_index_or}
use Rattle.vol_base.specs.Faults.{Rose}
use Rattle.vol_layout.specs.Regions.{total}
use Rattle.vol_layout.specs.declared.geometry.Geometry.{Geometry}
use Rattle.vol_layout.specs.declared.kind.Table.{Table}
use Rattle.workload.specs.declared.line.Line.{Line}
use Rattle.workload.specs.declared.line.Workload.{Workload}
use Rattle.held_cache.specs.Kept.{kept_at}
use Rattle.lock_store.specs.Memories.{dropped}
use Rattle.shared_disk.specs.Calls.{last_counter}
use Rattle.shared_disk.specs.Prefixes.{EachImage}
use Rattle.shared_disk.specs.Seen.{DiskSeen}
use Rattle.volume_opening.specs.Openings.{IsOnTheWay, IsOpened, IsVisited, WasBlank}
use Rattle.volume_opening.specs.Refusals.{IsLeft, IsRefused}
use Rattle.volume_opening.specs.declared.open_no.OpenNo.{OpenNo}
use Rattle.volume_opening.specs.declared.open_no.OpenNo.TheVariants as refusals
use Rattle.cluster.specs.Parts.{IsOpenFrom}
use Rattle.cluster.specs.Runs.{Facts, Led}
use Rattle.cluster.specs.LinesLeft.{lines_left}
use Rattle.cluster.specs.Views.{BudgetView, ClusterView, LedgerView, PartsView, IsFirstSeat, disk_of}
use Rattle.cluster.specs.declared.starting.Room.{Room}

-- each host is at its first line
pub record AreFirst (lines : List Line) (hosts : ℕ) (heads : List (Option ℕ)) : Type 0 where
  pub long : length heads ≡ hosts
  pub each : (h : ℕ) → h < hosts → IsOpenFrom lines 0 h (slice_index_or heads h None)

-- no line has an answer
abbrev pub unanswered : Workload → LedgerView
unanswered w = record { answers = replicate (length w.lines) None; history = []; events = [] }

-- the memory of a run of this workload, before its first turn
pub record IsRoomFor (w : Workload) (room : Room) : Type 0 where
  pub ledger : room.ledger ≡ unanswered w
  pub volume : room.cache.volume ≡ w.geometry
  pub nothing : (host : ℕ) (which : Table) → kept_at room.cache host which ≡ None
  pub heads : AreFirst w.lines w.geometry.hosts room.heads.items
  pub hosts : length room.seats.items ≡ w.geometry.hosts
  pub seats : All (IsFirstSeat w.geometry) room.seats.items
  pub budget : room.budget ≡ record { used = replicate w.geometry.hosts 0; left = 0 }

-- the parts and the cluster before the first turn
abbrev pub first_parts : DiskSeen → Workload → Room → PartsView
first_parts device w room =
    record {
      world = record { locks = record { disk = device; geometry = w.geometry; hosts = replicate 16 dropped }; standing = replicate 16 None };
      cache = room.cache;
      workload = w;
      phase = 0;
      ledger = room.ledger;
      heads = room.heads.items;
      seats = room.seats.items;
    }

-- all turns of the first phase are left
abbrev pub first_budget : Workload → Room → BudgetView
first_budget w room = record room.budget { left = lines_left w.lines room.ledger.answers 0 * 2 ^ 28 }

abbrev pub first_cluster : DiskSeen → Workload → Room → ClusterView
first_cluster device w room =
    record { began = device; spent = false; parts = first_parts device w room; budget = first_budget w room }

-- a cluster has started: its device was opened, and it is before its first turn
pub record HasStarted (old : DiskSeen) (w : Workload) (c : ClusterView) : Type 0 where
  pub opened : IsOpened w.geometry old.state c.began.state
  pub long : total w.geometry ≤ old.state.blocks
  pub keys : old.state.counter ≢ last_counter
  pub later : old.faults ≤ c.began.faults
  pub images : EachImage (IsOnTheWay w.geometry old.state.told) old.state.told c.began.state.told
  pub used : (WasBlank old.state.told → ⊥) → c.began.state.told ≡ old.state.told
  pub visited : IsVisited old.state c.began.state
  pub blocks : c.began.state.blocks ≡ old.state.blocks
  pub device : disk_of c.parts ≡ c.began
  pub workload : c.parts.workload ≡ w
  pub phase : c.parts.phase ≡ 0
  pub ledger : c.parts.ledger ≡ unanswered w
  pub live : c.spent ≡ false
  pub run : Led c []
  pub facts : Facts c

-- a device was not opened. Memory is asked for before its first call
pub record HasRefused (g : Geometry) (old : DiskSeen) (no : OpenNo) (new : DiskSeen) : Type 0 where
  pub refused : IsRefused g old.state new.state no
  pub no_keys : no ≡ refusals.NoKeys → old.state.counter ≡ last_counter
  pub keys : old.state.counter ≡ last_counter → (no ≡ refusals.NoKeys) ⊎ (no ≡ refusals.NoMemory)
  pub failed : no ≡ refusals.Failed → Rose old.faults new.faults
  pub later : old.faults ≤ new.faults
  pub images : EachImage (IsOnTheWay g old.state.told) old.state.told new.state.told
  pub used : (WasBlank old.state.told → ⊥) → new.state.told ≡ old.state.told
  pub left : IsLeft old.state new.state no
  pub blocks : new.state.blocks ≡ old.state.blocks
