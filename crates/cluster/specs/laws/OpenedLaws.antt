-- What an opening gives to a cluster.
use Rattle.std.proofs.Common.{◌≡◌, ◌≢◌, inl, inr, ◌≤◌, [], Option, Some, None, refl, arith}
use Rattle.std.specs.Prelude.{IfSome}
use Rattle.vol_layout.specs.Regions.{total}
use Rattle.vol_layout.specs.declared.geometry.Geometry.{Geometry}
use Rattle.workload.specs.declared.line.Workload.{Workload}
use Rattle.shared_disk.specs.Calls.{last_counter}
use Rattle.shared_disk.specs.Prefixes.{EachImage}
use Rattle.shared_disk.specs.Seen.{DiskSeen}
use Rattle.shared_disk.specs.State.{Told}
use Rattle.shared_disk.specs.laws.PrefixLaws.{EachImage-begun}
use Rattle.volume_opening.specs.Openings.{IsOnTheWay, IsOpened, IsStillBlank, IsVisited, WasBlank}
use Rattle.volume_opening.specs.declared.open_no.OpenNo.TheVariants as refusals
use Rattle.cluster.specs.Runs.{Facts, Led}
use Rattle.cluster.specs.Starts.{HasRefused, HasStarted, IsRoomFor, first_cluster}
use Rattle.cluster.specs.declared.starting.Room.{Room}

still_blank : (told : Option Told) → IfSome told (λ t. IsStillBlank told t.image)
still_blank None = tt
still_blank (Some t) = inl refl

on_the_way : (g : Geometry) (told : Option Told) → IfSome told (λ t. IsOnTheWay g told t.image)
on_the_way g None = tt
on_the_way g (Some t) = inl refl

-- there was no memory for the run, so the device was left alone
pub refused_room : (g : Geometry) (device : DiskSeen) → HasRefused g device refusals.NoMemory device
refused_room g device = record {
  refused = EachImage-begun (IsStillBlank device.state.told) device.state.told (still_blank device.state.told);
  no_keys = λ is. absurd cc;
  keys = λ is. inr refl;
  failed = λ is. absurd cc;
  later = omega arith;
  images = EachImage-begun (IsOnTheWay g device.state.told) device.state.told (on_the_way g device.state.told);
  used = λ used. refl;
  left = inl refl;
  blocks = refl;
}

-- the device was opened, and the cluster made over it
pub has_started : (old device : DiskSeen) (w : Workload) (room : Room) → IsOpened w.geometry old.state device.state
    → total w.geometry ≤ old.state.blocks → old.state.counter ≢ last_counter → old.faults ≤ device.faults
    → EachImage (IsOnTheWay w.geometry old.state.told) old.state.told device.state.told
    → ((WasBlank old.state.told → ⊥) → device.state.told ≡ old.state.told)
    → IsVisited old.state device.state → device.state.blocks ≡ old.state.blocks
    → IsRoomFor w room → Led (first_cluster device w room) [] → Facts (first_cluster device w room)
    → HasStarted old w (first_cluster device w room)
has_started old device w room opened long keys later images used visited blocks ready run facts = record {
  opened = opened;
  long = long;
  keys = keys;
  later = later;
  images = images;
  used = used;
  visited = visited;
  blocks = blocks;
  device = refl;
  workload = refl;
  phase = refl;
  ledger = ready.ledger;
  live = refl;
  run = run;
  facts = facts;
}
