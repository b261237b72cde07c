use Rattle.std.proofs.Common.{◌≡◌, ◌≢◌, ◌+◌, ◌*◌, ◌<◌, ◌≤◌, ℕ, None}
use Rattle.std.specs.Prelude.{IfSome}
use Rattle.shared_disk.specs.State.{OnImages}
use Rattle.settle.specs.Gathered.{spot_at}
use Rattle.settle.specs.Moves.{Moves}
use Rattle.settle.specs.Reads.{IsApart}
use Rattle.settle.specs.Passes.{GoesOn}
use Rattle.settle.proofs.seeking.seek.Given as goal

-- the representatives below a number were compared with the place, and none holds what it holds
abbrev pub invariant-loop-number : goal.invariant-loop-number
invariant-loop-number g l = record {
  moves : OnImages (Moves l.fn.geometry l.fn.spot.file l.fn.spot.index) (g.L.Lone.told l.initial.lone) (g.L.Lone.told l.lone);
  apart : IfSome (g.L.Lone.told l.lone) (λ t. IsApart l.fn.geometry t.image (spot_at l.fn.found.spots) l.fn.spot.file l.fn.spot.index l.fn.digest l.number);
  passed : (m : ℕ) → m < l.number → spot_at l.fn.found.spots l.fn.digest m ≢ None;
  volume : g.L.Lone.volume l.lone ≡ l.fn.geometry;
  on : GoesOn (g.L.Lone.counter l.initial.lone) (g.L.Lone.counter l.lone) (g.L.Lone.told l.initial.lone) (g.L.Lone.told l.lone);
  began : g.L.Lone.began l.lone ≡ g.L.Lone.began l.initial.lone;
  count : g.L.Lone.answered l.lone ≤ g.L.Lone.answered l.initial.lone + 18 * l.number;
}
