use Rattle.std.proofs.Common.{◌≡◌, ◌*◌, ◌≤◌}
use Rattle.shared_disk.specs.State.{OnImages}
use Rattle.indexmap.specs.IndexMap.{index_map_len}
use Rattle.settle.specs.Gathered.{IsTable, spot_at}
use Rattle.settle.specs.Rows.{IsRun}
use Rattle.settle.specs.Passes.{GoesOn}
use Rattle.settle.proofs.settling.settle_files.Given as goal

-- the files below the number were settled
abbrev pub invariant-loop-file : goal.invariant-loop-file
invariant-loop-file g l = record {
  run : OnImages (IsRun l.fn.geometry l.file (spot_at l.found.spots) l.live (g.L.Lone.answered l.initial.lone) (g.L.Lone.answered l.lone))
      (g.L.Lone.told l.initial.lone) (g.L.Lone.told l.lone);
  table : IsTable l.fn.geometry (spot_at l.found.spots);
  few : l.live ≤ 16128 * l.file;
  len : index_map_len l.found.spots ≤ 16128 * l.file;
  volume : g.L.Lone.volume l.lone ≡ l.fn.geometry;
  on : GoesOn (g.L.Lone.counter l.initial.lone) (g.L.Lone.counter l.lone) (g.L.Lone.told l.initial.lone) (g.L.Lone.told l.lone);
  began : g.L.Lone.began l.lone ≡ g.L.Lone.began l.initial.lone;
}
