use Rattle.std.proofs.Common.{◌≡◌, ◌+◌, ◌≤◌}
use Rattle.shared_disk.specs.State.{OnImages}
use Rattle.indexmap.specs.IndexMap.{index_map_len}
use Rattle.settle.specs.Gathered.{IsTable, spot_at}
use Rattle.settle.specs.Rows.{IsRow}
use Rattle.settle.specs.Passes.{GoesOn}
use Rattle.settle.proofs.settling.settle_file.Given as goal

-- the places below the index were settled
abbrev pub invariant-loop-index : goal.invariant-loop-index
invariant-loop-index g l = record {
  row : OnImages (IsRow l.fn.geometry l.fn.file l.index (spot_at l.found.spots) l.live (g.L.Lone.answered l.initial.lone) (g.L.Lone.answered l.lone))
      (g.L.Lone.told l.initial.lone) (g.L.Lone.told l.lone);
  table : IsTable l.fn.geometry (spot_at l.found.spots);
  few : l.live ≤ l.index;
  len : index_map_len l.found.spots ≤ index_map_len l.initial.found.spots + l.index;
  volume : g.L.Lone.volume l.lone ≡ l.fn.geometry;
  on : GoesOn (g.L.Lone.counter l.initial.lone) (g.L.Lone.counter l.lone) (g.L.Lone.told l.initial.lone) (g.L.Lone.told l.lone);
  began : g.L.Lone.began l.lone ≡ g.L.Lone.began l.initial.lone;
}
