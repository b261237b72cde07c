use Rattle.std.proofs.Common.{◌≡◌, drop, length}
use Rattle.vol_layout.specs.Ranges.{per_table}
use Rattle.table_blocks.specs.Made.{made}
use Rattle.table_blocks.proofs.making.make.Given as goal

abbrev pub invariant-loop-k : goal.invariant-loop-k
invariant-loop-k l = record {
  made : l.table ≡ made l.which (drop l.k l.entry.edits) l.initial.table;
  long : length l.table.entries ≡ per_table;
}
