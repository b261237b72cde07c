use Rattle.vol_layout.specs.declared.kind.Kind.TheVariants as kinds
use Rattle.volume_check.specs.Counts.{file_table}
use Rattle.volume_check.specs.Metadatas.{AddsOf}
use Rattle.volume_check.specs.SitesAt.{IsAtBefore}
use Rattle.volume_check.proofs.counting.add_of_marks.Given as goal

abbrev pub invariant-loop-index : goal.invariant-loop-index
invariant-loop-index l = AddsOf (IsAtBefore 4 l.metadata (kinds.Table (file_table l.file l.table)) l.index) l.metadata l.fn.faults.items l.faults.items
