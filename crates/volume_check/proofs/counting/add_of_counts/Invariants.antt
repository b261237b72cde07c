use Rattle.vol_layout.specs.declared.kind.Kind.TheVariants as kinds
use Rattle.vol_layout.specs.declared.kind.Table.TheVariants as tables
use Rattle.volume_check.specs.Metadatas.{AddsOf}
use Rattle.volume_check.specs.SitesAt.{IsAtBefore}
use Rattle.volume_check.proofs.counting.add_of_counts.Given as goal

abbrev pub invariant-loop-number : goal.invariant-loop-number
invariant-loop-number l = AddsOf (IsAtBefore 4 l.metadata (kinds.Table (tables.Group l.group)) l.number) l.metadata l.fn.faults.items l.faults.items
