use Rattle.std.proofs.Common.{◌+◌}
use Rattle.vol_layout.specs.declared.kind.Kind.TheVariants as kinds
use Rattle.volume_check.specs.Metadatas.{AddsOf}
use Rattle.volume_check.specs.SitesAt.{IsAtBefore}
use Rattle.volume_check.proofs.records.add_of_record.Given as goal

abbrev pub invariant-loop-index : goal.invariant-loop-index
invariant-loop-index l = AddsOf (IsAtBefore 3 l.metadata (kinds.Journal l.host) (l.index + 1)) l.metadata l.fn.faults.items l.faults.items
