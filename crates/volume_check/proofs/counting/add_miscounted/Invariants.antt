use Rattle.volume_check.specs.Metadatas.{AddsOf}
use Rattle.volume_check.specs.SitesAt.{IsBefore}
use Rattle.volume_check.proofs.counting.add_miscounted.Given as goal

abbrev pub invariant-loop-place : goal.invariant-loop-place
invariant-loop-place l = AddsOf (IsBefore 4 l.metadata l.place) l.metadata l.initial.faults.items l.faults.items
