use Rattle.volume_check.specs.Metadatas.{AddsOf}
use Rattle.volume_check.specs.SitesAt.{IsBefore}
use Rattle.volume_check.proofs.holds.add_unheld.Given as goal

abbrev pub invariant-loop-place : goal.invariant-loop-place
invariant-loop-place l = AddsOf (IsBefore 3 l.metadata l.place) l.metadata l.initial.faults.items l.faults.items
