use Rattle.volume_check.specs.Blocks.{IsBlockIn}
use Rattle.volume_check.specs.Metadatas.{AddsOf}
use Rattle.volume_check.proofs.spelling.add_in_run.Given as goal

abbrev pub invariant-loop-place : goal.invariant-loop-place
invariant-loop-place l = AddsOf (IsBlockIn l.metadata.geometry l.from l.place) l.metadata l.initial.faults.items l.faults.items
