use Rattle.serve_plan.specs.Files.{HasNone}
use Rattle.serve_plan.proofs.files.next_held.Given as goal

abbrev pub invariant-loop-file : goal.invariant-loop-file
invariant-loop-file g l = HasNone l.world l.host l.from l.file
