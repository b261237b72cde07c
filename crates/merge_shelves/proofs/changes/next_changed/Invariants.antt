use Rattle.merge_shelves.specs.Changes.{AreSame}
use Rattle.merge_shelves.proofs.changes.next_changed.Given as goal

abbrev pub invariant-loop-k : goal.invariant-loop-k
invariant-loop-k l = AreSame l.geometry l.read l.shelf.entries l.from l.k
