use Rattle.std.proofs.Common.{arith, inl, inr}
use Rattle.std.proofs.lemmas.Bool.{cases_eq}
use Rattle.merge_shelves.proofs.Changing.{compared}
use Rattle.merge_shelves.proofs.changes.next_changed.Goals as goal

pub loop-k-preserved : goal.loop-k-preserved
loop-k-preserved c k block from below at = elim (cases_eq k c.loop-k.k) [
  | inl same ↦
      compared c.args.geometry.now c.args.read.now c.args.shelf.now.entries k c.loop-k.k _ block same at
      (c.is_changed.ensures.same c.if-is_changed.false)
  | inr other ↦ c.loop-k.invariant k block from (omega (arith, below, other)) at
]
