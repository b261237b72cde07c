use Rattle.std.proofs.Common.{subst, sym}
use Rattle.image_view.specs.declared.pointer.Number.{Number}
use Rattle.file_plans.specs.Says.{AreRemains, PointsTo}
use Rattle.file_plans.specs.laws.SaysLaws.{found_hole, found_remain}
use Rattle.file_plans.proofs.seen.with_pointer.Goals as goal

pub returns-in-Hole : goal.returns-in-Hole
returns-in-Hole c g known f from after are points =
    found_hole g known f from c.args.index c.args.found are
    (subst (λ (p : Number). PointsTo g known f c.args.index p) c.in-Hole.is points)

pub returns-in-At : goal.returns-in-At
returns-in-At c g known f from after are points =
    subst (AreRemains g known f from _) (sym c.with.ensures)
    (found_remain g known f from c.args.index c.in-At.number c.in-At.field-1 after
    (subst (λ (p : Number). PointsTo g known f c.args.index p) c.in-At.is points) c.args.found are)
