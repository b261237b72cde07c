use Rattle.std.proofs.Common.{subst}
use Rattle.share_plans.specs.Spots.{PointsTo}
use Rattle.share_plans.specs.laws.SpotLaws.{nothing_there}
use Rattle.share_plans.proofs.sight.pointed.Goals as goal

pub returns-in-Hole : goal.returns-in-Hole
returns-in-Hole c g known f i points = nothing_there g known f i (subst (PointsTo g known f i) c.in-Hole.is points)
