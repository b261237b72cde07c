use Rattle.std.proofs.Common.{subst, sym}
use Rattle.cluster.specs.Carries.{IsCarried}
use Rattle.cluster.proofs.plan.Plan.next.Goals as goal

pub step_on_file-requires-clause-at : goal.step_on_file-requires-clause-at
step_on_file-requires-clause-at g c =
    let at = rw c.in-Files.is at c.requires.at in
    let of = rw c.in-Files.is at c.requires.of in
    (at.0, subst (λ x. IsCarried c.args.world.now x c.args.carried.now) (sym of.0) at.1)
