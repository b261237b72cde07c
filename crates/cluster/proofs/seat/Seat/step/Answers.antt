use Rattle.std.proofs.Common.{None, refl, sym, true, ◌∙◌}
use Rattle.cluster.proofs.MovedLaws.{moved}
use Rattle.cluster.proofs.seat.Seat.step.Goals as goal

pub returns-then-is_answered-clause-stepped : goal.returns-then-is_answered-clause-stepped
returns-then-is_answered-clause-stepped g c =
    rw c.rest.ensures
    (moved c.args.command.now c.args.host c.args.world.now c.next-went.new.world c.next-went.new.cache c.args.self.now
    (record { plan = None; carried = c.next-went.new.carried; left = c.args.self.now.left }) c.in-Some.plan c.next-went.new.self
    c.next-went.result true (sym c.is_answered.ensures ∙ c.if-is_answered.true) c.in-Some.is refl refl c.next-went.ensures.stepped)
