use Rattle.std.proofs.Common.{Some, refl, subst, sym, ◌∙◌, ap, is_some}
use Rattle.lock_store.specs.Views.{host_at}
use Rattle.disk_locks.specs.Consistent.{Consistent}
use Rattle.cluster.specs.Seats.{PlanNotedOf, at_once}
use Rattle.cluster.specs.laws.AnswerTurns.{answered, answered_leaves, answered_others}
use Rattle.cluster.specs.laws.BeginLaws.{asks_not, begun_asks, begun_at, begun_noted, of_begun}
use Rattle.cluster.specs.laws.BegunTurns.{ok_begun}
use Rattle.cluster.specs.laws.PlanTurnLaws.{begun_few, begun_sooner}
use Rattle.cluster.proofs.seat.Seat.begin.Goals as goal

pub go_on-requires-clause-stands : goal.go_on-requires-clause-stands
go_on-requires-clause-stands g c =
    let key = c.is_some-joined.ensures ∙ ap (λ m. is_some m.key) (c.host.ensures ∙ ap (λ l. host_at l c.args.host) c.locks-2.ensures) in
    let none = sym (ap (at_once c.args.command.now) key) ∙ sym c.at_once.ensures ∙ c.in-None.is in
    let rests = subst (λ p. PlanNotedOf c.args.command.now c.args.world.now c.args.host c.args.self.now.carried p c.requires.noted.0) c.requires.none
    c.requires.noted.1 in rw c.start.ensures.is (
      of_begun c.args.host c.args.command.now c.start.ensures.plan c.start.ensures.begun,
      begun_at c.args.world.now c.args.cache.now c.args.host c.args.self.now.carried
          (subst Consistent c.locks.ensures c.geometry-geometry.ensures.consistent) c.requires.host c.args.command.now c.requires.range
          rests.rests.rests none c.requires.stands c.start.ensures.plan c.start.ensures.begun,
    )

pub go_on-requires-clause-noted : goal.go_on-requires-clause-noted
go_on-requires-clause-noted g c =
    let key = c.is_some-joined.ensures ∙ ap (λ m. is_some m.key) (c.host.ensures ∙ ap (λ l. host_at l c.args.host) c.locks-2.ensures) in
    let none = sym (ap (at_once c.args.command.now) key) ∙ sym c.at_once.ensures ∙ c.in-None.is in
    let rests = subst (λ p. PlanNotedOf c.args.command.now c.args.world.now c.args.host c.args.self.now.carried p c.requires.noted.0) c.requires.none
    c.requires.noted.1 in rw c.start.ensures.is (
      c.requires.noted.0,
      begun_noted c.args.world.now c.args.host c.args.self.now.carried c.args.command.now c.start.ensures.plan c.requires.noted.0
          (asks_not c.args.world.now.locks.geometry c.args.command.now _ none c.requires.unasked)
          c.start.ensures.begun rests,
    )

pub go_on-requires-clause-unasked : goal.go_on-requires-clause-unasked
go_on-requires-clause-unasked g c =
    let key = c.is_some-joined.ensures ∙ ap (λ m. is_some m.key) (c.host.ensures ∙ ap (λ l. host_at l c.args.host) c.locks-2.ensures) in
    let none = sym (ap (at_once c.args.command.now) key) ∙ sym c.at_once.ensures ∙ c.in-None.is in
    rw c.start.ensures.is (begun_asks c.args.world.now.locks.geometry c.args.host c.args.command.now c.start.ensures.plan c.start.ensures.begun
    (asks_not c.args.world.now.locks.geometry c.args.command.now _ none c.requires.unasked))

pub returns-in-Some-clause-made : goal.returns-in-Some-clause-made
returns-in-Some-clause-made g c =
    let key = c.is_some-joined.ensures ∙ ap (λ m. is_some m.key) (c.host.ensures ∙ ap (λ l. host_at l c.args.host) c.locks-2.ensures) in
    rw c.answer.ensures.done
    (answered c.args.host c.args.world.now c.args.cache.now (subst Consistent c.locks.ensures c.geometry-geometry.ensures.consistent)
    c.args.self.now c.requires.none c.requires.stands c.answer.new.world c.answer.new.cache c.answer.new.self c.args.command.now c.in-Some.answer
    c.is_some-joined.result c.requires.known (sym key) (sym c.at_once.ensures ∙ c.in-Some.is) c.answer.ensures.left)

pub returns-in-Some-clause-others : goal.returns-in-Some-clause-others
returns-in-Some-clause-others g c =
    answered_others c.args.host c.args.world.now c.answer.new.world c.args.cache.now c.answer.new.cache c.args.self.now c.answer.new.self
    (subst Consistent c.locks.ensures c.geometry-geometry.ensures.consistent) c.args.command.now c.in-Some.answer c.answer.ensures.left

pub returns-in-Some-clause-leaves : goal.returns-in-Some-clause-leaves
returns-in-Some-clause-leaves g c =
    answered_leaves c.args.host c.args.world.now c.answer.new.world c.args.cache.now c.answer.new.cache c.args.self.now c.answer.new.self
    (subst Consistent c.locks.ensures c.geometry-geometry.ensures.consistent) c.args.command.now c.in-Some.answer c.answer.ensures.left

pub returns-in-None-clause-made : goal.returns-in-None-clause-made
returns-in-None-clause-made g c =
    let key = c.is_some-joined.ensures ∙ ap (λ m. is_some m.key) (c.host.ensures ∙ ap (λ l. host_at l c.args.host) c.locks-2.ensures) in
    let none = sym (ap (at_once c.args.command.now) key) ∙ sym c.at_once.ensures ∙ c.in-None.is in
    ok_begun c.args.command.now c.args.host c.args.world.now c.go_on.new.world c.go_on.new.cache c.args.self.now
    (record c.args.self.now { plan = Some c.start.ensures.plan }) c.go_on.new.self c.start.ensures.plan c.requires.none
    (asks_not c.args.world.now.locks.geometry c.args.command.now _ none c.requires.unasked) c.start.ensures.begun refl none
    c.go_on.result (rw c.start.ensures.is at c.go_on.ensures.made)

pub returns-in-None-clause-sooner : goal.returns-in-None-clause-sooner
returns-in-None-clause-sooner g c =
    let key = c.is_some-joined.ensures ∙ ap (λ m. is_some m.key) (c.host.ensures ∙ ap (λ l. host_at l c.args.host) c.locks-2.ensures) in
    let none = sym (ap (at_once c.args.command.now) key) ∙ sym c.at_once.ensures ∙ c.in-None.is in
    let rests = subst (λ p. PlanNotedOf c.args.command.now c.args.world.now c.args.host c.args.self.now.carried p c.requires.noted.0) c.requires.none
    c.requires.noted.1 in
    let consistent = subst Consistent c.locks.ensures c.geometry-geometry.ensures.consistent in
    begun_sooner c.args.world.now c.go_on.new.world c.args.cache.now c.go_on.new.cache c.args.self.now c.start.ensures.plan c.go_on.new.self c.requires.none
    (begun_few c.args.world.now c.args.cache.now c.args.host c.args.self.now.carried c.args.command.now c.start.ensures.plan consistent c.start.ensures.begun
    (begun_at c.args.world.now c.args.cache.now c.args.host c.args.self.now.carried consistent c.requires.host c.args.command.now c.requires.range
    rests.rests.rests none c.requires.stands c.start.ensures.plan c.start.ensures.begun))
    c.go_on.result (rw c.start.ensures.is at c.go_on.ensures.sooner)
