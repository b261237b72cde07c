use Rattle.std.proofs.Common.{◌<◌, ◌∙◌, ap, arith, rules, subst, sym, ℕ}
use Rattle.disk_locks.specs.Consistent.{Consistent}
use Rattle.host_facts.specs.Others.{Others}
use Rattle.lock_store.specs.declared.host.HostState.{HostState}
use Rattle.lock_store.specs.Memories.{claim_of}
use Rattle.lock_store.specs.Views.{LocksView, host_at}
use Rattle.watch.specs.Looks.{count_of, look_at}
use Rattle.recover_plan.specs.laws.BeginLaws.{claim_noted, few_came, slot_begins, slot_noted}
use Rattle.recover_plan.proofs.recover.begin.Goals as goal

pub returns-then-count-lt3-clause-came : goal.returns-then-count-lt3-clause-came
returns-then-count-lt3-clause-came g c =
    let others : Others c.args.host c.args.world.now c.args.world.now = search rules in
    let few : count_of (look_at c.args.watch.now c.args.of) < 3 = subst (λ (n : ℕ). n < 3) c.count-count.ensures c.if-count-lt3.true in
    rw (c.count-count.ensures)
    (few_came c.args.world.now c.args.host c.args.of c.args.watch.now
    (subst Consistent c.locks.ensures c.geometry-geometry.ensures.consistent) c.requires.stands few others)

pub begin_with-requires-clause-agrees : goal.begin_with-requires-clause-agrees
begin_with-requires-clause-agrees g c =
    claim_noted c.args.world.now c.args.host c.args.of c.args.watch.now
    (subst Consistent c.locks.ensures c.geometry-geometry.ensures.consistent) c.requires.stands c.claim-claim.result

pub begin_with-requires-2-clause-stands : goal.begin_with-requires-2-clause-stands
begin_with-requires-2-clause-stands g c =
    slot_begins c.args.world.now c.args.host c.args.of c.args.watch.now
    (subst Consistent c.locks.ensures c.geometry-geometry.ensures.consistent) c.requires.stands c.unwrap-slot.result
    (sym c.seen.ensures ∙ c.unwrap-slot.ensures) (omega (arith, c.if-count-lt3.false, c.count-count.ensures))
    (sym (c.claim-claim.ensures ∙ ap (λ (m : HostState). claim_of m c.args.of)
    (c.host.ensures ∙ ap (λ (l : LocksView). host_at l c.args.host) c.locks-2.ensures)) ∙ omega (arith, c.if-claim-ne0.false))

pub begin_with-requires-2-clause-agrees : goal.begin_with-requires-2-clause-agrees
begin_with-requires-2-clause-agrees g c =
    slot_noted c.args.world.now c.args.host c.args.of c.args.watch.now
    (subst Consistent c.locks.ensures c.geometry-geometry.ensures.consistent) c.requires.stands c.unwrap-slot.result
    (sym c.seen.ensures ∙ c.unwrap-slot.ensures) (omega (arith, c.if-count-lt3.false, c.count-count.ensures))
