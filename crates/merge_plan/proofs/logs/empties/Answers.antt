use Rattle.std.proofs.Common.{◌≡◌, ◌+◌, ◌∙◌, ap, arith, subst, sym}
use Rattle.vol_layout.specs.declared.geometry.Geometry.{Geometry}
use Rattle.disk_locks.specs.Consistent.{Consistent}
use Rattle.lock_store.specs.Views.{LocksView}
use Rattle.merge_plan.specs.Followings.{IsNextFilled}
use Rattle.merge_plan.specs.Steps.{Went}
use Rattle.merge_plan.specs.declared.plan.Doing.TheVariants.{EmptiesLog}
use Rattle.merge_plan.specs.laws.ShardSteps.{emptied_same, log_emptied}
use Rattle.merge_plan.proofs.logs.empties.Goals as goal

pub empties_log-emptied-requires-clause-stands : goal.empties_log-emptied-requires-clause-stands
empties_log-emptied-requires-clause-stands g c = c.requires.stands.1.0

pub empties_log-emptied-requires-clause-log : goal.empties_log-emptied-requires-clause-log
empties_log-emptied-requires-clause-log g c = c.requires.stands.1.1.below

pub overflow_add-log : goal.overflow_add-log
overflow_add-log g c =
    let most = (subst Consistent c.locks.ensures c.geometry-geometry.ensures.consistent).geometry.logs.1 in
    let below = c.requires.stands.1.1.below in omega (arith, most, below)

pub next_filled-requires : goal.next_filled-requires
next_filled-requires g c =
    let same : c.geometry-geometry.result.now ≡ c.args.world.now.locks.geometry =
    c.geometry-geometry.ensures.geometry ∙ ap (λ (l : LocksView). l.geometry) c.locks.ensures in
    let logs = ap (λ (x : Geometry). x.logs) same in
    let most = (subst Consistent c.locks.ensures c.geometry-geometry.ensures.consistent).geometry.logs.1 in omega (arith, most, logs)

pub returns-in-Ok-clause-went : goal.returns-in-Ok-clause-went
returns-in-Ok-clause-went g c =
    let v = c.args.world.now in
    let w = c.empties_log-emptied.new.world in
    let old = c.args.room.now in
    let c0 = subst Consistent c.locks.ensures c.geometry-geometry.ensures.consistent in
    let same : c.geometry-geometry.result.now ≡ v.locks.geometry = c.geometry-geometry.ensures.geometry ∙ ap (λ (l : LocksView). l.geometry) c.locks.ensures in
    let later = subst Consistent c.locks-2.ensures c.geometry-geometry-2.ensures.consistent in
    subst (Went c.args.host v w old old (EmptiesLog c.args.log)) (sym c.behind_emptied.ensures)
    (log_emptied v w c.args.host c.args.log c0 later old c.requires.stands.1.0
    c.requires.stands.1.1 c.in-Ok.ensures.went c.next_filled.result
    (subst (λ (x : Geometry). IsNextFilled old.filled x.logs (c.args.log + 1) c.next_filled.result)
    (same ∙ sym (emptied_same v w c.args.host c.args.log c0 later old c.requires.stands.1.0 c.requires.stands.1.1 c.in-Ok.ensures.went)) c.next_filled.ensures))

pub returns-in-Ok-clause-others : goal.returns-in-Ok-clause-others
returns-in-Ok-clause-others g c = c.in-Ok.ensures.others

pub returns-in-Err-clause-cut : goal.returns-in-Err-clause-cut
returns-in-Err-clause-cut g c = c.in-Err.ensures.cut

pub returns-in-Err-clause-others : goal.returns-in-Err-clause-others
returns-in-Err-clause-others g c = c.in-Err.ensures.others
