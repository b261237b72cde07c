use Rattle.std.proofs.Common.{◌∙◌, ap, subst, sym}
use Rattle.vol_layout.specs.declared.geometry.Geometry.{Geometry}
use Rattle.disk_locks.specs.Consistent.{Consistent}
use Rattle.lock_store.specs.Views.{LocksView}
use Rattle.hint_plans.specs.Plans.{HasCome}
use Rattle.hint_plans.specs.Scribbles.{first_step}
use Rattle.hint_plans.specs.declared.plan.Come.{Come}
use Rattle.hint_plans.specs.declared.plan.Doing.TheVariants.{Asks}
use Rattle.hint_plans.specs.laws.ScribbleLaws.{first_came}
use Rattle.hint_plans.proofs.scribbling.asks.Goals as goal

pub returns : goal.returns
returns g c =
    let same = c.geometry.ensures.geometry ∙ ap (λ (l : LocksView). l.geometry) c.locks.ensures in
    subst (λ (come : Come). HasCome c.args.host c.args.world.now c.args.world.now c.args.pending.now c.args.pending.now (Asks c.args.scribble) come)
    (sym (c.first_step.ensures ∙ ap (λ (x : Geometry). first_step x c.args.scribble) same))
    (first_came c.args.world.now c.args.host c.args.scribble c.args.pending.now (subst Consistent c.locks.ensures c.geometry.ensures.consistent)
    c.requires.stands)
