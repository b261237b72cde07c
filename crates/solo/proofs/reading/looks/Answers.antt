use Rattle.std.proofs.Common.{◌∙◌, ap, arith, subst}
use Rattle.vol_base.specs.declared.plain.PlainCall.TheVariants.{Read}
use Rattle.vol_layout.specs.declared.geometry.Geometry.{Geometry}
use Rattle.disk_locks.specs.Consistent.{Consistent}
use Rattle.file_plans.specs.Sights.{IsSight}
use Rattle.file_plans.specs.declared.call.FileCall.TheVariants.{Plain}
use Rattle.file_plans.specs.declared.sight.Sight.TheVariants.{Settled}
use Rattle.file_plans.specs.laws.NeedLaws.{cached_packed}
use Rattle.held_cache.specs.Kept.{kept_at}
use Rattle.lock_store.specs.Views.{LocksView}
use Rattle.solo.specs.laws.ReadLaws.{settled_read}
use Rattle.solo.proofs.reading.looks.Goals as goal

pub look-requires-clause-packed : goal.look-requires-clause-packed
look-requires-clause-packed g c = cached_packed c.args.world.now c.args.cache.now 0 c.requires.cached

pub returns-in-Settled-clause-seen : goal.returns-in-Settled-clause-seen
returns-in-Settled-clause-seen g c = (
  omega arith,
  settled_read c.args.world.now c.args.cache.now c.args.file c.args.index c.in-Settled.reply
      (subst Consistent c.locks.ensures c.geometry.ensures.consistent) c.requires.alone c.requires.cached
      (subst (λ (x : Geometry). IsSight x (kept_at c.args.cache.now 0) (Plain (Read c.args.file c.args.index)) (Settled c.in-Settled.reply))
      (c.geometry.ensures.geometry ∙ ap (λ (l : LocksView). l.geometry) c.locks.ensures) c.in-Settled.ensures),
)
