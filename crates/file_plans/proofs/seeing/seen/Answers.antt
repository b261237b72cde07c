use Rattle.std.proofs.Common.{◌∙◌, Some, ap, refl, subst, sym}
use Rattle.vol_base.specs.declared.answer.Step.{Step}
use Rattle.plan_parts.specs.declared.outcome.Outcome.TheVariants.{Placed}
use Rattle.vol_layout.specs.declared.geometry.Geometry.{Geometry}
use Rattle.held_cache.specs.Kept.{kept_at}
use Rattle.file_plans.specs.Sights.{IsSight}
use Rattle.file_plans.specs.declared.sight.Sight.TheVariants.{Settled}
use Rattle.file_plans.specs.Went.{IsRest}
use Rattle.file_plans.specs.laws.NeedLaws.{cached_packed}
use Rattle.file_plans.proofs.seeing.seen.Goals as goal

pub settled-requires-clause-packed : goal.settled-requires-clause-packed
settled-requires-clause-packed g c =
    cached_packed c.args.world.now c.args.cache.now c.args.core.now.host c.requires.cached

pub returns-in-Some : goal.returns-in-Some
returns-in-Some g c = (
  Some c.in-Some.reply,
  (
    subst (λ (g : Geometry). IsSight g (kept_at c.args.cache.now c.args.core.now.host) c.args.core.now.call (Settled c.in-Some.reply))
        (c.geometry-geometry.ensures.geometry ∙ ap (λ l. l.geometry) c.locks.ensures) c.in-Some.ensures,
    refl,
    ap (λ (s : Step). s.placed) c.made.ensures,
    ap (λ (s : Step). s.called) c.made.ensures,
    subst (λ (s : Step). IsRest c.args.core.now.taken (Placed c.in-Some.reply) s.next c.rested-next.result.1) (sym c.made.ensures)
        c.rested-next.ensures,
  ),
)
