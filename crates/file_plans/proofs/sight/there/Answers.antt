use Rattle.std.proofs.Common.{subst, sym}
use Rattle.vol_base.specs.declared.plain.PlainCall.{PlainCall}
use Rattle.held_cache.specs.Kept.{kept_at}
use Rattle.file_plans.specs.declared.call.FileCall.TheVariants.{Plain}
use Rattle.file_plans.specs.Sights.{IsSight}
use Rattle.file_plans.specs.laws.SightLaws.{exists_by}
use Rattle.file_plans.proofs.sight.there.Goals as goal

pub returns-in-Create : goal.returns-in-Create
returns-in-Create c =
    exists_by c.args.geometry.now (kept_at c.args.cache.now c.args.host) c.args.call.now c.in-Create.field-0 c.args.length c.in-Create.is
    c.requires.file c.requires.head

pub returns-in-Size : goal.returns-in-Size
returns-in-Size c =
    subst (λ (call : PlainCall). IsSight c.args.geometry.now (kept_at c.args.cache.now c.args.host) (Plain call) c.sized.result)
    (sym c.in-Size.is) c.sized.ensures
