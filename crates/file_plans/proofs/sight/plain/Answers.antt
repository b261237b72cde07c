use Rattle.std.proofs.Common.{subst}
use Rattle.held_cache.specs.Kept.{kept_at}
use Rattle.vol_layout.specs.declared.field.Field.TheVariants.{Head}
use Rattle.file_plans.specs.Says.{Says}
use Rattle.file_plans.proofs.sight.plain.Goals as goal

pub returns-in-Some-eq0 : goal.returns-in-Some-eq0
returns-in-Some-eq0 c = c.absent.ensures c.args.geometry.now (kept_at c.args.cache.now c.args.host) c.requires.file
    (subst (λ f. Says (kept_at c.args.cache.now c.args.host) (Head f) 0) c.file_no-file.ensures
    (subst (Says (kept_at c.args.cache.now c.args.host) (Head c.file_no-file.result)) c.in-Some-eq0.field-0-test c.in-Some-eq0.ensures.says))
