use Rattle.std.proofs.Common.{◌+◌, ◌<◌, ◌≤◌, sym, subst}
use Rattle.vol_layout.specs.declared.field.Field.TheVariants.{Head}
use Rattle.file_plans.specs.Says.{Says}
use Rattle.held_cache.specs.Kept.{kept_at}
use Rattle.file_plans.specs.laws.SightLaws.{settled_long, settled_same}
use Rattle.file_plans.proofs.sight.sized.Goals as goal

pub returns-then-blocks-limit : goal.returns-then-blocks-limit
returns-then-blocks-limit c =
    settled_long c.args.geometry.now (kept_at c.args.cache.now c.args.host) c.args.file c.args.length c.args.blocks c.requires.file
    c.requires.head (subst (λ n. n < c.args.blocks) c.limit.ensures.blocks c.if-blocks-limit.true)

pub returns-then-blocks-length : goal.returns-then-blocks-length
returns-then-blocks-length c =
    settled_same c.args.geometry.now (kept_at c.args.cache.now c.args.host) c.args.file c.args.blocks c.requires.file
    (subst (λ n. Says (kept_at c.args.cache.now c.args.host) (Head c.args.file) (n + 1)) (sym c.if-blocks-length.true) c.requires.head)
    (subst (λ n. c.args.blocks ≤ n) c.limit.ensures.blocks c.if-blocks-limit.false)
