use Rattle.std.proofs.Common.{subst}
use Rattle.held_cache.specs.Kept.{kept_at}
use Rattle.vol_layout.specs.Ranges.{limit}
use Rattle.file_plans.specs.Says.{AreFound, AreHoles}
use Rattle.file_plans.proofs.sight.ended.Goals as goal

pub returns-in-None-remains : goal.returns-in-None-remains
returns-in-None-remains c =
    let found = subst (λ o. AreFound c.args.geometry.now (kept_at c.args.cache.now c.args.host) c.args.file
    c.saturating_sub-from.result c.limit-in-None.result o) c.in-None-remains.is c.remains.ensures in (
      c.args.head,
      c.requires.head,
      subst (λ n. AreHoles c.args.geometry.now (kept_at c.args.cache.now c.args.host) c.args.file n (limit c.args.geometry.now))
          c.saturating_sub-from.ensures
          (subst (λ n. AreHoles c.args.geometry.now (kept_at c.args.cache.now c.args.host) c.args.file c.saturating_sub-from.result n)
          c.limit-in-None.ensures.blocks found),
    )
