use Rattle.std.proofs.Common.{subst}
use Rattle.held_cache.specs.Kept.{kept_at}
use Rattle.file_plans.specs.Says.{PointsTo}
use Rattle.file_plans.specs.laws.SightLaws.{settled_beyond}
use Rattle.file_plans.proofs.sight.block.Goals as goal

pub returns-then-index-length : goal.returns-then-index-length
returns-then-index-length c =
    settled_beyond c.args.geometry.now (kept_at c.args.cache.now c.args.host) c.args.call.now c.args.index c.args.length
    c.requires.call c.requires.file c.requires.head c.if-index-length.true

pub returns-in-Some : goal.returns-in-Some
returns-in-Some c = c.pointed.ensures c.args.geometry.now (kept_at c.args.cache.now c.args.host) c.args.index c.requires.call
    (record {
      length = c.args.length;
      head = c.requires.head;
      below = c.if-index-length.false;
      pointer = subst (λ f. PointsTo c.args.geometry.now (kept_at c.args.cache.now c.args.host) f c.args.index c.in-Some.pointer)
          c.file_no-file.ensures c.in-Some.ensures.says;
    })
