use Rattle.std.proofs.Common.{arith, inl, inr}
use Rattle.std.proofs.lemmas.Bool.{cases_lt}
use Rattle.held_cache.specs.Kept.{kept_at}
use Rattle.file_plans.specs.laws.SaysLaws.{found_end}
use Rattle.file_plans.proofs.seen.remains.Goals as goal

pub returns : goal.returns
returns c =
    found_end c.args.geometry.now (kept_at c.args.cache.now c.args.host) c.args.file c.args.from c.args.to c.loop-index.index
    c.loop-index.found
    (elim c.loop-index.invariant.1 [
      | inl first ↦ elim (cases_lt c.args.from c.args.to) [
        | inl later ↦ absurd (omega (arith, first, later, c.loop-index-test.false))
        | inr over ↦ inr (first, over)
      ]
      | inr inside ↦ inl (omega (arith, inside, c.loop-index-test.false))
    ]) c.loop-index.invariant.0
