use Rattle.std.proofs.Common.{refl}
use Rattle.plan_parts.specs.laws.HoldWords.{lowest_got, lowest_missing}
use Rattle.plan_parts.proofs.readers.lowest_reader.Goals as goal

pub returns-in-Some : goal.returns-in-Some
returns-in-Some c =
    lowest_got c.args.own.0 c.args.readers.now c.in-Some.at c.get.result c.get-keys.ensures.readers c.in-Some.ensures.some
    c.get.ensures.none.0 c.get.ensures.key

pub returns-in-None : goal.returns-in-None
returns-in-None c = lowest_missing c.args.own.0 c.args.readers.now c.get-keys.ensures.readers (c.in-None.ensures.none refl)
