use Rattle.std.proofs.Common.{arith}
use Rattle.vol_layout.specs.laws.SpanLaws.{spans_fit}
use Rattle.volume_check.proofs.metadata.runs.front_end.Goals as goal

pub returns-clause-some : goal.returns-clause-some
returns-clause-some c = let fit = spans_fit c.args.geometry.now in omega (arith, c.place.ensures.place)

pub returns-clause-further : goal.returns-clause-further
returns-clause-further c = let fit = spans_fit c.args.geometry.now in omega (arith, c.place.ensures.place)
