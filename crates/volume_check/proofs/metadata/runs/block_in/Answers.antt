use Rattle.std.proofs.Common.{arith}
use Rattle.vol_layout.specs.laws.SpanLaws.{spans_fit}
use Rattle.volume_check.proofs.RunLaws.{in_first_run, in_second_run}
use Rattle.volume_check.proofs.metadata.runs.block_in.Goals as goal

pub returns-then-place-front : goal.returns-then-place-front
returns-then-place-front c = in_first_run c.args.geometry.now c.args.front.now c.args.further.now c.args.place _ c.requires.runs c.requires.read c.if-place-front.true

pub overflow_sub-start : goal.overflow_sub-start
overflow_sub-start c = let fit = spans_fit c.args.geometry.now in omega (arith, c.requires.runs.second, c.total.ensures.blocks)

pub returns : goal.returns
returns c =
    in_second_run c.args.geometry.now c.args.front.now c.args.further.now c.args.place c.total.result _ c.requires.runs c.requires.read c.if-place-front.false c.total.ensures.blocks
