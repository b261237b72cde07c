use Rattle.std.proofs.Common.{true, false, sym, ◌∙◌, arith}
use Rattle.cluster.specs.laws.LinesLeftLaws.{left_end, left_more}
use Rattle.cluster.proofs.budget.lines_left.Goals as goal
use Rattle.cluster.proofs.budget.lines_left.Goals.{then-is_open, else-is_open}

pub returns-clause-is : goal.returns-clause-is
returns-clause-is c =
    let none = left_end c.args.lines.now c.args.answers.now c.args.phase c.loop-index.index c.loop-index-test.false in
    let sum = c.loop-index.invariant.0 in omega (arith, none, sum)

pub loop-index-preserved : goal.loop-index-preserved
loop-index-preserved c =
    elim c.if-is_open.branch [
      | then-is_open w ↦
          let sum = left_more c.args.lines.now c.args.answers.now c.args.phase c.loop-index.index _ c.loop-index.left true c.loop-index-test.true
          c.requires.long (sym c.is_open.ensures ∙ w.if-is_open.true) c.loop-index.invariant.0 in
          let few = c.loop-index.invariant.1 in
          let is = w.left-is in (omega (arith, sum, is), omega (arith, few, is))
      | else-is_open w ↦
          let sum = left_more c.args.lines.now c.args.answers.now c.args.phase c.loop-index.index _ c.loop-index.left false c.loop-index-test.true
          c.requires.long (sym c.is_open.ensures ∙ w.if-is_open.false) c.loop-index.invariant.0 in
          let few = c.loop-index.invariant.1 in
          let is = w.left-is in (omega (arith, sum, is), omega (arith, few, is))
    ]
