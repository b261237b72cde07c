use Rattle.std.proofs.Common.{◌-◌, ◌∙◌, arith, sym}
use Rattle.table_blocks.proofs.MakingLaws.{made_elsewhere, made_here}
use Rattle.table_blocks.proofs.making.make.Goals as goal

pub loop-k-preserved-then-stands_in : goal.loop-k-preserved-then-stands_in
loop-k-preserved-then-stands_in c =
    let was = c.loop-k.invariant in
    let here = sym c.stands_in.ensures ∙ c.if-stands_in.true in
    record {
      made = made_here c.args.which c.args.entry.now.edits (c.loop-k.k - 1) c.loop-k.k c.get-edit.result c.args.table.now
          c.loop-k.table c.set_number.new.table (omega (arith, c.loop-k-test.true)) c.get-edit.ensures here was.made c.set_number.ensures.number;
      long = c.set_number.ensures.long;
    }

pub loop-k-preserved : goal.loop-k-preserved
loop-k-preserved c =
    let was = c.loop-k.invariant in
    let other = sym c.stands_in.ensures ∙ c.if-stands_in.false in
    record {
      made = made_elsewhere c.args.which c.args.entry.now.edits (c.loop-k.k - 1) c.loop-k.k c.get-edit.result c.args.table.now
          c.loop-k.table (omega (arith, c.loop-k-test.true)) c.get-edit.ensures other was.made;
      long = was.long;
    }
