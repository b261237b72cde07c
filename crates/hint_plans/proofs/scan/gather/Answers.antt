use Rattle.hint_plans.specs.laws.LookedLaws.{gather_hole, gather_more, gather_room}
use Rattle.std.proofs.Common.{arith}
use Rattle.hint_plans.proofs.scan.gather.Goals as goal

pub note-requires-clause-room : goal.note-requires-clause-room
note-requires-clause-room c =
    gather_room c.args.table.now c.args.file c.args.index c.args.from c.loop-k.k c.args.to c.args.found.now c.loop-k.found c.loop-k.invariant.1
    c.loop-k-test.true c.requires.few c.requires.room c.loop-k.invariant.0

pub note-requires-clause-hole : goal.note-requires-clause-hole
note-requires-clause-hole c =
    gather_hole c.args.table.now c.args.file c.args.index c.args.from c.loop-k.k c.args.to c.number.result c.loop-k.invariant.1
    c.loop-k-test.true c.requires.can c.number.ensures

pub loop-k-preserved : goal.loop-k-preserved
loop-k-preserved c =
    let le = c.loop-k.invariant.1 in
    let lt = c.loop-k-test.true in (
      gather_more c.args.table.now c.args.file c.args.index c.args.from c.loop-k.k c.number.result c.args.found.now c.loop-k.found c.note.new.found
          c.loop-k.invariant.1 c.loop-k.invariant.0 c.note.ensures c.number.ensures,
      omega (arith, le),
      omega (arith, lt),
    )
