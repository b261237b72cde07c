use Rattle.std.proofs.Common.{◌≡◌, ◌∷◌, [], ◌-◌, ◌+◌, ◌∙◌, length, sym, ap, arith, length-append}
use Rattle.turn_lock.specs.Rule.{knows}
use Rattle.turn_lock.specs.Steps.{Sits, dealer}
use Rattle.turn_lock.specs.declared.knowledge.Turn.TheVariants.{Waits}
use Rattle.turn_lock.proofs.Keeps.{may_deal}
use Rattle.turn_lock.proofs.SeatLists.{new_push}
use Rattle.turn_lock.proofs.seats.deal.Goals as goal

pub split_seat-dealt-requires : goal.split_seat-dealt-requires
split_seat-dealt-requires g c =
    let me = c.loop-number.invariant.me in
    let more = c.loop-number-test.true in
    let parts : c.loop-number.place.me.0.parts ≡ c.args.seats - c.loop-number.number = ap (λ m. m.0.parts) me in (
      c.loop-number.invariant.table ∙ c.requires.table.same,
      (let two = c.requires.table.two in omega arith),
      may_deal g.T.Begun.began g.T.Counted.listed _ _ _ c.loop-number.place.me.0 (ap (λ m. m.0.turn) me) (omega arith),
    )

pub loop-number-preserved : goal.loop-number-preserved
loop-number-preserved g c =
    let old = c.loop-number.invariant in
    let split = c.split_seat-dealt.ensures in
    let less : (c.args.seats - c.loop-number.number) - 1 ≡ c.args.seats - (c.loop-number.number + 1) = omega arith in record {
      table = split.0 ∙ old.table;
      me = split.2 ∙ (ap (λ (m : Sits g.row.T.Denot). (dealer m.0, m.1)) old.me ∙ ap (λ n. (knows n (c.args.first.now.value ∷ []) Waits, [])) less);
      count = c.push_reserved.ensures.len ∙ ap (λ n. n + 1) old.count;
      long = ap length c.push_reserved.ensures.items ∙ (length-append c.loop-number.all.items (c.new.result ∷ []) ∙ ap (λ n. n + 1) old.long);
      room = (let a = old.room in let b = c.push_reserved.ensures.capacity in rw b a);
      new = rw (c.push_reserved.ensures.items)
          (new_push c.args.board.now.table_id _ c.args.first.now.value c.loop-number.all.items c.new.result _ old.new c.new.ensures (split.3 ∙ (old.table ∙ c.requires.table.same)) (sym old.long));
    }

pub returns : goal.returns
returns g c =
    let old = c.loop-number.invariant in
    let last = c.loop-number-test.false in
    let end = c.loop-number.auto.number-end in
    let some = c.requires.some in
    let here : c.args.seats - 1 ≡ length c.loop-number.all.items = omega (arith, old.long) in record {
      count = c.push_reserved-2.ensures.len ∙ (ap (λ n. n + 1) old.count ∙ omega arith);
      each = rw (c.push_reserved-2.ensures.items)
          (new_push c.args.board.now.table_id _ c.args.first.now.value c.loop-number.all.items c.new-2.result _ old.new c.new-2.ensures (old.table ∙ c.requires.table.same) here);
    }
