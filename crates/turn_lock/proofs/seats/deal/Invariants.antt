use Rattle.std.proofs.Common.{◌≡◌, ◌≤◌, ◌-◌, [], ◌∷◌, length, vec_len, vec_capacity}
use Rattle.turn_lock.specs.Rule.{knows}
use Rattle.turn_lock.specs.Views.{AreNew}
use Rattle.turn_lock.specs.declared.knowledge.Turn.TheVariants.{Waits}
use Rattle.turn_lock.proofs.seats.deal.Given as goal

abbrev pub invariant-loop-number : goal.invariant-loop-number
invariant-loop-number g l = record {
  table : l.place.table_id ≡ l.fn.place.table_id;
  me : l.place.me ≡ (knows (l.seats - l.number) (l.first.value ∷ []) Waits, []);
  count : vec_len l.all ≡ l.number;
  long : length l.all.items ≡ l.number;
  room : l.seats ≤ vec_capacity l.all;
  new : AreNew l.board.table_id l.first.value l.all.items;
}
