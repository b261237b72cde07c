use Rattle.std.proofs.Common.{arith}
use Rattle.vol_layout.specs.Ranges.{arena_slots, per_table}
use Rattle.merge_shelves.proofs.Deciding.{decided_quiet}
use Rattle.merge_shelves.proofs.handling.pass.Goals as goal

pub handle-requires : goal.handle-requires
unfolding arena_slots per_table
handle-requires c = record {
  ends = (decided_quiet c.args.entry.now _ c.decided-action.result c.decided-action.ensures.action c.in_default.not-Post).0;
  entry = c.requires.entry;
  slot = let some = c.decided-action.ensures.geometry.parts in omega (arith, some);
  few = c.requires.few;
}
