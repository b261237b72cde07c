use Rattle.std.proofs.Common.{arith}
use Rattle.volume_check.proofs.StageLaws.{run_more}
use Rattle.volume_check.proofs.spelling.add_in_run.Goals as goal

pub add_at-requires : goal.add_at-requires
add_at-requires c = c.requires.read c.loop-place.place (omega arith) (omega arith)

pub loop-place-preserved : goal.loop-place-preserved
loop-place-preserved c = run_more c.args.metadata.now c.args.from c.loop-place.place _ _ _ (omega arith) c.loop-place.invariant c.in_ok-add_at.ensures
