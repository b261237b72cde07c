use Rattle.std.proofs.Common.{◌≡◌, ◌+◌, ◌∙◌, length, ap, subst, arith, length-append, []}
use Rattle.std.specs.Prelude.{◌∷◌}
use Rattle.shared_disk.specs.State.{Stands, State}
use Rattle.volume_check.proofs.RunLaws.{run_grows}
use Rattle.volume_check.proofs.metadata.runs.read_run.Goals as goal

pub loop-place-preserved : goal.loop-place-preserved
loop-place-preserved g c =
    let was = c.loop-place.invariant in
    let stands = subst (λ (s : State). Stands s c.loop-place.place c.in_ok-block.block.0) was.same c.in_ok-block.ensures.block in
    let from : c.args.from + 0 ≡ c.args.from = omega arith in
    record {
      blocks = run_grows _ c.loop-place.blocks.items _ c.in_ok-block.block c.args.from c.loop-place.place (omega arith) was.blocks stands c.push_reserved.ensures.items;
      long = ap length c.push_reserved.ensures.items ∙ length-append c.loop-place.blocks.items (c.in_ok-block.block ∷ []) ∙ omega (arith, was.long);
      counted = c.push_reserved.ensures.len ∙ omega (arith, was.counted);
      room = c.push_reserved.ensures.capacity ∙ was.room;
      same = c.read_block.ensures.same ∙ was.same;
      later = omega (arith, was.later, c.read_block.ensures.later);
      spends = omega (arith, was.spends, c.read_block.ensures.room);
    }
