use Rattle.std.proofs.Common.{length-drop, ℕ, arith, take-add}
use Rattle.std.proofs.KnownBytes.{Appends-trans}
use Rattle.std.proofs.lemmas.List.{take_rest}
use Rattle.vol_io.proofs.writing.write_all.Goals as goal

pub writing-preserved : goal.writing-preserved
writing-preserved g c =
    let took = rw take_rest at c.in_ok-count.ensures.bytes in
    let bound = rw take_rest at c.in_ok-count.ensures.bound in
    record {
      appended = rw take-add (Appends-trans _ _ _ _ _ c.writing.invariant.appended took);
      within = omega (arith, bound, length-drop {A = ℕ});
      later = omega (arith, c.in_ok-count.ensures.cause.later);
      refusals = grind (arith, c.in_ok-count.ensures.refusal.stays);
      room = omega (arith, c.in_ok-count.ensures.sure.taken);
    }
