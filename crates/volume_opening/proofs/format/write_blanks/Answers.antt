use Rattle.std.proofs.Common.{arith, ◌≡◌, ℕ, subst}
use Rattle.volume_opening.specs.Blanked.{Blanked}
use Rattle.volume_opening.proofs.BlankLaws.{Blanked-more, Blanked-none}
use Rattle.volume_opening.proofs.format.write_blanks.Goals as goal

pub loop-place-init : goal.loop-place-init
loop-place-init g c = record { written = Blanked-none c.args.geometry.now c.args.from _ c.requires.blank; later = omega arith }

pub loop-place-preserved : goal.loop-place-preserved
loop-place-preserved g c = record {
  written = Blanked-more c.args.geometry.now c.args.from c.loop-place.place _ (g.D.Device.state c.loop-place.disk) _
      c.requires.behind (omega arith) (omega (arith, c.requires.inside)) (g.met.D.Device.whole_image c.loop-place.disk) c.loop-place.invariant.written
      (rw c.blank.ensures at c.in_ok-write.ensures.done);
  later = omega (arith, c.loop-place.invariant.later, c.write.ensures.later);
}

pub returns-clause-done : goal.returns-clause-done
returns-clause-done g c = let same : c.loop-place.place ≡ c.args.to = omega arith in
    subst (λ (n : ℕ). Blanked c.args.geometry.now c.args.from n (g.D.Device.state c.args.disk.now) (g.D.Device.state c.loop-place.disk)) same c.loop-place.invariant.written
