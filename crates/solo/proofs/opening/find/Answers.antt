use Rattle.std.proofs.Common.{◌≡◌, ◌≤◌, ◌∙◌, ap, arith, sym}
use Rattle.shared_disk.specs.State.{State}
use Rattle.vol_layout.specs.Regions.{total}
use Rattle.solo.specs.laws.OpenLaws.{empty_untold, told_valid}
use Rattle.solo.proofs.opening.find.Goals as goal

pub returns-then-blocks-eq0-clause-cause : goal.returns-then-blocks-eq0-clause-cause
returns-then-blocks-eq0-clause-cause g c =
    empty_untold (g.D.Device.state c.args.disk.now) (sym c.blocks-2.ensures ∙ c.if-blocks-eq0.true)
    (g.met.D.Device.whole_image c.args.disk.now) c.requires.volume

pub returns-clause-found : goal.returns-clause-found
returns-clause-found g c =
    let s = g.D.Device.state c.args.disk.now in
    let blocks_is : c.blocks-3.result ≡ s.blocks = c.blocks-3.ensures ∙ ap (λ (t : State). t.blocks) c.in-Ok.ensures.same in
    let room : total c.in-Ok-read.geometry ≤ s.blocks = omega (arith, c.if-blocks-total.false, blocks_is, c.total.ensures.blocks) in record {
      range = c.in-Ok-read.ensures.ok.0;
      long = room;
      valid = told_valid s c.in-Ok-read.geometry c.in-Ok.block.0 c.in-Ok-read.ensures.ok c.in-Ok.ensures.block c.requires.volume;
    }
