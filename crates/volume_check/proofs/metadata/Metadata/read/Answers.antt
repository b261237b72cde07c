use Rattle.std.proofs.Common.{◌≡◌, ◌-◌, subst, map, take, drop, arith}
use Rattle.std.specs.Prelude.{IfSome}
use Rattle.shared_disk.specs.State.{State}
use Rattle.vol_base.specs.declared.block.Block.{Block}
use Rattle.volume_check.proofs.RunLaws.{told_agree}
use Rattle.volume_check.proofs.metadata.Metadata.read.Goals as goal

pub returns-clause-image : goal.returns-clause-image
returns-clause-image g c =
    let second =
    subst
    (λ (s : State). IfSome s.told (λ t. map (λ (b : Block). b.0) c.in_ok-further.further.items ≡ take (c.total.result - c.further_start.result) (drop c.further_start.result t.image)))
    c.in_ok-front.ensures.same c.in_ok-further.ensures.blocks in
    told_agree _ c.args.geometry.now c.in_ok-front.front.items c.in_ok-further.further.items c.front_end.result c.further_start.result c.total.result
    (record {
      geometry = c.requires.geometry;
      first = omega (arith, c.in_ok-front.ensures.long, c.front_end.ensures.place, c.front_end.ensures.some);
      second = omega (arith, c.in_ok-further.ensures.long, c.further_start.ensures.long, c.total.ensures.blocks);
    })
    c.front_end.ensures.place c.further_start.ensures.place c.total.ensures.blocks c.in_ok-front.ensures.blocks second
