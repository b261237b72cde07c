use Rattle.std.proofs.Common.{refl, subst}
use Rattle.std.specs.Prelude.{IfSome}
use Rattle.settle.specs.Reads.{IsCompared}
use Rattle.settle.specs.declared.comparing.Compared.{Compared}
use Rattle.settle.proofs.PlaceLaws.{told-block, told-filled, told-hole, told-still}
use Rattle.settle.specs.laws.PassLaws.{goes_same}
use Rattle.settle.proofs.comparing.is_hole.Goals as goal

pub returns-then-not-is_zeros-clause-hole : goal.returns-then-not-is_zeros-clause-hole
returns-then-not-is_zeros-clause-hole g c =
    told-filled (g.L.Lone.told c.args.lone.now) c.args.geometry c.args.spot.file c.args.spot.index c.args.block.now c.is_zeros.result c.is_zeros.ensures
    c.if-not-is_zeros.true c.requires.shows

pub returns-then-not-is_zeros-clause-moves : goal.returns-then-not-is_zeros-clause-moves
returns-then-not-is_zeros-clause-moves g c =
    told-still (g.L.Lone.told c.args.lone.now) c.args.geometry c.args.spot.file c.args.spot.index c.requires.sound

pub returns-in-Ok-Hole-clause-hole : goal.returns-in-Ok-Hole-clause-hole
returns-in-Ok-Hole-clause-hole g c =
    told-hole (g.L.Lone.told c.compare.new.lone) c.args.geometry c.args.spot.file c.args.spot.index c.args.spot
    (subst (λ (r : Compared). IfSome (g.L.Lone.told c.compare.new.lone) (λ t. IsCompared c.args.geometry t.image c.args.spot.file c.args.spot.index c.args.spot r))
    c.in-Ok-Hole.field-0-is c.in-Ok-Hole.ensures.compared)

pub returns-in-Ok-Same-clause-hole : goal.returns-in-Ok-Same-clause-hole
returns-in-Ok-Same-clause-hole g c =
    told-block (g.L.Lone.told c.compare.new.lone) c.args.geometry c.args.spot.file c.args.spot.index c.args.spot
    (subst (λ (r : Compared). IfSome (g.L.Lone.told c.compare.new.lone) (λ t. IsCompared c.args.geometry t.image c.args.spot.file c.args.spot.index c.args.spot r))
    c.in-Ok-Same.field-0-is c.in-Ok-Same.ensures.compared)

pub returns-then-not-is_zeros-clause-on : goal.returns-then-not-is_zeros-clause-on
returns-then-not-is_zeros-clause-on g c = goes_same _ _ _ _ refl refl
