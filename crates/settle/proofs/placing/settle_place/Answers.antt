use Rattle.std.proofs.Common.{Option, subst}
use Rattle.std.specs.Prelude.{IfSome}
use Rattle.vol_base.specs.declared.block.Block.{Block}
use Rattle.settle.specs.Gathered.{spot_at}
use Rattle.settle.specs.Reads.{ReadsAs}
use Rattle.settle.proofs.PlaceLaws.{told-ended, told-unmoved}
use Rattle.settle.proofs.placing.settle_place.Goals as goal

pub returns-in-Ok-None-clause-comes : goal.returns-in-Ok-None-clause-comes
returns-in-Ok-None-clause-comes g c =
    told-ended c.args.geometry (g.L.Lone.told c.args.lone.now) (g.L.Lone.told c.read_block.new.lone) (spot_at c.args.found.now.spots) c.args.spot.file c.args.spot.index
    c.in-Ok-None.ensures.same c.requires.gathered
    (subst (λ (r : Option Block). IfSome (g.L.Lone.told c.args.lone.now) (λ t. ReadsAs c.args.geometry t.image c.args.spot.file c.args.spot.index r))
    c.in-Ok-None.field-0-is c.in-Ok-None.ensures.read)

pub returns-in-Ok-None-clause-stays : goal.returns-in-Ok-None-clause-stays
returns-in-Ok-None-clause-stays g c =
    told-unmoved c.args.geometry (g.L.Lone.told c.args.lone.now) (g.L.Lone.told c.read_block.new.lone) (spot_at c.args.found.now.spots) c.args.spot.file c.args.spot.index
    c.in-Ok-None.ensures.same c.requires.gathered

pub returns-in-Err-clause-stays : goal.returns-in-Err-clause-stays
returns-in-Err-clause-stays g c =
    told-unmoved c.args.geometry (g.L.Lone.told c.args.lone.now) (g.L.Lone.told c.read_block.new.lone) (spot_at c.args.found.now.spots) c.args.spot.file c.args.spot.index
    c.in-Err.ensures.same c.requires.gathered
