use Rattle.std.proofs.Common.{subst, sym}
use Rattle.vol_base.specs.declared.block.Digest.{Digest}
use Rattle.settle.specs.Added.{Adds}
use Rattle.settle.specs.Gathered.{IsNext}
use Rattle.settle.specs.Gathered.{spot_at}
use Rattle.settle.proofs.GatherLaws.{table-more}
use Rattle.settle.proofs.PlaceLaws.{told-fresh, told-hole-placed}
use Rattle.settle.proofs.placing.settle_fresh.Goals as goal

pub returns-in-Ok-true-clause-placed : goal.returns-in-Ok-true-clause-placed
returns-in-Ok-true-clause-placed g c =
    told-hole-placed c.args.geometry (g.L.Lone.told c.args.lone.now) (g.L.Lone.told c.is_hole.new.lone) (spot_at c.args.found.now.spots) c.args.spot.file c.args.spot.index
    c.args.block.now c.in-Ok-true.field-0 c.requires.pointer c.requires.next c.in-Ok-true.ensures.moves c.in-Ok-true.ensures.hole c.in-Ok-true.field-0-test

pub returns-in-Ok-clause-placed : goal.returns-in-Ok-clause-placed
returns-in-Ok-clause-placed g c =
    told-fresh c.args.geometry (g.L.Lone.told c.args.lone.now) (g.L.Lone.told c.is_hole.new.lone) (spot_at c.args.found.now.spots) (spot_at c.add.new.self.spots)
    c.args.number c.args.spot c.args.block.now c.in-Ok-false.field-0 c.requires.pointer c.requires.table c.requires.free
    (subst (λ (x : Digest). Adds (spot_at c.args.found.now.spots) (spot_at c.add.new.self.spots) x c.args.number c.args.spot) c.requires.digest c.in-Ok.ensures.added)
    c.requires.next c.requires.apart c.in-Ok-false.ensures.moves c.in-Ok-false.ensures.hole c.in-Ok-false.field-0-test

pub returns-in-Ok-clause-table : goal.returns-in-Ok-clause-table
returns-in-Ok-clause-table g c =
    table-more c.args.geometry (spot_at c.args.found.now.spots) (spot_at c.add.new.self.spots) c.args.digest c.args.number c.args.spot c.requires.table
    (subst (λ (x : Digest). IsNext (spot_at c.args.found.now.spots) x c.args.number) (sym c.requires.digest) c.requires.free)
    c.requires.pointer c.in-Ok.ensures.added
