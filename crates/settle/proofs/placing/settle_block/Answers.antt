use Rattle.std.proofs.Common.{arith, subst}
use Rattle.std.specs.Prelude.{IfSome}
use Rattle.settle.specs.Gathered.{spot_at}
use Rattle.settle.specs.Reads.{IsSought}
use Rattle.settle.specs.declared.seeking.Sought.{Sought}
use Rattle.settle.proofs.PlaceLaws.{told-block-count, told-joined, told-next, told-placed-result, told-shown-hole, told-stays-join}
use Rattle.settle.specs.laws.PassLaws.{goes_then}
use Rattle.settle.proofs.placing.settle_block.Goals as goal

pub settle_fresh-requires-clause-next : goal.settle_fresh-requires-clause-next
settle_fresh-requires-clause-next g c =
    told-next c.args.geometry (g.L.Lone.told c.args.lone.now) (g.L.Lone.told c.seek.new.lone) (spot_at c.args.found.now.spots) c.args.spot.file c.args.spot.index
    c.args.block.now c.requires.pointer c.requires.next c.in-Ok-Fresh.ensures.moves

pub returns-in-Ok-Joined-clause-placed : goal.returns-in-Ok-Joined-clause-placed
returns-in-Ok-Joined-clause-placed g c =
    told-joined c.args.geometry (g.L.Lone.told c.args.lone.now) (g.L.Lone.told c.seek.new.lone) (spot_at c.args.found.now.spots) c.args.spot.file c.args.spot.index
    c.args.block.now c.digest_of-digest.result c.requires.pointer c.requires.next c.in-Ok-Joined.ensures.moves
    (subst (λ (r : Sought). IfSome (g.L.Lone.told c.seek.new.lone)
    (λ t. IsSought c.args.geometry t.image (spot_at c.args.found.now.spots) c.args.spot.file c.args.spot.index c.digest_of-digest.result r))
    c.in-Ok-Joined.field-0-is c.in-Ok-Joined.ensures.sought)

pub returns-in-Ok-Joined-clause-count : goal.returns-in-Ok-Joined-clause-count
returns-in-Ok-Joined-clause-count g c =
    told-block-count c.args.geometry (g.L.Lone.told c.args.lone.now) (spot_at c.args.found.now.spots) c.args.spot.file c.args.spot.index
    (g.L.Lone.answered c.args.lone.now) (g.L.Lone.answered c.seek.new.lone) (g.L.Lone.answered c.seek.new.lone) c.digest_of-digest.result c.args.block.now
    c.requires.table c.requires.next c.in-Ok-Joined.ensures.count (omega arith)

pub returns-in-Ok-Hole-clause-placed : goal.returns-in-Ok-Hole-clause-placed
returns-in-Ok-Hole-clause-placed g c =
    told-shown-hole c.args.geometry (g.L.Lone.told c.args.lone.now) (g.L.Lone.told c.seek.new.lone) (spot_at c.args.found.now.spots) c.args.spot.file
    c.args.spot.index c.args.block.now c.requires.pointer c.requires.next c.in-Ok-Hole.ensures.moves
    (subst (λ (r : Sought). IfSome (g.L.Lone.told c.seek.new.lone)
    (λ t. IsSought c.args.geometry t.image (spot_at c.args.found.now.spots) c.args.spot.file c.args.spot.index c.digest_of-digest.result r))
    c.in-Ok-Hole.field-0-is c.in-Ok-Hole.ensures.sought)

pub returns-in-Ok-Hole-clause-count : goal.returns-in-Ok-Hole-clause-count
returns-in-Ok-Hole-clause-count g c =
    told-block-count c.args.geometry (g.L.Lone.told c.args.lone.now) (spot_at c.args.found.now.spots) c.args.spot.file c.args.spot.index
    (g.L.Lone.answered c.args.lone.now) (g.L.Lone.answered c.seek.new.lone) (g.L.Lone.answered c.seek.new.lone) c.digest_of-digest.result c.args.block.now
    c.requires.table c.requires.next c.in-Ok-Hole.ensures.count (omega arith)

pub returns-in-Ok-Fresh-clause-placed : goal.returns-in-Ok-Fresh-clause-placed
returns-in-Ok-Fresh-clause-placed g c =
    told-placed-result c.args.geometry (g.L.Lone.told c.args.lone.now) (g.L.Lone.told c.seek.new.lone) (g.L.Lone.told c.settle_fresh.new.lone)
    (spot_at c.settle_fresh.new.found.spots) c.args.spot.file c.args.spot.index c.settle_fresh.result c.requires.pointer c.in-Ok-Fresh.ensures.moves
    c.settle_fresh.ensures.placed

pub returns-in-Ok-Fresh-clause-stays : goal.returns-in-Ok-Fresh-clause-stays
returns-in-Ok-Fresh-clause-stays g c =
    told-stays-join c.args.geometry c.args.spot.file c.args.spot.index (g.L.Lone.told c.args.lone.now) (g.L.Lone.told c.seek.new.lone)
    (g.L.Lone.told c.settle_fresh.new.lone) c.in-Ok-Fresh.ensures.moves c.settle_fresh.ensures.stays

pub returns-in-Ok-Fresh-clause-count : goal.returns-in-Ok-Fresh-clause-count
returns-in-Ok-Fresh-clause-count g c =
    told-block-count c.args.geometry (g.L.Lone.told c.args.lone.now) (spot_at c.args.found.now.spots) c.args.spot.file c.args.spot.index
    (g.L.Lone.answered c.args.lone.now) (g.L.Lone.answered c.seek.new.lone) (g.L.Lone.answered c.settle_fresh.new.lone) c.digest_of-digest.result
    c.args.block.now c.requires.table c.requires.next c.in-Ok-Fresh.ensures.count c.settle_fresh.ensures.count

pub returns-in-Err-clause-count : goal.returns-in-Err-clause-count
returns-in-Err-clause-count g c =
    told-block-count c.args.geometry (g.L.Lone.told c.args.lone.now) (spot_at c.args.found.now.spots) c.args.spot.file c.args.spot.index
    (g.L.Lone.answered c.args.lone.now) (g.L.Lone.answered c.seek.new.lone) (g.L.Lone.answered c.seek.new.lone) c.digest_of-digest.result c.args.block.now
    c.requires.table c.requires.next c.in-Err.ensures.count (omega arith)

pub returns-in-Ok-Fresh-clause-on : goal.returns-in-Ok-Fresh-clause-on
returns-in-Ok-Fresh-clause-on g c = goes_then _ _ _ _ _ _ c.in-Ok-Fresh.ensures.on c.settle_fresh.ensures.on
