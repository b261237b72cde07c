use Rattle.std.proofs.Common.{arith, sym}
use Rattle.settle.specs.Gathered.{spot_at}
use Rattle.settle.proofs.FinalLaws.{cut-count, cut-stays, ran-count, ran-distinct, ran-live, ran-settled, ran-stays, stays-files, table-none, told-begin}
use Rattle.settle.proofs.settling.settle.Goals as goal

pub settle_files-requires-clause-volume : goal.settle_files-requires-clause-volume
settle_files-requires-clause-volume g c = sym c.geometry-geometry.ensures.value

pub settle_files-requires-clause-range : goal.settle_files-requires-clause-range
settle_files-requires-clause-range g c = c.geometry-geometry.ensures.range

pub settle_files-requires-clause-table : goal.settle_files-requires-clause-table
settle_files-requires-clause-table g c = table-none c.geometry-geometry.result (spot_at c.none-found.result.spots) c.none-found.ensures.none

pub settle_files-requires-clause-none : goal.settle_files-requires-clause-none
settle_files-requires-clause-none g c = c.none-found.ensures.len

pub settle_files-requires-clause-gathered : goal.settle_files-requires-clause-gathered
settle_files-requires-clause-gathered g c =
    told-begin (g.L.Lone.volume c.args.lone.now) c.geometry-geometry.result (g.L.Lone.told c.args.lone.now) (spot_at c.none-found.result.spots)
    c.geometry-geometry.ensures.value c.requires.sound c.none-found.ensures.none

pub len-requires : goal.len-requires
len-requires g c =
    let few = c.in-Ok.ensures.len in
    let most = c.geometry-geometry.ensures.range.files.1 in
    omega arith

pub returns-in-Ok-clause-settled : goal.returns-in-Ok-clause-settled
returns-in-Ok-clause-settled g c =
    ran-settled c.geometry-geometry.result (g.L.Lone.told c.args.lone.now) (g.L.Lone.told c.settle_files.new.lone) (spot_at c.settle_files.new.found.spots)
    c.in-Ok.live (g.L.Lone.answered c.args.lone.now) (g.L.Lone.answered c.settle_files.new.lone) c.in-Ok.ensures.run

pub returns-in-Ok-clause-stays : goal.returns-in-Ok-clause-stays
returns-in-Ok-clause-stays g c =
    ran-stays (g.L.Lone.volume c.args.lone.now) c.geometry-geometry.result (g.L.Lone.told c.args.lone.now) (g.L.Lone.told c.settle_files.new.lone)
    (spot_at c.settle_files.new.found.spots) c.in-Ok.live (g.L.Lone.answered c.args.lone.now) (g.L.Lone.answered c.settle_files.new.lone)
    c.geometry-geometry.ensures.value c.in-Ok.ensures.run

pub returns-in-Ok-clause-files : goal.returns-in-Ok-clause-files
returns-in-Ok-clause-files g c =
    stays-files (g.L.Lone.volume c.args.lone.now) (g.L.Lone.told c.args.lone.now) (g.L.Lone.told c.settle_files.new.lone) c.requires.sound
    (ran-stays (g.L.Lone.volume c.args.lone.now) c.geometry-geometry.result (g.L.Lone.told c.args.lone.now) (g.L.Lone.told c.settle_files.new.lone)
    (spot_at c.settle_files.new.found.spots) c.in-Ok.live (g.L.Lone.answered c.args.lone.now) (g.L.Lone.answered c.settle_files.new.lone)
    c.geometry-geometry.ensures.value c.in-Ok.ensures.run)

pub returns-in-Ok-clause-live : goal.returns-in-Ok-clause-live
returns-in-Ok-clause-live g c =
    ran-live (g.L.Lone.volume c.args.lone.now) c.geometry-geometry.result (g.L.Lone.told c.args.lone.now) (g.L.Lone.told c.settle_files.new.lone)
    (spot_at c.settle_files.new.found.spots) c.in-Ok.live (g.L.Lone.answered c.args.lone.now) (g.L.Lone.answered c.settle_files.new.lone)
    c.geometry-geometry.ensures.value c.in-Ok.ensures.run

pub returns-in-Ok-clause-distinct : goal.returns-in-Ok-clause-distinct
returns-in-Ok-clause-distinct g c =
    ran-distinct (g.L.Lone.volume c.args.lone.now) c.geometry-geometry.result (g.L.Lone.told c.args.lone.now) (g.L.Lone.told c.settle_files.new.lone)
    c.settle_files.new.found.spots c.len.result c.in-Ok.live (g.L.Lone.answered c.args.lone.now) (g.L.Lone.answered c.settle_files.new.lone)
    c.geometry-geometry.ensures.value c.len.ensures.len c.len.ensures.unique c.in-Ok.ensures.run

pub returns-in-Ok-clause-count : goal.returns-in-Ok-clause-count
returns-in-Ok-clause-count g c =
    ran-count (g.L.Lone.volume c.args.lone.now) c.geometry-geometry.result (g.L.Lone.told c.args.lone.now) (g.L.Lone.told c.settle_files.new.lone)
    (spot_at c.settle_files.new.found.spots) c.in-Ok.live (g.L.Lone.answered c.args.lone.now) (g.L.Lone.answered c.settle_files.new.lone)
    c.geometry-geometry.ensures.value c.in-Ok.ensures.run

pub returns-clause-stays : goal.returns-clause-stays
returns-clause-stays g c =
    cut-stays (g.L.Lone.volume c.args.lone.now) c.geometry-geometry.result (g.L.Lone.told c.args.lone.now) (g.L.Lone.told c.settle_files.new.lone)
    (g.L.Lone.answered c.args.lone.now) (g.L.Lone.answered c.settle_files.new.lone) c.geometry-geometry.ensures.value c.in-Err.ensures.cut

pub returns-clause-files : goal.returns-clause-files
returns-clause-files g c =
    stays-files (g.L.Lone.volume c.args.lone.now) (g.L.Lone.told c.args.lone.now) (g.L.Lone.told c.settle_files.new.lone) c.requires.sound
    (cut-stays (g.L.Lone.volume c.args.lone.now) c.geometry-geometry.result (g.L.Lone.told c.args.lone.now) (g.L.Lone.told c.settle_files.new.lone)
    (g.L.Lone.answered c.args.lone.now) (g.L.Lone.answered c.settle_files.new.lone) c.geometry-geometry.ensures.value c.in-Err.ensures.cut)

pub returns-clause-count : goal.returns-clause-count
returns-clause-count g c =
    cut-count (g.L.Lone.volume c.args.lone.now) c.geometry-geometry.result (g.L.Lone.told c.args.lone.now) (g.L.Lone.told c.settle_files.new.lone)
    (g.L.Lone.answered c.args.lone.now) (g.L.Lone.answered c.settle_files.new.lone) c.geometry-geometry.ensures.value c.in-Err.ensures.cut

pub returns-clause-stopped : goal.returns-clause-stopped
returns-clause-stopped g c = c.in-Err.ensures.stopped

pub returns-in-Ok-clause-began : goal.returns-in-Ok-clause-began
returns-in-Ok-clause-began g c = c.in-Ok.ensures.began

pub returns-clause-began : goal.returns-clause-began
returns-clause-began g c = c.in-Err.ensures.began

pub returns-in-Ok-clause-on : goal.returns-in-Ok-clause-on
returns-in-Ok-clause-on g c = c.in-Ok.ensures.on

pub returns-clause-on : goal.returns-clause-on
returns-clause-on g c = c.in-Err.ensures.on
