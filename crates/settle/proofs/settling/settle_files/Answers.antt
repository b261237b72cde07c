use Rattle.std.proofs.Common.{◌∙◌, refl, ◌≡◌, arith, subst, ℕ}
use Rattle.shared_disk.specs.State.{OnImages}
use Rattle.settle.specs.Gathered.{spot_at}
use Rattle.settle.specs.Rows.{IsRun}
use Rattle.settle.proofs.RunLaws.{told-run-cut, told-run-gathered, told-run-more, told-run-none}
use Rattle.settle.specs.laws.PassLaws.{goes_same, goes_then}
use Rattle.settle.proofs.settling.settle_files.Goals as goal

pub loop-file-init : goal.loop-file-init
loop-file-init g c = record {
  run = told-run-none c.args.geometry (g.L.Lone.told c.args.lone.now) (spot_at c.args.found.now.spots) (g.L.Lone.answered c.args.lone.now) c.requires.gathered;
  table = c.requires.table;
  few = omega arith;
  len = let none = c.requires.none in omega arith;
  volume = c.requires.volume;
  on = goes_same _ _ _ _ refl refl;
  began = refl;
}

pub settle_file-requires-clause-volume : goal.settle_file-requires-clause-volume
settle_file-requires-clause-volume g c = c.loop-file.invariant.volume

pub settle_file-requires-clause-range : goal.settle_file-requires-clause-range
settle_file-requires-clause-range g c = c.requires.range

pub settle_file-requires-clause-file : goal.settle_file-requires-clause-file
settle_file-requires-clause-file g c = c.loop-file-test.true

pub settle_file-requires-clause-table : goal.settle_file-requires-clause-table
settle_file-requires-clause-table g c = c.loop-file.invariant.table

pub settle_file-requires-clause-gathered : goal.settle_file-requires-clause-gathered
settle_file-requires-clause-gathered g c =
    told-run-gathered c.args.geometry (g.L.Lone.told c.args.lone.now) (g.L.Lone.told c.loop-file.lone) c.loop-file.file (spot_at c.loop-file.found.spots)
    c.loop-file.live (g.L.Lone.answered c.args.lone.now) (g.L.Lone.answered c.loop-file.lone) c.loop-file.invariant.run

pub overflow_add-live : goal.overflow_add-live
overflow_add-live g c =
    let few = c.loop-file.invariant.few in
    let more = c.in-Ok.ensures.few in
    let below = c.loop-file-test.true in
    let most = c.requires.range.files.1 in
    omega arith

pub returns-in-Err-clause-cut : goal.returns-in-Err-clause-cut
returns-in-Err-clause-cut g c =
    told-run-cut c.args.geometry (g.L.Lone.told c.args.lone.now) (g.L.Lone.told c.loop-file.lone) (g.L.Lone.told c.settle_file.new.lone) c.loop-file.file
    (spot_at c.loop-file.found.spots) c.loop-file.live (g.L.Lone.answered c.args.lone.now) (g.L.Lone.answered c.loop-file.lone)
    (g.L.Lone.answered c.settle_file.new.lone) c.loop-file-test.true c.loop-file.invariant.run c.in-Err.ensures.cut

pub returns-in-Err-clause-len : goal.returns-in-Err-clause-len
returns-in-Err-clause-len g c =
    let more = c.in-Err.ensures.len in
    let before = c.loop-file.invariant.len in
    let below = c.loop-file-test.true in
    omega arith

pub returns-in-Err-clause-volume : goal.returns-in-Err-clause-volume
returns-in-Err-clause-volume g c = c.in-Err.ensures.volume

pub returns-in-Err-clause-stopped : goal.returns-in-Err-clause-stopped
returns-in-Err-clause-stopped g c = c.in-Err.ensures.stopped

pub loop-file-preserved : goal.loop-file-preserved
loop-file-preserved g c = record {
  run = told-run-more c.args.geometry (g.L.Lone.told c.args.lone.now) (g.L.Lone.told c.loop-file.lone) (g.L.Lone.told c.settle_file.new.lone) c.loop-file.file
      (spot_at c.loop-file.found.spots) (spot_at c.settle_file.new.found.spots) c.loop-file.live c.in-Ok.more (g.L.Lone.answered c.args.lone.now)
      (g.L.Lone.answered c.loop-file.lone) (g.L.Lone.answered c.settle_file.new.lone) c.loop-file-test.true c.loop-file.invariant.run c.in-Ok.ensures.row;
  table = c.in-Ok.ensures.table;
  few = let few = c.loop-file.invariant.few in let more = c.in-Ok.ensures.few in omega arith;
  len = let before = c.loop-file.invariant.len in let more = c.in-Ok.ensures.len in omega arith;
  volume = c.in-Ok.ensures.volume;
  on = goes_then _ _ _ _ _ _ c.loop-file.invariant.on c.in-Ok.ensures.on;
  began = c.in-Ok.ensures.began ∙ c.loop-file.invariant.began;
}

pub returns-clause-run : goal.returns-clause-run
returns-clause-run g c =
    let past = c.loop-file-test.false in
    let within = c.loop-file.auto.file-end in
    let all : c.loop-file.file ≡ c.args.geometry.files = omega arith in
    subst (λ (n : ℕ). OnImages (IsRun c.args.geometry n (spot_at c.loop-file.found.spots) c.loop-file.live (g.L.Lone.answered c.args.lone.now)
    (g.L.Lone.answered c.loop-file.lone)) (g.L.Lone.told c.args.lone.now) (g.L.Lone.told c.loop-file.lone)) all c.loop-file.invariant.run

pub returns-clause-len : goal.returns-clause-len
returns-clause-len g c =
    let before = c.loop-file.invariant.len in
    let within = c.loop-file.auto.file-end in
    omega arith

pub returns-clause-volume : goal.returns-clause-volume
returns-clause-volume g c = c.loop-file.invariant.volume

pub returns-in-Err-clause-began : goal.returns-in-Err-clause-began
returns-in-Err-clause-began g c = c.in-Err.ensures.began ∙ c.loop-file.invariant.began

pub returns-clause-began : goal.returns-clause-began
returns-clause-began g c = c.loop-file.invariant.began

pub returns-in-Err-clause-on : goal.returns-in-Err-clause-on
returns-in-Err-clause-on g c = goes_then _ _ _ _ _ _ c.loop-file.invariant.on c.in-Err.ensures.on

pub returns-clause-on : goal.returns-clause-on
returns-clause-on g c = c.loop-file.invariant.on
