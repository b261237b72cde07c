use Rattle.std.proofs.Common.{◌∙◌, refl, Bool, Option, arith, subst}
use Rattle.shared_disk.specs.State.{OnImages}
use Rattle.settle.specs.Gathered.{spot_at}
use Rattle.settle.specs.Rows.{PlaceComes}
use Rattle.settle.proofs.RowLaws.{number-most, told-gathered, told-row-cut, told-row-ended, told-row-full, told-row-more, told-row-none}
use Rattle.settle.specs.laws.PassLaws.{goes_same, goes_then}
use Rattle.settle.proofs.settling.settle_file.Goals as goal

pub loop-index-init : goal.loop-index-init
loop-index-init g c = record {
  row = told-row-none c.args.geometry (g.L.Lone.told c.args.lone.now) c.args.file (spot_at c.args.found.now.spots) (g.L.Lone.answered c.args.lone.now)
      c.requires.gathered;
  table = c.requires.table;
  few = omega arith;
  len = omega arith;
  volume = c.requires.volume;
  on = goes_same _ _ _ _ refl refl;
  began = refl;
}

pub returns-in-Ok-None-clause-row : goal.returns-in-Ok-None-clause-row
returns-in-Ok-None-clause-row g c =
    told-row-ended c.args.geometry (g.L.Lone.told c.args.lone.now) (g.L.Lone.told c.loop-index.lone) (g.L.Lone.told c.settle_place.new.lone) c.args.file
    c.loop-index.index (spot_at c.loop-index.found.spots) (spot_at c.settle_place.new.found.spots) c.loop-index.live (g.L.Lone.answered c.args.lone.now)
    (g.L.Lone.answered c.loop-index.lone) (g.L.Lone.answered c.settle_place.new.lone) c.requires.file c.loop-index.invariant.row c.in-Ok-None.ensures.count
    (subst (λ (r : Option Bool). OnImages (PlaceComes c.args.geometry c.args.file c.loop-index.index (spot_at c.settle_place.new.found.spots) r)
    (g.L.Lone.told c.loop-index.lone) (g.L.Lone.told c.settle_place.new.lone)) c.in-Ok-None.field-0-is c.in-Ok-None.ensures.comes)

pub returns-in-Err-clause-cut : goal.returns-in-Err-clause-cut
returns-in-Err-clause-cut g c =
    told-row-cut c.args.geometry (g.L.Lone.told c.args.lone.now) (g.L.Lone.told c.loop-index.lone) (g.L.Lone.told c.settle_place.new.lone) c.args.file
    c.loop-index.index (spot_at c.loop-index.found.spots) c.loop-index.live (g.L.Lone.answered c.args.lone.now) (g.L.Lone.answered c.loop-index.lone)
    (g.L.Lone.answered c.settle_place.new.lone) c.requires.file c.loop-index.invariant.row c.in-Err.ensures.count c.in-Err.ensures.stays

pub loop-index-preserved : goal.loop-index-preserved
loop-index-preserved g c = record {
  row = told-row-more c.args.geometry (g.L.Lone.told c.args.lone.now) (g.L.Lone.told c.loop-index.lone) (g.L.Lone.told c.settle_place.new.lone) c.args.file
      c.loop-index.index (spot_at c.loop-index.found.spots) (spot_at c.settle_place.new.found.spots) c.loop-index.live c.number_of-live.result
      (g.L.Lone.answered c.args.lone.now) (g.L.Lone.answered c.loop-index.lone) (g.L.Lone.answered c.settle_place.new.lone) c.in-Ok-Some.filled
      (c.requires.file, let below = c.loop-index-test.true in omega arith) c.number_of-live.ensures c.loop-index.invariant.row c.in-Ok-Some.ensures.count
      (subst (λ (r : Option Bool). OnImages (PlaceComes c.args.geometry c.args.file c.loop-index.index (spot_at c.settle_place.new.found.spots) r)
      (g.L.Lone.told c.loop-index.lone) (g.L.Lone.told c.settle_place.new.lone)) c.in-Ok-Some.field-0-is c.in-Ok-Some.ensures.comes);
  table = c.in-Ok-Some.ensures.table;
  few =
      let one = number-most c.in-Ok-Some.filled in
      let is = c.number_of-live.ensures in
      let few = c.loop-index.invariant.few in
      omega arith;
  len = let more = c.in-Ok-Some.ensures.len in let before = c.loop-index.invariant.len in omega arith;
  volume = c.in-Ok-Some.ensures.volume;
  on = goes_then _ _ _ _ _ _ c.loop-index.invariant.on c.in-Ok-Some.ensures.on;
  began = c.in-Ok-Some.ensures.began ∙ c.loop-index.invariant.began;
}

pub returns-clause-row : goal.returns-clause-row
returns-clause-row g c =
    let past = c.loop-index-test.false in
    let within = c.loop-index.auto.index-end in
    told-row-full c.args.geometry (g.L.Lone.told c.args.lone.now) (g.L.Lone.told c.loop-index.lone) c.args.file c.loop-index.index
    (spot_at c.loop-index.found.spots) c.loop-index.live (g.L.Lone.answered c.args.lone.now) (g.L.Lone.answered c.loop-index.lone) c.requires.file
    (omega arith) c.loop-index.invariant.row

pub limit-index-end-requires : goal.limit-index-end-requires
limit-index-end-requires g c = c.requires.range

pub settle_place-requires-clause-volume : goal.settle_place-requires-clause-volume
settle_place-requires-clause-volume g c = c.loop-index.invariant.volume

pub settle_place-requires-clause-pointer : goal.settle_place-requires-clause-pointer
settle_place-requires-clause-pointer g c =
    let below = c.loop-index-test.true in
    (c.requires.file, omega arith)

pub settle_place-requires-clause-table : goal.settle_place-requires-clause-table
settle_place-requires-clause-table g c = c.loop-index.invariant.table

pub settle_place-requires-clause-gathered : goal.settle_place-requires-clause-gathered
settle_place-requires-clause-gathered g c =
    told-gathered c.args.geometry (g.L.Lone.told c.args.lone.now) (g.L.Lone.told c.loop-index.lone) c.args.file c.loop-index.index
    (spot_at c.loop-index.found.spots) c.loop-index.live (g.L.Lone.answered c.args.lone.now) (g.L.Lone.answered c.loop-index.lone) c.loop-index.invariant.row

pub overflow_add-live : goal.overflow_add-live
overflow_add-live g c =
    let one = number-most c.in-Ok-Some.filled in
    let is = c.number_of-live.ensures in
    let few = c.loop-index.invariant.few in
    let below = c.loop-index-test.true in
    let most = c.limit-index-end.ensures.bounded in
    omega arith

pub returns-in-Ok-None-clause-few : goal.returns-in-Ok-None-clause-few
returns-in-Ok-None-clause-few g c =
    let few = c.loop-index.invariant.few in
    let below = c.loop-index-test.true in
    let most = c.limit-index-end.ensures.bounded in
    omega arith

pub returns-in-Ok-None-clause-table : goal.returns-in-Ok-None-clause-table
returns-in-Ok-None-clause-table g c = c.in-Ok-None.ensures.table

pub returns-in-Ok-None-clause-len : goal.returns-in-Ok-None-clause-len
returns-in-Ok-None-clause-len g c =
    let more = c.in-Ok-None.ensures.len in
    let before = c.loop-index.invariant.len in
    let below = c.loop-index-test.true in
    let most = c.limit-index-end.ensures.bounded in
    omega arith

pub returns-in-Ok-None-clause-volume : goal.returns-in-Ok-None-clause-volume
returns-in-Ok-None-clause-volume g c = c.in-Ok-None.ensures.volume

pub returns-in-Err-clause-len : goal.returns-in-Err-clause-len
returns-in-Err-clause-len g c =
    let more = c.in-Err.ensures.len in
    let before = c.loop-index.invariant.len in
    let below = c.loop-index-test.true in
    let most = c.limit-index-end.ensures.bounded in
    omega arith

pub returns-in-Err-clause-volume : goal.returns-in-Err-clause-volume
returns-in-Err-clause-volume g c = c.in-Err.ensures.volume

pub returns-in-Err-clause-stopped : goal.returns-in-Err-clause-stopped
returns-in-Err-clause-stopped g c = c.in-Err.ensures.stopped

pub returns-clause-few : goal.returns-clause-few
returns-clause-few g c =
    let few = c.loop-index.invariant.few in
    let within = c.loop-index.auto.index-end in
    let most = c.limit-index-end.ensures.bounded in
    omega arith

pub returns-clause-table : goal.returns-clause-table
returns-clause-table g c = c.loop-index.invariant.table

pub returns-clause-len : goal.returns-clause-len
returns-clause-len g c =
    let before = c.loop-index.invariant.len in
    let within = c.loop-index.auto.index-end in
    let most = c.limit-index-end.ensures.bounded in
    omega arith

pub returns-clause-volume : goal.returns-clause-volume
returns-clause-volume g c = c.loop-index.invariant.volume

pub returns-in-Ok-None-clause-began : goal.returns-in-Ok-None-clause-began
returns-in-Ok-None-clause-began g c = c.in-Ok-None.ensures.began ∙ c.loop-index.invariant.began

pub returns-in-Err-clause-began : goal.returns-in-Err-clause-began
returns-in-Err-clause-began g c = c.in-Err.ensures.began ∙ c.loop-index.invariant.began

pub returns-clause-began : goal.returns-clause-began
returns-clause-began g c = c.loop-index.invariant.began

pub returns-in-Ok-None-clause-on : goal.returns-in-Ok-None-clause-on
returns-in-Ok-None-clause-on g c = goes_then _ _ _ _ _ _ c.loop-index.invariant.on c.in-Ok-None.ensures.on

pub returns-in-Err-clause-on : goal.returns-in-Err-clause-on
returns-in-Err-clause-on g c = goes_then _ _ _ _ _ _ c.loop-index.invariant.on c.in-Err.ensures.on

pub returns-clause-on : goal.returns-clause-on
returns-clause-on g c = c.loop-index.invariant.on
