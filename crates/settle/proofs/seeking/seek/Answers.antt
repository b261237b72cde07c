use Rattle.std.proofs.Common.{refl, ◌∙◌, arith, subst, sym}
use Rattle.std.specs.Prelude.{IfSome}
use Rattle.settle.specs.Gathered.{spot_at}
use Rattle.settle.specs.Reads.{IsCompared}
use Rattle.settle.specs.declared.comparing.Compared.{Compared}
use Rattle.settle.proofs.PlaceLaws.{told-still}
use Rattle.settle.proofs.SeekLaws.{passed-more, told-apart-more, told-apart-none, told-moves-join}
use Rattle.settle.specs.laws.PassLaws.{goes_same, goes_then}
use Rattle.settle.proofs.seeking.seek.Goals as goal

pub loop-number-init : goal.loop-number-init
loop-number-init g c = record {
  moves = told-still (g.L.Lone.told c.args.lone.now) c.args.geometry c.args.spot.file c.args.spot.index c.requires.sound;
  apart = told-apart-none c.args.geometry (g.L.Lone.told c.args.lone.now) (spot_at c.args.found.now.spots) c.args.spot.file c.args.spot.index c.args.digest;
  passed = λ m below none. absurd (omega arith);
  volume = c.requires.volume;
  on = goes_same _ _ _ _ refl refl;
  began = refl;
  count = omega arith;
}

pub returns-in-Ok-Same-clause-moves : goal.returns-in-Ok-Same-clause-moves
returns-in-Ok-Same-clause-moves g c =
    told-moves-join c.args.geometry c.args.spot.file c.args.spot.index (g.L.Lone.told c.args.lone.now) (g.L.Lone.told c.loop-number.lone)
    (g.L.Lone.told c.compare.new.lone) c.loop-number.invariant.moves c.in-Ok-Same.ensures.moves

pub returns-in-Ok-Hole-clause-moves : goal.returns-in-Ok-Hole-clause-moves
returns-in-Ok-Hole-clause-moves g c =
    told-moves-join c.args.geometry c.args.spot.file c.args.spot.index (g.L.Lone.told c.args.lone.now) (g.L.Lone.told c.loop-number.lone)
    (g.L.Lone.told c.compare.new.lone) c.loop-number.invariant.moves c.in-Ok-Hole.ensures.moves

pub returns-in-Err-clause-moves : goal.returns-in-Err-clause-moves
returns-in-Err-clause-moves g c =
    told-moves-join c.args.geometry c.args.spot.file c.args.spot.index (g.L.Lone.told c.args.lone.now) (g.L.Lone.told c.loop-number.lone)
    (g.L.Lone.told c.compare.new.lone) c.loop-number.invariant.moves c.in-Err.ensures.moves

pub returns-in-Ok-Same-clause-began : goal.returns-in-Ok-Same-clause-began
returns-in-Ok-Same-clause-began g c = c.in-Ok-Same.ensures.began ∙ c.loop-number.invariant.began

pub returns-in-Ok-Hole-clause-began : goal.returns-in-Ok-Hole-clause-began
returns-in-Ok-Hole-clause-began g c = c.in-Ok-Hole.ensures.began ∙ c.loop-number.invariant.began

pub returns-in-Err-clause-began : goal.returns-in-Err-clause-began
returns-in-Err-clause-began g c = c.in-Err.ensures.began ∙ c.loop-number.invariant.began

pub loop-number-preserved : goal.loop-number-preserved
loop-number-preserved g c =
    let there = sym c.find.ensures ∙ c.in-Some.is in
    record {
      moves = told-moves-join c.args.geometry c.args.spot.file c.args.spot.index (g.L.Lone.told c.args.lone.now) (g.L.Lone.told c.loop-number.lone)
          (g.L.Lone.told c.compare.new.lone) c.loop-number.invariant.moves c.in-Ok-Other.ensures.moves;
      apart = told-apart-more c.args.geometry (g.L.Lone.told c.loop-number.lone) (g.L.Lone.told c.compare.new.lone) (spot_at c.args.found.now.spots)
          c.args.spot.file c.args.spot.index c.args.digest c.loop-number.number c.in-Some.source c.requires.pointer c.requires.table there
          c.loop-number.invariant.apart c.in-Ok-Other.ensures.moves
          (subst (λ (r : Compared). IfSome (g.L.Lone.told c.compare.new.lone) (λ t. IsCompared c.args.geometry t.image c.args.spot.file c.args.spot.index c.in-Some.source r))
          c.in-Ok-Other.field-0-is c.in-Ok-Other.ensures.compared);
      passed = passed-more (spot_at c.args.found.now.spots) c.args.digest c.loop-number.number c.in-Some.source there c.loop-number.invariant.passed;
      volume = c.in-Ok-Other.ensures.volume;
      on = goes_then _ _ _ _ _ _ c.loop-number.invariant.on c.in-Ok-Other.ensures.on;
      began = c.in-Ok-Other.ensures.began ∙ c.loop-number.invariant.began;
      count = let more = c.in-Ok-Other.ensures.count in let before = c.loop-number.invariant.count in omega arith;
    }

pub returns-in-Ok-Same-clause-on : goal.returns-in-Ok-Same-clause-on
returns-in-Ok-Same-clause-on g c = goes_then _ _ _ _ _ _ c.loop-number.invariant.on c.in-Ok-Same.ensures.on

pub returns-in-Ok-Hole-clause-on : goal.returns-in-Ok-Hole-clause-on
returns-in-Ok-Hole-clause-on g c = goes_then _ _ _ _ _ _ c.loop-number.invariant.on c.in-Ok-Hole.ensures.on

pub returns-in-Err-clause-on : goal.returns-in-Err-clause-on
returns-in-Err-clause-on g c = goes_then _ _ _ _ _ _ c.loop-number.invariant.on c.in-Err.ensures.on
