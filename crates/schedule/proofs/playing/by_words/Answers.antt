use Rattle.std.proofs.Common.{◌≡◌, true, false, refl, sym, ◌∙◌, arith}
use Rattle.vol_base.specs.laws.ResultLaws.{on_err_of}
use Rattle.schedule.specs.Plays.{at_word}
use Rattle.schedule.specs.laws.PlayLaws.{same_both, stopped_here, words_first, words_more}
use Rattle.schedule.proofs.playing.by_words.Goals as goal

pub loop-at-init : goal.loop-at-init
loop-at-init g c =
    record {
      same = record { began = refl; workload = refl };
      phase = refl;
      plays = words_first c.args.words.now c.args.from c.args.cluster.now c.requires.from c.requires.live;
    }

pub step-requires-clause-live : goal.step-requires-clause-live
step-requires-clause-live g c = c.loop-at.invariant.plays.live

pub step-requires-clause-busy : goal.step-requires-clause-busy
step-requires-clause-busy g c = λ idle. let both : true ≡ false = sym (c.idle.ensures.1 idle) ∙ c.if-not-idle.true in absurd cc

pub loop-at-preserved : goal.loop-at-preserved
loop-at-preserved g c =
    record {
      same = same_both _ _ _ c.loop-at.invariant.same c.in_ok-step.ensures.same;
      phase = c.in_ok-step.ensures.gone.phase ∙ c.loop-at.invariant.phase;
      plays =
          words_more c.args.words.now c.args.from c.loop-at.at c.args.cluster.now c.loop-at.cluster c.step.new.cluster c.loop-at-test.true
          c.loop-at.invariant.same c.loop-at.invariant.plays c.in_ok-step.ensures.gone;
    }

pub returns-else-not-idle-clause-played : goal.returns-else-not-idle-clause-played
returns-else-not-idle-clause-played g c =
    record {
      up_to = c.loop-at.invariant.plays;
      ends = λ below. c.idle.ensures.0 c.if-not-idle.false;
      phase = c.loop-at.invariant.phase;
    }

pub returns-after-loop-at-clause-played : goal.returns-after-loop-at-clause-played
returns-after-loop-at-clause-played g c =
    let past = c.loop-at-test.false in
    record {
      up_to = c.loop-at.invariant.plays;
      ends = λ below. absurd (omega (arith, below, past));
      phase = c.loop-at.invariant.phase;
    }

pub returns-in_err-step-clause-stopped : goal.returns-in_err-step-clause-stopped
returns-in_err-step-clause-stopped g c =
    on_err_of c.from_residual.result
    (stopped_here c.args.cluster.now.parts (at_word c.args.words.now c.args.from) c.loop-at.cluster.parts (at_word c.args.words.now c.loop-at.at)
    c.step.new.cluster.parts c.loop-at.invariant.plays.plays c.in_err-step.ensures.refused)
