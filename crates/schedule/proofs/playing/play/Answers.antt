use Rattle.std.proofs.Common.{refl, sym, subst, ◌∙◌, arith}
use Rattle.cluster.specs.Views.{ClusterView}
use Rattle.vol_base.specs.laws.ResultLaws.{on_err_of}
use Rattle.schedule.specs.Plays.{HasPlayed, at_word}
use Rattle.schedule.specs.laws.PlayLaws.{phases_end, phases_less, phases_more, same_both, stopped_later, words_first}
use Rattle.schedule.proofs.playing.play.Goals as goal

pub loop-at-init : goal.loop-at-init
loop-at-init g c =
    record {
      same = record { began = refl; workload = refl };
      plays = words_first c.args.words.now 0 c.args.cluster.now (omega arith) c.requires.live;
    }

pub by_phase-requires-clause-live : goal.by_phase-requires-clause-live
by_phase-requires-clause-live g c = c.loop-at.invariant.plays.live

pub by_phase-requires-clause-from : goal.by_phase-requires-clause-from
by_phase-requires-clause-from g c = c.loop-at.invariant.plays.within

pub next_phase-requires : goal.next_phase-requires
next_phase-requires g c = record { idle = c.in_ok-at.ensures.played.idle }

pub loop-at-smaller : goal.loop-at-smaller
loop-at-smaller g c =
    phases_less c.loop-at.cluster c.by_phase.new.cluster c.next_phase.new.self c.in_ok-at.ensures.same c.in_ok-at.ensures.played.phase
    (c.next_phase.ensures.begun c.if-not-next_phase.false) (c.next_phase.ensures.more c.if-not-next_phase.false)

pub loop-at-preserved : goal.loop-at-preserved
loop-at-preserved g c =
    let played = c.in_ok-at.ensures.played in
    record {
      same =
          same_both _ _ _ (same_both _ _ _ c.loop-at.invariant.same c.in_ok-at.ensures.same) c.next_phase.ensures.same;
      plays =
          phases_more c.args.words.now c.loop-at.at c.in_ok-at.at c.args.cluster.now c.loop-at.cluster c.by_phase.new.cluster
          c.next_phase.new.self c.loop-at.invariant.same (same_both _ _ _ c.loop-at.invariant.same c.in_ok-at.ensures.same)
          c.loop-at.invariant.plays played (c.next_phase.ensures.goes played.live c.if-not-next_phase.false)
          (c.next_phase.ensures.live ∙ played.live);
    }

pub returns-then-not-next_phase-clause-same : goal.returns-then-not-next_phase-clause-same
returns-then-not-next_phase-clause-same g c =
    same_both _ _ _ (same_both _ _ _ c.loop-at.invariant.same c.in_ok-at.ensures.same) c.next_phase.ensures.same

pub returns-then-not-next_phase-clause-played : goal.returns-then-not-next_phase-clause-played
returns-then-not-next_phase-clause-played g c =
    subst (λ (y : ClusterView). HasPlayed c.args.words.now c.args.cluster.now.parts y.parts)
    (sym (c.next_phase.ensures.unchanged c.if-not-next_phase.true))
    (phases_end c.args.words.now c.loop-at.at c.in_ok-at.at c.args.cluster.now c.loop-at.cluster c.by_phase.new.cluster
    c.loop-at.invariant.same c.loop-at.invariant.plays c.in_ok-at.ensures.played (c.next_phase.ensures.last c.if-not-next_phase.true))

pub returns-in_err-at-clause-stopped : goal.returns-in_err-at-clause-stopped
returns-in_err-at-clause-stopped g c =
    on_err_of c.from_residual.result
    (stopped_later c.args.cluster.now.parts (at_word c.args.words.now 0) c.loop-at.cluster.parts (at_word c.args.words.now c.loop-at.at)
    c.by_phase.new.cluster.parts c.loop-at.invariant.plays.plays c.loop-at.invariant.same.workload c.in_err-at.ensures.stopped)
