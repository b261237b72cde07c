use Rattle.std.proofs.Common.{◌≡◌, true, false, refl, sym, ◌∙◌}
use Rattle.vol_base.specs.laws.ResultLaws.{on_err_of}
use Rattle.schedule.specs.laws.PlayLaws.{rounds_first, rounds_more, same_both, stopped_round}
use Rattle.schedule.proofs.playing.by_rounds.Goals as goal

pub loop-cluster-init : goal.loop-cluster-init
loop-cluster-init g c = record { same = record { began = refl; workload = refl }; plays = rounds_first c.args.cluster.now c.requires.live }

pub round-requires : goal.round-requires
round-requires g c = record { live = c.loop-cluster.invariant.plays.live }

pub loop-cluster-smaller : goal.loop-cluster-smaller
loop-cluster-smaller g c =
    c.in_ok-round.ensures.played.lowers
    (λ idle. let both : true ≡ false = sym (c.idle.ensures.1 idle) ∙ c.loop-cluster-test.true in absurd cc)

pub loop-cluster-preserved : goal.loop-cluster-preserved
loop-cluster-preserved g c =
    record {
      same = same_both _ _ _ c.loop-cluster.invariant.same c.in_ok-round.ensures.same;
      plays =
          rounds_more c.args.cluster.now c.loop-cluster.cluster c.round.new.cluster c.loop-cluster.invariant.same c.loop-cluster.invariant.plays
          (λ idle. let both : true ≡ false = sym (c.idle.ensures.1 idle) ∙ c.loop-cluster-test.true in absurd cc)
          c.in_ok-round.ensures.played;
    }

pub returns-clause-played : goal.returns-clause-played
returns-clause-played g c = record { to = c.loop-cluster.invariant.plays; idle = c.idle.ensures.0 c.loop-cluster-test.false }

pub returns-in_err-round-clause-stopped : goal.returns-in_err-round-clause-stopped
returns-in_err-round-clause-stopped g c =
    on_err_of c.from_residual.result
    (stopped_round c.args.cluster.now c.loop-cluster.cluster c.round.new.cluster c.loop-cluster.invariant.same c.loop-cluster.invariant.plays
    (λ idle. let both : true ≡ false = sym (c.idle.ensures.1 idle) ∙ c.loop-cluster-test.true in absurd cc) c.in_err-round.ensures.stopped)
