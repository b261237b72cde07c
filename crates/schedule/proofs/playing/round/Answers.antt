use Rattle.std.proofs.Common.{◌≡◌, ◌+◌, ℕ, true, false, refl, sym, subst, ◌∙◌, arith}
use Rattle.vol_base.specs.laws.ResultLaws.{on_err_of}
use Rattle.schedule.specs.Plays.{PlaysUpTo, in_round, wrapped}
use Rattle.schedule.specs.laws.PlayLaws.{round_end, round_idle, same_both, stopped_here, up_first, up_more}
use Rattle.schedule.proofs.playing.round.Goals as goal

pub loop-host-init : goal.loop-host-init
loop-host-init g c =
    record { same = record { began = refl; workload = refl }; plays = up_first c.hosts-hosts.result c.args.cluster.now c.requires.live }

pub step-requires-clause-live : goal.step-requires-clause-live
step-requires-clause-live g c = c.loop-host.invariant.plays.live

pub returns-then-idle-clause-played : goal.returns-then-idle-clause-played
returns-then-idle-clause-played g c =
    round_idle c.hosts-hosts.result c.loop-host.host c.args.cluster.now c.loop-host.cluster c.loop-host.invariant.plays
    (c.idle.ensures.0 c.if-idle.true)

pub step-requires-clause-busy : goal.step-requires-clause-busy
step-requires-clause-busy g c = λ idle. let both : true ≡ false = sym (c.idle.ensures.1 idle) ∙ c.if-idle.false in absurd cc

pub loop-host-preserved : goal.loop-host-preserved
loop-host-preserved g c =
    let value = c.hosts-hosts.ensures.value in
    let below = c.loop-host-test.true in
    record {
      same = same_both _ _ _ c.loop-host.invariant.same c.in_ok-step.ensures.same;
      plays =
          subst (λ (n : ℕ). PlaysUpTo n c.args.cluster.now c.step.new.cluster (c.loop-host.host + 1)) (sym value)
          (up_more c.args.cluster.now c.loop-host.cluster c.step.new.cluster c.loop-host.host (omega (arith, value, below))
          c.loop-host.invariant.same
          (subst (λ (n : ℕ). PlaysUpTo n c.args.cluster.now c.loop-host.cluster c.loop-host.host) value c.loop-host.invariant.plays)
          c.in_ok-step.ensures.gone);
    }

pub returns-clause-played : goal.returns-clause-played
returns-clause-played g c =
    let past = c.loop-host-test.false in
    let most = c.loop-host.auto.host-end in
    let last : c.loop-host.host ≡ c.hosts-hosts.result = omega (arith, past, most) in
    round_end c.hosts-hosts.result c.args.cluster.now c.loop-host.cluster
    (subst (λ (n : ℕ). PlaysUpTo c.hosts-hosts.result c.args.cluster.now c.loop-host.cluster n) last c.loop-host.invariant.plays)
    c.hosts-hosts.ensures.nobody

pub returns-in_err-step-clause-stopped : goal.returns-in_err-step-clause-stopped
returns-in_err-step-clause-stopped g c =
    on_err_of c.from_residual.result
    (stopped_here c.args.cluster.now.parts (in_round 0) c.loop-host.cluster.parts (in_round (wrapped c.hosts-hosts.result c.loop-host.host))
    c.step.new.cluster.parts c.loop-host.invariant.plays.plays c.in_err-step.ensures.refused)
