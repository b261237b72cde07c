use Rattle.vol_base.specs.laws.ResultLaws.{on_err_of}
use Rattle.schedule.specs.laws.PlayLaws.{phase_rounds, phase_words, same_both, stopped_rounds}
use Rattle.schedule.proofs.playing.by_phase.Goals as goal

pub by_rounds-requires : goal.by_rounds-requires
by_rounds-requires g c = record { live = c.in_ok-at.ensures.played.up_to.live }

pub returns-then-at-words-clause-played : goal.returns-then-at-words-clause-played
returns-then-at-words-clause-played g c =
    phase_words c.args.words.now c.args.from c.in_ok-at.at c.args.cluster.now c.by_words.new.cluster c.if-at-words.true c.in_ok-at.ensures.played

pub returns-clause-same : goal.returns-clause-same
returns-clause-same g c = same_both _ _ _ c.in_ok-at.ensures.same c.by_rounds.ensures.same

pub returns-clause-played : goal.returns-clause-played
returns-clause-played g c =
    phase_rounds c.args.words.now c.args.from c.in_ok-at.at c.args.cluster.now c.by_words.new.cluster c.by_rounds.new.cluster c.if-at-words.false
    c.in_ok-at.ensures.same c.in_ok-at.ensures.played c.in_ok-by_rounds.ensures.played

pub returns-in_err-by_rounds-clause-stopped : goal.returns-in_err-by_rounds-clause-stopped
returns-in_err-by_rounds-clause-stopped g c =
    on_err_of c.from_residual-in_err-by_rounds.result
    (stopped_rounds c.args.words.now c.args.from c.in_ok-at.at c.args.cluster.now c.by_words.new.cluster c.by_rounds.new.cluster c.if-at-words.false
    c.in_ok-at.ensures.same c.in_ok-at.ensures.played c.in_err-by_rounds.ensures.stopped)
