use Rattle.std.proofs.Common.{sym}
use Rattle.jobs.proofs.ThreadLaws.{over_at, phase_idle}
use Rattle.jobs.proofs.threading.run_phases.Goals as goal

pub next_phase-requires : goal.next_phase-requires
next_phase-requires g c = record {
  idle = phase_idle c.run_phase-later.result.0.parts c.run_phase-later.result.1 (sym c.if-is_err.ensures.value) c.run_phase-later.ensures.idle;
}

pub returns-then-not-next_phase-clause-over : goal.returns-then-not-next_phase-clause-over
returns-then-not-next_phase-clause-over g c =
    let later = c.run_phase-later.result.0 in
    over_at later c.next_phase.new.self
    (phase_idle later.parts c.run_phase-later.result.1 (sym c.if-is_err.ensures.value) c.run_phase-later.ensures.idle)
    (c.next_phase.ensures.last c.if-not-next_phase.true) (sym c.if-is_spent.ensures) (c.next_phase.ensures.unchanged c.if-not-next_phase.true)
    c.next_phase.ensures.facts
