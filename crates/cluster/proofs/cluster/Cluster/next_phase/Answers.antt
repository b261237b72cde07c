use Rattle.std.proofs.Common.{◌+◌, ◌<◌, ◌*◌, ◌^◌, ℕ, refl, sym, subst, ap, ◌∙◌}
use Rattle.shared_disk.specs.Seen.{seen_by}
use Rattle.host_runs.specs.Runs.{NextPhase}
use Rattle.cluster.specs.Budgets.{IsMeasured}
use Rattle.cluster.specs.Runs.{Goes, GoesOn, IsIdle}
use Rattle.cluster.specs.Views.{BudgetView, ClusterView, PartsView}
use Rattle.cluster.specs.laws.InvLaws.{facts_of}
use Rattle.cluster.specs.laws.MeasureLaws.{measured_phase}
use Rattle.cluster.specs.laws.PhaseLaws.{phase_goes, phase_inv, phase_on}
use Rattle.cluster.proofs.cluster.Cluster.next_phase.Goals as goal

pub next_phase-requires-clause-sound : goal.next_phase-requires-clause-sound
next_phase-requires-clause-sound g c = c.self.invariant.inv.sound

pub next_phase-requires-clause-idle : goal.next_phase-requires-clause-idle
next_phase-requires-clause-idle g c = subst (λ (v : ClusterView). IsIdle v.parts) (sym c.self.view_is) c.requires.idle

pub invariant_of-self : goal.invariant_of-self
invariant_of-self g c =
    let v : ClusterView = record {
      began = seen_by g.D.Device c.self.inside.start.value;
      spent = c.self.inside.spent;
      parts = c.self.inside.parts;
      budget = c.self.inside.budget;
    } in
    record {
      inv =
          phase_inv v c.next_phase.new.self c.self.inside.budget c.self.invariant.inv
          (subst (λ (v : ClusterView). IsIdle v.parts) (sym c.self.view_is) c.requires.idle) c.next_phase.result c.next_phase.ensures.more
          c.next_phase.ensures.begun c.next_phase.ensures.same;
      measured =
          subst (λ (p : PartsView). IsMeasured (record v { parts = p })) (sym (c.next_phase.ensures.same c.if-not-next_phase.true))
          c.self.invariant.measured;
    }

pub returns-then-not-next_phase-clause-facts : goal.returns-then-not-next_phase-clause-facts
returns-then-not-next_phase-clause-facts g c = facts_of _ (invariant_of-self g c).inv

pub returns-then-not-next_phase-clause-run : goal.returns-then-not-next_phase-clause-run
returns-then-not-next_phase-clause-run g c = λ live is. absurd cc

pub lines_left-lines-requires : goal.lines_left-lines-requires
lines_left-lines-requires g c = record { sound = c.next_phase.ensures.sound }

pub begin-requires : goal.begin-requires
begin-requires g c = c.lines_left-lines.ensures.few

pub invariant_of-self-2 : goal.invariant_of-self-2
invariant_of-self-2 g c =
    let v : ClusterView = record {
      began = seen_by g.D.Device c.self.inside.start.value;
      spent = c.self.inside.spent;
      parts = c.self.inside.parts;
      budget = c.self.inside.budget;
    } in
    let idle = subst (λ (v : ClusterView). IsIdle v.parts) (sym c.self.view_is) c.requires.idle in
    let begun = c.next_phase.ensures.begun c.if-not-next_phase.false in
    record {
      inv =
          phase_inv v c.next_phase.new.self c.begin.new.self c.self.invariant.inv idle c.next_phase.result c.next_phase.ensures.more
          c.next_phase.ensures.begun c.next_phase.ensures.same;
      measured =
          measured_phase v (record v { parts = c.next_phase.new.self; budget = c.begin.new.self }) c.self.invariant.measured
          (λ live. (c.self.invariant.inv.live live).2) idle (ap (λ (p : PartsView). p.workload) begun) (ap (λ (p : PartsView). p.seats) begun)
          refl (c.begin.ensures ∙ ap {B = BudgetView} (λ (n : ℕ). record (c.self.inside.budget) { left = n * 2 ^ 28 }) c.lines_left-lines.ensures.is);
    }

pub returns-clause-run : goal.returns-clause-run
returns-clause-run g c =
    let v : ClusterView = record {
      began = seen_by g.D.Device c.self.inside.start.value;
      spent = c.self.inside.spent;
      parts = c.self.inside.parts;
      budget = c.self.inside.budget;
    } in
    let u : ClusterView = record v { parts = c.next_phase.new.self; budget = c.begin.new.self } in
    λ live is. subst (λ (v : ClusterView). GoesOn v NextPhase u) c.self.view_is
    (phase_on v c.next_phase.new.self c.begin.new.self c.self.invariant.inv
    (subst (λ (v : ClusterView). IsIdle v.parts) (sym c.self.view_is) c.requires.idle) c.next_phase.result c.next_phase.ensures.more
    c.next_phase.ensures.begun c.next_phase.ensures.same (ap (λ (v : ClusterView). v.spent) c.self.view_is ∙ live) c.if-not-next_phase.false)

pub returns-clause-facts : goal.returns-clause-facts
returns-clause-facts g c = facts_of _ (invariant_of-self-2 g c).inv

pub returns-clause-goes : goal.returns-clause-goes
returns-clause-goes g c =
    λ live is. subst (λ (v : ClusterView). Goes v.parts NextPhase c.next_phase.new.self) c.self.view_is
    (phase_goes _ c.next_phase.new.self c.begin.new.self c.self.invariant.inv
    (subst (λ (v : ClusterView). IsIdle v.parts) (sym c.self.view_is) c.requires.idle) c.next_phase.result c.next_phase.ensures.more
    c.next_phase.ensures.begun c.next_phase.ensures.same (ap (λ (v : ClusterView). v.spent) c.self.view_is ∙ live) c.if-not-next_phase.false)

pub returns-then-not-next_phase-clause-goes : goal.returns-then-not-next_phase-clause-goes
returns-then-not-next_phase-clause-goes g c = λ live is. absurd cc

pub returns-clause-more : goal.returns-clause-more
returns-clause-more g c =
    λ begun. subst (λ (v : ClusterView). v.parts.phase + 1 < v.parts.workload.phases) c.self.view_is
    (c.next_phase.ensures.more c.if-not-next_phase.false)
