use Rattle.std.proofs.Common.{◌≡◌, ◌≤◌, ℕ, false, refl, sym, subst, ap, ◌∙◌}
use Rattle.vol_base.specs.Grows.{BeginsWith}
use Rattle.vol_base.specs.Turned.{Lowers, Stays}
use Rattle.shared_disk.specs.Seen.{seen_by}
use Rattle.host_runs.specs.Runs.{Turns}
use Rattle.cluster.specs.Budgets.{IsMeasured}
use Rattle.cluster.specs.Runs.{Facts, GoesOn}
use Rattle.cluster.specs.Views.{BudgetView, ClusterView}
use Rattle.cluster.specs.Waits.{Tells, has_line}
use Rattle.cluster.specs.laws.InvLaws.{facts_of, goes_on, inv_call, inv_spent, steady_of, still_of}
use Rattle.cluster.specs.laws.ListLaws.{events_same, events_still, events_turned, phase_turned}
use Rattle.cluster.specs.laws.MeasureLaws.{can_count, lowers_turn, measured_still, measured_turn, nobody_has, stays_turn}
use Rattle.cluster.proofs.cluster.Cluster.turn.Goals as goal

pub returns-then-self-clause-facts : goal.returns-then-self-clause-facts
returns-then-self-clause-facts g c = subst Facts c.self.view_is (facts_of _ c.self.invariant.inv)

pub turn-requires-clause-sound : goal.turn-requires-clause-sound
turn-requires-clause-sound g c = c.self.invariant.inv.sound

pub turn-requires-clause-standing : goal.turn-requires-clause-standing
turn-requires-clause-standing g c = (c.self.invariant.inv.live c.if-self.false).2

pub turn-requires-clause-steady : goal.turn-requires-clause-steady
turn-requires-clause-steady g c = steady_of _ c.self.invariant.inv c.if-self.false

pub count-requires : goal.count-requires
count-requires g c =
    can_count _ c.args.host c.in-Ok.turn c.turn.new.self c.self.invariant.inv.sound c.if-self.false c.self.invariant.measured c.in-Ok.ensures.tells
    c.in-Ok.ensures.sooner c.in-Ok.ensures.standing

pub invariant_of-self : goal.invariant_of-self
invariant_of-self g c =
    let v : ClusterView = record {
      began = seen_by g.D.Device c.self.inside.start.value;
      spent = c.self.inside.spent;
      parts = c.self.inside.parts;
      budget = c.self.inside.budget;
    } in
    record {
      inv =
          inv_call _ _ (record { began = refl; workload = c.turn.ensures.workload }) (Turns c.args.host c.in-Ok.turn) c.self.invariant.inv
          c.if-self.false c.in-Ok.ensures.turned c.turn.ensures.sound c.in-Ok.ensures.standing;
      measured =
          subst (λ (b : BudgetView). IsMeasured (record v { parts = c.turn.new.self; budget = b })) (sym c.count.ensures)
          (measured_turn v c.args.host c.in-Ok.turn c.turn.new.self c.self.invariant.inv.sound c.if-self.false c.self.invariant.measured
          c.in-Ok.ensures.tells c.in-Ok.ensures.sooner c.in-Ok.ensures.standing);
    }

pub invariant_of-self-in-Err : goal.invariant_of-self-in-Err
invariant_of-self-in-Err g c =
    let still = still_of _ _ c.in-Err.ensures.same in
    record {
      inv =
          inv_spent _ _ (record { began = refl; workload = c.turn.ensures.workload }) c.self.invariant.inv c.if-self.false still
          c.turn.ensures.sound refl;
      measured = measured_still _ _ still refl refl c.self.invariant.measured;
    }

pub returns-in-Ok-clause-run : goal.returns-in-Ok-clause-run
returns-in-Ok-clause-run g c =
    let v : ClusterView = record {
      began = seen_by g.D.Device c.self.inside.start.value;
      spent = c.self.inside.spent;
      parts = c.self.inside.parts;
      budget = c.self.inside.budget;
    } in
    let u : ClusterView = record v { parts = c.turn.new.self; budget = c.count.new.self } in
    subst (λ (x : ClusterView). GoesOn x (Turns c.args.host c.in-Ok.turn) u) c.self.view_is
    (goes_on v u (record { began = refl; workload = c.turn.ensures.workload }) (Turns c.args.host c.in-Ok.turn) c.in-Ok.ensures.turned)

pub returns-in-Ok-clause-facts : goal.returns-in-Ok-clause-facts
returns-in-Ok-clause-facts g c = facts_of _ (invariant_of-self g c).inv

pub returns-in-Err-clause-facts : goal.returns-in-Err-clause-facts
returns-in-Err-clause-facts g c = facts_of _ (invariant_of-self-in-Err g c).inv

pub returns-then-self-clause-events : goal.returns-then-self-clause-events
returns-then-self-clause-events g c = events_same c.args.self.now.parts

pub returns-in-Ok-clause-phase : goal.returns-in-Ok-clause-phase
returns-in-Ok-clause-phase g c =
    phase_turned _ c.turn.new.self c.self.invariant.inv c.if-self.false c.args.host c.in-Ok.turn c.in-Ok.ensures.turned
    ∙ ap (λ (v : ClusterView). v.parts.phase) c.self.view_is

pub returns-in-Ok-clause-events : goal.returns-in-Ok-clause-events
returns-in-Ok-clause-events g c =
    subst (λ (v : ClusterView). BeginsWith v.parts.ledger.events c.turn.new.self.ledger.events) c.self.view_is
    (events_turned _ c.turn.new.self c.self.invariant.inv c.if-self.false c.args.host c.in-Ok.turn c.in-Ok.ensures.turned)

pub returns-in-Err-clause-events : goal.returns-in-Err-clause-events
returns-in-Err-clause-events g c =
    subst (λ (v : ClusterView). BeginsWith v.parts.ledger.events c.turn.new.self.ledger.events) c.self.view_is
    (events_still c.self.inside.parts c.turn.new.self (still_of _ _ c.in-Err.ensures.same))

pub returns-in-Ok-clause-lowers : goal.returns-in-Ok-clause-lowers
returns-in-Ok-clause-lowers g c =
    subst (λ (v : ClusterView). Lowers c.in-Ok.turn v.budget.left c.count.new.self.left) c.self.view_is
    (subst (λ (b : BudgetView). Lowers c.in-Ok.turn c.self.inside.budget.left b.left) (sym c.count.ensures)
    (lowers_turn _ c.args.host c.in-Ok.turn c.turn.new.self c.self.invariant.inv.sound c.if-self.false c.self.invariant.measured
    c.in-Ok.ensures.tells c.in-Ok.ensures.sooner c.in-Ok.ensures.standing))

pub returns-in-Ok-clause-stays : goal.returns-in-Ok-clause-stays
returns-in-Ok-clause-stays g c =
    let v : ClusterView = record {
      began = seen_by g.D.Device c.self.inside.start.value;
      spent = c.self.inside.spent;
      parts = c.self.inside.parts;
      budget = c.self.inside.budget;
    } in
    subst (λ (x : ClusterView). Stays c.in-Ok.turn x (record v { parts = c.turn.new.self; budget = c.count.new.self })) c.self.view_is
    (subst (λ (b : BudgetView). Stays c.in-Ok.turn v (record v { parts = c.turn.new.self; budget = b })) (sym c.count.ensures)
    (stays_turn v c.args.host c.in-Ok.turn c.turn.new.self c.self.invariant.inv.sound c.if-self.false c.self.invariant.measured
    c.in-Ok.ensures.tells c.in-Ok.ensures.sooner c.in-Ok.ensures.standing))

pub returns-then-self-clause-nobody : goal.returns-then-self-clause-nobody
returns-then-self-clause-nobody g c =
    subst (λ (v : ClusterView). (h : ℕ) → v.parts.workload.geometry.hosts ≤ h → has_line v.parts h ≡ false) c.self.view_is
    (nobody_has c.self.inside.parts c.self.invariant.inv.sound)

pub returns-in-Ok-clause-nobody : goal.returns-in-Ok-clause-nobody
returns-in-Ok-clause-nobody g c =
    subst (λ (v : ClusterView). (h : ℕ) → v.parts.workload.geometry.hosts ≤ h → has_line v.parts h ≡ false) c.self.view_is
    (nobody_has c.self.inside.parts c.self.invariant.inv.sound)

pub returns-in-Err-clause-nobody : goal.returns-in-Err-clause-nobody
returns-in-Err-clause-nobody g c =
    subst (λ (v : ClusterView). (h : ℕ) → v.parts.workload.geometry.hosts ≤ h → has_line v.parts h ≡ false) c.self.view_is
    (nobody_has c.self.inside.parts c.self.invariant.inv.sound)

pub returns-in-Ok-clause-tells : goal.returns-in-Ok-clause-tells
returns-in-Ok-clause-tells g c =
    subst (λ (v : ClusterView). Tells v.parts c.args.host c.in-Ok.turn) c.self.view_is c.in-Ok.ensures.tells
