use Rattle.std.proofs.Common.{true, false, is_some, refl, sym, subst, ap, ◌∙◌}
use Rattle.std.specs.Prelude.{◌≡◌, ◌<◌, IfNone, IfSome, None, Option}
use Rattle.vol_base.specs.declared.block.Block.{Block}
use Rattle.shared_disk.specs.Seen.{seen_by}
use Rattle.host_runs.specs.Runs.{Supplies}
use Rattle.cluster.specs.Agreements.{Supplied}
use Rattle.cluster.specs.Budgets.{IsMeasured}
use Rattle.cluster.specs.Runs.{Facts, GoesOn}
use Rattle.cluster.specs.Views.{BudgetView, ClusterView}
use Rattle.cluster.specs.Waits.{waited_for}
use Rattle.cluster.specs.laws.InvLaws.{facts_of, goes_on, inv_call, steady_of}
use Rattle.cluster.specs.laws.ListLaws.{ledger_supplied, phase_supplied}
use Rattle.cluster.specs.laws.MeasureLaws.{can_supply, lowers_supply, measured_supply, none_supply, same_waits, spent_waits, stays_supply}
use Rattle.cluster.proofs.cluster.Cluster.supply.Goals as goal

pub returns-then-self-clause-facts : goal.returns-then-self-clause-facts
returns-then-self-clause-facts g c = subst Facts c.self.view_is (facts_of _ c.self.invariant.inv)

pub returns-then-self-clause-lowers : goal.returns-then-self-clause-lowers
returns-then-self-clause-lowers g c =
    let v : ClusterView = record {
      began = seen_by g.D.Device c.self.inside.start.value;
      spent = c.self.inside.spent;
      parts = c.self.inside.parts;
      budget = c.self.inside.budget;
    } in
    subst (λ (x : ClusterView). IfSome (waited_for x c.args.host) (λ block. x.budget.left < x.budget.left)) c.self.view_is
    (subst (λ (o : Option Block). IfSome o (λ block. c.self.inside.budget.left < c.self.inside.budget.left))
    (sym (spent_waits v c.args.host c.if-self.true)) tt)

pub returns-then-self-clause-none : goal.returns-then-self-clause-none
returns-then-self-clause-none g c = same_waits c.args.self.now c.args.host

pub returns-then-self-clause-supplied : goal.returns-then-self-clause-supplied
returns-then-self-clause-supplied g c =
    let v : ClusterView = record {
      began = seen_by g.D.Device c.self.inside.start.value;
      spent = c.self.inside.spent;
      parts = c.self.inside.parts;
      budget = c.self.inside.budget;
    } in
    subst (λ (x : ClusterView). waited_for x c.args.host ≡ None) c.self.view_is (spent_waits v c.args.host c.if-self.true)

pub supply-requires-clause-sound : goal.supply-requires-clause-sound
supply-requires-clause-sound g c = c.self.invariant.inv.sound

pub supply-requires-clause-standing : goal.supply-requires-clause-standing
supply-requires-clause-standing g c = (c.self.invariant.inv.live c.if-self.false).2

pub supply-requires-clause-steady : goal.supply-requires-clause-steady
supply-requires-clause-steady g c = steady_of _ c.self.invariant.inv c.if-self.false

pub supply-requires-2 : goal.supply-requires-2
supply-requires-2 g c =
    can_supply _ c.args.host c.supply.new.self c.is_some-waits.result c.self.invariant.inv.sound c.if-self.false c.self.invariant.measured
    c.supply.ensures.turns c.supply.ensures.standing (sym (c.is_some-waits.ensures ∙ ap is_some c.awaited.ensures))

pub invariant_of-self : goal.invariant_of-self
invariant_of-self g c =
    let v : ClusterView = record {
      began = seen_by g.D.Device c.self.inside.start.value;
      spent = c.self.inside.spent;
      parts = c.self.inside.parts;
      budget = c.self.inside.budget;
    } in
    record {
      inv =
          inv_call _ _ (record { began = refl; workload = c.supply.ensures.workload }) (Supplies c.args.host c.args.digest) c.self.invariant.inv
          c.if-self.false c.supply.ensures.supplied c.supply.ensures.sound c.supply.ensures.standing;
      measured =
          subst (λ (b : BudgetView). IsMeasured (record v { parts = c.supply.new.self; budget = b })) (sym c.supply-2.ensures)
          (measured_supply v c.args.host c.supply.new.self c.is_some-waits.result c.self.invariant.inv.sound c.if-self.false
          c.self.invariant.measured c.supply.ensures.turns c.supply.ensures.standing
          (sym (c.is_some-waits.ensures ∙ ap is_some c.awaited.ensures)));
    }

pub returns-clause-run : goal.returns-clause-run
returns-clause-run g c =
    let v : ClusterView = record {
      began = seen_by g.D.Device c.self.inside.start.value;
      spent = c.self.inside.spent;
      parts = c.self.inside.parts;
      budget = c.self.inside.budget;
    } in
    let u : ClusterView = record v { parts = c.supply.new.self; budget = c.supply-2.new.self } in
    λ live. subst (λ (x : ClusterView). GoesOn x (Supplies c.args.host c.args.digest) u) c.self.view_is
    (goes_on v u (record { began = refl; workload = c.supply.ensures.workload }) (Supplies c.args.host c.args.digest) c.supply.ensures.supplied)

pub returns-clause-facts : goal.returns-clause-facts
returns-clause-facts g c = facts_of _ (invariant_of-self g c).inv

pub returns-clause-phase : goal.returns-clause-phase
returns-clause-phase g c =
    phase_supplied _ c.supply.new.self c.self.invariant.inv c.if-self.false c.args.host c.args.digest c.supply.ensures.supplied
    ∙ ap (λ (v : ClusterView). v.parts.phase) c.self.view_is

pub returns-clause-lists : goal.returns-clause-lists
returns-clause-lists g c =
    ledger_supplied _ c.supply.new.self c.self.invariant.inv c.if-self.false c.args.host c.args.digest c.supply.ensures.supplied
    ∙ ap (λ (v : ClusterView). v.parts.ledger) c.self.view_is

pub returns-clause-lowers : goal.returns-clause-lowers
returns-clause-lowers g c =
    let v : ClusterView = record {
      began = seen_by g.D.Device c.self.inside.start.value;
      spent = c.self.inside.spent;
      parts = c.self.inside.parts;
      budget = c.self.inside.budget;
    } in
    subst (λ (x : ClusterView). IfSome (waited_for x c.args.host) (λ block. c.supply-2.new.self.left < x.budget.left)) c.self.view_is
    (subst (λ (b : BudgetView). IfSome (waited_for v c.args.host) (λ block. b.left < v.budget.left)) (sym c.supply-2.ensures)
    (lowers_supply v c.args.host c.supply.new.self c.is_some-waits.result c.self.invariant.inv.sound c.if-self.false
    c.self.invariant.measured c.supply.ensures.turns c.supply.ensures.standing
    (sym (c.is_some-waits.ensures ∙ ap is_some c.awaited.ensures))))

pub returns-clause-none : goal.returns-clause-none
returns-clause-none g c =
    let v : ClusterView = record {
      began = seen_by g.D.Device c.self.inside.start.value;
      spent = c.self.inside.spent;
      parts = c.self.inside.parts;
      budget = c.self.inside.budget;
    } in
    subst (λ (x : ClusterView). IfNone (waited_for x c.args.host) (record v { parts = c.supply.new.self; budget = c.supply-2.new.self } ≡ x))
    c.self.view_is
    (subst (λ (b : BudgetView). IfNone (waited_for v c.args.host) (record v { parts = c.supply.new.self; budget = b } ≡ v))
    (sym c.supply-2.ensures)
    (stays_supply v c.args.host c.supply.new.self c.is_some-waits.result c.self.invariant.inv.sound c.if-self.false
    c.self.invariant.measured c.supply.ensures.turns c.supply.ensures.standing
    (sym (c.is_some-waits.ensures ∙ ap is_some c.awaited.ensures))))

pub returns-clause-supplied : goal.returns-clause-supplied
returns-clause-supplied g c =
    let v : ClusterView = record {
      began = seen_by g.D.Device c.self.inside.start.value;
      spent = c.self.inside.spent;
      parts = c.self.inside.parts;
      budget = c.self.inside.budget;
    } in
    subst (λ (b : BudgetView). waited_for (record v { parts = c.supply.new.self; budget = b }) c.args.host ≡ None) (sym c.supply-2.ensures)
    (none_supply v c.args.host c.supply.new.self c.is_some-waits.result c.self.invariant.inv.sound c.if-self.false
    c.self.invariant.measured c.supply.ensures.turns c.supply.ensures.standing
    (sym (c.is_some-waits.ensures ∙ ap is_some c.awaited.ensures)))

pub returns-clause-noted : goal.returns-clause-noted
returns-clause-noted g c =
    λ live. subst (λ (v : ClusterView). Supplied v.parts c.args.host c.args.digest c.supply.new.self) c.self.view_is c.supply.ensures.supplied

pub returns-then-self-clause-noted : goal.returns-then-self-clause-noted
returns-then-self-clause-noted g c =
    λ live. let both : true ≡ false = sym c.if-self.true ∙ ap (λ (v : ClusterView). v.spent) c.self.view_is ∙ live in absurd cc
