use Rattle.std.proofs.Common.{◌≡◌, ◌<◌, ◌*◌, ◌^◌, ℕ, [], List, Option, None, length, sym, subst, ap, ◌∙◌}
use Rattle.std.proofs.lemmas.List.{length-replicate}
use Rattle.vol_base.specs.declared.answer.Answer.{Answer}
use Rattle.workload.specs.declared.line.Line.{Line}
use Rattle.shared_disk.specs.Seen.{seen_by}
use Rattle.cluster.specs.LinesLeft.{lines_left}
use Rattle.cluster.specs.Budgets.{IsKept}
use Rattle.cluster.specs.Runs.{Led}
use Rattle.cluster.specs.Views.{BudgetView, ClusterView, LedgerView}
use Rattle.cluster.specs.laws.InvLaws.{facts_of}
use Rattle.cluster.specs.laws.StartLaws.{cluster_is, few_lines, first_inv, first_measured, first_run}
use Rattle.cluster.proofs.starting.begin.Goals as goal

pub lines_left-requires-clause-few : goal.lines_left-requires-clause-few
lines_left-requires-clause-few g c =
    subst (λ (lines : List Line). length lines < 4294967296) (sym c.as_slice.ensures) (few_lines c.args.workload.lines c.requires.workload.few)

pub lines_left-requires-clause-long : goal.lines_left-requires-clause-long
lines_left-requires-clause-long g c =
    ap (λ (given : List (Option Answer)). length given) c.answers.ensures
    ∙ ap (λ (l : LedgerView). length l.answers) c.requires.room.ledger ∙ length-replicate (length c.args.workload.lines) None
    ∙ ap (λ (lines : List Line). length lines) (sym c.as_slice.ensures)

pub begin-requires : goal.begin-requires
begin-requires g c = c.lines_left.ensures.few

pub returns-clause-is : goal.returns-clause-is
returns-clause-is g c =
    let budget : BudgetView = c.args.room.budget in
    let lines : c.lines_left.result ≡ lines_left c.args.workload.lines c.args.room.ledger.answers 0 =
    c.lines_left.ensures.is ∙ ap (λ (lines : List Line). lines_left lines c.answers.result.now 0) c.as_slice.ensures
    ∙ ap (λ (given : List (Option Answer)). lines_left c.args.workload.lines given 0) c.answers.ensures in
    cluster_is (seen_by g.D.Device c.args.disk) (seen_by g.D.Device c.of-start.result.value) c.args.workload c.args.room c.new-locks.result
    c.new.result c.begin.new.self (ap (seen_by g.D.Device) c.of-start.ensures) c.new-locks.ensures c.new.ensures
    (c.begin.ensures ∙ ap {B = BudgetView} (λ (n : ℕ). record budget { left = n * 2 ^ 28 }) lines)

pub invariant_of-result : goal.invariant_of-result
invariant_of-result g c =
    let few = subst (λ (n : ℕ). n < 4294967296) c.phases_of-phases.ensures c.phases_of-phases.type_inv in
    let device = seen_by g.D.Device c.args.disk in
    subst IsKept (sym (returns-clause-is g c))
    (record {
      inv = first_inv device c.args.workload c.args.room c.requires.workload c.requires.known c.requires.room few c.requires.valid;
      measured = first_measured device c.args.workload c.args.room c.requires.workload c.requires.known c.requires.room few;
    })

pub returns-clause-run : goal.returns-clause-run
returns-clause-run g c =
    subst (λ (v : ClusterView). Led v []) (sym (returns-clause-is g c))
    (first_run (seen_by g.D.Device c.args.disk) c.args.workload c.args.room c.requires.workload c.requires.known c.requires.room
    (subst (λ (n : ℕ). n < 4294967296) c.phases_of-phases.ensures c.phases_of-phases.type_inv))

pub returns-clause-facts : goal.returns-clause-facts
returns-clause-facts g c = facts_of _ (invariant_of-result g c).inv
