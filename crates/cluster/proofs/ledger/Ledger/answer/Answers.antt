use Rattle.std.proofs.Common.{◌≡◌, None, Some, slice_get, slice_set, ap, sym, subst, ◌∙◌, arith}
use Rattle.std.specs.Prelude.{All, length}
use Rattle.std.proofs.lemmas.List.{length-set}
use Rattle.cluster.specs.Events.{IsMark}
use Rattle.cluster.specs.Views.{LedgerView}
use Rattle.cluster.specs.laws.MarkLaws.{ledger_answered, marks_answered, with_answer}
use Rattle.cluster.proofs.ledger.Ledger.answer.Goals as goal

without : (c : goal.After-push_reserved) → slice_get c.self.inside.answers.items c.args.position ≡ Some None
without c = ap (λ (v : LedgerView). slice_get v.answers c.args.position) c.self.view_is ∙ c.requires.without

pub invariant_of-self : goal.invariant_of-self
invariant_of-self c =
    let l = c.self.inside in
    let answers = slice_set l.answers.items c.args.position (Some c.args.answer) in
    let few = c.self.invariant.0 in
    let history = c.self.invariant.1 in
    let marks = c.self.invariant.2 in
    let long : length answers ≡ length l.answers.items = length-set l.answers.items c.args.position (Some c.args.answer) in
    let capacity = c.push_reserved.ensures.capacity in (
      omega (arith, few, long),
      omega (arith, history, long),
      omega (arith, marks, long, capacity),
      subst (All (IsMark answers l.history.items)) (sym c.push_reserved.ensures.items)
          (marks_answered l.answers.items l.history.items l.marks.items c.self.invariant.3 c.args.position c.args.answer (without c)),
    )

pub returns : goal.returns
returns c =
    let l = c.self.inside in
    ledger_answered l.answers.items l.history.items l.marks.items c.self.invariant.3 c.args.position c.args.answer (without c)
    c.push_reserved.new.self.items c.push_reserved.ensures.items
    ∙ ap (with_answer c.args.position c.args.answer) c.self.view_is
