use Rattle.std.proofs.Common.{◌++◌, ◌∷◌, List, [], length, ap, ◌∙◌}
use Rattle.plain_files.specs.declared.history.Placed.{Placed}
use Rattle.cluster.specs.declared.mark.Mark.TheVariants.{Entered}
use Rattle.cluster.specs.laws.MarkLaws.{ledger_entered, with_entry}
use Rattle.cluster.proofs.ledger.Ledger.enter.Goals as goal

pub returns : goal.returns
returns c =
    let l = c.self.inside in
    let number = ap (λ (entries : List Placed). l.marks.items ++ Entered (length entries) ∷ []) c.as_slice.ensures.value in
    ledger_entered l.answers.items l.history.items l.marks.items c.self.invariant.3 c.args.entry c.push_reserved.new.self.items
    c.push_reserved-2.new.self.items c.push_reserved.ensures.items (c.push_reserved-2.ensures.items ∙ number)
    ∙ ap (with_entry c.args.entry) c.self.view_is
