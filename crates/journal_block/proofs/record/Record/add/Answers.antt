use Rattle.std.proofs.Common.{◌≤◌, ap, sym, ◌∙◌, subst, arith, length-set}
use Rattle.std.proofs.lemmas.List.{take_more_set}
use Rattle.vol_layout.specs.Edits.{AreApart, touches}
use Rattle.vol_layout.specs.laws.EditLaws.{AreApart-push}
use Rattle.journal_block.specs.JournalRecord.{JournalRecord}
use Rattle.journal_block.proofs.record.Record.add.Goals as goal

pub invariant_of-self : goal.invariant_of-self
invariant_of-self c =
    let few : c.self.inside.count ≤ 7 = grind (arith, c.self.invariant) in
    let whole = c.self.invariant.2 in
    let new = ap (λ (r : JournalRecord). touches r.edits c.args.edit.field) c.self.view_is ∙ sym c.touches.ensures ∙ c.if-touches.false in (
      omega arith,
      omega arith,
      length-set c.self.inside.edits c.self.inside.count c.args.edit ∙ whole,
      subst AreApart (sym (take_more_set c.self.inside.edits c.self.inside.count c.args.edit (omega (arith, whole)))) (AreApart-push _ c.args.edit c.self.invariant.3 new),
    )
