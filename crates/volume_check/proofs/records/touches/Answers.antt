use Rattle.std.proofs.Common.{◌≡◌, inl, inr, sym, ap, ◌∙◌, arith}
use Rattle.std.specs.Prelude.{slice_get}
use Rattle.std.proofs.lemmas.Bool.{cases_eq}
use Rattle.std.proofs.lemmas.Option.{same_Some, slice_get_within}
use Rattle.vol_layout.specs.declared.field.Field.{Field}
use Rattle.vol_layout.specs.declared.field.Edit.{Edit}
use Rattle.vol_layout.specs.Edits.{touches}
use Rattle.vol_layout.specs.laws.EditLaws.{touches-at}
use Rattle.volume_check.proofs.JournalReads.{touches_none}
use Rattle.volume_check.proofs.records.touches.Goals as goal

pub returns-then-are_same : goal.returns-then-are_same
returns-then-are_same c =
    let same = c.are_same.ensures.0 c.if-are_same.true in
    sym (ap (λ (x : Field). touches c.args.entry.now.edits x) (sym same) ∙ touches-at c.args.entry.now.edits c.loop-index.index c.get.result c.get.ensures)

pub loop-index-preserved : goal.loop-index-preserved
loop-index-preserved c k e lt at same =
    elim (cases_eq k c.loop-index.index) [
      | inl here ↦
          let is : e ≡ c.get.result = same_Some e c.get.result (sym at ∙ ap (λ i. slice_get c.args.entry.now.edits i) here ∙ c.get.ensures) in
          let yes = c.are_same.ensures.1 (ap (λ (e : Edit). e.field) (sym is) ∙ same) in
          let no = c.if-are_same.false in
          cc
      | inr other ↦ c.loop-index.invariant k e (omega arith) at same
    ]

pub returns : goal.returns
returns c =
    sym (touches_none c.args.entry.now.edits c.args.field.now
    (λ k e at. let inside = slice_get_within c.args.entry.now.edits k e at in let end = c.count-index-end.ensures.value in c.loop-index.invariant k e (omega arith) at))
