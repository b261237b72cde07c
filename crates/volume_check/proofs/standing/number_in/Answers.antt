use Rattle.std.proofs.Common.{◌≤◌, length, sym, ap, ◌∙◌, arith}
use Rattle.std.proofs.lemmas.List.{drop_all}
use Rattle.vol_layout.specs.declared.field.Field.TheVariants.{Head}
use Rattle.vol_layout.specs.declared.field.Edit.{Edit}
use Rattle.image_view.specs.Found.{found}
use Rattle.volume_check.proofs.JournalReads.{found_at, found_behind}
use Rattle.volume_check.proofs.standing.number_in.Goals as goal

pub returns-then-are_same : goal.returns-then-are_same
returns-then-are_same c =
    let d : Edit = record { field = Head 0; number = 0 } in
    let same = c.are_same.ensures.0 c.if-are_same.true in
    sym (c.loop-edit.invariant ∙ found_at c.args.edits.now c.args.what.now c.loop-edit.edit-index d c.loop-edit-test.true same)

pub loop-edit-preserved : goal.loop-edit-preserved
loop-edit-preserved c =
    let d : Edit = record { field = Head 0; number = 0 } in
    c.loop-edit.invariant
    ∙ found_behind c.args.edits.now c.args.what.now c.loop-edit.edit-index d c.loop-edit-test.true (λ is. let so = c.are_same.ensures.1 is in let not_so = c.if-are_same.false in cc)

pub returns : goal.returns
returns c =
    let end : length c.args.edits.now ≤ c.loop-edit.edit-index = omega arith in
    sym (c.loop-edit.invariant ∙ ap (λ es. found es c.args.what.now) (drop_all c.loop-edit.edit-index c.args.edits.now end))
