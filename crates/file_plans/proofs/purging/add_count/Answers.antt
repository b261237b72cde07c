use Rattle.std.proofs.Common.{◌≡◌, ◌<◌, false, arith, subst, sym, ◌∙◌}
use Rattle.vol_layout.specs.declared.field.Edit.{Edit}
use Rattle.vol_layout.specs.Edits.{touches}
use Rattle.file_plans.specs.laws.BlocksLaws.{lowest_all, lowest_past}
use Rattle.file_plans.proofs.purging.add_count.Goals as goal

pub add-requires-clause-other : goal.add-requires-clause-other
add-requires-clause-other c =
    subst (λ (e : Edit). touches c.args.entry.now.edits e.field ≡ false) (sym c.lowered.ensures)
    (c.requires.other c.in-Some.number (lowest_past c.args.from c.args.remains.now c.in-Some.number (sym c.lowest.ensures ∙ c.in-Some.is)))

pub overflow_add-result : goal.overflow_add-result
overflow_add-result c =
    let small = lowest_all (λ d. d < 65536) c.args.from c.args.remains.now c.in-Some.number c.requires.small (sym c.lowest.ensures ∙ c.in-Some.is) in
    omega (arith, small)
