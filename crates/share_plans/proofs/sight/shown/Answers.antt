use Rattle.std.proofs.Common.{refl, subst, sym, ◌≤◌, ◌+◌}
use Rattle.vol_layout.specs.declared.field.Field.TheVariants.{Head}
use Rattle.vol_layout.specs.declared.kind.Table.TheVariants.{File}
use Rattle.vol_layout.specs.Ranges.{limit}
use Rattle.share_plans.proofs.sight.shown.Goals as goal

pub number-requires : goal.number-requires
number-requires c = (c.requires.packed (File c.args.file) c.in-Some.table.now c.in-Some.ensures.some).entries

pub within-requires-clause-short : goal.within-requires-clause-short
within-requires-clause-short c =
    subst (λ n. n ≤ limit c.args.geometry.now + 1) (sym c.number.ensures)
    ((c.requires.packed (File c.args.file) c.in-Some.table.now c.in-Some.ensures.some).range (Head c.args.file) c.requires.file refl)
