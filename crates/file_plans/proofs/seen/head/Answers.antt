use Rattle.std.proofs.Common.{◌+◌, ◌≤◌, refl, subst, sym}
use Rattle.vol_layout.specs.declared.field.Field.TheVariants.{Head}
use Rattle.vol_layout.specs.declared.kind.Table.TheVariants.{File}
use Rattle.vol_layout.specs.Ranges.{limit}
use Rattle.file_plans.specs.laws.SaysLaws.{packed_range}
use Rattle.file_plans.proofs.seen.head.Goals as goal

pub number-requires : goal.number-requires
number-requires c =
    (packed_range c.args.cache.now c.args.host (File c.args.file) c.in-Some.table.now c.requires.packed c.requires.file
    (sym c.in-Some.ensures)).entries

pub returns-in-Some-clause-short : goal.returns-in-Some-clause-short
returns-in-Some-clause-short c =
    subst (λ n. n ≤ limit c.args.cache.now.volume + 1) (sym c.number.ensures)
    ((packed_range c.args.cache.now c.args.host (File c.args.file) c.in-Some.table.now c.requires.packed c.requires.file
    (sym c.in-Some.ensures)).range (Head c.args.file) c.requires.file refl)
