use Rattle.std.proofs.Common.{◌%◌, ◌^◌, ◌≡◌, ◌∙◌, Some, subst, sym}
use Rattle.vol_layout.specs.declared.field.Field.TheVariants.{Pointer}
use Rattle.vol_layout.specs.declared.geometry.Geometry.{Geometry}
use Rattle.vol_layout.specs.declared.kind.Table.{Table}
use Rattle.vol_layout.specs.Fields.{HasField, table_of}
use Rattle.vol_layout.specs.Ranges.{IsGeometry}
use Rattle.held_cache.specs.Kept.{kept_at}
use Rattle.file_plans.specs.Says.{PointsTo}
use Rattle.file_plans.specs.laws.SaysLaws.{packed_range, pointer_hole, pointer_said, pointer_table}
use Rattle.file_plans.proofs.seen.pointer.Goals as goal

pub number-requires : goal.number-requires
number-requires c =
    let range = subst IsGeometry (sym c.requires.volume) c.requires.geometry in
    let has = subst (λ (g : Geometry). HasField g (Pointer c.args.file c.args.index)) (sym c.requires.volume) c.requires.pointer in
    (packed_range c.args.cache.now c.args.host (table_of (Pointer c.args.file c.args.index)) c.in-Some.table.now c.requires.packed
    (pointer_table c.args.cache.now.volume c.args.file c.args.index range has)
    (subst (λ (t : Table). kept_at c.args.cache.now c.args.host t ≡ Some c.in-Some.table.now) c.table_of.ensures.table
    (sym c.in-Some.ensures))).entries

pub read_pointer-requires : goal.read_pointer-requires
read_pointer-requires c =
    let range = subst IsGeometry (sym c.requires.volume) c.requires.geometry in
    let has = subst (λ (g : Geometry). HasField g (Pointer c.args.file c.args.index)) (sym c.requires.volume) c.requires.pointer in
    subst (λ n. n % 2 ^ 31 ≡ 0 → n ≡ 0) (sym c.number.ensures)
    (pointer_hole c.args.cache.now c.args.host c.args.file c.args.index c.in-Some.table.now range c.requires.packed has
    (subst (λ (t : Table). kept_at c.args.cache.now c.args.host t ≡ Some c.in-Some.table.now) c.table_of.ensures.table
    (sym c.in-Some.ensures)))

pub returns-in-Some-clause-says : goal.returns-in-Some-clause-says
returns-in-Some-clause-says c =
    let range = subst IsGeometry (sym c.requires.volume) c.requires.geometry in
    let has = subst (λ (g : Geometry). HasField g (Pointer c.args.file c.args.index)) (sym c.requires.volume) c.requires.pointer in
    subst (λ (g : Geometry). PointsTo g (kept_at c.args.cache.now c.args.host) c.args.file c.args.index c.read_pointer.result)
    c.requires.volume
    (pointer_said c.args.cache.now c.args.host c.args.file c.args.index c.in-Some.table.now c.read_pointer.result range c.requires.packed
    has (subst (λ (t : Table). kept_at c.args.cache.now c.args.host t ≡ Some c.in-Some.table.now) c.table_of.ensures.table
    (sym c.in-Some.ensures)) (c.read_pointer.ensures.says ∙ c.number.ensures) c.read_pointer.ensures.range)
