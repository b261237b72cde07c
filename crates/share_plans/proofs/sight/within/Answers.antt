use Rattle.std.proofs.Common.{◌≡◌, ◌≤◌, ◌%◌, ◌^◌, ◌∙◌, Some, arith, subst, sym}
use Rattle.vol_layout.specs.declared.kind.Table.{Table}
use Rattle.share_plans.specs.ReadTables.{kept_in}
use Rattle.share_plans.specs.laws.SpotLaws.{nothing_past, pointer_hole, points_to}
use Rattle.share_plans.proofs.sight.within.Goals as goal

pub returns-then-index-saturating_sub : goal.returns-then-index-saturating_sub
returns-then-index-saturating_sub c =
    nothing_past c.args.geometry.now (kept_in c.args.tables.now) c.args.file c.args.index c.args.head c.requires.file c.requires.head
    (subst (λ n. n ≤ c.args.index) c.saturating_sub.ensures c.if-index-saturating_sub.true)

pub number-requires : goal.number-requires
number-requires c = (c.requires.packed c.table_of-which.result c.in-Some.table.now c.in-Some.ensures.some).entries

pub read_pointer-requires : goal.read_pointer-requires
read_pointer-requires c =
    subst (λ n. n % 2 ^ 31 ≡ 0 → n ≡ 0) (sym c.number.ensures)
    (pointer_hole c.args.geometry.now (kept_in c.args.tables.now) c.requires.packed c.args.file c.args.index c.in-Some.table.now
    (subst (λ (t : Table). kept_in c.args.tables.now t ≡ Some c.in-Some.table.now) c.table_of-which.ensures.table c.in-Some.ensures.some)
    (c.requires.file, omega (arith, c.if-index-saturating_sub.false, c.saturating_sub.ensures, c.requires.short)))

pub returns-in-Some : goal.returns-in-Some
returns-in-Some c =
    c.pointed.ensures c.args.geometry.now (kept_in c.args.tables.now) c.args.file c.args.index
    (points_to c.args.geometry.now (kept_in c.args.tables.now) c.requires.packed c.args.file c.args.index c.in-Some.table.now
    (subst (λ (t : Table). kept_in c.args.tables.now t ≡ Some c.in-Some.table.now) c.table_of-which.ensures.table c.in-Some.ensures.some)
    c.args.head c.read_pointer.result c.requires.head
    (omega (arith, c.if-index-saturating_sub.false, c.saturating_sub.ensures))
    (c.requires.file, omega (arith, c.if-index-saturating_sub.false, c.saturating_sub.ensures, c.requires.short))
    (c.read_pointer.ensures.says ∙ c.number.ensures) c.read_pointer.ensures.range)
