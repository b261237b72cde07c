-- A record has no more tables than edits.
use Rattle.std.proofs.Common.{◌≡◌, ◌≤◌, Bool, true, false, List, [], ◌∷◌, ap, arith, length}
use Rattle.std.specs.Prelude.{if◌then◌else◌, map}
use Rattle.std.proofs.lemmas.List.{length-map}
use Rattle.vol_layout.specs.declared.field.Edit.{Edit}
use Rattle.vol_layout.specs.declared.kind.Table.{Table}
use Rattle.vol_layout.specs.Fields.{table_of}
use Rattle.plan_parts.specs.TableOrder.{same_table, tables_else, tables_of}
use Rattle.plan_parts.specs.declared.kept.Kept.{Kept}

-- a record has no more tables than edits
else_fewer : (t : Table) (ts : List Table) → length (tables_else t ts) ≤ length ts
else_fewer t [] = omega arith
else_fewer t (u ∷ more) = pick (same_table u t) (else_fewer t more)
  where
    pick : (b : Bool) → length (tables_else t more) ≤ length more
        → length (if b then tables_else t more else u ∷ tables_else t more) ≤ length (u ∷ more)
    pick true fewer = omega (arith, fewer)
    pick false fewer = omega (arith, fewer)

tables_fewer : (es : List Edit) → length (tables_of es) ≤ length es
tables_fewer [] = omega arith
tables_fewer (e ∷ es) =
    let later = tables_fewer es in
    let less = else_fewer (table_of e.field) (tables_of es) in omega (arith, later, less)

pub few_tables : (left : List Kept) (es : List Edit) → map (λ (k : Kept). k.which) left ≡ tables_of es → length es ≤ 8 → length left ≤ 8
few_tables left es order few =
    let same = ap length order in
    let mapped = length-map left (λ (k : Kept). k.which) in
    let fewer = tables_fewer es in omega (arith, same, mapped, fewer, few)
