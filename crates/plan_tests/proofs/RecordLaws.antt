-- The edits of a record that is left standing are in range.
use Rattle.std.proofs.Common.{◌≡◌, ◌<◌, ℕ, [], ◌∷◌, arith, subst, sym, inl, inr}
use Rattle.vol_layout.specs.declared.field.Edit.{Edit}
use Rattle.vol_layout.specs.declared.field.Field.TheVariants.{Count, Pointer}
use Rattle.vol_layout.specs.declared.geometry.Geometry.{Geometry}
use Rattle.std.specs.Prelude.{All}
use Rattle.std.proofs.lemmas.List.Elements.{All-cons}
use Rattle.journal_block.specs.JournalRecord.{JournalRecord}
use Rattle.vol_layout.specs.Edits.{IsEdit}
use Rattle.vol_layout.specs.Fields.{greatest_count}
use Rattle.vol_layout.specs.Ranges.{IsGeometry, data_blocks, limit, per_table}
use Rattle.std.proofs.lemmas.Bool.{cases_Bool}
use Rattle.std.specs.Prelude.{◌==◌}

pub pointer_fits : (g : Geometry) (f i n : ℕ) → IsGeometry g → f < g.files → i < 2 → 0 < n → n < 3
    → IsEdit g (record { field = Pointer f i; number = n })
unfolding limit data_blocks per_table
pointer_fits g f i n range below small some few =
    let tables = range.tables.0 in
    let groups = range.groups.0 in (
      (below, omega (arith, tables, small)),
      record { width = omega (arith, few); hole = λ none. omega (arith, none, some, few); names = omega (arith, few, groups) },
    )

pub count_fits : (g : Geometry) (d : ℕ) → IsGeometry g → d < 2 → IsEdit g (record { field = Count d; number = 1 })
unfolding greatest_count data_blocks per_table
count_fits g d range small =
    let groups = range.groups.0 in (
      omega (arith, groups, small),
      elim (cases_Bool (g.tables == 1)) [
        | inl one ↦ rw one (omega arith)
        | inr more ↦ rw more (let parts = range.parts.0 in omega (arith, parts))
      ],
    )

-- the edits of a record that is made, and one more
pub edits_one : (g : Geometry) (key : ℕ) (edit is : Edit) (r : JournalRecord) → r ≡ record { key = key; edits = edit ∷ [] } → edit ≡ is
    → IsEdit g is → All (IsEdit g) r.edits
edits_one g key edit is r made same fits =
    subst (λ (x : JournalRecord). All (IsEdit g) x.edits) (sym made)
    (All-cons (IsEdit g) edit [] (subst (IsEdit g) (sym same) fits) (λ k d lt. absurd (omega (arith, lt))))

pub edits_more : (g : Geometry) (edit is : Edit) {More : Type 0} → edit ≡ is → (IsEdit g edit → More) → IsEdit g is → More
edits_more g edit is same more fits = more (subst (IsEdit g) (sym same) fits)
