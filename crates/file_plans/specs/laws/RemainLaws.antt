-- Edits of remains: their tables, their indexes, and how often their data blocks are named.
use Rattle.std.proofs.Common.{◌≡◌, ◌<◌, ◌≤◌, ◌*◌, ◌==◌, ◌++◌, ◌∷◌, [], ℕ, true, false, List, Some, inl, inr, refl, sym, subst, arith}
use Rattle.std.specs.Prelude.{All}
use Rattle.std.proofs.lemmas.Bool.{cases_Bool, eq-eqb}
use Rattle.std.proofs.lemmas.List.Elements.{All-head, All-tail}
use Rattle.std.proofs.lemmas.List.Sums.{sum_by-cons}
use Rattle.vol_layout.specs.declared.field.Edit.{Edit}
use Rattle.vol_layout.specs.declared.field.Field.{Field}
use Rattle.vol_layout.specs.declared.field.Field.TheVariants.{Pointer}
use Rattle.vol_layout.specs.declared.geometry.Geometry.{Geometry}
use Rattle.vol_layout.specs.declared.kind.Table.{Table}
use Rattle.vol_layout.specs.declared.kind.Table.TheVariants as tables
use Rattle.vol_layout.specs.Edits.{AreApart, touches}
use Rattle.vol_layout.specs.Fields.{HasField, table_of}
use Rattle.vol_layout.specs.laws.EditLaws.{other_field-is}
use Rattle.image_view.specs.Balances.{edit, share}
use Rattle.image_view.specs.Images.{Image}
use Rattle.image_view.specs.Mappings.{reference_fields, uses}
use Rattle.image_view.specs.Numbers.{logical}
use Rattle.image_view.specs.Pointers.{named}
use Rattle.image_view.specs.laws.BalanceLaws.{share_named, share_none}
use Rattle.image_view.specs.laws.SumLaws.{given_to, sum_edited, taken_from, times}
use Rattle.image_view.specs.laws.UseLaws.{times-reference, uses-sum_by}
use Rattle.call_effects.specs.Purges.{emptied, named_by}
use Rattle.plan_parts.specs.TableOrder.{same_table, tables_else, tables_of}
use Rattle.file_plans.specs.Commits.{indexes_of, named_in}
use Rattle.file_plans.specs.Says.{AreAscending}
use Rattle.file_plans.specs.declared.remains.Remain.{Remain}

-- the tables of edits that are all of one table
same_self : (t : Table) → same_table t t ≡ true
same_self (tables.File f) = eq-eqb f f refl
same_self (tables.Group f) = eq-eqb f f refl
same_self (tables.Part f) = eq-eqb f f refl
same_self (tables.More f t) = rw (eq-eqb f f refl) (eq-eqb t t refl)

abbrev pub OfTable : Table → Edit → Type 0
OfTable t e = table_of e.field ≡ t

-- ahead of edits whose tables are these
tables_ahead : (t u : Table) (es : List Edit) (ts : List Table) → u ≡ t → tables_else t (tables_of es) ≡ ts → tables_else t ts ≡ ts
    → tables_else t (u ∷ tables_else u (tables_of es)) ≡ ts
tables_ahead t u es ts same rest stays =
    subst (λ (s : Table). tables_else t (s ∷ tables_else s (tables_of es)) ≡ ts) (sym same)
    (let self = same_self t in rw (self, rest) stays)

tables_none : (t : Table) (es : List Edit) → All (OfTable t) es → tables_else t (tables_of es) ≡ []
tables_none t [] all = refl
tables_none t (e ∷ es) all =
    tables_ahead t (table_of e.field) es [] (All-head (OfTable t) e es all) (tables_none t es (All-tail (OfTable t) e es all)) refl

pub tables_one : (t : Table) (es : List Edit) (x : Field) → All (OfTable t) es → touches es x ≡ true → tables_of es ≡ t ∷ []
tables_one t [] x all some = absurd cc
tables_one t (e ∷ es) x all some =
    subst (λ (s : Table). s ∷ tables_else s (tables_of es) ≡ t ∷ []) (sym (All-head (OfTable t) e es all))
    (let none = tables_none t es (All-tail (OfTable t) e es all) in rw none refl)

pub tables_two : (t u : Table) (es fs : List Edit) → All (OfTable t) es → tables_of fs ≡ u ∷ [] → same_table u t ≡ false
    → tables_else t (tables_of (es ++ fs)) ≡ u ∷ []
tables_two t u [] fs all last apart = rw (last, apart) refl
tables_two t u (e ∷ es) fs all last apart =
    tables_ahead t (table_of e.field) (es ++ fs) (u ∷ []) (All-head (OfTable t) e es all)
    (tables_two t u es fs (All-tail (OfTable t) e es all) last apart) (rw apart refl)

-- ascending indexes are apart
ascending_untouched : (f i : ℕ) (r : Remain) (rs : List Remain) → i < r.index → AreAscending (r ∷ rs)
    → touches (emptied f (indexes_of (r ∷ rs))) (Pointer f i) ≡ false
ascending_untouched f i r [] less up =
    let other = other_field-is (Pointer f r.index) (Pointer f i) (λ e. let same : r.index ≡ i = cc in
    absurd (omega (arith, same, less))) in rw other refl
ascending_untouched f i r (s ∷ rs) less up =
    let other = other_field-is (Pointer f r.index) (Pointer f i) (λ e. let same : r.index ≡ i = cc in absurd (omega (arith, same, less))) in
    let later = ascending_untouched f i s rs (omega (arith, less, up.0)) up.1 in rw (other, later) refl

pub ascending_apart : (f : ℕ) (rs : List Remain) → AreAscending rs → AreApart (emptied f (indexes_of rs))
ascending_apart f [] up = tt
ascending_apart f (r ∷ []) up = (refl, tt)
ascending_apart f (r ∷ s ∷ rs) up = (ascending_untouched f r.index s rs up.0 up.1, ascending_apart f (s ∷ rs) up.1)

-- how many pointers that are apart name a data block
module _ (g : Geometry) (image : Image) (f d : ℕ) where
  abbrev w : Field → ℕ → ℕ
  w z n = share n d

  abbrev numbers : Field → ℕ
  numbers z = logical g image z

  taken_is : (is : List ℕ) → All (λ i. HasField g (Pointer f i)) is
      → taken_from w numbers (reference_fields g) (emptied f is) ≡ named_by g image f is d
  taken_is [] has = refl
  taken_is (i ∷ is) has =
      let here = times-reference g (Pointer f i) (All-head (λ i. HasField g (Pointer f i)) i is has) (logical g image (Pointer f i)) d in
      let later = taken_is is (All-tail (λ i. HasField g (Pointer f i)) i is has) in
      let one' = sum_by-cons (λ (e : Edit). times (reference_fields g) e.field * share (numbers e.field) d) (edit (Pointer f i) 0)
      (emptied f is) in
      let two = sum_by-cons (λ (i : ℕ). share (logical g image (Pointer f i)) d) i is in
      omega (arith, here, later, one', two)

  given_is : (is : List ℕ) → All (λ i. HasField g (Pointer f i)) is → given_to w (reference_fields g) (emptied f is) ≡ 0
  given_is [] has = refl
  given_is (i ∷ is) has =
      let here = times-reference g (Pointer f i) (All-head (λ i. HasField g (Pointer f i)) i is has) 0 d in
      let none = share_none 0 d refl in
      let later = given_is is (All-tail (λ i. HasField g (Pointer f i)) i is has) in
      let one' = sum_by-cons (λ (e : Edit). times (reference_fields g) e.field * share e.number d) (edit (Pointer f i) 0) (emptied f is) in
      omega (arith, here, none, later, one')

  pub named_uses : (is : List ℕ) → All (λ i. HasField g (Pointer f i)) is → AreApart (emptied f is)
      → named_by g image f is d ≤ uses g image d
  named_uses is has apart =
      let sum = sum_edited w numbers (reference_fields g) (emptied f is) apart in
      let taken = taken_is is has in
      let given = given_is is has in
      let all = uses-sum_by g image d in
      omega (arith, sum, taken, given, all)

  pub named_is : (rs : List Remain) → All (λ r. named (logical g image (Pointer f r.index)) ≡ Some r.number) rs
      → named_by g image f (indexes_of rs) d ≡ named_in rs d
  named_is [] names = refl
  named_is (r ∷ rs) names =
      let sum = sum_by-cons (λ (i : ℕ). share (logical g image (Pointer f i)) d) r.index (indexes_of rs) in
      let later = named_is rs (All-tail (λ r. named (logical g image (Pointer f r.index)) ≡ Some r.number) r rs names) in
      let here = share_named (logical g image (Pointer f r.index)) r.number d
      (All-head (λ r. named (logical g image (Pointer f r.index)) ≡ Some r.number) r rs names) in
      elim (cases_Bool (r.number == d)) [
        | inl same ↦ let here' = rw same at here in rw same (omega (arith, sum, later, here'))
        | inr other ↦ let here' = rw other at here in rw other (omega (arith, sum, later, here'))
      ]
