-- The tables of a record in the order of its edits: each edit's table is one of them, and none is there twice.
use Rattle.std.proofs.Common.{◌≡◌, ◌⊎◌, ◌∷◌, ◌<◌, ◌==◌, ℕ, zero, Bool, List, [], false, true, refl, ap, sym}
use Rattle.std.proofs.Common.{true≢false, suc, subst, ◌∙◌, inl, inr, arith, length}
use Rattle.std.proofs.lemmas.Bool.{and_parts, eq-eqb, eqb-true}
use Rattle.std.specs.Prelude.{All, if◌then◌else◌, map, slice_index_or}
use Rattle.vol_layout.specs.declared.field.Edit.{Edit}
use Rattle.vol_layout.specs.declared.kind.Table.{Table}
use Rattle.vol_layout.specs.declared.kind.Table.TheVariants.{File, Group, More, Part}
use Rattle.vol_layout.specs.Fields.{table_of}
use Rattle.plan_parts.specs.KeptTables.{AreTwo, IsLeft}
use Rattle.plan_parts.specs.TableOrder.{same_table, tables_else, tables_of}
use Rattle.plan_parts.specs.declared.kept.Kept.{Kept}

pub same_table-is : (t u : Table) → same_table t u ≡ true → t ≡ u
same_table-is (File f) (File e) is = ap File (eqb-true f e is)
same_table-is (Group f) (Group e) is = ap Group (eqb-true f e is)
same_table-is (Part f) (Part e) is = ap Part (eqb-true f e is)
same_table-is (More f t) (More e u) is =
    let parts = and_parts (f == e) (t == u) is in
    let one : f ≡ e = eqb-true f e parts.0 in
    let two : t ≡ u = eqb-true t u parts.1 in
    cc
same_table-is _ _ is = absurd cc

pub same_table-self : (t : Table) → same_table t t ≡ true
same_table-self (File f) = eq-eqb f f refl
same_table-self (Group f) = eq-eqb f f refl
same_table-self (Part f) = eq-eqb f f refl
same_table-self (More f t) = rw (eq-eqb f f refl) (eq-eqb t t refl)

-- the table is one of these, and none is one of the later ones
abbrev IsOneOf : List Table → Table → Type 0
IsOneOf [] t = ⊥
IsOneOf (u ∷ more) t = (u ≡ t) ⊎ IsOneOf more t

abbrev AreApart : List Table → Type 0
AreApart [] = Unit {0}
AreApart (t ∷ more) = (IsOneOf more t → ⊥) × AreApart more

-- of the tables without one, each is one of the tables
else_step : (b : Bool) (t u s : Table) (more : List Table) → (IsOneOf (tables_else t more) u → IsOneOf more u)
    → IsOneOf (if b then tables_else t more else s ∷ tables_else t more) u → IsOneOf (s ∷ more) u
else_step true t u s more before there = inr (before there)
else_step false t u s more before (inl first) = inl first
else_step false t u s more before (inr later) = inr (before later)

else_in : (t u : Table) (more : List Table) → IsOneOf (tables_else t more) u → IsOneOf more u
else_in t u [] there = there
else_in t u (s ∷ more) there = else_step (same_table s t) t u s more (else_in t u more) there

-- the one is not there
gone_step : (b : Bool) (t s : Table) (more : List Table) → same_table s t ≡ b → (IsOneOf (tables_else t more) t → ⊥)
    → IsOneOf (if b then tables_else t more else s ∷ tables_else t more) t → ⊥
gone_step true t s more is before there = before there
gone_step false t s more is before (inl first) =
    true≢false (sym (subst (λ (x : Table). same_table x t ≡ true) (sym first) (same_table-self t)) ∙ is)
gone_step false t s more is before (inr later) = before later

else_gone : (t : Table) (more : List Table) → IsOneOf (tables_else t more) t → ⊥
else_gone t [] there = there
else_gone t (s ∷ more) there = gone_step (same_table s t) t s more refl (else_gone t more) there

-- and each other one is
other_step : (b : Bool) (t u s : Table) (more : List Table) → same_table s t ≡ b
    → (IsOneOf more u → (t ≡ u) ⊎ IsOneOf (tables_else t more) u) → IsOneOf (s ∷ more) u
    → (t ≡ u) ⊎ IsOneOf (if b then tables_else t more else s ∷ tables_else t more) u
other_step true t u s more is before (inl first) = inl (sym (same_table-is s t is) ∙ first)
other_step true t u s more is before (inr later) = before later
other_step false t u s more is before (inl first) = inr (inl first)
other_step false t u s more is before (inr later) = elim (before later) [ inl one ↦ inl one | inr rest ↦ inr (inr rest) ]

else_other : (t u : Table) (more : List Table) → IsOneOf more u → (t ≡ u) ⊎ IsOneOf (tables_else t more) u
else_other t u [] there = absurd there
else_other t u (s ∷ more) there = other_step (same_table s t) t u s more refl (else_other t u more) there

apart_step : (b : Bool) (t s : Table) (more : List Table) → (IsOneOf more s → ⊥) → AreApart (tables_else t more)
    → AreApart (if b then tables_else t more else s ∷ tables_else t more)
apart_step true t s more first later = later
apart_step false t s more first later = (λ there. first (else_in t s more there), later)

else_apart : (t : Table) (more : List Table) → AreApart more → AreApart (tables_else t more)
else_apart t [] apart = tt
else_apart t (s ∷ more) apart = apart_step (same_table s t) t s more apart.0 (else_apart t more apart.1)

tables_apart : (es : List Edit) → AreApart (tables_of es)
tables_apart [] = tt
tables_apart (e ∷ es) =
    (else_gone (table_of e.field) (tables_of es), else_apart (table_of e.field) (tables_of es) (tables_apart es))

tables_each : (es : List Edit) (k : ℕ) (d : Edit) → k < length es → IsOneOf (tables_of es) (table_of (slice_index_or es k d).field)
tables_each [] k d lt = absurd (omega (arith, lt))
tables_each (e ∷ es) zero d lt = inl refl
tables_each (e ∷ es) (suc k) d lt =
    else_other (table_of e.field) (table_of (slice_index_or es k d).field) (tables_of es) (tables_each es k d (omega (arith, lt)))

-- the kept tables, as the tables that they are of
left_in : (left : List Kept) (t : Table) → IsLeft left t → IsOneOf (map (λ (k : Kept). k.which) left) t
left_in [] t there = there
left_in (kept ∷ more) t (inl first) = inl first
left_in (kept ∷ more) t (inr later) = inr (left_in more t later)

in_left : (left : List Kept) (t : Table) → IsOneOf (map (λ (k : Kept). k.which) left) t → IsLeft left t
in_left [] t there = there
in_left (kept ∷ more) t (inl first) = inl first
in_left (kept ∷ more) t (inr later) = inr (in_left more t later)

left_two : (left : List Kept) → AreApart (map (λ (k : Kept). k.which) left) → AreTwo left
left_two [] apart = tt
left_two (kept ∷ more) apart = (λ there. apart.0 (left_in more kept.which there), left_two more apart.1)

module _ (left : List Kept) (es : List Edit) (order : map (λ (k : Kept). k.which) left ≡ tables_of es) where
  -- kept tables that are those of the edits are each there once
  pub ordered_two : AreTwo left
  ordered_two = left_two left (subst AreApart (sym order) (tables_apart es))

  -- and each edit's table is one of them
  pub ordered_each : All (λ e. IsLeft left (table_of e.field)) es
  ordered_each = λ k d lt. in_left left (table_of (slice_index_or es k d).field)
      (subst (λ (ts : List Table). IsOneOf ts (table_of (slice_index_or es k d).field)) (sym order) (tables_each es k d lt))
