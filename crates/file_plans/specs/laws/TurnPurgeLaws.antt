-- A purge leaves fewer pointers that may name a data block, so fewer turns are left behind its record.
use Rattle.std.proofs.Common.{arith, ◌≡◌, ◌<◌, ◌≤◌, ◌==◌, ◌/◌, ◌-◌, ◌++◌, ℕ, Bool, true, false, List, [], ◌∷◌, Some, refl, ap, sym, subst, ◌∙◌, not, inl, inr, slice_index_or}
use Rattle.std.specs.Prelude.{All, IfSome, if◌then◌else◌, is_none, slice_get}
use Rattle.std.specs.List.{range_with_len}
use Rattle.std.proofs.lemmas.Bool.{cases_Bool, ne_eqb}
use Rattle.std.proofs.lemmas.List.FromFn.{get_or-range_with_len, length-range_with_len}
use Rattle.vol_base.specs.declared.plain.PlainCall.TheVariants as calls
use Rattle.vol_layout.specs.declared.field.Edit.{Edit}
use Rattle.vol_layout.specs.declared.field.Field.{Field}
use Rattle.vol_layout.specs.declared.field.Field.TheVariants.{Count, Pointer}
use Rattle.vol_layout.specs.declared.geometry.Geometry.{Geometry}
use Rattle.vol_layout.specs.declared.kind.Table.{Table}
use Rattle.vol_layout.specs.Edits.{IsEdit, edited, same_field}
use Rattle.vol_layout.specs.Fields.{table_of}
use Rattle.vol_layout.specs.Ranges.{IsGeometry, limit, per_table}
use Rattle.vol_layout.specs.laws.EditLaws.{other_field-is, same_field-refl}
use Rattle.image_view.specs.declared.pointer.Number.TheVariants.{At as Names}
use Rattle.image_view.specs.laws.EditLaws.{edited-append}
use Rattle.table_blocks.specs.Made.{made}
use Rattle.table_blocks.specs.Tables.{IsPackingOf, number_in}
use Rattle.table_blocks.specs.laws.MadeLaws.{made-number}
use Rattle.call_effects.specs.Purges.{counted, emptied, purged}
use Rattle.held_cache.specs.Kept.{Cache, IsFileTable, kept_at}
use Rattle.host_facts.specs.Views.{WorldView}
use Rattle.plan_parts.specs.TableOrder.{same_table}
use Rattle.plan_parts.specs.declared.applying.Applying.{Applying}
use Rattle.plan_parts.specs.declared.kept.Kept.{Kept}
use Rattle.plan_parts.specs.laws.TableOrderLaws.{same_table-is, same_table-self}
use Rattle.file_plans.specs.Calls.{file_of}
use Rattle.file_plans.specs.Commits.{LeavesPurge, indexes_of}
use Rattle.file_plans.specs.Says.{IsRemain, Known, PointsTo}
use Rattle.file_plans.specs.Sights.{IsSight}
use Rattle.file_plans.specs.Stands.{At, first_of_change}
use Rattle.file_plans.specs.Turns.{known_behind, may_name, may_name_at, named_for, records_for, round_most, turns_behind, turns_rested, turns_seeing, unknown_for}
use Rattle.file_plans.specs.declared.call.FileCall.{FileCall}
use Rattle.file_plans.specs.declared.call.FileCall.TheVariants.{Close, Plain}
use Rattle.file_plans.specs.declared.remains.Remain.{Remain}
use Rattle.file_plans.specs.declared.sight.Sight.TheVariants as sights
use Rattle.file_plans.specs.declared.stage.Change.TheVariants.{Purge}
use Rattle.file_plans.specs.declared.stage.Stage.TheVariants as stages
use Rattle.file_plans.specs.declared.state.Core.{Core}
use Rattle.file_plans.specs.laws.PurgeCommitLaws.{IsPurge, purge_of}
use Rattle.file_plans.specs.laws.PutLaws.{group_apart}
use Rattle.file_plans.specs.laws.SaysLaws.{pointer_table}
use Rattle.file_plans.specs.laws.TurnCountLaws.{count_less, named_less, sum_fewer, unknown_fewer}

-- a table that is known is so behind the record
behind_none : (known : Known) (es : List Edit) (left : List Kept) (t : Table) → is_none (known_behind known es left t) ≡ true
    → is_none (known t) ≡ true
behind_none known es [] t none = none
behind_none known es (k ∷ more) t none = pick (same_table k.which t) (behind_none known es more t) none
  where
    pick : (b : Bool) → (is_none (known_behind known es more t) ≡ true → is_none (known t) ≡ true)
        → is_none (if b then Some (made k.which es k.table) else known_behind known es more t) ≡ true → is_none (known t) ≡ true
    pick true later none = absurd cc
    pick false later none = later none

-- the edits of a purge leave holes as they are, and make holes of its pointers
emptied_hole : (f : ℕ) (indexes : List ℕ) (x : Field) → edited (emptied f indexes) x 0 ≡ 0
emptied_hole f [] x = refl
emptied_hole f (i ∷ more) x = pick (same_field (Pointer f i) x) (emptied_hole f more x)
  where
    pick : (b : Bool) → edited (emptied f more) x 0 ≡ 0 → (if b then 0 else edited (emptied f more) x 0) ≡ 0
    pick true later = refl
    pick false later = later

counted_other : (counts : List (ℕ × ℕ)) (f i n : ℕ) → edited (counted counts) (Pointer f i) n ≡ n
counted_other [] f i n = refl
counted_other (p ∷ more) f i n =
    let other = other_field-is (Count p.0) (Pointer f i) (λ e. cc) in let later = counted_other more f i n in rw (other, later) refl

purged_hole : (f i : ℕ) (indexes : List ℕ) (counts : List (ℕ × ℕ)) → edited (purged f indexes counts) (Pointer f i) 0 ≡ 0
purged_hole f i indexes counts =
    edited-append (emptied f indexes) (counted counts) (Pointer f i) 0
    ∙ ap (edited (emptied f indexes) (Pointer f i)) (counted_other counts f i 0) ∙ emptied_hole f indexes (Pointer f i)

purged_first : (f i n : ℕ) (indexes : List ℕ) (counts : List (ℕ × ℕ)) → edited (purged f (i ∷ indexes) counts) (Pointer f i) n ≡ 0
purged_first f i n indexes counts =
    ap (λ (b : Bool). if b then 0 else edited (emptied f indexes ++ counted counts) (Pointer f i) n) (same_field-refl (Pointer f i))

-- the remains of a purge
module _ (g : Geometry) (known : Known) (call : FileCall) (rs : List Remain) (sight : IsSight g known call (sights.Purges rs)) where
  abbrev purge : IsPurge g known (file_of call) rs
  purge = purge_of g known call rs sight

  abbrev first : Remain
  first = purge.remains.first

  abbrev file : ℕ
  file = file_of call

  abbrev pointer : Field
  pointer = Pointer file first.index

  first_named : (shared : Bool) × PointsTo g known file first.index (Names first.number shared)
  first_named =
      let is = (subst (λ (xs : List Remain). All (IsRemain g known file purge.from purge.to) xs) purge.remains.are purge.remains.each) 0 first
      (omega arith) in
      (is.shared, is.pointer)

  may_first : may_name (known (table_of pointer)) pointer ≡ true
  may_first =
      let named = first_named.1 in
      ap (λ o. may_name o pointer) named.says.kept
      ∙ ap not (ne_eqb (number_in named.says.table pointer) 0 (λ zero. let is = named.says.is in absurd (omega (arith, is, zero))))

  first_below : first.index < limit g
  first_below = first_named.1.has.1

  some_named : 1 ≤ named_for g known file
  some_named =
      let at : slice_index_or (range_with_len 0 (limit g)) first.index 0 ≡ first.index =
      get_or-range_with_len 0 (limit g) first.index 0 first_below ∙ omega arith in
      let less = count_less (may_name_at known file) (λ i. false) (range_with_len 0 (limit g))
      first.index 0 (let long = length-range_with_len 0 (limit g) in omega (arith, long, first_below))
      (subst (λ i. may_name_at known file i ≡ true) (sym at) may_first) refl
      (λ k e inside is. absurd (let both : false ≡ true = is in cc)) in omega (arith, less)

  -- so one of them is to be made a hole
  pub purges_some : 1 ≤ records_for g known call
  purges_some = cases call sight some_named
    where
      cases : (k : FileCall) → IsSight g known k (sights.Purges rs) → 1 ≤ named_for g known (file_of k) → 1 ≤ records_for g known k
      cases (Plain (calls.Size f n)) sight some = omega arith
      cases (Close f) sight some = some
      cases (Plain (calls.Create f)) sight some = absurd sight
      cases (Plain (calls.Remove f)) sight some = absurd sight
      cases (Plain (calls.Read f i)) sight some = absurd sight
      cases (Plain (calls.Write f i block)) sight some = absurd sight
      cases (Plain (calls.Punch f i)) sight some = absurd sight

  -- and a record less is left where fewer pointers may name a block
  records_less : (later : Known) → named_for g later file < named_for g known file → records_for g later call ≤ records_for g known call - 1
  records_less later = cases call sight
    where
      cases : (k : FileCall) → IsSight g known k (sights.Purges rs) → named_for g later (file_of k) < named_for g known (file_of k)
          → records_for g later k ≤ records_for g known k - 1
      cases (Plain (calls.Size f n)) sight less = omega (arith, less)
      cases (Close f) sight less = omega (arith, less)
      cases (Plain (calls.Create f)) sight less = absurd sight
      cases (Plain (calls.Remove f)) sight less = absurd sight
      cases (Plain (calls.Read f i)) sight less = absurd sight
      cases (Plain (calls.Write f i block)) sight less = absurd sight
      cases (Plain (calls.Punch f i)) sight less = absurd sight

  -- the record of these remains, with its tables left to write
  module _ (range : IsGeometry g) (below : file < g.files) (es : List Edit) (edits : All (IsEdit g) es) (counts : List (ℕ × ℕ))
      (es_are : es ≡ purged file (indexes_of rs) counts) (group : Kept) (d : ℕ) (which : group.which ≡ table_of (Count d)) (k : Kept)
      (at : k.which ≡ table_of pointer) (known_is : known k.which ≡ Some k.table) (packing : IsPackingOf g k.which k.table) where
    abbrev later : Known
    later = known_behind known es (k ∷ group ∷ [])

    made_is : (x : Field) → table_of x ≡ k.which → number_in (made k.which es k.table) x ≡ edited es x (number_in k.table x)
    made_is x there = made-number g k.which es k.table x range edits packing there

    made_hole : (i : ℕ) → table_of (Pointer file i) ≡ k.which → number_in k.table (Pointer file i) ≡ 0
        → number_in (made k.which es k.table) (Pointer file i) ≡ 0
    made_hole i there zero =
        made_is (Pointer file i) there ∙ ap (edited es (Pointer file i)) zero
        ∙ subst (λ (ds : List Edit). edited ds (Pointer file i) 0 ≡ 0) (sym es_are) (purged_hole file i (indexes_of rs) counts)

    made_first : number_in (made k.which es k.table) pointer ≡ 0
    made_first =
        made_is pointer (sym at)
        ∙ subst (λ (ds : List Edit). edited ds pointer (number_in k.table pointer) ≡ 0)
        (sym (es_are ∙ ap (λ (xs : List Remain). purged file (indexes_of xs) counts) purge.remains.are))
        (purged_first file first.index (number_in k.table pointer) (indexes_of purge.remains.more) counts)

    -- no pointer may name a block that might not before
    holes_stay : (i : ℕ) → may_name_at later file i ≡ true
        → may_name_at known file i ≡ true
    holes_stay i may = elim (cases_Bool (same_table k.which (table_of (Pointer file i)))) [
      | inl same ↦
          let x = Pointer file i in
          let there = same_table-is k.which (table_of x) same in
          let now : may_name (Some (made k.which es k.table)) x ≡ true =
          subst (λ b. may_name (if b then Some (made k.which es k.table) else known_behind known es (group ∷ []) (table_of x)) x ≡ true) same may in
          ap (λ o. may_name o x) (sym (ap known there) ∙ known_is)
          ∙ ap not (ne_eqb (number_in k.table x) 0 (λ zero.
          let none : may_name (Some (made k.which es k.table)) x ≡ false = ap (λ n. not (n == 0)) (made_hole i (sym there) zero) in
          let both : false ≡ true = sym none ∙ now in cc))
      | inr other ↦
          let x = Pointer file i in
          let apart : same_table group.which (table_of x) ≡ false =
          ap (λ (t : Table). same_table t (table_of x)) which ∙ group_apart file i (d / per_table) in
          let second = subst (λ b. may_name (if b then Some (made k.which es k.table) else known_behind known es (group ∷ []) (table_of x)) x
          ≡ true) other may in
          subst (λ b. may_name (if b then Some (made group.which es group.table) else known (table_of x)) x ≡ true) apart second
    ]

    first_hole : may_name (later (table_of pointer)) pointer ≡ false
    first_hole =
        let same : same_table k.which (table_of pointer) ≡ true =
        ap (λ (t : Table). same_table t (table_of pointer)) at ∙ same_table-self (table_of pointer) in
        ap (λ b. may_name (if b then Some (made k.which es k.table) else known_behind known es (group ∷ []) (table_of pointer)) pointer) same
        ∙ ap (λ n. not (n == 0)) made_first

    -- fewer turns are left behind it
    pub turns_purged : turns_seeing g later call ≤ turns_behind g known call
    turns_purged =
        sum_fewer (unknown_for g later call) (unknown_for g known call) (records_for g later call) (records_for g known call - 1) (round_most g)
        (unknown_fewer g known later call below (λ t is. behind_none known es (k ∷ group ∷ []) t))
        (records_less later (named_less g known later file first.index first_below may_first first_hole (λ i inside. holes_stay i)))

-- by the stage, and what the commit of a purge leaves
pub purge_rested : (v : WorldView) (c : Cache) (core : Core) (rs : List Remain) (group : Kept) (a : Applying) (counts : List (ℕ × ℕ))
    → IsGeometry v.locks.geometry → At v c core (stages.Changes (Purge rs) group) → All (IsEdit v.locks.geometry) a.entry.edits
    → a.entry.edits ≡ purged (file_of core.call) (indexes_of rs) counts
    → LeavesPurge (kept_at c core.host) (file_of core.call) rs group a.left
    → turns_rested v.locks.geometry (known_behind (kept_at c core.host) a.entry.edits a.left) core.call core.outcome
    ≤ turns_behind v.locks.geometry (kept_at c core.host) core.call
purge_rested v c core rs group a counts range at edits are leaves =
    let g = v.locks.geometry in
    let known = kept_at c core.host in
    let open_base = at.0 in
    let remains = (purge g known core.call rs at.1).remains in
    let which : leaves.pointers.which ≡ table_of (Pointer (file_of core.call) remains.first.index) =
    subst (λ (xs : List Remain). IfSome (slice_get xs 0) (λ (r : Remain). leaves.pointers.which ≡ table_of (Pointer (file_of core.call) r.index)))
    remains.are leaves.which in
    let there = pointer_table g (file_of core.call) remains.first.index range (first_named g known core.call rs at.1).1.has in
    let packing = (open_base.base.cached.known leaves.pointers.which leaves.pointers.table
    (subst (IsFileTable g) (sym which) there) leaves.known_is).1 in
    subst (λ o. turns_rested g (known_behind known a.entry.edits a.left) core.call o ≤ turns_behind g known core.call) (sym open_base.comes)
    (subst (λ (left : List Kept). turns_seeing g (known_behind known a.entry.edits left) core.call ≤ turns_behind g known core.call)
    (sym leaves.left_is)
    (turns_purged g known core.call rs at.1 range open_base.base.file a.entry.edits edits counts are group
    (first_of_change (Purge rs)) at.3 leaves.pointers which leaves.known_is packing))
