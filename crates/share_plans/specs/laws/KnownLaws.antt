-- What the tables that were read say holds of the image.
use Rattle.std.proofs.Common.{◌≡◌, ◌+◌, ◌==◌, ℕ, Bool, true, false, List, [], ◌∷◌, ◌++◌, Option, Some, refl, ap, sym, subst, ◌∙◌, arith, nat_lt}
use Rattle.std.specs.Prelude.{if◌then◌else◌}
use Rattle.std.proofs.lemmas.Bool.{and_parts, eq-eqb, eqb-true, lt-ltb}
use Rattle.vol_base.specs.Packing.{Packing}
use Rattle.vol_layout.specs.declared.field.Field.{Field}
use Rattle.vol_layout.specs.declared.field.Field.TheVariants.{Count, Head, Pointer}
use Rattle.vol_layout.specs.declared.geometry.Geometry.{Geometry}
use Rattle.vol_layout.specs.declared.kind.Table.{Table}
use Rattle.vol_layout.specs.declared.kind.Table.TheVariants as tables
use Rattle.vol_layout.specs.Fields.{HasField, table_of}
use Rattle.vol_layout.specs.Ranges.{IsGeometry}
use Rattle.table_blocks.specs.Tables.{IsPackingOf, number_in}
use Rattle.image_view.specs.declared.pointer.Number.TheVariants.{At}
use Rattle.image_view.specs.Balances.{share}
use Rattle.image_view.specs.Images.{Image}
use Rattle.image_view.specs.Links.{marked}
use Rattle.image_view.specs.Numbers.{logical}
use Rattle.image_view.specs.Pointers.{named, pointer_number}
use Rattle.image_view.specs.laws.BalanceLaws.{share_named}
use Rattle.call_effects.specs.laws.PointerLaws.{fresh-unmarked, named-marked, named-unmarked}
use Rattle.disk_locks.specs.Consistent.{Consistent}
use Rattle.disk_locks.specs.Sure.{Sure}
use Rattle.host_facts.specs.Facts.Fact.{RecordIs}
use Rattle.host_facts.specs.Knows.{Knows}
use Rattle.host_facts.specs.Views.{WorldView}
use Rattle.host_facts.specs.laws.DoneLaws.{number_known}
use Rattle.host_facts.specs.laws.ToldLaws.{sure_each, sure_of}
use Rattle.plan_parts.specs.KeptTables.{AreKept, IsKept}
use Rattle.plan_parts.specs.TableOrder.{same_table}
use Rattle.plan_parts.specs.declared.kept.Kept.{Kept}
use Rattle.share_plans.specs.Places.{shown_at}
use Rattle.share_plans.specs.ReadTables.{ArePacked, IsInserted, Known, Says, kept_in}
use Rattle.share_plans.specs.Spots.{IsShown, PointsTo, Reads}

pub one_table : (t u : Table) → same_table t u ≡ true → t ≡ u
one_table (tables.File f) (tables.File e) is = ap tables.File (eqb-true f e is)
one_table (tables.Group f) (tables.Group e) is = ap tables.Group (eqb-true f e is)
one_table (tables.Part f) (tables.Part e) is = ap tables.Part (eqb-true f e is)
one_table (tables.More f t) (tables.More e u) is =
    let parts = and_parts (f == e) (t == u) is in
    let one : f ≡ e = eqb-true f e parts.0 in
    let two : t ≡ u = eqb-true t u parts.1 in
    cc
one_table _ _ is = absurd cc

pub own_table : (t : Table) → same_table t t ≡ true
own_table (tables.File f) = eq-eqb f f refl
own_table (tables.Group f) = eq-eqb f f refl
own_table (tables.Part f) = eq-eqb f f refl
own_table (tables.More f t) = rw (eq-eqb f f refl) (eq-eqb t t refl)

-- a table that is found among kept ones is kept
abbrev pub IsFound : WorldView → ℕ → Table → Packing → Type 0
IsFound v h t p = (kept : Kept) × IsKept v h kept × (kept.which ≡ t) × (kept.table ≡ p)

pub found_kept : (v : WorldView) (h : ℕ) (left : List Kept) (t : Table) (p : Packing) → AreKept v h left → kept_in left t ≡ Some p
    → IsFound v h t p
found_kept v h [] t p are found = absurd cc
found_kept v h (kept ∷ more) t p are found = pick (same_table kept.which t) refl (found_kept v h more t p are.1) found
  where
    pick : (b : Bool) → same_table kept.which t ≡ b → (kept_in more t ≡ Some p → IsFound v h t p)
        → (if b then Some kept.table else kept_in more t) ≡ Some p → IsFound v h t p
    pick true is later here = (kept, are.0, one_table kept.which t is, cc)
    pick false is later there = later there

pub are_packed : (v : WorldView) (h : ℕ) (left : List Kept) → AreKept v h left → ArePacked v.locks.geometry (kept_in left)
are_packed v h left are t p found =
    let one = found_kept v h left t p are found in
    subst (λ (u : Table). IsPackingOf v.locks.geometry u p) one.2
    (subst (IsPackingOf v.locks.geometry one.0.which) one.3 one.1.packing)

-- the data block that a pointer names
pub at_named : (g : Geometry) (d : ℕ) (shared : Bool) → IsGeometry g → HasField g (Count d) → named (pointer_number (At d shared)) ≡ Some d
at_named g d false range has =
    let same : d + 1 ≡ d + 1 + 0 = omega arith in
    subst (λ (n : ℕ). named n ≡ Some d) same (named-unmarked (d + 1) d refl (fresh-unmarked g d range has))
at_named g d true range has =
    let same : marked d ≡ pointer_number (At d true) = omega arith in
    subst (λ (n : ℕ). named n ≡ Some d) same (named-marked d (fresh-unmarked g d range has).1)

pub once : (n d : ℕ) → named n ≡ Some d → share n d ≡ 1
once n d is = share_named n d d is ∙ rw (eq-eqb d d refl) refl

module _ (v : WorldView) (h : ℕ) (left : List Kept) (is : Consistent v.locks) (are : AreKept v h left) (empty : Knows v h (RecordIs [])) where
  number_said : (x : Field) (n : ℕ) → HasField v.locks.geometry x → Says (kept_in left) x n
      → Sure v.locks h (λ image. logical v.locks.geometry image x ≡ n)
  number_said x n has says =
      let one = found_kept v h left (table_of x) says.table are says.kept in
      sure_of v.locks h (λ image. logical v.locks.geometry image x ≡ number_in one.0.table x) (λ image. logical v.locks.geometry image x ≡ n)
      (λ image shown. shown ∙ ap (λ (p : Packing). number_in p x) one.3 ∙ says.is)
      (number_known v h one.0.which one.0.table x is one.1.known one.1.packing empty has (sym one.2))

  pub tables_read : Sure v.locks h (Reads v.locks.geometry (kept_in left))
  tables_read =
      sure_each v.locks h Field
      (λ x image. (n : ℕ) → HasField v.locks.geometry x → Says (kept_in left) x n → logical v.locks.geometry image x ≡ n) (λ x.
      sure_each v.locks h ℕ (λ n image. HasField v.locks.geometry x → Says (kept_in left) x n → logical v.locks.geometry image x ≡ n) (λ n.
      sure_each v.locks h (HasField v.locks.geometry x) (λ has image. Says (kept_in left) x n → logical v.locks.geometry image x ≡ n) (λ has.
      sure_each v.locks h (Says (kept_in left) x n) (λ says image. logical v.locks.geometry image x ≡ n) (number_said x n has))))

-- what a pointer is on an image
module _ (g : Geometry) (known : Known) (image : Image) (range : IsGeometry g) (reads : Reads g known image) (f i d : ℕ) where
  pub pointer_names : (shared : Bool) → PointsTo g known f i (At d shared) → named (logical g image (Pointer f i)) ≡ Some d
  pointer_names shared points =
      ap named (reads (Pointer f i) (pointer_number (At d shared)) points.has points.pointer) ∙ at_named g d shared range points.inside

  pub place_shown : IsShown g known f i d → shown_at g image f i ≡ Some d
  place_shown shown =
      let head = reads (Head f) shown.1.head shown.1.has.0 shown.1.length_is in
      let less : nat_lt (i + 1) (logical g image (Head f)) ≡ true = lt-ltb (i + 1) (logical g image (Head f)) (omega (arith, head, shown.1.below)) in
      rw less (pointer_names shown.0 shown.1)

-- one table more
module _ (kept : Kept) where
  in_more : (before after : List Kept) (t : Table) → same_table kept.which t ≡ false
      → kept_in (before ++ kept ∷ after) t ≡ kept_in (before ++ after) t
  in_more [] after t other = rw other refl
  in_more (k ∷ more) after t other =
      ap (λ (o : Option Packing). if same_table k.which t then Some k.table else o) (in_more more after t other)

  in_here : (before after : List Kept) (t : Table) → same_table kept.which t ≡ true → (p : Packing) × (kept_in (before ++ kept ∷ after) t ≡ Some p)
  in_here [] after t is = (kept.table, rw is refl)
  in_here (k ∷ more) after t is = pick (same_table k.which t) (in_here more after t is)
    where
      pick : (b : Bool) → (p : Packing) × (kept_in (more ++ kept ∷ after) t ≡ Some p)
          → (p : Packing) × ((if b then Some k.table else kept_in (more ++ kept ∷ after) t) ≡ Some p)
      pick true later = (k.table, refl)
      pick false later = later

  all_more : (v : WorldView) (h : ℕ) (before after : List Kept) → IsKept v h kept → AreKept v h (before ++ after)
      → AreKept v h (before ++ kept ∷ after)
  all_more v h [] after is are = (is, are)
  all_more v h (k ∷ more) after is are = (are.0, all_more v h more after is are.1)

  module _ (old new : List Kept) (inserted : IsInserted kept old new) where
    pub kept_more : (v : WorldView) (h : ℕ) → IsKept v h kept → AreKept v h old → AreKept v h new
    kept_more v h is are =
        subst (AreKept v h) (sym inserted.3) (all_more v h inserted.0 inserted.1 is (subst (AreKept v h) inserted.2 are))

    pub known_more : (t : Table) → same_table kept.which t ≡ false → kept_in new t ≡ kept_in old t
    known_more t other =
        ap (λ (ks : List Kept). kept_in ks t) inserted.3 ∙ in_more inserted.0 inserted.1 t other
        ∙ ap (λ (ks : List Kept). kept_in ks t) (sym inserted.2)

    pub known_now : (t : Table) → same_table kept.which t ≡ true → (p : Packing) × (kept_in new t ≡ Some p)
    known_now t is =
        let here = in_here inserted.0 inserted.1 t is in (here.0, ap (λ (ks : List Kept). kept_in ks t) inserted.3 ∙ here.1)
