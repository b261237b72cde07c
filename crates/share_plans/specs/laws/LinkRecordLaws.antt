-- The record of a link: its edits are of different fields and in range, and its tables stand in their order.
use Rattle.std.proofs.Common.{◌≡◌, ◌≢◌, ◌≤◌, ◌+◌, ◌-◌, ◌/◌, ◌==◌, ◌++◌, ◌∷◌, ℕ, Bool, true, false, List}
use Rattle.std.proofs.Common.{[], None, Option, Some, refl, ap, sym, subst, ◌∙◌, arith, inl, inr, nat_le}
use Rattle.std.specs.Prelude.{All, if◌then◌else◌, map, option_map}
use Rattle.std.specs.Option.{option_to_list}
use Rattle.std.proofs.lemmas.Bool.{cases_Bool, eq-eqb, le-leb, leb-true, ne_eqb}
use Rattle.std.proofs.lemmas.List.Elements.{All-cons}
use Rattle.vol_base.specs.Packing.{Packing}
use Rattle.vol_layout.specs.declared.field.Edit.{Edit}
use Rattle.vol_layout.specs.declared.field.Field.{Field}
use Rattle.vol_layout.specs.declared.field.Field.TheVariants.{Count, Pointer}
use Rattle.vol_layout.specs.declared.geometry.Geometry.{Geometry}
use Rattle.vol_layout.specs.declared.kind.Table.{Table}
use Rattle.vol_layout.specs.declared.kind.Table.TheVariants as tables
use Rattle.vol_layout.specs.Edits.{IsEdit, touches}
use Rattle.vol_layout.specs.Fields.{HasField, greatest_count, table_of}
use Rattle.vol_layout.specs.Ranges.{IsGeometry, per_table}
use Rattle.vol_layout.specs.laws.EditLaws.{other_field-is, touches-append}
use Rattle.image_view.specs.Balances.{edit}
use Rattle.image_view.specs.Links.{marked}
use Rattle.image_view.specs.Pointers.{named, pointer_number}
use Rattle.image_view.specs.declared.pointer.Number.TheVariants.{At}
use Rattle.call_effects.specs.Counts.{counts_moved}
use Rattle.call_effects.specs.Links.{Unmarked, linked}
use Rattle.call_effects.specs.laws.CountLaws.{moved-all}
use Rattle.call_effects.specs.laws.PointerLaws.{marked-range}
use Rattle.table_blocks.specs.Tables.{number_in}
use Rattle.journal_block.specs.JournalRecord.{JournalRecord}
use Rattle.plan_parts.specs.TableOrder.{same_table, tables_else, tables_of}
use Rattle.plan_parts.specs.declared.kept.Kept.{Kept}
use Rattle.share_plans.specs.LinkRecords.{HasUnmarkedApart, IsUnmarkedRead, mark_table, room_in, table_in, unmarked_of}
use Rattle.share_plans.specs.ReadTables.{Known, Says, kept_in}
use Rattle.share_plans.specs.Spots.{IsPair, IsSourceShown, PointsTo}
use Rattle.share_plans.specs.declared.sharing.Place.{Place}
use Rattle.share_plans.specs.declared.sharing.Place.TheVariants.{Arena, File}
use Rattle.share_plans.specs.declared.stage.Core.{Core}
use Rattle.share_plans.specs.declared.stage.Pair.{Pair}
use Rattle.share_plans.specs.laws.KnownLaws.{at_named}

-- one edit more, of a field that neither it nor those before touch
pub more_other : (es : List Edit) (a : Edit) (x : Field) → touches es x ≡ false → a.field ≢ x → touches (es ++ a ∷ []) x ≡ false
more_other es a x none other =
    touches-append es (a ∷ []) x ∙ (let apart = other_field-is a.field x other in rw (none, apart) refl)

-- pointers are no counts
pub pointers_other : (f i to d : ℕ) (unmarked : Unmarked) → touches (linked f i to unmarked []) (Count d) ≡ false
pointers_other f i to d None = let a = other_field-is (Pointer f i) (Count d) (λ e. cc) in rw a refl
pointers_other f i to d (Some at) =
    let a = other_field-is (Pointer f i) (Count d) (λ e. cc) in
    let b = other_field-is (Pointer at.0 at.1) (Count d) (λ e. cc) in rw (a, b) refl

-- a table says one number for a field
said_once : (known : Known) (x : Field) (n m : ℕ) → Says known x n → Says known x m → n ≡ m
said_once known x n m a b =
    let both : Some a.table ≡ Some b.table = sym a.kept ∙ b.kept in
    let one : a.table ≡ b.table = cc in
    sym a.is ∙ ap (λ (p : Packing). number_in p x) one ∙ b.is

one_pair : (p q : ℕ × ℕ) → Some p ≡ Some q → p ≡ q
one_pair p q same = cc

-- the pointers of different data blocks are two
pub unmarked_apart : (g : Geometry) (core : Core) (pair : Pair) → IsGeometry g
    → IsPair g (kept_in core.tables) core.file core.index core.source pair → HasUnmarkedApart core pair
unmarked_apart g core pair range is = by core.source is.from
  where
    two : (f i : ℕ) (b : Bool) → PointsTo g (kept_in core.tables) f i (At pair.source b) → Pointer core.file core.index ≢ Pointer f i
    two f i b points same =
        let x : f ≡ core.file = cc in
        let y : i ≡ core.index = cc in
        let there = subst (λ (e : ℕ). Says (kept_in core.tables) (Pointer e core.index) (pointer_number (At pair.source b))) x
        (subst (λ (j : ℕ). Says (kept_in core.tables) (Pointer f j) (pointer_number (At pair.source b))) y points.pointer) in
        let one = said_once (kept_in core.tables) (Pointer core.file core.index) (pointer_number (At pair.own is.own.0))
        (pointer_number (At pair.source b)) is.own.1.pointer there in
        let first = at_named g pair.own is.own.0 range is.own.1.inside in
        let second = at_named g pair.source b range points.inside in
        let both : Some pair.own ≡ Some pair.source = sym first ∙ ap named one ∙ second in
        is.other cc

    by : (source : Place) → IsSourceShown g (kept_in core.tables) source pair.source pair.shared → (f i : ℕ)
        → unmarked_of source pair ≡ Some (f, i) → Pointer core.file core.index ≢ Pointer f i
    by (File e j) shown f i is_some = pick pair.shared shown is_some
      where
        pick : (b : Bool) → PointsTo g (kept_in core.tables) e j (At pair.source b) → if◌then◌else◌ {A = Unmarked} b None (Some (e, j)) ≡ Some (f, i)
            → Pointer core.file core.index ≢ Pointer f i
        pick true points none = absurd cc
        pick false points here =
            subst (λ (at : ℕ × ℕ). Pointer core.file core.index ≢ Pointer at.0 at.1) (one_pair (e, j) (f, i) here) (two e j false points)
    by (Arena s) shown f i none = absurd cc

-- the counts come behind the pointers
pub count_other : (core : Core) (pair : Pair) (key d n : ℕ) (entry : JournalRecord) (e : Edit)
    → entry ≡ record { key = key; edits = linked core.file core.index pair.source (unmarked_of core.source pair) [] } → e ≡ edit (Count d) n
    → touches entry.edits e.field ≡ false
count_other core pair key d n entry e entry_is e_is =
    ap (λ (r : JournalRecord). touches r.edits e.field) entry_is
    ∙ ap (λ (x : Edit). touches (linked core.file core.index pair.source (unmarked_of core.source pair) []) x.field) e_is
    ∙ pointers_other core.file core.index pair.source d (unmarked_of core.source pair)

pub mark_other : (core : Core) (pair : Pair) (key f i n m : ℕ) (entry : JournalRecord) (e : Edit) → HasUnmarkedApart core pair
    → unmarked_of core.source pair ≡ Some (f, i) → entry ≡ record { key = key; edits = edit (Pointer core.file core.index) n ∷ [] }
    → e ≡ edit (Pointer f i) m → touches entry.edits e.field ≡ false
mark_other core pair key f i n m entry e apart is entry_is e_is =
    ap (λ (r : JournalRecord). touches r.edits e.field) entry_is
    ∙ ap (λ (x : Edit). touches (edit (Pointer core.file core.index) n ∷ []) x.field) e_is
    ∙ (let other = other_field-is (Pointer core.file core.index) (Pointer f i) (apart f i is) in rw other refl)

-- a data block can be named at least once
one_count : (g : Geometry) → IsGeometry g → 1 ≤ greatest_count g
unfolding greatest_count per_table
one_count g range =
    elim (cases_Bool (g.tables == 1)) [
      | inl one ↦ rw one (omega arith)
      | inr more ↦ rw more (omega (arith, range.parts.0))
    ]

-- a count that is raised is in range, and where there is room it is the next one
room_range : (g : Geometry) (m : ℕ) → IsGeometry g → m ≤ greatest_count g → room_in g m + 1 ≤ greatest_count g
room_range g m range most = pick (nat_le (m + 1) (greatest_count g)) refl
  where
    pick : (b : Bool) → nat_le (m + 1) (greatest_count g) ≡ b → (if b then m else m - 1) + 1 ≤ greatest_count g
    pick true room = leb-true (m + 1) (greatest_count g) room
    pick false full = let one = one_count g range in omega (arith, most, one)

pub room_is : (g : Geometry) (m : ℕ) → m + 1 ≤ greatest_count g → room_in g m ≡ m
room_is g m room = let test = le-leb (m + 1) (greatest_count g) room in rw test refl

-- each edit is in range
pub link_range : (g : Geometry) (f i from to n m : ℕ) (unmarked : Unmarked) → IsGeometry g → HasField g (Pointer f i)
    → ((at : ℕ × ℕ) → unmarked ≡ Some at → HasField g (Pointer at.0 at.1)) → HasField g (Count from) → HasField g (Count to)
    → n ≤ greatest_count g → m ≤ greatest_count g
    → All (IsEdit g) (linked f i to unmarked (counts_moved from to n (room_in g m)))
link_range g f i from to n m unmarked range has source low high n_most m_most = by unmarked source
  where
    counts : All (IsEdit g) (counts_moved from to n (room_in g m))
    counts = moved-all (IsEdit g) from to n (room_in g m) (low, omega (arith, n_most)) (high, room_range g m range m_most)

    by : (unmarked : Unmarked) → ((at : ℕ × ℕ) → unmarked ≡ Some at → HasField g (Pointer at.0 at.1))
        → All (IsEdit g) (linked f i to unmarked (counts_moved from to n (room_in g m)))
    by None source = All-cons (IsEdit g) (edit (Pointer f i) (marked to)) (counts_moved from to n (room_in g m))
        (has, marked-range g to range high) counts
    by (Some at) source =
        All-cons (IsEdit g) (edit (Pointer f i) (marked to))
        (edit (Pointer at.0 at.1) (marked to) ∷ counts_moved from to n (room_in g m)) (has, marked-range g to range high)
        (All-cons (IsEdit g) (edit (Pointer at.0 at.1) (marked to)) (counts_moved from to n (room_in g m))
        (source at refl, marked-range g to range high) counts)

-- a table of counts is none of pointers
pub group_apart : (f i r : ℕ) → same_table (tables.Group r) (table_of (Pointer f i)) ≡ false
group_apart f i r = elim (cases_Bool (i / per_table == 0)) [ inl first ↦ rw first refl | inr more ↦ rw more refl ]

-- the tables of two counts
abbrev pub Counts : ℕ → ℕ → ℕ → ℕ → List Edit
Counts a b n m = edit (Count a) n ∷ edit (Count b) m ∷ []

pub one_group : (a b n m : ℕ) → a / per_table ≡ b / per_table → tables_of (Counts a b n m) ≡ tables.Group (a / per_table) ∷ []
one_group a b n m same = let together = eq-eqb (b / per_table) (a / per_table) (sym same) in rw together refl

pub two_groups : (a b n m : ℕ) → a / per_table ≢ b / per_table
    → tables_of (Counts a b n m) ≡ tables.Group (a / per_table) ∷ tables.Group (b / per_table) ∷ []
two_groups a b n m other = let apart = ne_eqb (b / per_table) (a / per_table) (λ same. other (sym same)) in rw apart refl

-- the tables of pointers, and then those of counts
module _ (f i to : ℕ) (counts : List Edit) (groups : List ℕ) (are : tables_of counts ≡ map tables.Group groups) where
  left_alone : (h j : ℕ) (rs : List ℕ) → tables_else (table_of (Pointer h j)) (map tables.Group rs) ≡ map tables.Group rs
  left_alone h j [] = refl
  left_alone h j (r ∷ rs) = let apart = group_apart h j r in let later = left_alone h j rs in rw (apart, later) refl

  pub none_marked : tables_of (linked f i to None counts) ≡ table_of (Pointer f i) ∷ map tables.Group groups
  none_marked =
      ap (λ (ts : List Table). table_of (Pointer f i) ∷ tables_else (table_of (Pointer f i)) ts) are
      ∙ ap (λ (ts : List Table). table_of (Pointer f i) ∷ ts) (left_alone f i groups)

  pub one_marked : (at : ℕ × ℕ) (b : Bool) → same_table (table_of (Pointer at.0 at.1)) (table_of (Pointer f i)) ≡ b
      → tables_of (linked f i to (Some at) counts)
      ≡ table_of (Pointer f i) ∷ ((if b then [] else table_of (Pointer at.0 at.1) ∷ []) ++ map tables.Group groups)
  one_marked at true same =
      ap (λ (ts : List Table).
      table_of (Pointer f i) ∷ tables_else (table_of (Pointer f i))
      (table_of (Pointer at.0 at.1) ∷ tables_else (table_of (Pointer at.0 at.1)) ts)) are
      ∙ (let a = left_alone at.0 at.1 groups in let b = left_alone f i groups in rw (a, same, b) refl)
  one_marked at false other =
      ap (λ (ts : List Table).
      table_of (Pointer f i) ∷ tables_else (table_of (Pointer f i))
      (table_of (Pointer at.0 at.1) ∷ tables_else (table_of (Pointer at.0 at.1)) ts)) are
      ∙ (let a = left_alone at.0 at.1 groups in let b = left_alone f i groups in rw (a, other, b) refl)

pub mark_entry : (core : Core) (key to : ℕ) (first : Edit) (entry : JournalRecord) → first ≡ edit (Pointer core.file core.index) (marked to)
    → entry ≡ record { key = key; edits = first ∷ [] } → entry ≡ record { key = key; edits = edit (Pointer core.file core.index) (marked to) ∷ [] }
mark_entry core key to first entry first_is entry_is =
    entry_is ∙ ap (λ (e : Edit). let r : JournalRecord = record { key = key; edits = e ∷ [] } in r) first_is

kept_same : (a b : Kept) → Some a ≡ Some b → a ≡ b
kept_same a b same = cc

-- a table that was read has its name
pub named_in : (known : Known) (t : Table) (k : Kept) → table_in known t ≡ Some k → k.which ≡ t
named_in known t k is = by (known t) is
  where
    by : (o : Option Packing) → option_map (λ (p : Packing). let k : Kept = record { which = t; table = p } in k) o ≡ Some k → k.which ≡ t
    by None none = absurd cc
    by (Some p) here = sym (ap (λ (k : Kept). k.which) (kept_same (record { which = t; table = p }) k here))

found_in : (known : Known) (t : Table) → known t ≢ None → (k : Kept) × (table_in known t ≡ Some k)
found_in known t some = by (known t) some
  where
    by : (o : Option Packing) → o ≢ None
        → (k : Kept) × (option_map (λ (p : Packing). let k : Kept = record { which = t; table = p } in k) o ≡ Some k)
    by None none = absurd (none refl)
    by (Some p) here = (record { which = t; table = p }, refl)

abbrev pub Names : List Kept → List Table
Names left = map (λ (k : Kept). k.which) left

-- the tables of a link are those of its edits
module _ (g : Geometry) (f i to : ℕ) (known : Known) (own : Kept) (own_is : own.which ≡ table_of (Pointer f i)) (counts : List Edit)
    (groups : List ℕ) (rest : List Kept) (are : tables_of counts ≡ map tables.Group groups) (rest_are : Names rest ≡ map tables.Group groups) where
  unmarked_order : Names (own ∷ rest) ≡ tables_of (linked f i to None counts)
  unmarked_order = rw (own_is, rest_are) (sym (none_marked f i to counts groups are))

  marked_order : (at : ℕ × ℕ) → known (table_of (Pointer at.0 at.1)) ≢ None
      → Names (own ∷ (option_to_list (mark_table known own.which (Some at)) ++ rest)) ≡ tables_of (linked f i to (Some at) counts)
  marked_order at read = pick (same_table (table_of (Pointer at.0 at.1)) (table_of (Pointer f i))) refl
    where
      names_alone : same_table (table_of (Pointer at.0 at.1)) (table_of (Pointer f i)) ≡ true
          → Names (own ∷ (option_to_list (mark_table known own.which (Some at)) ++ rest))
          ≡ table_of (Pointer f i) ∷ ([] ++ map tables.Group groups)
      names_alone same = rw (own_is, same, rest_are) refl

      names_both : same_table (table_of (Pointer at.0 at.1)) (table_of (Pointer f i)) ≡ false
          → Names (own ∷ (option_to_list (mark_table known own.which (Some at)) ++ rest))
          ≡ table_of (Pointer f i) ∷ ((table_of (Pointer at.0 at.1) ∷ []) ++ map tables.Group groups)
      names_both other =
          let found = found_in known (table_of (Pointer at.0 at.1)) read in
          let name = named_in known (table_of (Pointer at.0 at.1)) found.0 found.1 in
          rw (own_is, other, found.1, name, rest_are) refl

      pick : (b : Bool) → same_table (table_of (Pointer at.0 at.1)) (table_of (Pointer f i)) ≡ b
          → Names (own ∷ (option_to_list (mark_table known own.which (Some at)) ++ rest)) ≡ tables_of (linked f i to (Some at) counts)
      pick true same = names_alone same ∙ sym (one_marked f i to counts groups are at true same)
      pick false other = names_both other ∙ sym (one_marked f i to counts groups are at false other)

  pub link_order : (unmarked : Unmarked) → IsUnmarkedRead g known unmarked
      → Names (own ∷ (option_to_list (mark_table known own.which unmarked) ++ rest)) ≡ tables_of (linked f i to unmarked counts)
  link_order None read = unmarked_order
  link_order (Some at) read = marked_order at read.read
