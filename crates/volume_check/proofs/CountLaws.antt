-- The sites of the fourth stage at group tables and files' tables.
use Rattle.std.proofs.Common.{◌≡◌, ◌≢◌, ◌<◌, ◌≤◌, ◌+◌, ◌-◌, ◌*◌, ◌/◌, ◌==◌, ◌++◌, ℕ, slice_index, Bool, List, [], ◌∷◌, if◌then◌else◌, refl, sym, ap, subst, ◌∙◌, inl, inr, arith}
use Rattle.std.specs.Prelude.{◌↔◌, IsTrue, not}
use Rattle.std.proofs.lemmas.Bool.{cases_Bool, cases_eq, eq-eqb, eqb-true, ne_eqb}
use Rattle.vol_layout.specs.declared.kind.Kind.{Kind}
use Rattle.vol_layout.specs.declared.kind.Kind.TheVariants as kinds
use Rattle.vol_layout.specs.declared.kind.Table.{Table}
use Rattle.vol_layout.specs.declared.kind.Table.TheVariants as tables
use Rattle.std.proofs.Math.Nat.{mod-eq_of_lt}
use Rattle.vol_layout.specs.declared.geometry.Geometry.{Geometry}
use Rattle.vol_layout.specs.declared.field.Field.TheVariants.{Pointer, Count}
use Rattle.vol_layout.specs.Fields.{IsPointer, table_of}
use Rattle.vol_layout.specs.Places.{place_of}
use Rattle.vol_layout.specs.Ranges.{HasTable, IsGeometry, data_blocks, limit, per_table}
use Rattle.image_view.specs.Mappings.{uses}
use Rattle.image_view.specs.Numbers.{logical}
use Rattle.image_view.specs.Pointers.{IsUnmarked}
use Rattle.volume_faults.specs.declared.fault.FaultKind.TheVariants as causes
use Rattle.volume_faults.specs.declared.fault.Fault.{Fault}
use Rattle.volume_faults.specs.Sites.{Block, CountOf, IsRight, LockKey, PointerOf, RecordEdit, RecordKey, Site, Size, Superblock, fault_at}
use Rattle.volume_check.specs.Counts.{AreUses, file_table}
use Rattle.volume_check.specs.Metadatas.{AddsOf, Metadata}
use Rattle.volume_check.specs.SitesAt.{AddsAt, IsAt, IsAtBefore, IsAtEntry, entry_at}
use Rattle.volume_check.proofs.SiteLaws.{entry_more, none_at, one_site, one_site_unless}

-- the sites of the fourth stage are counts and pointers
abbrev IsOfFourth : Metadata → Kind → Site → Type 0
IsOfFourth m kind s = IsAt 4 m kind s

-- a file's table is no group's table, and tells the file and its own number
file_or_group : (f t r : ℕ) → file_table f t ≡ tables.Group r → ⊥
file_or_group f t r e =
    elim (cases_Bool (t == 0)) [
      | inl first ↦ let e' : tables.File f ≡ tables.Group r = rw first at e in cc
      | inr more ↦ let e' : tables.More f t ≡ tables.Group r = rw more at e in cc
    ]

file_tables_apart : (f t f' t' : ℕ) → file_table f t ≡ file_table f' t' → (f ≡ f') × (t ≡ t')
file_tables_apart f t f' t' e =
    elim (cases_eq t 0) [
      | inl z ↦ elim (cases_eq t' 0) [
        | inl z' ↦ let e' : tables.File f ≡ tables.File f' = rw (eq-eqb t 0 z, eq-eqb t' 0 z') at e in (cc, z ∙ sym z')
        | inr n' ↦ let e' : tables.File f ≡ tables.More f' t' = rw (eq-eqb t 0 z, ne_eqb t' 0 n') at e in absurd cc
      ]
      | inr n ↦ elim (cases_eq t' 0) [
        | inl z' ↦ let e' : tables.More f t ≡ tables.File f' = rw (ne_eqb t 0 n, eq-eqb t' 0 z') at e in absurd cc
        | inr n' ↦ let e' : tables.More f t ≡ tables.More f' t' = rw (ne_eqb t 0 n, ne_eqb t' 0 n') at e in (cc, cc)
      ]
    ]

table_of_kind : (t t' : Table) → kinds.Table t ≡ kinds.Table t' → t ≡ t'
table_of_kind t t' e = cc

-- a count in a group table
pub record CountSite (r : ℕ) (s : Site) : Type 0 where
  pub number : ℕ
  pub is : s ≡ CountOf number
  pub group : number / per_table ≡ r

pub at_group : (m : Metadata) (r : ℕ) (s : Site) → IsAt 4 m (kinds.Table (tables.Group r)) s → CountSite r s
at_group m r Superblock is = let e : ◌≡◌ {A = ℕ} 1 4 = is.0.0 in absurd (omega arith)
at_group m r Size is = let e : ◌≡◌ {A = ℕ} 1 4 = is.0.0 in absurd (omega arith)
at_group m r (Block kind) is = let e : ◌≡◌ {A = ℕ} 2 4 = is.0.0 in absurd (omega arith)
at_group m r (LockKey r') is = let e : ◌≡◌ {A = ℕ} 3 4 = is.0.0 in absurd (omega arith)
at_group m r (RecordKey h') is = let e : ◌≡◌ {A = ℕ} 3 4 = is.0.0 in absurd (omega arith)
at_group m r (RecordEdit h' k) is = let e : ◌≡◌ {A = ℕ} 3 4 = is.0.0 in absurd (omega arith)
at_group m r (CountOf d) is = let e : tables.Group (d / per_table) ≡ tables.Group r = table_of_kind _ _ is.1 in record { number = d; is = refl; group = cc }
at_group m r (PointerOf f i) is = absurd (file_or_group f (i / per_table) r (table_of_kind _ _ is.1))

-- a pointer in a file's table
pub record PointerSite (f t : ℕ) (s : Site) : Type 0 where
  pub index : ℕ
  pub is : s ≡ PointerOf f index
  pub block : index / per_table ≡ t

pub at_file : (m : Metadata) (f t : ℕ) (s : Site) → IsAt 4 m (kinds.Table (file_table f t)) s → PointerSite f t s
at_file m f t Superblock is = let e : ◌≡◌ {A = ℕ} 1 4 = is.0.0 in absurd (omega arith)
at_file m f t Size is = let e : ◌≡◌ {A = ℕ} 1 4 = is.0.0 in absurd (omega arith)
at_file m f t (Block kind) is = let e : ◌≡◌ {A = ℕ} 2 4 = is.0.0 in absurd (omega arith)
at_file m f t (LockKey r') is = let e : ◌≡◌ {A = ℕ} 3 4 = is.0.0 in absurd (omega arith)
at_file m f t (RecordKey h') is = let e : ◌≡◌ {A = ℕ} 3 4 = is.0.0 in absurd (omega arith)
at_file m f t (RecordEdit h' k) is = let e : ◌≡◌ {A = ℕ} 3 4 = is.0.0 in absurd (omega arith)
at_file m f t (CountOf d) is = absurd (file_or_group f t (d / per_table) (sym (table_of_kind _ _ is.1)))
at_file m f t (PointerOf f' i) is =
    let apart = file_tables_apart f' (i / per_table) f t (table_of_kind _ _ is.1) in
    record { index = i; is = ap (λ f. PointerOf f i) apart.0; block = apart.1 }

-- at other blocks there is nothing
elsewhere : (m : Metadata) (kind : Kind) → ((f t : ℕ) → kind ≢ kinds.Table (file_table f t)) → ((r : ℕ) → kind ≢ kinds.Table (tables.Group r)) → (s : Site) → IsAt 4 m kind s → ⊥
elsewhere m kind no_file no_group Superblock is = let e : ◌≡◌ {A = ℕ} 1 4 = is.0.0 in absurd (omega arith)
elsewhere m kind no_file no_group Size is = let e : ◌≡◌ {A = ℕ} 1 4 = is.0.0 in absurd (omega arith)
elsewhere m kind no_file no_group (Block kind') is = let e : ◌≡◌ {A = ℕ} 2 4 = is.0.0 in absurd (omega arith)
elsewhere m kind no_file no_group (LockKey r) is = let e : ◌≡◌ {A = ℕ} 3 4 = is.0.0 in absurd (omega arith)
elsewhere m kind no_file no_group (RecordKey h) is = let e : ◌≡◌ {A = ℕ} 3 4 = is.0.0 in absurd (omega arith)
elsewhere m kind no_file no_group (RecordEdit h k) is = let e : ◌≡◌ {A = ℕ} 3 4 = is.0.0 in absurd (omega arith)
elsewhere m kind no_file no_group (CountOf d) is = no_group (d / per_table) (sym is.1)
elsewhere m kind no_file no_group (PointerOf f i) is = no_file f (i / per_table) (sym is.1)

pub miscounted_elsewhere : (m : Metadata) (kind : Kind) (faults : List Fault) → ((f t : ℕ) → kind ≢ kinds.Table (file_table f t)) → ((r : ℕ) → kind ≢ kinds.Table (tables.Group r)) → AddsAt 4 m kind faults faults
miscounted_elsewhere m kind faults no_file no_group = none_at 4 m kind faults (elsewhere m kind no_file no_group)

-- a pointer without the mark whose data block is not mapped once
abbrev pub LacksMark : ℕ → List ℕ → Type 0
LacksMark p numbers = IsUnmarked p × (slice_index numbers (p - 1) ≢ 1)

pub named_below : (g : Geometry) (p : ℕ) → IsPointer g p → IsUnmarked p → p - 1 < data_blocks g
named_below g p pointer un = let small = mod-eq_of_lt un.1 in let names = pointer.names in let some = un.0 in omega arith

pub mark_wrong : (m : Metadata) (f i p : ℕ) (numbers : List ℕ) → AreUses m numbers → p ≡ logical m.geometry m.image (Pointer f i) → IsPointer m.geometry p → LacksMark p numbers
    → IsRight m.geometry m.counter m.image (PointerOf f i) → ⊥
mark_wrong m f i p numbers are is pointer lacks right =
    let P : ℕ → Type 0 = λ n. IsUnmarked n → uses m.geometry m.image (n - 1) ≡ 1 in
    lacks.1 (are.each (p - 1) (named_below m.geometry p pointer lacks.0) ∙ subst P (sym is) right lacks.0)

pub mark_right : (m : Metadata) (f i p : ℕ) (numbers : List ℕ) → AreUses m numbers → p ≡ logical m.geometry m.image (Pointer f i) → IsPointer m.geometry p → (LacksMark p numbers → ⊥)
    → IsRight m.geometry m.counter m.image (PointerOf f i)
mark_right m f i p numbers are is pointer fine =
    let P : ℕ → Type 0 = λ n. IsUnmarked n → uses m.geometry m.image (n - 1) ≡ 1 in
    subst P is (λ un. elim (cases_eq (slice_index numbers (p - 1)) 1) [
      | inl once ↦ sym (are.each (p - 1) (named_below m.geometry p pointer un)) ∙ once
      | inr other ↦ absurd (fine (un, other))
    ])

-- the fault of a count, by the numbers that were read
pub count_fault : (m : Metadata) (d place r c : ℕ) → place ≡ place_of m.geometry (kinds.Table (table_of (Count d))) → r ≡ logical m.geometry m.image (Count d) → c ≡ uses m.geometry m.image d
    → (let fault : Fault = record { place = place; kind = causes.Count d r c } in fault) ≡ fault_at m.geometry m.image (CountOf d)
count_fault m d place r c here found counted = rw (here, found, counted) refl

-- the entries of a group table, and of a file's table
pub counts_from : (m : Metadata) (r first : ℕ) → first ≡ 1008 * r → (s : Site) → IsAt 4 m (kinds.Table (tables.Group r)) s → first ≤ entry_at s
unfolding per_table
counts_from m r first f s at =
    let site = at_group m r s at in
    let entry : entry_at s ≡ site.number = ap entry_at site.is in
    let group : site.number / 1008 ≡ r = site.group in
    omega arith

pub counts_to : (m : Metadata) (r first last : ℕ) → first ≡ 1008 * r → first + 1008 ≤ last → (s : Site) → IsAt 4 m (kinds.Table (tables.Group r)) s → entry_at s < last
unfolding per_table
counts_to m r first last f l s at =
    let site = at_group m r s at in
    let entry : entry_at s ≡ site.number = ap entry_at site.is in
    let group : site.number / 1008 ≡ r = site.group in
    omega arith

pub marks_from : (m : Metadata) (f t first : ℕ) → first ≡ 1008 * t → (s : Site) → IsAt 4 m (kinds.Table (file_table f t)) s → first ≤ entry_at s
unfolding per_table
marks_from m f t first is s at =
    let site = at_file m f t s at in
    let entry : entry_at s ≡ site.index = ap entry_at site.is in
    let block : site.index / 1008 ≡ t = site.block in
    omega arith

pub marks_to : (m : Metadata) (f t first last : ℕ) → first ≡ 1008 * t → first + 1008 ≤ last → (s : Site) → IsAt 4 m (kinds.Table (file_table f t)) s → entry_at s < last
unfolding per_table
marks_to m f t first last is l s at =
    let site = at_file m f t s at in
    let entry : entry_at s ≡ site.index = ap entry_at site.is in
    let block : site.index / 1008 ≡ t = site.block in
    omega arith

-- where a number of a table block stands
block_of_entry : (i t first : ℕ) → first ≡ 1008 * t → first ≤ i → i < first + 1008 → i / per_table ≡ t
unfolding per_table
block_of_entry i t first is low high = omega arith

pub count_inside : (m : Metadata) (r d first : ℕ) → first ≡ 1008 * r → r < m.geometry.groups → d < first + 1008 → d < data_blocks m.geometry
unfolding data_blocks per_table
count_inside m r d first is below high = omega arith

pub pointer_inside : (m : Metadata) (t i first : ℕ) → first ≡ 1008 * t → t < m.geometry.tables → i < first + 1008 → i < limit m.geometry
unfolding limit per_table
pointer_inside m t i first is below high = omega arith

-- the fault of a count, behind those of the counts before it
only_count : (m : Metadata) (r d : ℕ) (s : Site) → IsAtEntry 4 m (kinds.Table (tables.Group r)) d s → s ≡ CountOf d
only_count m r d s at =
    let site = at_group m r s at.0 in
    let same : site.number ≡ d = sym (ap entry_at site.is) ∙ at.1 in
    site.is ∙ ap CountOf same

pub count_added : (m : Metadata) (r d first place found counted : ℕ) (numbers : List ℕ) (a b c : List Fault) → AreUses m numbers
    → first ≡ 1008 * r → first ≤ d → d < first + 1008 → r < m.geometry.groups
    → place ≡ place_of m.geometry (kinds.Table (tables.Group r)) → found ≡ logical m.geometry m.image (Count d) → counted ≡ slice_index numbers d
    → c ≡ (if not (found == counted) then b ++ (let fault : Fault = record { place = place; kind = causes.Count d found counted } in fault) ∷ [] else b)
    → AddsOf (IsAtBefore 4 m (kinds.Table (tables.Group r)) d) m a b → AddsOf (IsAtBefore 4 m (kinds.Table (tables.Group r)) (d + 1)) m a c
count_added m r d first place found counted numbers a b c are f low high below here is read grew before =
    let group = block_of_entry d r first f low high in
    let kind : kinds.Table (tables.Group (d / per_table)) ≡ kinds.Table (tables.Group r) = ap (λ r. kinds.Table (tables.Group r)) group in
    let inside = count_inside m r d first f below high in
    let uses_is : counted ≡ uses m.geometry m.image d = read ∙ are.each d inside in
    entry_more 4 m (kinds.Table (tables.Group r)) d a b c before
    (one_site_unless (IsAtEntry 4 m (kinds.Table (tables.Group r)) d) m (CountOf d) (record { place = place; kind = causes.Count d found counted }) (found == counted) b c
    (count_fault m d place found counted (here ∙ ap (place_of m.geometry) (sym kind)) is uses_is)
    (only_count m r d) (((refl, inside), kind), refl)
    (λ t. sym is ∙ eqb-true found counted t ∙ uses_is, λ e. eq-eqb found counted (is ∙ e ∙ sym uses_is))
    grew)

-- the fault of a pointer, behind those of the pointers before it
only_pointer : (m : Metadata) (f t i : ℕ) (s : Site) → IsAtEntry 4 m (kinds.Table (file_table f t)) i s → s ≡ PointerOf f i
only_pointer m f t i s at =
    let site = at_file m f t s at.0 in
    let same : site.index ≡ i = sym (ap entry_at site.is) ∙ at.1 in
    site.is ∙ ap (PointerOf f) same

pub mark_added : (m : Metadata) (f t i first place p : ℕ) (numbers : List ℕ) (wrong : Bool) (a b c : List Fault) → AreUses m numbers
    → first ≡ 1008 * t → first ≤ i → i < first + 1008 → f < m.geometry.files → t < m.geometry.tables
    → place ≡ place_of m.geometry (kinds.Table (file_table f t)) → p ≡ logical m.geometry m.image (Pointer f i) → IsPointer m.geometry p
    → (IsTrue wrong ↔ LacksMark p numbers)
    → c ≡ (if wrong then b ++ (let fault : Fault = record { place = place; kind = causes.Mark i } in fault) ∷ [] else b)
    → AddsOf (IsAtBefore 4 m (kinds.Table (file_table f t)) i) m a b → AddsOf (IsAtBefore 4 m (kinds.Table (file_table f t)) (i + 1)) m a c
mark_added m f t i first place p numbers wrong a b c are is low high below below' here p_is pointer says grew before =
    let block = block_of_entry i t first is low high in
    let kind : kinds.Table (file_table f (i / per_table)) ≡ kinds.Table (file_table f t) = ap (λ t. kinds.Table (file_table f t)) block in
    let inside = pointer_inside m t i first is below' high in
    let fault_is : (let fault : Fault = record { place = place; kind = causes.Mark i } in fault) ≡ fault_at m.geometry m.image (PointerOf f i) = rw (here ∙ ap (place_of m.geometry) (sym kind)) refl in
    entry_more 4 m (kinds.Table (file_table f t)) i a b c before
    (one_site (IsAtEntry 4 m (kinds.Table (file_table f t)) i) m (PointerOf f i) (record { place = place; kind = causes.Mark i }) wrong b c
    fault_is (only_pointer m f t i)
    (λ t'. ((((refl, (below, inside)), kind), refl), mark_wrong m f i p numbers are p_is pointer (says.0 t')))
    (λ t' h. mark_right m f i p numbers are p_is pointer (λ lacks. let so = says.1 lacks in cc))
    grew)

-- of a part table nothing is asked, and of blocks that are no tables
pub part_elsewhere : (m : Metadata) (p : ℕ) (faults : List Fault) → AddsAt 4 m (kinds.Table (tables.Part p)) faults faults
part_elsewhere m p faults =
    miscounted_elsewhere m (kinds.Table (tables.Part p)) faults
    (λ f t e. let e' : tables.Part p ≡ file_table f t = table_of_kind (tables.Part p) (file_table f t) e in
    elim (cases_eq t 0) [
      | inl z ↦ let e'' : tables.Part p ≡ tables.File f = rw (eq-eqb t 0 z) at e' in cc
      | inr n ↦ let e'' : tables.Part p ≡ tables.More f t = rw (ne_eqb t 0 n) at e' in cc
    ])
    (λ r e. let e' : tables.Part p ≡ tables.Group r = table_of_kind (tables.Part p) (tables.Group r) e in cc)

-- the file and the number of a table block that the volume has
pub file_table_parts : (m : Metadata) (g : Geometry) (f t : ℕ) → g ≡ m.geometry → IsGeometry g → HasTable m.geometry (file_table f t) → (f < m.geometry.files) × (t < m.geometry.tables)
file_table_parts m g f t same range has =
    let here : IsGeometry m.geometry = subst IsGeometry same range in
    let some = here.tables.0 in
    elim (cases_eq t 0) [
      | inl z ↦ let first : f < m.geometry.files = rw (eq-eqb t 0 z) at has in (first, omega arith)
      | inr n ↦ let more : HasTable m.geometry (tables.More f t) = rw (ne_eqb t 0 n) at has in (more.0, more.2)
    ]
