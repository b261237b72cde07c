-- The numbers of fields in the packing of a table, and what a change of one leaves.
use Rattle.std.proofs.Common.{◌≡◌, ◌≢◌, ◌<◌, ◌≤◌, ◌*◌, ◌/◌, ◌%◌, ◌^◌, ◌==◌, ℕ, List, [], Option, Some, None, length, refl, sym, ap, ◌∙◌, subst, arith, inl, inr, get_or-set_other, get_or-set_same}
use Rattle.std.specs.Prelude.{slice_index}
use Rattle.std.proofs.lemmas.Bool.{cases_Bool, eqb-true}
use Rattle.std.proofs.lemmas.List.{length-map, length-set, map-set}
use Rattle.std.proofs.lemmas.List.Elements.{All-set}
use Rattle.std.proofs.lemmas.Nat.{mul-le}
use Rattle.vol_base.specs.Bytes.{IsBlock, bytes_of, u32_at}
use Rattle.vol_base.specs.laws.BytesLaws.{length-bytes_of, number_at-last}
use Rattle.vol_base.specs.Packing.{IsPacking, Packing, numbers, packed_bytes}
use Rattle.vol_base.specs.laws.PackingLaws.{packing_of-packed_bytes, u32_at-packed_bytes}
use Rattle.vol_layout.specs.declared.geometry.Geometry.{Geometry}
use Rattle.vol_layout.specs.declared.kind.Table.{Table}
use Rattle.vol_layout.specs.declared.kind.Table.TheVariants as tables
use Rattle.vol_layout.specs.declared.field.Field.{Field}
use Rattle.vol_layout.specs.declared.field.Field.TheVariants.{Head, Pointer, Slot, Count}
use Rattle.vol_layout.specs.laws.EditLaws.{other_field, same_field-is}
use Rattle.vol_layout.specs.Edits.{same_field}
use Rattle.vol_layout.specs.Fields.{IsInRange, byte_of, entry_of, greatest_count, table_of}
use Rattle.vol_layout.specs.Ranges.{IsGeometry, data_blocks, limit, per_table}
use Rattle.image_view.specs.Images.{Image}
use Rattle.image_view.specs.Numbers.{field}
use Rattle.image_view.specs.Spelled.{IsTable, MayHaveWord}
use Rattle.volume_faults.specs.Sites.{HasNumbers}
use Rattle.table_blocks.specs.Tables.{IsPackingOf, IsTableOf, number_at_entry, number_in, with_entry, with_number}

-- an entry is one of the table
pub entry_fits : (n : ℕ) → n % per_table < per_table
unfolding per_table
entry_fits n = omega arith

-- the number at a field's byte in the block of a packing
pub number_spelled : (p : Packing) (x : Field) → IsPacking 4 p → length p.entries ≡ per_table
    → u32_at (packed_bytes 4 p) (byte_of x) ≡ number_in p x
number_spelled p (Head f) fits whole = ap (λ (q : Packing). q.word) (packing_of-packed_bytes 4 p fits)
number_spelled p (Pointer f i) fits whole = u32_at-packed_bytes (i % per_table) p fits (omega (arith, whole, entry_fits i))
number_spelled p (Slot s) fits whole = u32_at-packed_bytes (s % per_table) p fits (omega (arith, whole, entry_fits s))
number_spelled p (Count d) fits whole = u32_at-packed_bytes (d % per_table) p fits (omega (arith, whole, entry_fits d))

-- the number in a field's table is the one in the packing
pub field-number_in : (g : Geometry) (image : Image) (t : Table) (p : Packing) (x : Field) → IsTableOf g image t p → table_of x ≡ t
    → field g image x ≡ number_in p x
unfolding field
field-number_in g image t p x of at =
    rw (at, of.spelled) (number_spelled p x of.packing.fits of.packing.entries)

-- a block that spells a packing of the table is a spelling in range
pub spelled_table : (g : Geometry) (t : Table) (p : Packing) → IsPackingOf g t p → IsBlock (packed_bytes 4 p)
    → IsTable t (packed_bytes 4 p) × HasNumbers g t (packed_bytes 4 p)
spelled_table g t p of block = (
  record { packing = p; fits = of.fits; magic = of.magic; word = of.word; entries = of.entries; spelled = refl; bytes = block.small },
  λ x has at. subst (IsInRange g x) (sym (number_spelled p x of.fits of.entries)) (of.range x has at),
)

-- a packing with another number of one field: that field has it
same_entry : (p : Packing) (at : Option ℕ) (n : ℕ) → n < 2 ^ 32 → ((e : ℕ) → at ≡ Some e → e < length p.entries)
    → number_at_entry (with_entry p at n) at ≡ n
same_entry p None n small inside = refl
same_entry p (Some e) n small inside =
    let long : length (numbers p) ≡ length p.entries = length-map p.entries (λ (entry : List ℕ). u32_at entry 0) in
    let in_range : e < length (numbers p) = let below = inside e refl in omega (arith, long, below) in
    ap (λ (xs : List ℕ). slice_index xs e) (map-set (λ (entry : List ℕ). u32_at entry 0) p.entries e (bytes_of 4 n))
    ∙ get_or-set_same (numbers p) e (u32_at (bytes_of 4 n) 0) 0 in_range
    ∙ number_at-last 4 n 0 [] refl small

-- and another entry keeps its number
other_entry : (p : Packing) (at other : Option ℕ) (n : ℕ) → at ≢ other → number_at_entry (with_entry p at n) other ≡ number_at_entry p other
other_entry p None None n ne = absurd (ne refl)
other_entry p None (Some k) n ne = refl
other_entry p (Some e) None n ne = refl
other_entry p (Some e) (Some k) n ne =
    ap (λ (xs : List ℕ). slice_index xs k) (map-set (λ (entry : List ℕ). u32_at entry 0) p.entries e (bytes_of 4 n))
    ∙ get_or-set_other (numbers p) e k (u32_at (bytes_of 4 n) 0) 0 (λ is. ne (ap Some (sym is)))

field_entry : (x : Field) (e : ℕ) → entry_of x ≡ Some e → e < per_table
field_entry (Head f) e is = cc
field_entry (Pointer f i) e is = let fits = entry_fits i in let same : i % per_table ≡ e = cc in subst (λ (n : ℕ). n < per_table) same fits
field_entry (Slot s) e is = let fits = entry_fits s in let same : s % per_table ≡ e = cc in subst (λ (n : ℕ). n < per_table) same fits
field_entry (Count d) e is = let fits = entry_fits d in let same : d % per_table ≡ e = cc in subst (λ (n : ℕ). n < per_table) same fits

pub number_in-with_number : (p : Packing) (x : Field) (n : ℕ) → n < 2 ^ 32 → length p.entries ≡ per_table
    → number_in (with_number p x n) x ≡ n
number_in-with_number p x n small whole =
    same_entry p (entry_of x) n small (λ e is. let below = field_entry x e is in omega (arith, whole, below))

-- the number of a table's block among those of its owner, the owner, and the sort of table
abbrev block_no : Table → ℕ
block_no (tables.File f) = 0
block_no (tables.More f t) = t
block_no (tables.Group r) = r
block_no (tables.Part p) = p

abbrev owner : Table → ℕ
owner (tables.File f) = f
owner (tables.More f t) = f
owner (tables.Group r) = 0
owner (tables.Part p) = 0

abbrev sort : Table → ℕ
sort (tables.File f) = 0
sort (tables.More f t) = 0
sort (tables.Group r) = 1
sort (tables.Part p) = 2

pointer_block : (f i : ℕ) → block_no (table_of (Pointer f i)) ≡ i / per_table
pointer_block f i =
    elim (cases_Bool (i / per_table == 0)) [
      | inl first ↦ rw first (sym (eqb-true (i / per_table) 0 first))
      | inr further ↦ rw further refl
    ]

pointer_owner : (f i : ℕ) → owner (table_of (Pointer f i)) ≡ f
pointer_owner f i =
    elim (cases_Bool (i / per_table == 0)) [ inl first ↦ rw first refl | inr further ↦ rw further refl ]

pointer_sort : (f i : ℕ) → sort (table_of (Pointer f i)) ≡ 0
pointer_sort f i =
    elim (cases_Bool (i / per_table == 0)) [ inl first ↦ rw first refl | inr further ↦ rw further refl ]

rejoined : (i j : ℕ) → i / per_table ≡ j / per_table → i % per_table ≡ j % per_table → i ≡ j
unfolding per_table
rejoined i j blocks entries = omega (arith, blocks, entries)

abbrev some_of : Option ℕ → ℕ
some_of None = 0
some_of (Some n) = n

other_sort : (x y : Field) (a b : ℕ) → table_of x ≡ table_of y → sort (table_of x) ≡ a → sort (table_of y) ≡ b → a ≢ b → ⊥
other_sort x y a b same left right ne = ne (sym left ∙ ap sort same ∙ right)

-- two fields of one table that stand at one entry are one field
same_place : (x y : Field) → table_of x ≡ table_of y → entry_of x ≡ entry_of y → x ≡ y
same_place (Head f) (Head e) table entry = ap Head (ap owner table)
same_place (Head f) (Pointer e j) table entry = cc
same_place (Head f) (Slot s) table entry = cc
same_place (Head f) (Count d) table entry = cc
same_place (Pointer f i) (Head e) table entry = cc
same_place (Pointer f i) (Pointer e j) table entry =
    let file : f ≡ e = sym (pointer_owner f i) ∙ ap owner table ∙ pointer_owner e j in
    let blocks : i / per_table ≡ j / per_table = sym (pointer_block f i) ∙ ap block_no table ∙ pointer_block e j in
    let index : i ≡ j = rejoined i j blocks (ap some_of entry) in
    ap (λ (n : ℕ). Pointer n i) file ∙ ap (Pointer e) index
same_place (Pointer f i) (Slot s) table entry = absurd (other_sort (Pointer f i) (Slot s) 0 2 table (pointer_sort f i) refl (λ e. omega (arith, e)))
same_place (Pointer f i) (Count d) table entry = absurd (other_sort (Pointer f i) (Count d) 0 1 table (pointer_sort f i) refl (λ e. omega (arith, e)))
same_place (Slot s) (Head f) table entry = cc
same_place (Slot s) (Pointer f i) table entry = absurd (other_sort (Slot s) (Pointer f i) 2 0 table refl (pointer_sort f i) (λ e. omega (arith, e)))
same_place (Slot s) (Slot r) table entry = ap Slot (rejoined s r (ap block_no table) (ap some_of entry))
same_place (Slot s) (Count d) table entry = absurd (other_sort (Slot s) (Count d) 2 1 table refl refl (λ e. omega (arith, e)))
same_place (Count d) (Head f) table entry = cc
same_place (Count d) (Pointer f i) table entry = absurd (other_sort (Count d) (Pointer f i) 1 0 table refl (pointer_sort f i) (λ e. omega (arith, e)))
same_place (Count d) (Slot s) table entry = absurd (other_sort (Count d) (Slot s) 1 2 table refl refl (λ e. omega (arith, e)))
same_place (Count d) (Count c) table entry = ap Count (rejoined d c (ap block_no table) (ap some_of entry))

-- another field of the table keeps its number
pub number_in-other : (p : Packing) (x y : Field) (n : ℕ) → table_of x ≡ table_of y → x ≢ y
    → number_in (with_number p x n) y ≡ number_in p y
number_in-other p x y n table ne = other_entry p (entry_of x) (entry_of y) n (λ entry. ne (same_place x y table entry))

-- a number that may stand in a field fits four bytes
greatest : (g : Geometry) → IsGeometry g → greatest_count g < 2 ^ 32
unfolding greatest_count per_table
greatest g of =
    let tables : g.files * g.tables ≤ 64 * 16 = mul-le g.files g.tables 64 16 of.files.1 of.tables.1 in
    elim (cases_Bool (g.tables == 1)) [ inl one ↦ rw one (omega arith) | inr more ↦ rw more (omega (arith, tables, of.parts.1)) ]

pub in_range-small : (g : Geometry) (x : Field) (n : ℕ) → IsGeometry g → IsInRange g x n → n < 2 ^ 32
unfolding limit data_blocks per_table
in_range-small g (Head f) n of in_range = omega (arith, of.tables.1, in_range)
in_range-small g (Pointer f i) n of in_range = in_range.width
in_range-small g (Slot s) n of in_range = omega (arith, of.groups.1, in_range)
in_range-small g (Count d) n of in_range = let most = greatest g of in omega (arith, most, in_range)

-- a packing with another number of one field is one that the table may spell, if the number may stand there
fits_with : (p : Packing) (at : Option ℕ) (n : ℕ) → n < 2 ^ 32 → IsPacking 4 p → IsPacking 4 (with_entry p at n)
fits_with p None n small fits = record { magic = fits.magic; word = small; room = fits.room; wide = fits.wide }
fits_with p (Some e) n small fits = record {
  magic = fits.magic;
  word = fits.word;
  room = let same = length-set p.entries e (bytes_of 4 n) in omega (arith, same, fits.room);
  wide = All-set (λ (entry : List ℕ). length entry ≡ 4) p.entries e (bytes_of 4 n) (length-bytes_of 4 n) fits.wide;
}

magic_with : (p : Packing) (at : Option ℕ) (n : ℕ) → (with_entry p at n).magic ≡ p.magic
magic_with p None n = refl
magic_with p (Some e) n = refl

pub length-with_number : (p : Packing) (at : Option ℕ) (n : ℕ) → length (with_entry p at n).entries ≡ length p.entries
length-with_number p None n = refl
length-with_number p (Some e) n = length-set p.entries e (bytes_of 4 n)

word_with : (t : Table) (p : Packing) (x : Field) (n : ℕ) → table_of x ≡ t → MayHaveWord t p.word → MayHaveWord t (with_number p x n).word
word_with t p (Head f) n at may = subst (λ (u : Table). MayHaveWord u n) at tt
word_with t p (Pointer f i) n at may = may
word_with t p (Slot s) n at may = may
word_with t p (Count d) n at may = may

range_with : (g : Geometry) (p : Packing) (x y : Field) (n : ℕ) → table_of x ≡ table_of y → n < 2 ^ 32 → length p.entries ≡ per_table
    → IsInRange g x n → IsInRange g y (number_in p y)
    → IsInRange g y (number_in (with_number p x n) y)
range_with g p x y n table small whole here was =
    elim (cases_Bool (same_field x y)) [
      | inl same ↦
          subst (λ (z : Field). IsInRange g z (number_in (with_number p x n) z)) (same_field-is x y same) (subst (IsInRange g x) (sym (number_in-with_number p x n small whole)) here)
      | inr other ↦ subst (IsInRange g y) (sym (number_in-other p x y n table (other_field x y other))) was
    ]

pub IsPackingOf-with_number : (g : Geometry) (t : Table) (p : Packing) (x : Field) (n : ℕ) → IsPackingOf g t p → table_of x ≡ t → n < 2 ^ 32
    → IsInRange g x n → IsPackingOf g t (with_number p x n)
IsPackingOf-with_number g t p x n of at small in_range = record {
  fits = fits_with p (entry_of x) n small of.fits;
  magic = magic_with p (entry_of x) n ∙ of.magic;
  word = word_with t p x n at of.word;
  entries = length-with_number p (entry_of x) n ∙ of.entries;
  range = λ y has there. range_with g p x y n (at ∙ sym there) small of.entries in_range (of.range y has there);
}
