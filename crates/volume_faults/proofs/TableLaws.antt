-- What a check asks of tables, from what their blocks read as.
use Rattle.std.proofs.Common.{◌≡◌, ◌<◌, ◌≤◌, ◌+◌, ◌*◌, ◌/◌, ◌%◌, ◌==◌, ℕ, false, List, length, refl, sym, ap, ◌∙◌, subst, arith, inl, inr}
use Rattle.std.proofs.lemmas.Bool.{cases_Bool}
use Rattle.std.proofs.lemmas.Bool.Decides.{nat_tests}
use Rattle.vol_base.specs.Bytes.{IsBlock, u32_at}
use Rattle.vol_base.specs.declared.block.Block.{Block}
use Rattle.vol_base.specs.Packing.{IsPacked, IsPacking, Packing, packed_bytes, packing_of}
use Rattle.vol_base.specs.laws.PackingLaws.{IsPacked-packed_bytes, packing_of-packed_bytes}
use Rattle.vol_layout.specs.declared.geometry.Geometry.{Geometry}
use Rattle.vol_layout.specs.declared.field.Field.{Field}
use Rattle.vol_layout.specs.declared.field.Field.TheVariants.{Head, Pointer, Slot, Count}
use Rattle.vol_layout.specs.declared.kind.Table.{Table}
use Rattle.vol_layout.specs.declared.kind.Table.TheVariants as tables
use Rattle.vol_layout.specs.Blank.{table_magic}
use Rattle.vol_layout.specs.Fields.{HasField, IsInRange, byte_of, table_of}
use Rattle.vol_layout.specs.Ranges.{HasTable, IsGeometry, arena_slots, data_blocks, limit, per_table}
use Rattle.image_view.specs.Spelled.{IsTable, MayHaveWord}
use Rattle.volume_faults.specs.Sites.{HasNumbers}
use Rattle.volume_faults.specs.TableFields.{HasEntries, HasHead, entry_field}

-- the field of an entry is one of the volume's, and stands there
pub record StandsAt (g : Geometry) (t : Table) (e : ℕ) (x : Field) : Type 0 where
  pub has : HasField g x
  pub table : table_of x ≡ t
  pub byte : byte_of x ≡ 64 + 4 * e

in_first : (f i : ℕ) → i / per_table ≡ 0 → table_of (Pointer f i) ≡ tables.File f
in_first f i e = rw e refl

in_further : (f t i : ℕ) → i / per_table ≡ t → 1 ≤ t → table_of (Pointer f i) ≡ tables.More f t
in_further f t i e some = let other : (t == 0) ≡ false = grind (arith, nat_tests) in rw (e, other) refl

entry_stands : (g : Geometry) (t : Table) (e : ℕ) → IsGeometry g → HasTable g t → e < per_table → StandsAt g t e (entry_field t e)
unfolding per_table limit data_blocks arena_slots
entry_stands g (tables.File f) e h has lt =
    record { has = (has, omega (arith, h.tables)); table = in_first f e (omega arith); byte = omega arith }
entry_stands g (tables.More f t) e h has lt =
    record { has = (has.0, omega (arith, has.2)); table = in_further f t (1008 * t + e) (omega arith) has.1; byte = omega arith }
entry_stands g (tables.Group r) e h has lt =
    let block : (1008 * r + e) / 1008 ≡ r = omega arith in
    record { has = omega (arith, has); table = ap tables.Group block; byte = omega arith }
entry_stands g (tables.Part p) e h has lt =
    let block : (1008 * p + e) / 1008 ≡ p = omega arith in
    record { has = omega (arith, has); table = ap tables.Part block; byte = omega arith }

-- the numbers of a table are its head and its entries
head_of : (g : Geometry) (t : Table) (block : List ℕ) → HasTable g t → HasNumbers g t block → HasHead g t block
head_of g (tables.File f) block has numbers = numbers (Head f) has refl
head_of g (tables.More f t) block has numbers = tt
head_of g (tables.Group r) block has numbers = tt
head_of g (tables.Part p) block has numbers = tt

pub entries_of_numbers : (g : Geometry) (t : Table) (block : List ℕ) → IsGeometry g → HasTable g t → HasNumbers g t block → HasEntries g t block
entries_of_numbers g t block h has numbers e lt =
    let s = entry_stands g t e h has lt in
    subst (λ (n : ℕ). IsInRange g (entry_field t e) (u32_at block n)) s.byte (numbers (entry_field t e) s.has s.table)

pub head_of_numbers : (g : Geometry) (t : Table) (block : List ℕ) → HasTable g t → HasNumbers g t block → HasHead g t block
head_of_numbers g t block has numbers = head_of g t block has numbers

remainder_fits : (n : ℕ) → n % per_table < per_table
unfolding per_table
remainder_fits n = omega arith

number_of : (g : Geometry) (block : List ℕ) (x : Field) → HasHead g (table_of x) block → HasEntries g (table_of x) block → IsInRange g x (u32_at block (byte_of x))
number_of g block (Head f) head entries = head
number_of g block (Pointer f i) head entries =
    elim (cases_Bool (i / per_table == 0)) [
      | inl first ↦ let here : HasEntries g (tables.File f) block = rw first at entries in here (i % per_table) (remainder_fits i)
      | inr further ↦ let here : HasEntries g (tables.More f (i / per_table)) block = rw further at entries in here (i % per_table) (remainder_fits i)
    ]
number_of g block (Slot s) head entries = entries (s % per_table) (remainder_fits s)
number_of g block (Count d) head entries = entries (d % per_table) (remainder_fits d)

pub numbers_of : (g : Geometry) (t : Table) (block : List ℕ) → HasHead g t block → HasEntries g t block → HasNumbers g t block
numbers_of g t block head entries x has is =
    number_of g block x (subst (λ (u : Table). HasHead g u block) (sym is) head) (subst (λ (u : Table). HasEntries g u block) (sym is) entries)

-- what a block reads as that spells a table, and that it is packed with the table's magic
read_packing : (t : Table) (block : List ℕ) (p : Packing) → p ≡ packing_of 4 block → (is : IsTable t block) → p ≡ is.packing
read_packing t block p reads is = reads ∙ ap (packing_of 4) is.spelled ∙ packing_of-packed_bytes 4 is.packing is.fits

pub table_packed : (t : Table) (block : List ℕ) → IsTable t block → IsPacked 4 (table_magic t) block
table_packed t block is =
    let packed = IsPacked-packed_bytes 4 is.packing is.fits in
    subst (λ (xs : List ℕ). IsPacked 4 (table_magic t) xs) (sym is.spelled) (subst (λ (m : List ℕ). IsPacked 4 m (packed_bytes 4 is.packing)) is.magic packed)

-- it has a table's worth of entries, and a word that the table may have
pub table_may_be : (t : Table) (block : List ℕ) (p : Packing) → p ≡ packing_of 4 block → IsTable t block → (length p.entries ≡ per_table) × MayHaveWord t p.word
table_may_be t block p reads is =
    let same = read_packing t block p reads is in
    subst (λ (q : Packing). (length q.entries ≡ per_table) × MayHaveWord t q.word) (sym same) (is.entries, is.word)

-- and is written for what it reads as
pub table_written : (t : Table) (block written : Block) (p : Packing) → p ≡ packing_of 4 block.0 → written.0 ≡ packed_bytes 4 p → IsTable t block.0 → written ≡ block
table_written t block written p reads bytes is =
    let same : written.0 ≡ block.0 = bytes ∙ ap (packed_bytes 4) (read_packing t block.0 p reads is) ∙ sym is.spelled in
    ap (λ (xs : List ℕ). let b : Block = record { 0 = xs } in b) same

-- such a block spells the table
pub table_of_packing : (t : Table) (block written : Block) (p : Packing) (magic : List ℕ) → magic ≡ table_magic t → IsPacked 4 magic block.0 → p ≡ packing_of 4 block.0 → IsPacking 4 p
    → ((length p.entries ≡ per_table) × MayHaveWord t p.word) → written.0 ≡ packed_bytes 4 p → IsBlock written.0 → written ≡ block → IsTable t block.0
table_of_packing t block written p magic magic_is packed reads fits may bytes whole same = record {
  packing = p;
  fits = fits;
  magic = ap (λ (q : Packing). q.magic) reads ∙ packed.0 ∙ magic_is;
  word = may.1;
  entries = may.0;
  spelled = ap (λ (b : Block). b.0) (sym same) ∙ bytes;
  bytes = (subst (λ (b : Block). IsBlock b.0) same whole).small;
}
