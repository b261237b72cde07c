-- What a block that was read says of its table.
use Rattle.std.proofs.Common.{◌≡◌, ◌∙◌, ℕ, List, Option, Some, None, sym, ap, subst}
use Rattle.std.specs.Prelude.{IsNone, IsSome}
use Rattle.vol_base.specs.Bytes.{u32_at}
use Rattle.vol_base.specs.Packing.{IsPacked, Packing, packed_bytes, packing_of}
use Rattle.vol_base.specs.laws.PackingLaws.{IsPacked-packed_bytes, packing_of-packed_bytes}
use Rattle.vol_layout.specs.declared.geometry.Geometry.{Geometry}
use Rattle.vol_layout.specs.declared.kind.Table.{Table}
use Rattle.vol_layout.specs.Blank.{table_magic}
use Rattle.vol_layout.specs.Fields.{IsInRange, byte_of}
use Rattle.image_view.specs.Spelled.{IsTable}
use Rattle.volume_faults.specs.Sites.{HasNumbers}
use Rattle.table_blocks.specs.laws.NumberLaws.{number_spelled}
use Rattle.table_blocks.specs.Tables.{IsPackingOf}

-- a block that spells a table has its magic
pub has_magic : (t : Table) (block : List ℕ) → IsTable t block → IsPacked 4 (table_magic t) block
has_magic t block is =
    subst (λ (xs : List ℕ). IsPacked 4 (table_magic t) xs) (sym is.spelled)
    (subst (λ (m : List ℕ). IsPacked 4 m (packed_bytes 4 is.packing)) is.magic (IsPacked-packed_bytes 4 is.packing is.fits))

packing_of_table : (g : Geometry) (t : Table) (block : List ℕ) (is : IsTable t block) → HasNumbers g t block → IsPackingOf g t is.packing
packing_of_table g t block is numbers = record {
  fits = is.fits;
  magic = is.magic;
  word = is.word;
  entries = is.entries;
  range = λ x has at. subst (IsInRange g x) (number_spelled is.packing x is.fits is.entries)
      (subst (λ (bytes : List ℕ). IsInRange g x (u32_at bytes (byte_of x))) is.spelled (numbers x has at));
}

packing_read : (t : Table) (block : List ℕ) (p : Packing) (is : IsTable t block) → p ≡ packing_of 4 block → is.packing ≡ p
packing_read t block p is reads = sym (reads ∙ ap (packing_of 4) is.spelled ∙ packing_of-packed_bytes 4 is.packing is.fits)

-- what the block reads as is a packing of the table, which the block spells
pub table_read : (g : Geometry) (t : Table) (block : List ℕ) (p : Packing) → IsTable t block × HasNumbers g t block → p ≡ packing_of 4 block → IsPackingOf g t p × (block ≡ packed_bytes 4 p)
table_read g t block p of reads =
    let same = packing_read t block p of.0 reads in (
      subst (IsPackingOf g t) same (packing_of_table g t block of.0 of.1),
      of.0.spelled ∙ ap (packed_bytes 4) same,
    )

pub some_is_not_none : {T : Type 0} (r : Option T) → IsSome r → IsNone r → ⊥
some_is_not_none None some none = cc
some_is_not_none (Some x) some none = cc
