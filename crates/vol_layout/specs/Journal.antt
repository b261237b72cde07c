use Rattle.std.specs.Prelude.{◌≡◌, ◌+◌, ◌-◌, ◌*◌, ◌^◌, ◌<◌, ℕ, zero, suc, List, [], ◌++◌, length, map, codes}
use Rattle.std.specs.List.{flat_map, range_with_len}
use Rattle.vol_base.specs.Bytes.{bytes_of, zeros, u32_at, u64_at}
use Rattle.vol_layout.specs.declared.geometry.Geometry.{Geometry}
use Rattle.vol_layout.specs.declared.field.Field.{Field}
use Rattle.vol_layout.specs.declared.field.Field.TheVariants.{Head, Pointer, Slot, Count}
use Rattle.vol_layout.specs.declared.field.Edit.{Edit}
use Rattle.vol_layout.specs.Edits.{tag, first, second, AreEdits}

-- the sixteen bytes of an edit
unfoldable pub edit_bytes : Edit → List ℕ
edit_bytes e = bytes_of 4 (tag e.field) ++ bytes_of 4 (first e.field) ++ bytes_of 4 (second e.field) ++ bytes_of 4 e.number

-- the one spelling of a record: its key, and its edits from byte 64 on
unfoldable pub journal_bytes : ℕ → List Edit → List ℕ
journal_bytes key es =
    codes "DEDEJRNL" ++ bytes_of 4 (length es) ++ zeros 4 ++ bytes_of 8 key ++ zeros 40
    ++ flat_map edit_bytes es ++ zeros (4032 - 16 * length es)

-- the block spells a record of this key and these edits; an empty journal has key 0
pub record SpellsJournal (g : Geometry) (bytes : List ℕ) (key : ℕ) (es : List Edit) : Type 0 where
  pub edits : AreEdits g es
  pub width : key < 2 ^ 64
  pub keyless : es ≡ [] → key ≡ 0
  pub spelled : bytes ≡ journal_bytes key es

-- the field of three numbers; a number that is no tag reads as a count
abbrev pub field_from : ℕ → ℕ → ℕ → Field
field_from zero a b = Head a
field_from (suc zero) a b = Pointer a b
field_from (suc (suc zero)) a b = Slot a
field_from (suc (suc (suc n))) a b = Count a

-- the edit that stands at a byte of a block
abbrev pub edit_at : List ℕ → ℕ → Edit
edit_at block at =
    record { field = field_from (u32_at block at) (u32_at block (at + 4)) (u32_at block (at + 8)); number = u32_at block (at + 12) }

-- the edits and the key that a journal block reads as; of a spelled record they are its own
unfoldable pub edits_of : List ℕ → List Edit
edits_of block = map (λ k. edit_at block (64 + 16 * k)) (range_with_len 0 (u32_at block 8))

abbrev pub journal_key : List ℕ → ℕ
journal_key block = u64_at block 16
