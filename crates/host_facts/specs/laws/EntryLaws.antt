-- A block that spells edits in range under any key reads as these edits.
use Rattle.std.proofs.Common.{◌≡◌, ◌≤◌, ◌+◌, ◌-◌, ◌*◌, ◌/◌, ◌%◌, ◌^◌, ℕ, List, [], ◌∷◌, ◌++◌}
use Rattle.std.proofs.Common.{length, map, refl, ap, ◌∙◌, arith, length-append}
use Rattle.std.specs.List.{flat_map, range_with_len}
use Rattle.std.specs.Prelude.{codes}
use Rattle.vol_base.specs.Bytes.{bytes_of, u32_at, zeros}
use Rattle.vol_base.specs.laws.BytesLaws.{length-bytes_of, number_at-append, number_at-written}
use Rattle.vol_layout.specs.declared.geometry.Geometry.{Geometry}
use Rattle.vol_layout.specs.declared.kind.Kind.TheVariants as kinds
use Rattle.vol_layout.specs.declared.field.Edit.{Edit}
use Rattle.std.proofs.lemmas.List.Elements.{All-nil}
use Rattle.vol_layout.specs.Edits.{AreEdits, IsEdit}
use Rattle.vol_layout.specs.Journal.{edit_at, edit_bytes, edits_of, journal_bytes}
use Rattle.vol_layout.specs.Ranges.{IsGeometry}
use Rattle.vol_layout.specs.laws.JournalLaws.{edits_of-spelled}
use Rattle.image_view.specs.Images.{Image, block_at}
use Rattle.image_view.specs.Numbers.{journal}

-- no edits are those of a record
pub no_edits : (g : Geometry) → AreEdits g []
no_edits g = record { few = omega arith; each = All-nil (IsEdit g); apart = tt }

-- eight bytes say a number below 2 ^ 64
narrow_key : (key : ℕ) → bytes_of 8 key ≡ bytes_of 8 (key % 2 ^ 64)
unfolding bytes_of
narrow_key key =
    let byte_7 : key % 2 ^ 64 / 256 ^ 7 % 256 ≡ key / 256 ^ 7 % 256 = omega arith in
    let byte_6 : key % 2 ^ 64 / 256 ^ 6 % 256 ≡ key / 256 ^ 6 % 256 = omega arith in
    let byte_5 : key % 2 ^ 64 / 256 ^ 5 % 256 ≡ key / 256 ^ 5 % 256 = omega arith in
    let byte_4 : key % 2 ^ 64 / 256 ^ 4 % 256 ≡ key / 256 ^ 4 % 256 = omega arith in
    let byte_3 : key % 2 ^ 64 / 256 ^ 3 % 256 ≡ key / 256 ^ 3 % 256 = omega arith in
    let byte_2 : key % 2 ^ 64 / 256 ^ 2 % 256 ≡ key / 256 ^ 2 % 256 = omega arith in
    let byte_1 : key % 2 ^ 64 / 256 ^ 1 % 256 ≡ key / 256 ^ 1 % 256 = omega arith in
    let byte_0 : key % 2 ^ 64 % 256 ≡ key % 256 = omega arith in
    rw (byte_7, byte_6, byte_5, byte_4, byte_3, byte_2, byte_1, byte_0) refl

-- no edits are counted as none
none_counted : (key : ℕ) → u32_at (journal_bytes key []) 8 ≡ 0
unfolding journal_bytes
none_counted key =
    let front = codes "DEDEJRNL" ++ bytes_of 4 0 ++ zeros 4 in
    let keyed = front ++ bytes_of 8 key in
    let long : 12 ≤ length front =
    omega (
      arith,
      length-append (codes "DEDEJRNL" ++ bytes_of 4 0) (zeros 4),
      length-append (codes "DEDEJRNL") (bytes_of 4 0),
      length-bytes_of 4 0,
    ) in
    number_at-append 4 8 (keyed ++ zeros 40 ++ []) (zeros 4032)
    (omega (arith, long, length-append (keyed ++ zeros 40) [], length-append keyed (zeros 40), length-append front (bytes_of 8 key)))
    ∙ number_at-append 4 8 (keyed ++ zeros 40) []
    (omega (arith, long, length-append keyed (zeros 40), length-append front (bytes_of 8 key)))
    ∙ number_at-append 4 8 keyed (zeros 40) (omega (arith, long, length-append front (bytes_of 8 key)))
    ∙ number_at-append 4 8 front (bytes_of 8 key) (omega (arith, long))
    ∙ number_at-written 4 0 8 (codes "DEDEJRNL") (zeros 4) refl (omega arith)

pub edits_of-bytes : (g : Geometry) (key : ℕ) (es : List Edit) → IsGeometry g → AreEdits g es → edits_of (journal_bytes key es) ≡ es
unfolding edits_of journal_bytes
edits_of-bytes g key [] range edits =
    ap (λ (n : ℕ). map (λ k. edit_at (journal_bytes key []) (64 + 16 * k)) (range_with_len 0 n)) (none_counted key)
edits_of-bytes g key (e ∷ es) range edits =
    edits_of-spelled g (journal_bytes key (e ∷ es)) (key % 2 ^ 64) (e ∷ es) range (record {
      edits = edits;
      width = omega arith;
      keyless = λ none. absurd cc;
      spelled = ap (λ (bytes : List ℕ). codes "DEDEJRNL" ++ bytes_of 4 (length (e ∷ es)) ++ zeros 4 ++ bytes ++ zeros 40
          ++ flat_map edit_bytes (e ∷ es) ++ zeros (4032 - 16 * length (e ∷ es))) (narrow_key key);
    })

-- and so does the journal where it stands
pub journal-spelled : (g : Geometry) (image : Image) (y key : ℕ) (es : List Edit) → IsGeometry g → AreEdits g es
    → block_at g image (kinds.Journal y) ≡ journal_bytes key es → journal g image y ≡ es
unfolding journal
journal-spelled g image y key es range edits shown = ap edits_of shown ∙ edits_of-bytes g key es range edits
