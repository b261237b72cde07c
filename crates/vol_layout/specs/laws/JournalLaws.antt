-- A journal block that spells a record reads as the record's key and edits.
use Rattle.std.proofs.Common.{◌≡◌, ◌<◌, ◌≤◌, ◌+◌, ◌-◌, ◌*◌, ◌^◌, ℕ, zero, suc, List, [], ◌∷◌, ◌++◌, Some, length, map, refl, sym, ap, ◌∙◌, arith, append-nil, append_assoc, length-append, mul-le-mul, subst, ◌==◌, true, false, if◌then◌else◌}
use Rattle.std.specs.Prelude.{codes, slice_get}
use Rattle.std.specs.List.{flat_map, range_with_len}
use Rattle.std.proofs.lemmas.Option.{get_or_from_slice_get, slice_get_within}
use Rattle.vol_base.specs.Bytes.{bytes_of, u32_at, u64_at, zeros}
use Rattle.vol_base.specs.laws.BytesLaws.{length-bytes_of, length-zeros, more_zeros, no_number, number_at-append, number_at-written}
use Rattle.vol_base.specs.laws.RowLaws.{number_at-row, length-row}
use Rattle.vol_layout.specs.declared.geometry.Geometry.{Geometry}
use Rattle.vol_layout.specs.declared.field.Field.{Field}
use Rattle.vol_layout.specs.declared.field.Field.TheVariants.{Head, Pointer, Slot, Count}
use Rattle.vol_layout.specs.declared.field.Edit.{Edit}
use Rattle.vol_layout.specs.Ranges.{IsGeometry, arena_slots, data_blocks, limit, per_table}
use Rattle.vol_layout.specs.Fields.{HasField, IsInRange, greatest_count}
use Rattle.vol_layout.specs.Edits.{IsEdit, first, second, tag}
use Rattle.vol_layout.specs.laws.EditLaws.{field_from-numbers}
use Rattle.vol_layout.specs.Journal.{SpellsJournal, edit_at, edit_bytes, edits_of, field_from, journal_bytes, journal_key}

-- the numbers of edits, four for each
abbrev pub edit_numbers : List Edit → List ℕ
edit_numbers [] = []
edit_numbers (e ∷ es) = tag e.field ∷ first e.field ∷ second e.field ∷ e.number ∷ edit_numbers es

four : (a b c d rest : List ℕ) → (a ++ b ++ c ++ d) ++ rest ≡ a ++ (b ++ (c ++ (d ++ rest)))
four a b c d rest = append_assoc (a ++ b ++ c) d rest ∙ append_assoc (a ++ b) c (d ++ rest) ∙ append_assoc a b (c ++ (d ++ rest))

-- edits are written number by number
edits_row : (es : List Edit) → flat_map edit_bytes es ≡ flat_map (bytes_of 4) (edit_numbers es)
unfolding edit_bytes
edits_row [] = refl
edits_row (e ∷ es) =
    four (bytes_of 4 (tag e.field)) (bytes_of 4 (first e.field)) (bytes_of 4 (second e.field)) (bytes_of 4 e.number) (flat_map edit_bytes es)
    ∙ ap (λ (xs : List ℕ). bytes_of 4 (tag e.field) ++ (bytes_of 4 (first e.field) ++ (bytes_of 4 (second e.field) ++ (bytes_of 4 e.number ++ xs)))) (edits_row es)

length-edit_numbers : (es : List Edit) → length (edit_numbers es) ≡ 4 * length es
length-edit_numbers [] = omega arith
length-edit_numbers (e ∷ es) = omega (arith, length-edit_numbers es)

pub length-edits : (es : List Edit) → length (flat_map edit_bytes es) ≡ 16 * length es
length-edits es = ap length (edits_row es) ∙ omega (arith, length-row 4 (edit_numbers es), length-edit_numbers es)

-- the numbers of edit k
pub record FourNumbers (es : List Edit) (k : ℕ) (e : Edit) : Type 0 where
  pub tag_is : slice_get (edit_numbers es) (4 * k) ≡ Some (tag e.field)
  pub first_is : slice_get (edit_numbers es) (4 * k + 1) ≡ Some (first e.field)
  pub second_is : slice_get (edit_numbers es) (4 * k + 2) ≡ Some (second e.field)
  pub number_is : slice_get (edit_numbers es) (4 * k + 3) ≡ Some e.number

skip_four : (es : List Edit) (e : Edit) (k j i n : ℕ) → i ≡ 4 * suc k + j → slice_get (edit_numbers es) (4 * k + j) ≡ Some n
    → slice_get (edit_numbers (e ∷ es)) i ≡ Some n
skip_four es e k j i n is h =
    let more : i ≡ suc (suc (suc (suc (4 * k + j)))) = omega arith in rw more h

four_numbers : (es : List Edit) (k : ℕ) (e : Edit) → slice_get es k ≡ Some e → FourNumbers es k e
four_numbers [] k e is = absurd cc
four_numbers (d ∷ es) zero e is =
    let same : d ≡ e = cc in
    record { tag_is = ap (λ (c : Edit). Some (tag c.field)) same; first_is = ap (λ (c : Edit). Some (first c.field)) same; second_is = ap (λ (c : Edit). Some (second c.field)) same; number_is = ap (λ (c : Edit). Some c.number) same }
four_numbers (d ∷ es) (suc k) e is =
    let f = four_numbers es k e is in
    let whole : 4 * k + 0 ≡ 4 * k = omega arith in
    record {
      tag_is = skip_four es d k 0 (4 * suc k) (tag e.field) (omega arith) (rw whole f.tag_is);
      first_is = skip_four es d k 1 (4 * suc k + 1) (first e.field) (omega arith) f.first_is;
      second_is = skip_four es d k 2 (4 * suc k + 2) (second e.field) (omega arith) f.second_is;
      number_is = skip_four es d k 3 (4 * suc k + 3) e.number (omega arith) f.number_is;
    }

-- what stands before the edits
abbrev journal_header : ℕ → ℕ → List ℕ
journal_header key n = codes "DEDEJRNL" ++ bytes_of 4 n ++ zeros 4 ++ bytes_of 8 key ++ zeros 40

to_count : (n : ℕ) → length (codes "DEDEJRNL" ++ bytes_of 4 n ++ zeros 4) ≡ 16
to_count n = omega (arith, length-append (codes "DEDEJRNL" ++ bytes_of 4 n) (zeros 4), length-append (codes "DEDEJRNL") (bytes_of 4 n), length-bytes_of 4 n, length-zeros 4)

to_key : (key n : ℕ) → length (codes "DEDEJRNL" ++ bytes_of 4 n ++ zeros 4 ++ bytes_of 8 key) ≡ 24
to_key key n = omega (arith, length-append (codes "DEDEJRNL" ++ bytes_of 4 n ++ zeros 4) (bytes_of 8 key), to_count n, length-bytes_of 8 key)

length-journal_header : (key n : ℕ) → length (journal_header key n) ≡ 64
length-journal_header key n = omega (arith, length-append (codes "DEDEJRNL" ++ bytes_of 4 n ++ zeros 4 ++ bytes_of 8 key) (zeros 40), to_key key n, length-zeros 40)

header-count : (key n : ℕ) (rest : List ℕ) → n < 256 ^ 4 → u32_at (journal_header key n ++ rest) 8 ≡ n
header-count key n rest small =
    number_at-append 4 8 (journal_header key n) rest (omega (arith, length-journal_header key n))
    ∙ number_at-append 4 8 (codes "DEDEJRNL" ++ bytes_of 4 n ++ zeros 4 ++ bytes_of 8 key) (zeros 40) (omega (arith, to_key key n))
    ∙ number_at-append 4 8 (codes "DEDEJRNL" ++ bytes_of 4 n ++ zeros 4) (bytes_of 8 key) (omega (arith, to_count n))
    ∙ number_at-written 4 n 8 (codes "DEDEJRNL") (zeros 4) refl small

header-key : (key n : ℕ) (rest : List ℕ) → key < 256 ^ 8 → u64_at (journal_header key n ++ rest) 16 ≡ key
header-key key n rest small =
    number_at-append 8 16 (journal_header key n) rest (omega (arith, length-journal_header key n))
    ∙ number_at-written 8 key 16 (codes "DEDEJRNL" ++ bytes_of 4 n ++ zeros 4) (zeros 40) (omega (arith, to_count n)) small

-- the bytes behind the header
behind : (key : ℕ) (es : List Edit)
    → journal_bytes key es ≡ journal_header key (length es) ++ (flat_map edit_bytes es ++ zeros (4032 - 16 * length es))
unfolding journal_bytes
behind key es = append_assoc (journal_header key (length es)) (flat_map edit_bytes es) (zeros (4032 - 16 * length es))

pub journal_count-spelled : (g : Geometry) (bytes : List ℕ) (key : ℕ) (es : List Edit) → SpellsJournal g bytes key es
    → u32_at bytes 8 ≡ length es
journal_count-spelled g bytes key es h =
    ap (λ (xs : List ℕ). u32_at xs 8) (h.spelled ∙ behind key es)
    ∙ header-count key (length es) (flat_map edit_bytes es ++ zeros (4032 - 16 * length es)) (omega (arith, h.edits.few))

-- the key of a spelled record
pub journal_key-spelled : (g : Geometry) (bytes : List ℕ) (key : ℕ) (es : List Edit) → SpellsJournal g bytes key es
    → journal_key bytes ≡ key
journal_key-spelled g bytes key es h =
    ap (λ (xs : List ℕ). u64_at xs 16) (h.spelled ∙ behind key es)
    ∙ header-key key (length es) (flat_map edit_bytes es ++ zeros (4032 - 16 * length es)) (omega (arith, h.width))

-- number j of the edits
number_in : (key : ℕ) (es : List Edit) (j at n : ℕ) → slice_get (edit_numbers es) j ≡ Some n → n < 256 ^ 4 → at ≡ 64 + 4 * j
    → u32_at (journal_bytes key es) at ≡ n
unfolding journal_bytes
number_in key es j at n is small there =
    ap (λ (xs : List ℕ). u32_at (journal_header key (length es) ++ xs ++ zeros (4032 - 16 * length es)) at) (edits_row es)
    ∙ number_at-row 4 j at (journal_header key (length es)) (zeros (4032 - 16 * length es)) (edit_numbers es) n is small (omega (arith, length-journal_header key (length es)))

-- the numbers of an edit in range fit four bytes each
record IsNarrow (e : Edit) : Type 0 where
  pub tag_fits : tag e.field < 256 ^ 4
  pub first_fits : first e.field < 256 ^ 4
  pub second_fits : second e.field < 256 ^ 4
  pub number_fits : e.number < 256 ^ 4

greatest_fits : (g : Geometry) → IsGeometry g → greatest_count g < 256 ^ 4
unfolding greatest_count per_table
greatest_fits g h =
    let tables : g.files * g.tables ≤ 64 * 16 = mul-le-mul h.files.1 h.tables.1 in
    elim (g.tables == 1) as (λ b. (if b then 80640 else per_table * (g.files * g.tables + g.parts)) < 256 ^ 4) [ true ↦ omega arith | false ↦ omega (arith, h.parts.1) ]

narrow : (g : Geometry) (x : Field) (n : ℕ) → IsGeometry g → HasField g x → IsInRange g x n
    → IsNarrow (let e : Edit = record { field = x; number = n } in e)
unfolding limit per_table data_blocks arena_slots
narrow g (Head f) n h has range = record { tag_fits = omega arith; first_fits = omega (arith, h.files.1); second_fits = omega arith; number_fits = omega (arith, h.tables.1, range) }
narrow g (Pointer f i) n h has range = record { tag_fits = omega arith; first_fits = omega (arith, h.files.1, has.0); second_fits = omega (arith, h.tables.1, has.1); number_fits = omega (arith, range.width) }
narrow g (Slot s) n h has range = record { tag_fits = omega arith; first_fits = omega (arith, h.parts.1, has); second_fits = omega arith; number_fits = omega (arith, h.groups.1, range) }
narrow g (Count d) n h has range = record { tag_fits = omega arith; first_fits = omega (arith, h.groups.1, has); second_fits = omega arith; number_fits = omega (arith, greatest_fits g h, range) }

-- an edit is what its four numbers say
from_numbers : (e : Edit) (t a b n : ℕ) → t ≡ tag e.field → a ≡ first e.field → b ≡ second e.field → n ≡ e.number
    → (let d : Edit = record { field = field_from t a b; number = n } in d) ≡ e
from_numbers e t a b n t_is a_is b_is n_is =
    let field_is : field_from t a b ≡ e.field =
    ap (λ (m : ℕ). field_from m a b) t_is ∙ ap (λ (m : ℕ). field_from (tag e.field) m b) a_is
    ∙ ap (λ (m : ℕ). field_from (tag e.field) (first e.field) m) b_is ∙ field_from-numbers e.field in
    ap (λ (x : Field). let d : Edit = record { field = x; number = n } in d) field_is
    ∙ ap (λ (m : ℕ). let d : Edit = record { field = e.field; number = m } in d) n_is

-- edit k of a spelled record stands at byte 64 + 16 k
pub edit_at-spelled : (g : Geometry) (bytes : List ℕ) (key : ℕ) (es : List Edit) (k : ℕ) (e : Edit) → IsGeometry g
    → SpellsJournal g bytes key es
    → slice_get es k ≡ Some e → edit_at bytes (64 + 16 * k) ≡ e
edit_at-spelled g bytes key es k e geometry h is =
    let f = four_numbers es k e is in
    let each : IsEdit g e = subst (IsEdit g) (get_or_from_slice_get es k e e is) (h.edits.each k e (slice_get_within es k e is)) in
    let small : IsNarrow e = narrow g e.field e.number geometry each.0 each.1 in
    let tag_is = ap (λ (xs : List ℕ). u32_at xs (64 + 16 * k)) h.spelled ∙ number_in key es (4 * k) (64 + 16 * k) (tag e.field) f.tag_is small.tag_fits (omega arith) in
    let first_is = ap (λ (xs : List ℕ). u32_at xs (64 + 16 * k + 4)) h.spelled ∙ number_in key es (4 * k + 1) (64 + 16 * k + 4) (first e.field) f.first_is small.first_fits (omega arith) in
    let second_is = ap (λ (xs : List ℕ). u32_at xs (64 + 16 * k + 8)) h.spelled ∙ number_in key es (4 * k + 2) (64 + 16 * k + 8) (second e.field) f.second_is small.second_fits (omega arith) in
    let number_is = ap (λ (xs : List ℕ). u32_at xs (64 + 16 * k + 12)) h.spelled ∙ number_in key es (4 * k + 3) (64 + 16 * k + 12) e.number f.number_is small.number_fits (omega arith) in
    from_numbers e (u32_at bytes (64 + 16 * k)) (u32_at bytes (64 + 16 * k + 4)) (u32_at bytes (64 + 16 * k + 8)) (u32_at bytes (64 + 16 * k + 12)) tag_is first_is second_is number_is

rebuilt : (f : ℕ → Edit) (i : ℕ) (es : List Edit) → ((k : ℕ) (e : Edit) → slice_get es k ≡ Some e → f (i + k) ≡ e)
    → map f (range_with_len i (length es)) ≡ es
rebuilt f i [] h = refl
rebuilt f i (e ∷ es) h =
    let here : f i ≡ e = let none : i + 0 ≡ i = omega arith in ap f (sym none) ∙ h 0 e refl in
    let rest = rebuilt f (i + 1) es (λ k d is. let more : i + 1 + k ≡ i + suc k = omega arith in ap f more ∙ h (suc k) d is) in
    ap (λ (x : Edit). x ∷ map f (range_with_len (i + 1) (length es))) here ∙ ap (λ (xs : List Edit). e ∷ xs) rest

-- the edits of a spelled record
pub edits_of-spelled : (g : Geometry) (bytes : List ℕ) (key : ℕ) (es : List Edit) → IsGeometry g → SpellsJournal g bytes key es
    → edits_of bytes ≡ es
unfolding edits_of
edits_of-spelled g bytes key es geometry h =
    ap (λ (n : ℕ). map (λ k. edit_at bytes (64 + 16 * k)) (range_with_len 0 n)) (journal_count-spelled g bytes key es h)
    ∙ rebuilt (λ k. edit_at bytes (64 + 16 * k)) 0 es (λ k e is. let same : 0 + k ≡ k = omega arith in ap (λ (j : ℕ). edit_at bytes (64 + 16 * j)) same ∙ edit_at-spelled g bytes key es k e geometry h is)

empty_header : (front four eight : List ℕ) → four ≡ zeros 4 → eight ≡ zeros 8
    → front ++ four ++ zeros 4 ++ eight ++ zeros 40 ≡ front ++ zeros 56
empty_header front four eight f e =
    rw (f, e, more_zeros front (zeros 4) 4 4 8 refl refl, more_zeros front (zeros 8) 8 8 16 refl refl) (more_zeros front (zeros 40) 16 40 56 refl refl)

-- the empty journal is its magic and zeros
pub empty_journal : journal_bytes 0 [] ≡ codes "DEDEJRNL" ++ zeros 4088
unfolding journal_bytes
empty_journal =
    let front = codes "DEDEJRNL" in
    ap (λ (xs : List ℕ). xs ++ [] ++ zeros 4032) (empty_header front (bytes_of 4 0) (bytes_of 8 0) (no_number 0 refl).0 (no_number 0 refl).1)
    ∙ ap (λ (xs : List ℕ). xs ++ zeros 4032) (append-nil (front ++ zeros 56))
    ∙ more_zeros front (zeros 4032) 56 4032 4088 refl refl
