-- Sums that a count over pointers and slots makes.
use Rattle.std.proofs.Common.{◌≡◌, ◌≢◌, ◌<◌, ◌≤◌, ◌+◌, ◌-◌, ◌*◌, ◌%◌, ◌^◌, ◌==◌, ℕ, zero, suc, true, false, List, length, get_or, set, replicate, sum_by, Some, None, if◌then◌else◌, refl, sym, ap, ◌∙◌, inl, inr, arith, length-set, get_or-set_same, get_or-set_other}
use Rattle.std.specs.Option.{option_map_or}
use Rattle.std.specs.List.{range_with_len}
use Rattle.std.proofs.lemmas.Bool.{cases_eq, cases_lt, eq-eqb, ne_eqb}
use Rattle.std.proofs.lemmas.List.{get_or_past, get_or-replicate, length-replicate}
use Rattle.std.proofs.lemmas.List.Sums.{sum_by-cons}
use Rattle.vol_layout.specs.declared.field.Field.TheVariants.{Pointer, Slot}
use Rattle.vol_layout.specs.Ranges.{IsGeometry, arena_slots, data_blocks, limit, per_table}
use Rattle.image_view.specs.Balances.{share}
use Rattle.image_view.specs.Mappings.{reference_fields}
use Rattle.image_view.specs.Numbers.{logical}
use Rattle.image_view.specs.laws.SumLaws.{sum_by_range_more}
use Rattle.image_view.specs.laws.UseLaws.{names_one, sum_by-reference_fields, uses-sum_by}
use Rattle.volume_check.specs.Counts.{AreUses, Grew, named_by_file, named_by_slots}
use Rattle.volume_check.specs.Metadatas.{Metadata}

-- sums of small terms are small
pub sum_le : (w : ℕ → ℕ) (a n : ℕ) → ((k : ℕ) → w k ≤ 1) → sum_by w (range_with_len a n) ≤ n
sum_le w a zero small = omega arith
sum_le w a (suc n) small = let more = sum_le w (a + 1) n small in let one = small a in rw (sum_by-cons w a (range_with_len (a + 1) n)) (omega (arith, more, one))

pub sums_le : (w : ℕ → ℕ) (a n : ℕ) → ((k : ℕ) → w k ≤ 16128) → sum_by w (range_with_len a n) ≤ 16128 * n
sums_le w a zero small = omega arith
sums_le w a (suc n) small = let more = sums_le w (a + 1) n small in let one = small a in rw (sum_by-cons w a (range_with_len (a + 1) n)) (omega (arith, more, one))

-- a number names one data block at most
pub share_le : (n d : ℕ) → share n d ≤ 1
unfolding share
share_le n d =
    elim (n % 2 ^ 31 == 0) as (λ b. option_map_or (λ e. if e == d then 1 else 0) (if b then None else Some (n % 2 ^ 31 - 1)) 0 ≤ 1) [
      | true ↦ omega arith
      | false ↦ elim (n % 2 ^ 31 - 1 == d) as (λ b. (if b then 1 else 0) ≤ 1) [ true ↦ omega arith | false ↦ omega arith ]
    ]

-- a number that names none, and one that names a data block
pub Grew-none : (n : ℕ) (xs : List ℕ) → n % 2 ^ 31 ≡ 0 → Grew (share n) xs xs
unfolding share
Grew-none n xs none = record { long = refl; each = λ d lt. rw none (omega arith) }

pub Grew-one : (n : ℕ) (xs ys : List ℕ) → n % 2 ^ 31 ≢ 0 → n % 2 ^ 31 ≤ length xs → ys ≡ set xs (n % 2 ^ 31 - 1) (get_or xs (n % 2 ^ 31 - 1) 0 + 1) → Grew (share n) xs ys
unfolding share
Grew-one n xs ys some inside is =
    let e = n % 2 ^ 31 - 1 in
    let below : e < length xs = omega arith in
    rw is
    (record {
      long = length-set xs e (get_or xs e 0 + 1);
      each = λ d lt.
          rw (ne_eqb (n % 2 ^ 31) 0 some)
          (elim (cases_eq e d) [
            | inl here ↦ rw (eq-eqb e d here, sym here) (get_or-set_same xs e (get_or xs e 0 + 1) 0 below)
            | inr other ↦ rw (ne_eqb e d other) (get_or-set_other xs e d (get_or xs e 0 + 1) 0 (λ same. other (sym same)) ∙ omega arith)
          ]);
    })

-- a count over a range, number by number
pub Grew-start : (w : ℕ → ℕ → ℕ) (xs : List ℕ) → Grew (λ d. sum_by (λ i. w i d) (range_with_len 0 0)) xs xs
Grew-start w xs = record { long = refl; each = λ d lt. omega arith }

pub Grew-more : (w : ℕ → ℕ → ℕ) (n : ℕ) (old now new : List ℕ) → Grew (λ d. sum_by (λ i. w i d) (range_with_len 0 n)) old now → Grew (w n) now new
    → Grew (λ d. sum_by (λ i. w i d) (range_with_len 0 (n + 1))) old new
Grew-more w n old now new before one = record {
  long = one.long ∙ before.long;
  each = λ d lt.
      let first = before.each d lt in
      let second = one.each d (rw before.long lt) in
      let sum = sum_by_range_more (λ i. w i d) n in
      omega arith;
}

-- how large numbers grew
pub grown_le : (more : ℕ → ℕ) (old new : List ℕ) (b c : ℕ) → Grew more old new → ((d : ℕ) → get_or old d 0 ≤ b) → ((d : ℕ) → more d ≤ c) → (d : ℕ) → get_or new d 0 ≤ b + c
grown_le more old new b c grew first second d =
    let small = first d in
    let little = second d in
    elim (cases_lt d (length old)) [
      | inl lt ↦ let is = grew.each d lt in omega arith
      | inr past ↦ let none = get_or_past new d 0 (omega (arith, grew.long)) in omega arith
    ]

-- pointers and slots together are all uses
pub uses_counted : (m : Metadata) (start files new : List ℕ) → length start ≡ data_blocks m.geometry → ((d : ℕ) → get_or start d 0 ≡ 0)
    → Grew (λ d. sum_by (λ f. named_by_file m f d) (range_with_len 0 m.geometry.files)) start files → Grew (named_by_slots m) files new → AreUses m new
uses_counted m start files new long none by_files by_slots = record {
  long = by_slots.long ∙ by_files.long ∙ long;
  each = λ d below.
      let zero = none d in
      let first = by_files.each d (omega arith) in
      let second = by_slots.each d (omega (arith, by_files.long)) in
      let all = uses-sum_by m.geometry m.image d ∙ sum_by-reference_fields m.geometry (λ x. share (logical m.geometry m.image x) d) in
      omega arith;
}

-- the pointers of a file, and all files, name a data block so often at most
pub by_file_le : (m : Metadata) (f d : ℕ) → limit m.geometry ≤ 16128 → named_by_file m f d ≤ 16128
by_file_le m f d few = let sum = sum_le (λ i. share (logical m.geometry m.image (Pointer f i)) d) 0 (limit m.geometry) (λ i. share_le (logical m.geometry m.image (Pointer f i)) d) in omega arith

pub by_files_le : (m : Metadata) (n d : ℕ) → limit m.geometry ≤ 16128 → sum_by (λ f. named_by_file m f d) (range_with_len 0 n) ≤ 16128 * n
by_files_le m n d few = sums_le (λ f. named_by_file m f d) 0 n (λ f. by_file_le m f d few)

-- a list of zeros
pub record AreZeros (n : ℕ) (xs : List ℕ) : Type 0 where
  pub long : length xs ≡ n
  pub each : (d : ℕ) → get_or xs d 0 ≡ 0

pub replicate_zeros : (n : ℕ) (xs : List ℕ) → xs ≡ replicate n 0 → AreZeros n xs
replicate_zeros n xs is =
    let long = ap length is ∙ length-replicate {A = ℕ} n 0 in
    record {
      long = long;
      each = λ d. elim (cases_lt d n) [
        | inl lt ↦ ap (λ xs. get_or xs d 0) is ∙ get_or-replicate {A = ℕ} n d 0 0 lt
        | inr past ↦ get_or_past xs d 0 (omega arith)
      ];
    }

-- the room for one more
pub room_for_one : (w : ℕ → ℕ → ℕ) (n : ℕ) (old now : List ℕ) → Grew (λ d. sum_by (λ i. w i d) (range_with_len 0 n)) old now → ((i d : ℕ) → w i d ≤ 1) → n < 16128 → ((d : ℕ) → get_or old d 0 + 16128 < 4294967296)
    → (d : ℕ) → get_or now d 0 + 1 < 4294967296
room_for_one w n old now grew small few room d =
    let is = grown_le (λ d. sum_by (λ i. w i d) (range_with_len 0 n)) old now 4294951167 n grew (λ d. let r = room d in omega arith) (λ d. sum_le (λ i. w i d) 0 n (λ i. small i d)) d in
    omega arith

-- the room for the pointers of a file, or the slots
pub room_for_file : (m : Metadata) (n k : ℕ) (start now : List ℕ) → Grew (λ d. sum_by (λ f. named_by_file m f d) (range_with_len 0 n)) start now → AreZeros k start → IsGeometry m.geometry → n ≤ 64
    → (d : ℕ) → get_or now d 0 + 16128 < 4294967296
unfolding limit per_table
room_for_file m n k start now grew zeros geometry few d =
    let is = grown_le (λ d. sum_by (λ f. named_by_file m f d) (range_with_len 0 n)) start now 0 (16128 * n) grew (λ d. let z = zeros.each d in omega arith) (λ d. by_files_le m n d (let t = geometry.tables.1 in omega arith)) d in
    omega arith

-- the mappings of files and of slots
pub mapped_sum : (m : Metadata) (f s : ℕ)
    → f ≡ sum_by (λ f. sum_by (λ i. names_one (logical m.geometry m.image (Pointer f i))) (range_with_len 0 (limit m.geometry))) (range_with_len 0 m.geometry.files)
    → s ≡ sum_by (λ s. names_one (logical m.geometry m.image (Slot s))) (range_with_len 0 (arena_slots m.geometry))
    → f + s ≡ sum_by (λ x. names_one (logical m.geometry m.image x)) (reference_fields m.geometry)
mapped_sum m f s ef es = rw (sum_by-reference_fields m.geometry (λ x. names_one (logical m.geometry m.image x)), ef, es) refl
