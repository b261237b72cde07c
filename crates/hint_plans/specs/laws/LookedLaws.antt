-- Which blocks a scan finds in a table, and what that says of the volume.
use Rattle.std.proofs.Common.{◌≡◌, ◌⊎◌, ◌++◌, ◌∷◌, ◌+◌, ◌-◌, ◌*◌, ◌/◌, ◌%◌, ◌^◌, ◌<◌, ◌≤◌, ◌∙◌, ℕ, suc, zero, Bool, List, [], None, Option, Some, false, true, ap, arith, cond, length, refl, subst, sym, inl, inr, get_or}
use Rattle.std.specs.Prelude.{◌&&◌, All, filter, is_some, nat_lt, option_map, if◌then◌else◌}
use Rattle.std.specs.List.{cons_option, filter_map, range_with_len}
use Rattle.std.proofs.lemmas.Bool.{cases_Bool, cases_lt, ltb-false, ltb-true}
use Rattle.std.proofs.lemmas.List.{append-nil, append_assoc, length-append, map-append}
use Rattle.std.proofs.lemmas.List.Elements.{All-append, All-cons, All-nil, filter-append, filter_map-append}
use Rattle.vol_base.specs.Packing.{Packing}
use Rattle.vol_layout.specs.declared.field.Field.{Field}
use Rattle.vol_layout.specs.declared.field.Field.TheVariants.{Count, Head, Pointer}
use Rattle.vol_layout.specs.declared.geometry.Geometry.{Geometry}
use Rattle.vol_layout.specs.Fields.{HasField}
use Rattle.vol_layout.specs.Ranges.{limit, per_table}
use Rattle.image_view.specs.Images.{Image}
use Rattle.image_view.specs.Numbers.{logical}
use Rattle.image_view.specs.Pointers.{named}
use Rattle.table_blocks.specs.Tables.{number_in}
use Rattle.host_runs.specs.HintCauses.{mapped_from}
use Rattle.std.specs.Option.{option_to_list}
use Rattle.hint_plans.specs.Scans.{CanLook, IsLooked, blocks_in, covered_by, indexes, is_mapped_at, many_of, mapped_of}
use Rattle.hint_plans.specs.declared.found.Mapped.{Mapped}

abbrev block : ℕ → ℕ → Mapped
block k d = record { index = k; number = d }

-- so many numbers, and more
range_more : (a m n : ℕ) → range_with_len a (m + n) ≡ range_with_len a m ++ range_with_len (a + m) n
range_more a zero n =
    let e : 0 + n ≡ n = omega arith in
    let b : a ≡ a + 0 = omega arith in
    ap (range_with_len a) e ∙ ap (λ (x : ℕ). range_with_len x n) b
range_more a (suc m) n =
    let e : suc m + n ≡ suc (m + n) = omega arith in
    let b : a + 1 + m ≡ a + suc m = omega arith in
    ap (range_with_len a) e ∙ ap (λ (xs : List ℕ). a ∷ xs) (range_more (a + 1) m n ∙ ap (λ (x : ℕ). range_with_len (a + 1) m ++ range_with_len x n) b)

-- a test that tells the same of each number
filter_same : (p q : ℕ → Bool) (a n : ℕ) → ((k : ℕ) → p k ≡ q k) → filter p (range_with_len a n) ≡ filter q (range_with_len a n)
filter_same p q a zero same = refl
filter_same p q a (suc n) same =
    ap (λ (xs : List ℕ). cond (p a) (a ∷ xs) xs) (filter_same p q (a + 1) n same)
    ∙ ap (λ (b : Bool). cond b (a ∷ filter q (range_with_len (a + 1) n)) (filter q (range_with_len (a + 1) n))) (same a)

below_true : (a b : ℕ) → a < b → nat_lt a b ≡ true
below_true a b lt = elim (cases_Bool (nat_lt a b)) [ inl is ↦ is | inr not ↦ absurd (let le = ltb-false a b not in omega (arith, lt, le)) ]

past_false : (a b : ℕ) → b ≤ a → nat_lt a b ≡ false
past_false a b le = elim (cases_Bool (nat_lt a b)) [ inl is ↦ absurd (let lt = ltb-true a b is in omega (arith, lt, le)) | inr not ↦ not ]

-- of the blocks that a table has
module _ (p : Packing) (f : ℕ) where
  one_all : (P : Mapped → Type 0) (k : ℕ) (o : Option ℕ) (found : List Mapped) → ((d : ℕ) → o ≡ Some d → P (block k d)) → All P found
      → All P (cons_option (option_map (λ d. block k d) o) found)
  one_all P k None found one are = are
  one_all P k (Some d) found one are = All-cons P (block k d) found (one d refl) are

  pub blocks_all : (P : Mapped → Type 0) (a n : ℕ)
      → ((k d : ℕ) → a ≤ k → k < a + n → named (number_in p (Pointer f k)) ≡ Some d → P (block k d)) → All P (blocks_in p f a n)
  blocks_all P a zero each = All-nil P
  blocks_all P a (suc n) each =
      one_all P a (named (number_in p (Pointer f a))) (blocks_in p f (a + 1) n) (λ d is. each a d (omega arith) (omega arith) is)
      (blocks_all P (a + 1) n (λ k d after before is. each k d (omega (arith, after)) (omega (arith, before)) is))

  one_long : (k : ℕ) (o : Option ℕ) (found : List Mapped) (n : ℕ) → length found ≤ n
      → length (cons_option (option_map (λ d. block k d) o) found) ≤ suc n
  one_long k None found n le = omega (arith, le)
  one_long k (Some d) found n le = omega (arith, le)

  pub blocks_few : (a n : ℕ) → length (blocks_in p f a n) ≤ n
  blocks_few a zero = omega arith
  blocks_few a (suc n) = one_long a (named (number_in p (Pointer f a))) (blocks_in p f (a + 1) n) n (blocks_few (a + 1) n)

module _ (g : Geometry) (image : Image) (f head : ℕ) (head_is : logical g image (Head f) ≡ head) where
  -- past the length there is no block
  past : (a n : ℕ) → head ≤ a + 1 → filter (is_mapped_at g image f) (range_with_len a n) ≡ []
  past a zero le = refl
  past a (suc n) le =
      let none : is_mapped_at g image f a ≡ false =
      ap (λ (b : Bool). b && is_some (named (logical g image (Pointer f a))))
      (ap (nat_lt (a + 1)) head_is ∙ past_false (a + 1) head le) in
      ap (λ (b : Bool). cond b (a ∷ filter (is_mapped_at g image f) (range_with_len (a + 1) n)) (filter (is_mapped_at g image f) (range_with_len (a + 1) n))) none
      ∙ past (a + 1) n (omega (arith, le))

  module _ (p : Packing) where
    one_mapped : (k : ℕ) (o : Option ℕ) (xs : List ℕ) (found : List Mapped) → xs ≡ indexes found
        → cond (is_some o) (k ∷ xs) xs ≡ indexes (cons_option (option_map (λ d. block k d) o) found)
    one_mapped k None xs found same = same
    one_mapped k (Some d) xs found same = ap (λ (ys : List ℕ). k ∷ ys) same

    -- below it exactly those that the table has
    pub blocks_mapped : (a n : ℕ)
        → ((k : ℕ) → a ≤ k → k < a + n → (k + 1 < head) × (logical g image (Pointer f k) ≡ number_in p (Pointer f k)))
        → filter (is_mapped_at g image f) (range_with_len a n) ≡ indexes (blocks_in p f a n)
    blocks_mapped a zero reads = refl
    blocks_mapped a (suc n) reads =
        let now = reads a (omega arith) (omega arith) in
        let test : is_mapped_at g image f a ≡ is_some (named (number_in p (Pointer f a))) =
        ap (λ (b : Bool). b && is_some (named (logical g image (Pointer f a))))
        (ap (nat_lt (a + 1)) head_is ∙ below_true (a + 1) head now.0)
        ∙ ap (λ (m : ℕ). is_some (named m)) now.1 in
        ap (λ (b : Bool). cond b (a ∷ filter (is_mapped_at g image f) (range_with_len (a + 1) n)) (filter (is_mapped_at g image f) (range_with_len (a + 1) n))) test
        ∙ one_mapped a (named (number_in p (Pointer f a))) (filter (is_mapped_at g image f) (range_with_len (a + 1) n)) (blocks_in p f (a + 1) n)
        (blocks_mapped (a + 1) n (λ k after before. reads k (omega (arith, after)) (omega (arith, before))))

-- a further table was looked at
pub looked_more : (g : Geometry) (image : Image) (p : Packing) (f i head looked n : ℕ) (found : List Mapped)
    → ((k : ℕ) → i + looked ≤ k → k < i + looked + n → (k + 1 < head) × (logical g image (Pointer f k) ≡ number_in p (Pointer f k)))
    → IsLooked g f i head looked found image → IsLooked g f i head (looked + n) (found ++ blocks_in p f (i + looked) n) image
looked_more g image p f i head looked n found reads is = record {
  head_is = is.head_is;
  mapped = ap (filter (is_mapped_at g image f)) (range_more i looked n)
      ∙ filter-append (is_mapped_at g image f) (range_with_len i looked) (range_with_len (i + looked) n)
      ∙ ap (λ (xs : List ℕ). xs ++ filter (is_mapped_at g image f) (range_with_len (i + looked) n)) is.mapped
      ∙ ap (λ (xs : List ℕ). indexes found ++ xs) (blocks_mapped g image f head is.head_is p (i + looked) n reads)
      ∙ sym (map-append (λ (m : Mapped). m.index) found (blocks_in p f (i + looked) n));
  names = All-append (λ m. named (logical g image (Pointer f m.index)) ≡ Some m.number) found (blocks_in p f (i + looked) n) is.names
      (blocks_all p f (λ m. named (logical g image (Pointer f m.index)) ≡ Some m.number) (i + looked) n
      (λ k d after before names. ap named (reads k after before).1 ∙ names));
}

-- all were looked at
pub looked_all : (g : Geometry) (image : Image) (f i head many : ℕ) (found : List Mapped) → many ≡ many_of head i
    → IsLooked g f i head many found image → mapped_from g image f i ≡ indexes found
looked_all g image f i head many found is_many is = by (nat_lt (head - 1 - i) 126) refl
  where
    rest : many ≤ 126 → head ≤ i + many + 1 ⊎ (many ≡ 126) → mapped_from g image f i ≡ indexes found
    rest few (inl end) =
        let all : 126 ≡ many + (126 - many) = omega (arith, few) in
        ap (λ (n : ℕ). filter (is_mapped_at g image f) (range_with_len i n)) all
        ∙ ap (filter (is_mapped_at g image f)) (range_more i many (126 - many))
        ∙ filter-append (is_mapped_at g image f) (range_with_len i many) (range_with_len (i + many) (126 - many))
        ∙ ap (λ (xs : List ℕ). xs ++ filter (is_mapped_at g image f) (range_with_len (i + many) (126 - many))) is.mapped
        ∙ ap (λ (xs : List ℕ). indexes found ++ xs) (past g image f head is.head_is (i + many) (126 - many) end)
        ∙ append-nil (indexes found)
    rest few (inr all) = ap (λ (n : ℕ). filter (is_mapped_at g image f) (range_with_len i n)) (sym all) ∙ is.mapped

    by : (b : Bool) → nat_lt (head - 1 - i) 126 ≡ b → mapped_from g image f i ≡ indexes found
    by true less =
        let few = ltb-true (head - 1 - i) 126 less in
        let same : many ≡ head - 1 - i = is_many ∙ ap (λ (b : Bool). if b then head - 1 - i else 126) less in
        rest (omega (arith, same, few)) (inl (omega (arith, same)))
    by false more =
        let same : many ≡ 126 = is_many ∙ ap (λ (b : Bool). if b then head - 1 - i else 126) more in
        rest (omega (arith, same)) (inr same)

-- where the numbers of the file are as before
pub looked_same : (g : Geometry) (image later : Image) (f i head looked : ℕ) (found : List Mapped) → f < g.files → head ≤ limit g + 1
    → ((x : Field) → HasField g x → (x ≡ Head f) ⊎ ((k : ℕ) × (x ≡ Pointer f k)) → logical g later x ≡ logical g image x)
    → All (λ m. HasField g (Pointer f m.index) × HasField g (Count m.number)) found
    → IsLooked g f i head looked found image → IsLooked g f i head looked found later
looked_same g image later f i head looked found below short numbers fields is = record {
  head_is = numbers (Head f) below (inl refl) ∙ is.head_is;
  mapped = filter_same (is_mapped_at g later f) (is_mapped_at g image f) i looked same ∙ is.mapped;
  names = λ k d lt.
      let m = get_or found k d in
      ap named (numbers (Pointer f m.index) (fields k d lt).0 (inr (m.index, refl))) ∙ is.names k d lt;
}
  where
    same : (k : ℕ) → is_mapped_at g later f k ≡ is_mapped_at g image f k
    same k =
        let heads = numbers (Head f) below (inl refl) in
        ap (λ (n : ℕ). nat_lt (k + 1) n && is_some (named (logical g later (Pointer f k)))) heads
        ∙ elim (cases_lt (k + 1) head) [
          | inl inside ↦
              ap (λ (n : ℕ). nat_lt (k + 1) (logical g image (Head f)) && is_some (named n))
              (numbers (Pointer f k) (below, omega (arith, inside, short)) (inr (k, refl)))
          | inr out ↦
              let none : nat_lt (k + 1) (logical g image (Head f)) ≡ false = ap (nat_lt (k + 1)) is.head_is ∙ past_false (k + 1) head out in
              ap (λ (b : Bool). b && is_some (named (logical g later (Pointer f k)))) none
              ∙ sym (ap (λ (b : Bool). b && is_some (named (logical g image (Pointer f k)))) none)
        ]

-- how many indexes the tables up to this one have
pub covered_most : (i many t : ℕ) → (covered_by i many t ≤ many) × (covered_by i many t ≤ (t + 1) * per_table - i)
covered_most i many t = by (nat_lt ((t + 1) * per_table - i) many) refl
  where
    by : (b : Bool) → nat_lt ((t + 1) * per_table - i) many ≡ b
        → ((if b then (t + 1) * per_table - i else many) ≤ many) × ((if b then (t + 1) * per_table - i else many) ≤ (t + 1) * per_table - i)
    by true less = let lt = ltb-true ((t + 1) * per_table - i) many less in (omega (arith, lt), omega arith)
    by false more = let le = ltb-false ((t + 1) * per_table - i) many more in (omega arith, omega (arith, le))

pub covered_past : (i many t looked : ℕ) → looked < many → i + looked < (t + 1) * per_table → looked < covered_by i many t
covered_past i many t looked less inside = by (nat_lt ((t + 1) * per_table - i) many)
  where
    by : (b : Bool) → looked < (if b then (t + 1) * per_table - i else many)
    by true = omega (arith, inside)
    by false = less

-- the table block of an index
pub table_number : (a t : ℕ) → t ≡ a / per_table → (t * per_table ≤ a) × (a < (t + 1) * per_table)
unfolding per_table
table_number a t is = (omega (arith, is), omega (arith, is))

pub in_table : (k t : ℕ) → t * per_table ≤ k → k < (t + 1) * per_table → k / per_table ≡ t
unfolding per_table
in_table k t from to = omega (arith, from, to)

pub many_most : (head i many : ℕ) → many ≡ many_of head i → (many ≤ 126) × (many ≤ head - 1 - i)
many_most head i many is = by (nat_lt (head - 1 - i) 126) refl
  where
    by : (b : Bool) → nat_lt (head - 1 - i) 126 ≡ b → (many ≤ 126) × (many ≤ head - 1 - i)
    by true less =
        let few = ltb-true (head - 1 - i) 126 less in
        let same : many ≡ head - 1 - i = is ∙ ap (λ (b : Bool). if b then head - 1 - i else 126) less in
        (omega (arith, same, few), omega (arith, same))
    by false more =
        let le = ltb-false (head - 1 - i) 126 more in
        let same : many ≡ 126 = is ∙ ap (λ (b : Bool). if b then head - 1 - i else 126) more in
        (omega (arith, same), omega (arith, same, le))

-- one index more
pub blocks_push : (p : Packing) (f a n : ℕ)
    → blocks_in p f a (n + 1) ≡ blocks_in p f a n ++ option_to_list (mapped_of (a + n) (number_in p (Pointer f (a + n))))
blocks_push p f a n =
    ap (filter_map (λ k. mapped_of k (number_in p (Pointer f k)))) (range_more a n 1)
    ∙ filter_map-append (λ k. mapped_of k (number_in p (Pointer f k))) (range_with_len a n) (range_with_len (a + n) 1)
    ∙ ap (λ (ms : List Mapped). blocks_in p f a n ++ ms) (single (mapped_of (a + n) (number_in p (Pointer f (a + n)))))
  where
    single : (o : Option Mapped) → cons_option o [] ≡ option_to_list o
    single None = refl
    single (Some m) = refl

-- behind the pointer at one index more
pub gather_more : (p : Packing) (f index from k number : ℕ) (first found later : List Mapped) → from ≤ k
    → found ≡ first ++ blocks_in p f (index + from) (k - from) → later ≡ found ++ option_to_list (mapped_of (index + k) number)
    → number ≡ number_in p (Pointer f (index + k)) → later ≡ first ++ blocks_in p f (index + from) (k + 1 - from)
gather_more p f index from k number first found later le is noted pointer =
    let at : index + from + (k - from) ≡ index + k = omega (arith, le) in
    let many : k - from + 1 ≡ k + 1 - from = omega (arith, le) in
    noted ∙ ap (λ (ms : List Mapped). ms ++ option_to_list (mapped_of (index + k) number)) is
    ∙ append_assoc first (blocks_in p f (index + from) (k - from)) (option_to_list (mapped_of (index + k) number))
    ∙ ap (λ (ms : List Mapped). first ++ ms)
    (ap (λ (n : ℕ). blocks_in p f (index + from) (k - from) ++ option_to_list (mapped_of (index + k) n)) pointer
    ∙ ap (λ (a : ℕ). blocks_in p f (index + from) (k - from) ++ option_to_list (mapped_of a (number_in p (Pointer f a)))) (sym at)
    ∙ sym (blocks_push p f (index + from) (k - from))
    ∙ ap (blocks_in p f (index + from)) many)

pub gather_room : (p : Packing) (f index from k to : ℕ) (first found : List Mapped) → from ≤ k → k < to → to ≤ 126 → length first ≤ from
    → found ≡ first ++ blocks_in p f (index + from) (k - from) → length found < 126
gather_room p f index from k to first found le lt few room is =
    let whole = ap length is ∙ length-append first (blocks_in p f (index + from) (k - from)) in
    let more = blocks_few p f (index + from) (k - from) in
    omega (arith, whole, more, le, lt, few, room)

pub gather_hole : (p : Packing) (f index from k to number : ℕ) → from ≤ k → k < to → CanLook p f (index + from) (to - from)
    → number ≡ number_in p (Pointer f (index + k)) → number % 2 ^ 31 ≡ 0 → number ≡ 0
gather_hole p f index from k to number le lt can pointer none =
    let at : index + from + (k - from) ≡ index + k = omega (arith, le) in
    let hole = (can (k - from) (omega (arith, le, lt))).1 in
    pointer ∙ subst (λ (a : ℕ). number_in p (Pointer f a) % 2 ^ 31 ≡ 0 → number_in p (Pointer f a) ≡ 0) at hole
    (subst (λ (n : ℕ). n % 2 ^ 31 ≡ 0) pointer none)
