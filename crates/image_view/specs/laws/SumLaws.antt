-- Sums over lists of fields, and what edits change of them.
use Rattle.std.proofs.Common.{◌≡◌, ◌≢◌, ◌<◌, ◌≤◌, ◌+◌, ◌*◌, ℕ, zero, suc, add-one, add-zero, zero-add, Bool, true, false, cond, List, [], ◌∷◌, map, length, sum_by, count_by, Option, Some, None, if◌then◌else◌, refl, sym, ap, ◌∙◌, inl, inr, arith}
use mir.Val.{bool_byte}
use Rattle.std.specs.List.{cons_option, filter_map, flat_map, range_with_len}
use Rattle.std.specs.Option.{option_map_or}
use Rattle.std.proofs.lemmas.Bool.{both_ways, cases_Bool, cases_eq, false_from_ne_true}
use Rattle.std.proofs.lemmas.List.Sums.{sum_by-cons, sum_by-append}
use Rattle.vol_layout.specs.declared.field.Field.{Field}
use Rattle.vol_layout.specs.declared.field.Edit.{Edit}
use Rattle.vol_layout.specs.Edits.{AreApart, edited, same_field}
use Rattle.vol_layout.specs.laws.EditLaws.{same_field-refl, same_field-is}
use Rattle.image_view.specs.laws.EditLaws.{edited_untouched}

-- a sum of equal terms
pub sum_by_same : {X : Type 0} (f h : X → ℕ) (xs : List X) → ((x : X) → f x ≡ h x) → sum_by f xs ≡ sum_by h xs
sum_by_same f h [] same = refl
sum_by_same f h (x ∷ xs) same = rw (sum_by-cons f x xs, sum_by-cons h x xs, same x, sum_by_same f h xs same) refl

pub sum_by-map : {X Y : Type 0} (w : Y → ℕ) (f : X → Y) (xs : List X) → sum_by w (map f xs) ≡ sum_by (λ x. w (f x)) xs
sum_by-map w f [] = refl
sum_by-map w f (x ∷ xs) = rw (sum_by-cons w (f x) (map f xs), sum_by-cons (λ x. w (f x)) x xs, sum_by-map w f xs) refl

pub sum_by-flat_map : {X Y : Type 0} (w : Y → ℕ) (f : X → List Y) (xs : List X) → sum_by w (flat_map f xs) ≡ sum_by (λ x. sum_by w (f x)) xs
sum_by-flat_map w f [] = refl
sum_by-flat_map w f (x ∷ xs) = rw (sum_by-append w (f x) (flat_map f xs), sum_by-cons (λ x. sum_by w (f x)) x xs, sum_by-flat_map w f xs) refl

-- where an item may be left out, its term is 0
pub sum_by-filter_map : {X Y : Type 0} (w : Y → ℕ) (f : X → Option Y) (xs : List X)
    → sum_by w (filter_map f xs) ≡ sum_by (λ x. option_map_or w (f x) 0) xs
sum_by-filter_map w f [] = refl
sum_by-filter_map {X} {Y} w f (x ∷ xs) =
    let one : (o : Option Y) (ys : List Y) → sum_by w (cons_option o ys) ≡ option_map_or w o 0 + sum_by w ys = taken w in
    rw (one (f x) (filter_map f xs), sum_by-cons (λ x. option_map_or w (f x) 0) x xs, sum_by-filter_map w f xs) refl
  where
    taken : {Y : Type 0} (w : Y → ℕ) (o : Option Y) (ys : List Y) → sum_by w (cons_option o ys) ≡ option_map_or w o 0 + sum_by w ys
    taken w (Some y) ys = sum_by-cons w y ys
    taken w None ys = omega arith

-- a length is a sum of ones
pub length-sum_by : {X : Type 0} (xs : List X) → length xs ≡ sum_by (λ x. 1) xs
length-sum_by [] = refl
length-sum_by {X} (x ∷ xs) = rw (sum_by-cons {X = X} (λ x. 1) x xs, sum_by (λ x. 1) xs, length-sum_by xs) (omega arith)

-- a sum over a range with one more number
pub sum_by_range_more : (w : ℕ → ℕ) (n : ℕ) → sum_by w (range_with_len 0 (n + 1)) ≡ sum_by w (range_with_len 0 n) + w n
sum_by_range_more w n = rw (add-one n) (sum_from w 0 n ∙ ap (λ k. sum_by w (range_with_len 0 n) + w k) (zero-add n))
  where
    sum_from : (w : ℕ → ℕ) (a n : ℕ) → sum_by w (range_with_len a (suc n)) ≡ sum_by w (range_with_len a n) + w (a + n)
    sum_from w a zero = rw (add-zero a) refl
    sum_from w a (suc n) =
        let next : a + 1 + n ≡ a + suc n = omega arith in
        rw (sum_by-cons w a (range_with_len (a + 1) (suc n)), sum_by-cons w a (range_with_len (a + 1) n), sum_from w (a + 1) n, next) (omega arith)

-- a sum and a count with one more number
pub summed_more : (w : ℕ → ℕ) (n u r : ℕ) → u ≡ sum_by w (range_with_len 0 n) → r ≡ w n → u + r ≡ sum_by w (range_with_len 0 (n + 1))
summed_more w n u r eu er = rw (sum_by_range_more w n, eu, er) refl

-- a test as a number
pub bool_byte-is : (b : Bool) → bool_byte b ≡ cond b 1 0
bool_byte-is true = refl
bool_byte-is false = refl

pub bit_le : (b : Bool) → cond b 1 0 ≤ 1
bit_le true = omega arith
bit_le false = omega arith

-- how often a number stands in a range, weighted: once, if it is in the range, where the others weigh nothing
pub sum_by-range : (w : ℕ → ℕ) (a n k : ℕ) → ((j : ℕ) → j ≢ k → w j ≡ 0) → a ≤ k → k < a + n → sum_by w (range_with_len a n) ≡ w k
sum_by-range w a zero k none le lt = absurd (omega arith)
sum_by-range w a (suc n) k none le lt =
    elim (cases_eq a k) [
      | inl here ↦ rw (sum_by-cons w a (range_with_len (a + 1) n), sum_by-range_none w (a + 1) n (λ j h. none j (λ e. absurd (omega arith))), here) (omega arith)
      | inr other ↦ rw (sum_by-cons w a (range_with_len (a + 1) n), none a other, sum_by-range w (a + 1) n k none (omega arith) (omega arith)) (omega arith)
    ]
  where
    sum_by-range_none : (w : ℕ → ℕ) (a n : ℕ) → ((j : ℕ) → a ≤ j → w j ≡ 0) → sum_by w (range_with_len a n) ≡ 0
    sum_by-range_none w a zero h = refl
    sum_by-range_none w a (suc n) h = rw (sum_by-cons w a (range_with_len (a + 1) n), h a (omega arith), sum_by-range_none w (a + 1) n (λ j le. h j (omega arith))) refl

-- how often a field stands in a list
abbrev pub times : List Field → Field → ℕ
times xs x = count_by (λ y. same_field y x) xs

-- a weighted sum over fields, before and after one of them gets another number
one_edit : (w : Field → ℕ → ℕ) (numbers : Field → ℕ) (y : Field) (n : ℕ) (xs : List Field)
    → sum_by (λ x. w x (if same_field y x then n else numbers x)) xs + times xs y * w y (numbers y)
    ≡ sum_by (λ x. w x (numbers x)) xs + times xs y * w y n
one_edit w numbers y n [] = omega arith
one_edit w numbers y n (x ∷ xs) =
    let more = one_edit w numbers y n xs in
    elim (cases_Bool (same_field y x)) [
      | inl here ↦
          let e = sym (same_field-is y x here) in
          let a : w x n ≡ w y n = ap (λ z. w z n) e in
          let b : w x (numbers x) ≡ w y (numbers y) = ap (λ z. w z (numbers z)) e in
          let c : same_field x y ≡ true = ap (λ z. same_field z y) e ∙ same_field-refl y in
          rw (sum_by-cons (λ x. w x (if same_field y x then n else numbers x)) x xs, sum_by-cons (λ x. w x (numbers x)) x xs, sum_by-cons (λ z. cond (same_field z y) 1 0) x xs, here, c, a, b) (omega (arith, more))
      | inr other ↦
          let c : same_field x y ≡ false = false_from_ne_true (same_field x y) (λ h. both_ways (same_field y x) other (ap (λ z. same_field y z) (same_field-is x y h) ∙ same_field-refl y)) in
          rw (sum_by-cons (λ x. w x (if same_field y x then n else numbers x)) x xs, sum_by-cons (λ x. w x (numbers x)) x xs, sum_by-cons (λ z. cond (same_field z y) 1 0) x xs, other, c) (omega (arith, more))
    ]

-- what edits take from a weighted sum over fields, and what they give, each as often as its field stands there
abbrev pub taken_from : (Field → ℕ → ℕ) → (Field → ℕ) → List Field → List Edit → ℕ
taken_from w numbers xs es = sum_by (λ e. times xs e.field * w e.field (numbers e.field)) es

abbrev pub given_to : (Field → ℕ → ℕ) → List Field → List Edit → ℕ
given_to w xs es = sum_by (λ e. times xs e.field * w e.field e.number) es

-- the sum after the edits, with what they took, is the sum before, with what they gave
pub sum_edited : (w : Field → ℕ → ℕ) (numbers : Field → ℕ) (xs : List Field) (es : List Edit) → AreApart es
    → sum_by (λ x. w x (edited es x (numbers x))) xs + taken_from w numbers xs es ≡ sum_by (λ x. w x (numbers x)) xs + given_to w xs es
sum_edited w numbers xs [] apart = refl
sum_edited w numbers xs (e ∷ es) apart =
    let more = sum_edited w numbers xs es apart.1 in
    let first = one_edit w (λ x. edited es x (numbers x)) e.field e.number xs in
    let before = edited_untouched es e.field (numbers e.field) apart.0 in
    let first' = rw before at first in
    rw (sum_by-cons (λ e. times xs e.field * w e.field (numbers e.field)) e es, sum_by-cons (λ e. times xs e.field * w e.field e.number) e es) (omega (arith, more, first'))
