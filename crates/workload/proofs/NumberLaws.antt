-- Numbers that are read one after the other.
use Rattle.std.proofs.Common.{◌≡◌, ◌<◌, ◌^◌, ℕ, true, false, cond, List, [], ◌∷◌, ◌++◌, Option, Some, None, Result, Ok, Err, length, slice_index, refl, sym, ap, ◌∙◌, arith, append-nil, append_assoc, rules}
use Rattle.std.specs.Option.{option_map, option_and_then}
use Rattle.std.specs.Char.{is_ascii_digit}
use Rattle.std.specs.List.{list_all}
use Rattle.std.specs.Prelude.{decimal, nat_lt}
use Rattle.std.specs.Str.Parse.{digits_value}
use Rattle.std.specs.Result.{result_ok}
use Rattle.std.specs.Str.{IsUtf8}
use Rattle.std.specs.Str.Parse.{ParsesUnsigned}
use Rattle.std.proofs.lemmas.Bool.{and_parts, lt-ltb, ltb-true}
use Rattle.std.proofs.lemmas.Bool.Decides.{nat_tests}
use Rattle.std.proofs.lemmas.Fmt.{IsAscii-from_digits, decimal-digits_value}
use Rattle.std.proofs.lemmas.Option.{cond_some}
use Rattle.std.proofs.lemmas.Str.{IsUtf8-from_ascii}
use Rattle.std.proofs.lemmas.Str.Parse.{IsNumeralModel, numerals_by_value, parse_digits}
use Rattle.workload.specs.Numerals.{number_of, numbers_of, is_numeral}

-- numbers that were read, with those that are still to be read behind them
abbrev pub behind : List ℕ → Option (List ℕ) → Option (List ℕ)
behind front rest = option_map (λ ns. front ++ ns) rest

-- one number more is read
pub behind-more : (front : List ℕ) (n : ℕ) (rest : Option (List ℕ))
    → behind (front ++ n ∷ []) rest ≡ behind front (option_map (λ ns. n ∷ ns) rest)
behind-more front n None = refl
behind-more front n (Some ns) = ap Some (append_assoc front (n ∷ []) ns)

pub numbers_of-first : (word : List ℕ) (words : List (List ℕ)) (front : List ℕ) (n : ℕ) → number_of word ≡ Some n
    → behind (front ++ n ∷ []) (numbers_of words) ≡ behind front (numbers_of (word ∷ words))
unfolding numbers_of
numbers_of-first word words front n e =
    behind-more front n (numbers_of words) ∙ ap (behind front) (sym (ap (option_and_then (λ m. option_map (λ ns. m ∷ ns) (numbers_of words))) e))

pub numbers_of-fault : (word : List ℕ) (words : List (List ℕ)) (front : List ℕ) → number_of word ≡ None
    → behind front (numbers_of (word ∷ words)) ≡ None
unfolding numbers_of
numbers_of-fault word words front e = ap (λ (o : Option ℕ). behind front (option_and_then (λ m. option_map (λ ns. m ∷ ns) (numbers_of words)) o)) e

pub numbers_of-end : (front : List ℕ) → behind front (numbers_of []) ≡ Some front
unfolding numbers_of
numbers_of-end front = ap Some (append-nil front)

-- the words are numerals, with the value that `parse` reads
pub numerals : IsNumeralModel (λ ds. list_all is_ascii_digit ds ≡ true) (digits_value 10)
numerals = numerals_by_value _ (search rules)

-- what a numeral is made of
pub record IsNumeralWord (word : List ℕ) : Type 0 where
  pub some : 0 < length word
  pub digits : list_all is_ascii_digit word ≡ true
  pub leads : slice_index word 0 ≡ 48 → length word ≡ 1

pub numeral_parts : (word : List ℕ) → is_numeral word ≡ true → IsNumeralWord word
numeral_parts word e = record { some = grind (arith, nat_tests); digits = grind (arith, nat_tests); leads = grind (arith, nat_tests) }

-- no other word is a number
pub number_of-other : (word : List ℕ) → is_numeral word ≡ false → number_of word ≡ None
unfolding number_of
number_of-other word e = rw e refl

-- a numeral is a number where its value fits
pub number_of-numeral : {E : Type 0} (word : List ℕ) (r : Result ℕ E) → is_numeral word ≡ true → ParsesUnsigned 64 10 word r
    → result_ok r ≡ number_of word
unfolding number_of
number_of-numeral {E} word (Ok x) e h =
    let read = parse_digits numerals {E = E} 64 word (Ok x) h (numeral_parts word e).digits in
    let fits : nat_lt (digits_value 10 word) (2 ^ 64) ≡ true = lt-ltb _ _ read.0.1 in
    rw (e, fits, read.1) refl
number_of-numeral {E} word (Err d) e h =
    let read = parse_digits numerals {E = E} 64 word (Err d) h (numeral_parts word e).digits in
    let some = (numeral_parts word e).some in
    rw e
    ((elim (nat_lt (digits_value 10 word) (2 ^ 64)) as (λ b. nat_lt (digits_value 10 word) (2 ^ 64) ≡ b → ◌≡◌ {A = Option ℕ} None (cond b (Some (digits_value 10 word)) None)) [
      | true ↦ λ fits. absurd (read (some, ltb-true _ _ fits))
      | false ↦ λ over. refl
    ])
    refl)

-- a numeral is text
pub numeral_text : (word : List ℕ) → is_numeral word ≡ true → IsUtf8 word
numeral_text word e = IsUtf8-from_ascii word (IsAscii-from_digits word (numerals.to word (numeral_parts word e).digits))

-- the word of a number is how the number is written
pub number_of-decimal : (word : List ℕ) (n : ℕ) → number_of word ≡ Some n → word ≡ decimal n
unfolding number_of
number_of-decimal word n e =
    let parts = cond_some _ _ _ e in
    let split = and_parts _ _ parts.0 in
    let word_is = numeral_parts word split.0 in
    sym (decimal-digits_value numerals word word_is.digits word_is.some word_is.leads (ltb-true _ _ split.1)) ∙ ap decimal parts.1
