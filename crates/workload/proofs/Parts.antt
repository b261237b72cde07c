-- The first part of a list that is cut at a byte, and the first line of a text.
use Rattle.std.proofs.Common.{◌≡◌, ◌<◌, ◌≤◌, ◌+◌, ◌-◌, ◌==◌, ◌&&◌, ℕ, Bool, true, false, cond, not, List, [], ◌∷◌, Some, None, length, take, drop, refl, ap, ◌∙◌, arith, length-drop}
use Rattle.std.specs.Prelude.{position}
use Rattle.std.specs.List.{count_by, list_all, onto_first, position_or_len, slice_split}
use Rattle.std.proofs.lemmas.List.{take_all}
use Rattle.std.proofs.lemmas.List.Splits.{length-slice_split, slice_split_first}
use Rattle.std.proofs.lemmas.Option.{cond_some}
use borrow.Author.Tests.{ltb-true}
use Rattle.workload.specs.Texts.{ended_parts, is_shaped, is_word, lines_of, words_of}

and_true : (b : Bool) → (b && true) ≡ b
and_true true = refl
and_true false = refl

-- where no element passes, the list is its one part
one_part : (p : ℕ → Bool) (xs : List ℕ) → length xs ≤ position_or_len p xs → slice_split p xs ≡ xs ∷ []
one_part p [] h = refl
one_part p (x ∷ xs) h =
    (elim (p x) as (λ b. length (x ∷ xs) ≤ cond (not b) (1 + position_or_len p xs) 0 → cond b ([] ∷ slice_split p xs) (onto_first x (slice_split p xs)) ≡ (x ∷ xs) ∷ []) [
      | true ↦ λ long. absurd (omega arith)
      | false ↦ λ long. ap (onto_first x) (one_part p xs (omega arith))
    ])
    h

pub uncut : (p : ℕ → Bool) (xs : List ℕ) → position p xs ≡ None → slice_split p xs ≡ xs ∷ []
uncut p xs none = one_part p xs (grind arith)

-- the parts before and behind the first element that passes
pub cut_at : (p : ℕ → Bool) (xs : List ℕ) (at : ℕ) → position p xs ≡ Some at
    → (at < length xs) × (slice_split p xs ≡ take at xs ∷ slice_split p (take (length xs - (at + 1)) (drop (at + 1) xs)))
cut_at p xs at some =
    let parts = cond_some _ _ _ some in
    let below : position_or_len p xs < length xs = ltb-true _ _ parts.0 in
    let here : position_or_len p xs ≡ at = parts.1 in
    let all : take (length xs - (at + 1)) (drop (at + 1) xs) ≡ drop (at + 1) xs = take_all _ _ (omega (arith, length-drop (at + 1) xs)) in (
      omega arith,
      slice_split_first p xs 0 below ∙ rw (here, all) refl,
    )

-- a text has at least one part
pub some_part : (p : ℕ → Bool) (xs : List ℕ) → 0 < length (slice_split p xs)
some_part p xs = omega (arith, length-slice_split p xs)

pub ended_parts-cons : (part : List ℕ) (parts : List (List ℕ)) → 0 < length parts → ended_parts (part ∷ parts) ≡ part ∷ ended_parts parts
ended_parts-cons part [] h = absurd (omega arith)
ended_parts-cons part (next ∷ more) h = refl

-- a line, and the lines behind its end
pub lines_of-first : (text line rest : List ℕ) → slice_split (λ byte. byte == 10) text ≡ line ∷ slice_split (λ byte. byte == 10) rest
    → lines_of text ≡ line ∷ lines_of rest
unfolding lines_of
lines_of-first text line rest e = ap ended_parts e ∙ ended_parts-cons line _ (some_part _ rest)

-- a text without a line end is its one line
pub lines_of-last : (text : List ℕ) → 0 < length text → slice_split (λ byte. byte == 10) text ≡ text ∷ []
    → lines_of text ≡ text ∷ lines_of []
unfolding lines_of
lines_of-last [] h e = absurd (omega arith)
lines_of-last (x ∷ xs) h e = ap ended_parts e

-- an empty text has no line
pub lines_of-nothing : (text : List ℕ) → length text ≡ 0 → lines_of text ≡ []
unfolding lines_of
lines_of-nothing [] h = refl
lines_of-nothing (x ∷ xs) h = absurd (omega arith)

-- a line with a space has its first word and the words behind the space
pub words_of-first : (line word rest : List ℕ) → slice_split (λ byte. byte == 32) line ≡ word ∷ slice_split (λ byte. byte == 32) rest
    → words_of line ≡ word ∷ words_of rest
unfolding words_of
words_of-first line word rest e = e

-- a line without a space is its one word
pub words_of-last : (line : List ℕ) → slice_split (λ byte. byte == 32) line ≡ line ∷ [] → words_of line ≡ line ∷ []
unfolding words_of
words_of-last line e = e

-- whether the words behind a first word are words
pub is_shaped-first : (line word rest : List ℕ) → slice_split (λ byte. byte == 32) line ≡ word ∷ slice_split (λ byte. byte == 32) rest
    → is_shaped line ≡ (is_word word && is_shaped rest)
unfolding is_shaped words_of
is_shaped-first line word rest e = ap (list_all is_word) e

pub is_shaped-last : (line : List ℕ) → slice_split (λ byte. byte == 32) line ≡ line ∷ [] → is_shaped line ≡ is_word line
unfolding is_shaped words_of
is_shaped-last line e = ap (list_all is_word) e ∙ and_true (is_word line)

-- there is one word more than there are spaces
pub length-words_of : (line : List ℕ) → length (words_of line) ≡ count_by (λ byte. byte == 32) line + 1
unfolding words_of
length-words_of line = length-slice_split (λ byte. byte == 32) line

pub ruleset words_counted = length-words_of
