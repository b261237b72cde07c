-- What a number in bytes reads as, whatever stands before and behind it.
use Rattle.std.proofs.Common.{replicate, refl, ◌≡◌, ◌<◌, ◌≤◌, ◌+◌, ◌-◌, ◌^◌, ℕ, zero, suc, List, [], ◌++◌, length, get_or, take, drop, sym, ap, ◌∙◌, inl, inr, arith, append_assoc, length-append, length-drop}
use Rattle.std.specs.Prelude.{All}
use Rattle.std.proofs.lemmas.Bool.{cases_lt}
use Rattle.std.proofs.lemmas.List.{length-replicate, drop-append-le, drop_at, drop-drop, drop-take, get_or_past, take-replicate, drop-replicate, replicate-append-replicate}
use Rattle.std.proofs.lemmas.List.Elements.{All-drop, All-replicate}
use Rattle.byteorder.specs.Endian.{big_from}
use Rattle.byteorder.specs.Numbers.{big_from-append, big_from-lt, big_from-take, big_number-reads_back, length-bytes_high_first}
use Rattle.std.specs.Int.{bytes_high_first}
use Rattle.vol_base.specs.Bytes.{IsBlock, zeros, bytes_of, number_at}

-- a number has as many bytes as are asked for
pub length-bytes_of : (n x : ℕ) → length (bytes_of n x) ≡ n
unfolding bytes_of
length-bytes_of n x = length-bytes_high_first n x

-- what follows a number is not looked at
pub number_at-append : (n at : ℕ) (xs ys : List ℕ) → at + n ≤ length xs → number_at n (xs ++ ys) at ≡ number_at n xs at
unfolding number_at
number_at-append n at xs ys h =
    ap (big_from 0 n) (drop-append-le at xs ys (omega arith))
    ∙ big_from-append n (drop at xs) ys (omega (arith, length-drop at xs))

-- what is dropped in front of a number is not looked at
pub number_at-drop : (n at k : ℕ) (xs : List ℕ) → number_at n (drop k xs) at ≡ number_at n xs (k + at)
unfolding number_at
number_at-drop n at k xs = ap (big_from 0 n) (drop-drop at k xs)

-- what stands before a number is not looked at
pub number_at-behind : (n at : ℕ) (front rest : List ℕ) → number_at n (front ++ rest) (length front + at) ≡ number_at n rest at
number_at-behind n at front rest =
    sym (number_at-drop n at (length front) (front ++ rest)) ∙ ap (λ (xs : List ℕ). number_at n xs at) (drop_at front rest (length front) refl)

-- a piece of the bytes that has the whole number reads the same
pub number_at-take : (n m at : ℕ) (xs : List ℕ) → at + n ≤ m → number_at n (take m xs) at ≡ number_at n xs at
unfolding number_at
number_at-take n m at xs h =
    let e : m ≡ at + (m - at) = omega arith in
    ap (λ (k : ℕ). big_from 0 n (drop at (take k xs))) e
    ∙ ap (big_from 0 n) (drop-take at (m - at) xs)
    ∙ big_from-take 0 n (m - at) (drop at xs) (omega arith)

-- a number reads back where it was written last
pub number_at-last : (n x at : ℕ) (front : List ℕ) → at ≡ length front → x < 256 ^ n → number_at n (front ++ bytes_of n x) at ≡ x
unfolding number_at bytes_of
number_at-last n x at front e h =
    ap (big_from 0 n) (drop_at front (bytes_of n x) at (sym e))
    ∙ sym (big_from-append n (bytes_high_first n x) [] (omega (arith, length-bytes_high_first n x)))
    ∙ big_number-reads_back n x [] h

-- a number reads back where it was written, whatever follows
pub number_at-written : (n x at : ℕ) (front rest : List ℕ) → at ≡ length front → x < 256 ^ n
    → number_at n ((front ++ bytes_of n x) ++ rest) at ≡ x
number_at-written n x at front rest e h =
    number_at-append n at (front ++ bytes_of n x) rest (omega (arith, length-append front (bytes_of n x), length-bytes_of n x))
    ∙ number_at-last n x at front e h

-- a byte past the end counts as 0
small_everywhere : (xs : List ℕ) → All (λ byte. byte < 256) xs → (k : ℕ) → get_or xs k 0 < 256
small_everywhere xs small k =
    elim (cases_lt k (length xs)) [ inl h ↦ small k 0 h | inr h ↦ rw (get_or_past xs k 0 h) (omega arith) ]

-- a number of n bytes is below 256 ^ n
pub number_at-below : (n at : ℕ) (xs : List ℕ) → All (λ byte. byte < 256) xs → number_at n xs at < 256 ^ n
unfolding number_at
number_at-below n at xs small =
    big_from-lt 0 n (drop at xs) (small_everywhere (drop at xs) (All-drop (λ byte. byte < 256) at xs small))

-- the laws of zeros
pub length-zeros : (n : ℕ) → length (zeros n) ≡ n
unfolding zeros
length-zeros n = length-replicate n 0

pub take-zeros : (m n : ℕ) → m ≤ n → take m (zeros n) ≡ zeros m
unfolding zeros
take-zeros m n h = take-replicate m n 0 h

pub drop-zeros : (m n : ℕ) → drop m (zeros n) ≡ zeros (n - m)
unfolding zeros
drop-zeros m n = drop-replicate m n 0

pub zeros-append : (m n : ℕ) → zeros m ++ zeros n ≡ zeros (m + n)
unfolding zeros
zeros-append m n = replicate-append-replicate m n 0

-- zeros behind zeros
pub more_zeros : (front rest : List ℕ) (m n k : ℕ) → rest ≡ zeros n → m + n ≡ k → (front ++ zeros m) ++ rest ≡ front ++ zeros k
more_zeros front rest m n k is all =
    append_assoc front (zeros m) rest ∙ ap (λ (xs : List ℕ). front ++ (zeros m ++ xs)) is ∙ ap (λ (xs : List ℕ). front ++ xs) (zeros-append m n ∙ ap zeros all)

-- the bytes of 0, of four and of eight
pub no_number : (n : ℕ) → n ≡ 0 → (bytes_of 4 n ≡ zeros 4) × (bytes_of 8 n ≡ zeros 8)
unfolding bytes_of zeros
no_number n e = rw e (refl, refl)

slice_index-replicate : (i k : ℕ) → get_or {A = ℕ} (replicate k 0) i 0 ≡ 0
slice_index-replicate i zero = refl
slice_index-replicate zero (suc k) = refl
slice_index-replicate (suc i) (suc k) = slice_index-replicate i k

big_from-replicate : (i n k : ℕ) → big_from i n (replicate k 0) ≡ 0
big_from-replicate i zero k = refl
big_from-replicate i (suc n) k = rw (slice_index-replicate i k, big_from-replicate (suc i) n k) (omega arith)

-- zeros read as 0
pub number_at-zeros : (n at k : ℕ) → number_at n (zeros k) at ≡ 0
unfolding number_at zeros
number_at-zeros n at k = ap (big_from 0 n) (drop-replicate at k 0) ∙ big_from-replicate 0 n (k - at)

zeros_are_small : (n : ℕ) → All (λ byte. byte < 256) (zeros n)
unfolding zeros
zeros_are_small n = All-replicate (λ byte. byte < 256) n 0 (omega arith)

-- a block of zeros is a block
pub IsBlock-zeros : IsBlock (zeros 4096)
IsBlock-zeros = record { long = length-zeros 4096; small = zeros_are_small 4096 }
