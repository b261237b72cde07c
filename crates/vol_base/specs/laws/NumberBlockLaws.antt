-- What stands at each byte of a number block.
use Rattle.std.proofs.Common.{◌≡◌, ◌<◌, ◌+◌, ◌-◌, ◌*◌, ◌%◌, ℕ, zero, suc, List, ◌++◌, length, slice_index, replicate, append-nil, refl, sym, ap, ◌∙◌, inl, inr, arith, length-append}
use Rattle.std.proofs.Math.Nat.{mul-add-mod_self_right, mod-eq_of_lt}
use Rattle.std.proofs.lemmas.Bool.{cases_lt}
use Rattle.std.proofs.lemmas.List.{get_or_append_left, get_or-append_right}
use Rattle.vol_base.specs.Bytes.{bytes_of, zeros}
use Rattle.vol_base.specs.laws.BytesLaws.{length-bytes_of}
use Rattle.vol_base.specs.NumberBlock.{number_bytes, repeated}

pub length-repeated : (n : ℕ) (xs : List ℕ) → length (repeated n xs) ≡ n * length xs
length-repeated zero xs = omega arith
length-repeated (suc n) xs = omega (arith, length-append (repeated n xs) xs, length-repeated n xs)

-- the element of a list so many times over
slice_index-repeated : (n k : ℕ) (xs : List ℕ) → k < n * length xs → slice_index (repeated n xs) k ≡ slice_index xs (k % length xs)
slice_index-repeated zero k xs h = absurd (omega arith)
slice_index-repeated (suc n) k xs h =
    let long = length-repeated n xs in
    elim (cases_lt k (length (repeated n xs))) [
      | inl low ↦ get_or_append_left (repeated n xs) xs 0 k low ∙ slice_index-repeated n k xs (omega arith)
      | inr high ↦
          let j : k - n * length xs < length xs = omega arith in
          let k_is : k ≡ n * length xs + (k - n * length xs) = omega arith in
          get_or-append_right (repeated n xs) xs (length (repeated n xs)) k 0 refl high
          ∙ ap (slice_index xs) (ap (λ (m : ℕ). k - m) long ∙ sym (mod-eq_of_lt j) ∙ sym (mul-add-mod_self_right n (length xs) (k - n * length xs)) ∙ ap (λ (m : ℕ). m % length xs) (sym k_is))
    ]

-- byte k of a number block is byte k mod 8 of the number
pub slice_index-number_bytes : (n k : ℕ) → k < 4096 → slice_index (number_bytes n) k ≡ slice_index (bytes_of 8 n) (k % 8)
unfolding number_bytes
slice_index-number_bytes n k h =
    let wide = length-bytes_of 8 n in
    slice_index-repeated 512 k (bytes_of 8 n) (rw wide h) ∙ ap (λ (m : ℕ). slice_index (bytes_of 8 n) (k % m)) wide

-- its bytes fill a block
pub length-number_bytes : (n : ℕ) → length (number_bytes n) ≡ 4096
unfolding number_bytes
length-number_bytes n = length-repeated 512 (bytes_of 8 n) ∙ ap (λ (m : ℕ). 512 * m) (length-bytes_of 8 n)

-- 512 copies leave no room for zeros
pub filled_up : (n copies : ℕ) (draft bytes : List ℕ) → draft ≡ repeated copies (bytes_of 8 n) → copies ≡ 512
    → bytes ≡ draft ++ zeros (4096 - length draft) → bytes ≡ number_bytes n
unfolding number_bytes zeros
filled_up n copies draft bytes e all written =
    let whole : draft ≡ repeated 512 (bytes_of 8 n) = e ∙ ap (λ (m : ℕ). repeated m (bytes_of 8 n)) all in
    let long = ap length whole ∙ length-number_bytes n in
    written ∙ ap (λ (m : ℕ). draft ++ replicate (4096 - m) 0) long ∙ append-nil draft ∙ whole
