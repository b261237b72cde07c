-- A row of numbers of one width reads back, number by number.
use Rattle.std.proofs.Common.{◌≡◌, ◌<◌, ◌+◌, ◌*◌, ◌^◌, ℕ, zero, suc, List, [], ◌∷◌, ◌++◌, Some, length, sym, ap, ◌∙◌, arith, append_assoc, length-append}
use Rattle.std.specs.Prelude.{slice_get}
use Rattle.std.specs.List.{flat_map}
use Rattle.vol_base.specs.Bytes.{bytes_of, number_at}
use Rattle.vol_base.specs.laws.BytesLaws.{length-bytes_of, number_at-written}

-- number k of a row stands behind the k numbers before it
pub number_at-row : (w k at : ℕ) (front rest ns : List ℕ) (n : ℕ) → slice_get ns k ≡ Some n → n < 256 ^ w → at ≡ length front + w * k
    → number_at w (front ++ flat_map (bytes_of w) ns ++ rest) at ≡ n
number_at-row w k at front rest [] n is small e = cc
number_at-row w zero at front rest (m ∷ ns) n is small e =
    let same : m ≡ n = cc in
    let here : at ≡ length front = omega (arith, e) in
    ap (λ (xs : List ℕ). number_at w xs at) (ap (λ (xs : List ℕ). xs ++ rest) (sym (append_assoc front (bytes_of w m) (flat_map (bytes_of w) ns))) ∙ append_assoc (front ++ bytes_of w m) (flat_map (bytes_of w) ns) rest)
    ∙ rw same (number_at-written w n at front (flat_map (bytes_of w) ns ++ rest) here small)
number_at-row w (suc k) at front rest (m ∷ ns) n is small e =
    let more : w * suc k ≡ w + w * k = omega arith in
    let there : at ≡ length (front ++ bytes_of w m) + w * k = rw (length-append front (bytes_of w m), length-bytes_of w m) (omega arith) in
    ap (λ (xs : List ℕ). number_at w (xs ++ rest) at) (sym (append_assoc front (bytes_of w m) (flat_map (bytes_of w) ns)))
    ∙ number_at-row w k at (front ++ bytes_of w m) rest ns n is small there

-- a row is as long as its numbers
pub length-row : (w : ℕ) (ns : List ℕ) → length (flat_map (bytes_of w) ns) ≡ w * length ns
length-row w [] = omega arith
length-row w (m ∷ ns) =
    let more : w * suc (length ns) ≡ w + w * length ns = omega arith in
    length-append (bytes_of w m) (flat_map (bytes_of w) ns) ∙ omega (arith, length-bytes_of w m, length-row w ns)
