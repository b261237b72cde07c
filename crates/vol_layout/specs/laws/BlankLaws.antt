-- A blank table is its magic, its count and zeros.
use Rattle.std.proofs.Common.{◌≡◌, ◌+◌, ◌-◌, ◌*◌, ◌≤◌, ℕ, zero, suc, List, [], ◌++◌, length, replicate, refl, sym, ap, ◌∙◌, arith, append_assoc}
use Rattle.std.specs.List.{concat}
use Rattle.std.proofs.lemmas.List.{length-replicate}
use Rattle.vol_base.specs.Bytes.{bytes_of, zeros}
use Rattle.vol_base.specs.laws.BytesLaws.{zeros-append}
use Rattle.vol_base.specs.Packing.{packed_bytes}
use Rattle.vol_layout.specs.declared.kind.Table.{Table}
use Rattle.vol_layout.specs.Ranges.{per_table}
use Rattle.vol_layout.specs.Blank.{table_magic, blank_table}

no_zeros : [] ≡ zeros 0
unfolding zeros
no_zeros = refl

concat-zeros : (n w : ℕ) → concat (replicate n (zeros w)) ≡ zeros (n * w)
concat-zeros zero w = let none : 0 * w ≡ 0 = omega arith in rw none no_zeros
concat-zeros (suc n) w =
    let more : suc n * w ≡ w + n * w = omega arith in
    ap (λ (xs : List ℕ). zeros w ++ xs) (concat-zeros n w) ∙ zeros-append w (n * w) ∙ ap zeros (omega arith)

no_word : bytes_of 4 0 ≡ zeros 4
unfolding bytes_of zeros
no_word = refl

-- a packed block of n entries of zeros
zero_entries : (magic : List ℕ) (n k : ℕ) → 4 * n ≤ 4032 → k ≡ 4084
    → packed_bytes 4 (record { magic = magic; word = 0; entries = replicate n (zeros 4) }) ≡ (magic ++ bytes_of 4 n) ++ zeros k
unfolding packed_bytes
zero_entries magic n k room e =
    let many = length-replicate n (zeros 4) in
    let left : 4032 - 4 * length (replicate n (zeros 4)) ≡ 4032 - 4 * n = rw many refl in
    let row = concat-zeros n 4 in
    let header : zeros 4 ++ zeros 48 ≡ zeros 52 = zeros-append 4 48 in
    let body : zeros 52 ++ zeros (n * 4) ≡ zeros (52 + n * 4) = zeros-append 52 (n * 4) in
    let all : zeros (52 + n * 4) ++ zeros (4032 - 4 * n) ≡ zeros k = zeros-append (52 + n * 4) (4032 - 4 * n) ∙ ap zeros (omega arith) in
    let counted : bytes_of 4 (length (replicate n (zeros 4))) ≡ bytes_of 4 n = ap (bytes_of 4) many in
    rw (counted, no_word, row, left)
    (simp append_assoc (ap (λ (xs : List ℕ). magic ++ (bytes_of 4 n ++ xs))
    (sym (append_assoc (zeros 4) (zeros 48) (zeros (n * 4) ++ zeros (4032 - 4 * n)))
    ∙ ap (λ (xs : List ℕ). xs ++ (zeros (n * 4) ++ zeros (4032 - 4 * n))) header
    ∙ sym (append_assoc (zeros 52) (zeros (n * 4)) (zeros (4032 - 4 * n)))
    ∙ ap (λ (xs : List ℕ). xs ++ zeros (4032 - 4 * n)) body
    ∙ all)))

full : per_table ≡ per_table → 4 * per_table ≤ 4032
unfolding per_table
full e = omega arith

is : per_table ≡ per_table → per_table ≡ 1008
unfolding per_table
is e = refl

pub blank_table-is : (t : Table) → blank_table t ≡ (table_magic t ++ bytes_of 4 1008) ++ zeros 4084
unfolding blank_table
blank_table-is t = zero_entries (table_magic t) per_table 4084 (full refl) refl ∙ ap (λ (n : ℕ). (table_magic t ++ bytes_of 4 n) ++ zeros 4084) (is refl)
