-- The number of a block is that of the number block that it is, and of no other.
use Rattle.std.proofs.Common.{◌≡◌, ◌<◌, ◌^◌, ℕ, zero, suc, Bool, true, false, List, [], ◌++◌, Some, None, refl, sym, ap, ◌∙◌, arith, append-nil, append_assoc}
use Rattle.std.specs.Bool.{Decides}
use Rattle.std.specs.Str.{bytes_eq}
use Rattle.std.proofs.lemmas.Slice.Eq.{bytes_eq-Decides}
use Rattle.vol_base.specs.declared.block.Block.{Block}
use Rattle.vol_base.specs.Bytes.{bytes_of, number_at, u64_at}
use Rattle.vol_base.specs.laws.BytesLaws.{number_at-written}
use Rattle.vol_base.specs.NumberBlock.{number_block, number_bytes, repeated}
use Rattle.report.specs.Contents.{shown_number}

repeated-front : (n : ℕ) (xs : List ℕ) → repeated n xs ++ xs ≡ xs ++ repeated n xs
repeated-front zero xs = sym (append-nil xs)
repeated-front (suc n) xs = ap (λ (ys : List ℕ). ys ++ xs) (repeated-front n xs) ∙ append_assoc xs (repeated n xs) xs

u64_at-repeated : (copies n : ℕ) → 0 < copies → n < 2 ^ 64 → u64_at (repeated copies (bytes_of 8 n)) 0 ≡ n
u64_at-repeated zero n some small = absurd (omega arith)
u64_at-repeated (suc copies) n some small =
    ap (λ (xs : List ℕ). number_at 8 xs 0) (repeated-front copies (bytes_of 8 n))
    ∙ number_at-written 8 n 0 [] (repeated copies (bytes_of 8 n)) refl small

-- a number block begins with its number
pub u64_at-number_bytes : (n : ℕ) → n < 2 ^ 64 → u64_at (number_bytes n) 0 ≡ n
unfolding number_bytes
u64_at-number_bytes n small = u64_at-repeated 512 n (omega arith) small

false_from_Decides : {P : Type 0} → (b : Bool) → Decides b P → (P → ⊥) → b ≡ false
false_from_Decides true d never = absurd (never (d.0 refl))
false_from_Decides false d never = refl

-- the number is the first one, where the block of that is this block
pub shown_number-same : (block : Block) (n : ℕ) → n ≡ u64_at block.0 0 → number_block n ≡ block → shown_number block ≡ Some n
unfolding shown_number
shown_number-same block n first e =
    let bytes : number_bytes (u64_at block.0 0) ≡ block.0 = ap number_bytes (sym first) ∙ ap (λ (b : Block). b.0) e in
    let yes : bytes_eq (number_bytes (u64_at block.0 0)) block.0 ≡ true = (bytes_eq-Decides (number_bytes (u64_at block.0 0)) block.0).1 bytes in
    rw yes (ap Some (sym first))

-- and there is none where it is another
pub shown_number-other : (block : Block) (n : ℕ) → n ≡ u64_at block.0 0 → (number_block n ≡ block → ⊥) → shown_number block ≡ None
unfolding shown_number
shown_number-other block n first other =
    let differ : number_bytes (u64_at block.0 0) ≡ block.0 → ⊥ =
    λ bytes. other (ap (λ (xs : List ℕ). let b : Block = record { 0 = xs } in b) (ap number_bytes first ∙ bytes)) in
    let unlike : bytes_eq (number_bytes (u64_at block.0 0)) block.0 ≡ false = false_from_Decides (bytes_eq (number_bytes (u64_at block.0 0)) block.0) (bytes_eq-Decides (number_bytes (u64_at block.0 0)) block.0) differ in
    rw unlike refl
