-- Bytes that are zeros from some place on.
use Rattle.std.proofs.Common.{◌≡◌, ◌≤◌, ◌+◌, ◌-◌, ℕ, List, ◌++◌, length, take, drop, sym, ap, ◌∙◌, arith}
use Rattle.std.proofs.Math.Seq.{take-add}
use Rattle.std.proofs.lemmas.List.{drop-drop}
use Rattle.std.proofs.lemmas.Slice.{drop-put_mid}
use borrow.Rule.Slice.PartMut.{put_mid}
use Rattle.vol_base.specs.Bytes.{zeros}
use Rattle.vol_base.specs.laws.BytesLaws.{take-zeros, drop-zeros}

-- zeros from a later place on
pub drop_padded : (len at : ℕ) (xs : List ℕ) → len ≤ at → at ≤ 4096 → drop len xs ≡ zeros (4096 - len) → drop at xs ≡ zeros (4096 - at)
drop_padded len at xs low high e =
    let there : at ≡ len + (at - len) = omega arith in
    ap (λ (n : ℕ). drop n xs) there
    ∙ sym (drop-drop (at - len) len xs)
    ∙ ap (drop (at - len)) e
    ∙ drop-zeros (at - len) (4096 - len)
    ∙ ap zeros (omega arith)

-- the front up to a later place ends in zeros
pub take_padded : (len at : ℕ) (xs : List ℕ) → len ≤ at → at ≤ 4096 → drop len xs ≡ zeros (4096 - len)
    → take at xs ≡ take len xs ++ zeros (at - len)
take_padded len at xs low high e =
    let there : at ≡ len + (at - len) = omega arith in
    ap (λ (n : ℕ). take n xs) there
    ∙ take-add len (at - len) xs
    ∙ ap (λ (ys : List ℕ). take len xs ++ take (at - len) ys) e
    ∙ ap (λ (ys : List ℕ). take len xs ++ ys) (take-zeros (at - len) (4096 - len) (omega arith))

-- a write at that place leaves zeros behind it
pub drop_written : (len k at : ℕ) (xs ys : List ℕ) → at ≡ len + k → length ys ≡ k → at ≤ 4096 → length xs ≡ 4096
    → drop len xs ≡ zeros (4096 - len) → drop at (put_mid len (at - len) xs ys) ≡ zeros (4096 - at)
drop_written len k at xs ys there long high all e =
    drop-put_mid len (at - len) xs ys at (omega arith) (omega arith) (omega arith)
    ∙ drop_padded len at xs (omega arith) high e
