-- A digest and three numbers that are written one behind the other.
use Rattle.std.proofs.Common.{◌≡◌, ◌≤◌, ◌+◌, ◌-◌, ℕ, List, [], ◌++◌, append_assoc, ap, arith, drop, length, length-append, length-drop, sym, take, ◌∙◌}
use Rattle.std.proofs.lemmas.List.{append-nil, drop-drop, drop_all, drop_at, nil_from_length, take_at, take_rest}
use borrow.Rule.Slice.PartMut.{put_mid}

-- a write to the rest of a list, which begins with four bytes and keeps what follows them
pub put_in_rest : (at : ℕ) (old part buf : List ℕ) → at ≤ length old → buf ≡ part ++ drop 4 (take (length old - at) (drop at old))
    → put_mid at (length old - at) old buf ≡ take at old ++ (part ++ drop (at + 4) old)
put_in_rest at old part buf h e =
    let rest : drop 4 (take (length old - at) (drop at old)) ≡ drop (at + 4) old = ap (drop 4) (take_rest old at) ∙ drop-drop 4 at old in
    let nothing : drop (length old - at) (drop at old) ≡ [] = drop_all (length old - at) (drop at old) (omega (arith, length-drop at old)) in
    ap (λ (xs : List ℕ). take at old ++ (xs ++ drop (length old - at) (drop at old))) (e ∙ ap (λ (xs : List ℕ). part ++ xs) rest)
    ∙ ap (λ (xs : List ℕ). take at old ++ ((part ++ drop (at + 4) old) ++ xs)) nothing
    ∙ ap (λ (xs : List ℕ). take at old ++ xs) (append-nil (part ++ drop (at + 4) old))

-- four bytes behind what stands already
put_behind : (at : ℕ) (front part rest new : List ℕ) → length front ≡ at
    → new ≡ take at (front ++ rest) ++ (part ++ drop (at + 4) (front ++ rest)) → new ≡ (front ++ part) ++ drop 4 rest
put_behind at front part rest new long e =
    let before : take at (front ++ rest) ≡ front = take_at front rest at long in
    let behind : drop (at + 4) (front ++ rest) ≡ drop 4 rest = sym (drop-drop 4 at (front ++ rest)) ∙ ap (drop 4) (drop_at front rest at long) in
    e
    ∙ ap (λ (xs : List ℕ). xs ++ (part ++ drop (at + 4) (front ++ rest))) before
    ∙ ap (λ (xs : List ℕ). front ++ (part ++ xs)) behind
    ∙ sym (append_assoc front part (drop 4 rest))

pub three_numbers : (d a b c rest one two three : List ℕ) → length d ≡ 20 → length a ≡ 4 → length b ≡ 4 → length rest ≡ 12
    → one ≡ take 20 (d ++ rest) ++ (a ++ drop 24 (d ++ rest)) → two ≡ take 24 one ++ (b ++ drop 28 one)
    → three ≡ take 28 two ++ (c ++ drop 32 two)
    → three ≡ d ++ (a ++ (b ++ (c ++ [])))
three_numbers d a b c rest one two three d_long a_long b_long r_long p q r =
    let first : one ≡ (d ++ a) ++ drop 4 rest = put_behind 20 d a rest one d_long p in
    let second : two ≡ ((d ++ a) ++ b) ++ drop 4 (drop 4 rest) =
    put_behind 24 (d ++ a) b (drop 4 rest) two (length-append d a ∙ omega arith) (q ∙ ap (λ (xs : List ℕ). take 24 xs ++ (b ++ drop 28 xs)) first) in
    let third : three ≡ (((d ++ a) ++ b) ++ c) ++ drop 4 (drop 4 (drop 4 rest)) =
    put_behind 28 ((d ++ a) ++ b) c (drop 4 (drop 4 rest)) three (simp length-append (omega arith)) (r ∙ ap (λ (xs : List ℕ). take 28 xs ++ (c ++ drop 32 xs)) second) in
    let nothing : drop 4 (drop 4 (drop 4 rest)) ≡ [] = nil_from_length (drop 4 (drop 4 (drop 4 rest))) (simp length-drop (omega arith)) in
    third ∙ ap (λ (xs : List ℕ). (((d ++ a) ++ b) ++ c) ++ xs) nothing ∙ simp append_assoc
