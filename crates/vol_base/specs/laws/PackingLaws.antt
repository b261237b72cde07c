-- What pieces of one width stand for, and that a packed block reads back.
use Rattle.std.proofs.Common.{◌≡◌, ◌<◌, ◌≤◌, ◌+◌, ◌-◌, ◌*◌, ◌/◌, ◌^◌, ℕ, zero, suc, List, [], ◌∷◌, ◌++◌, Some, length, set, take, drop, slice_index, refl, sym, ap, ◌∙◌, arith, add-one, append_assoc, length-append, length-drop, length-take-le}
use Rattle.std.specs.Prelude.{All, slice_get}
use Rattle.std.specs.List.{concat}
use Rattle.std.proofs.Math.Nat.{mul-le-mul_right}
use Rattle.std.proofs.Math.Seq.{take-add}
use Rattle.std.proofs.lemmas.List.{drop-drop, drop_at, get_or-map, set_at, take_at}
use Rattle.std.proofs.lemmas.List.Elements.{All-cons, All-head, All-nil, All-tail}
use Rattle.std.proofs.lemmas.Nat.{div-add-mod'}
use Rattle.std.proofs.Math.Nat.{div-le_self}
use Rattle.std.proofs.lemmas.Option.{get_or_from_slice_get}
use Rattle.vol_base.specs.Bytes.{bytes_of, number_at, u32_at, zeros}
use Rattle.vol_base.specs.laws.BytesLaws.{length-bytes_of, length-zeros, number_at-drop, number_at-take, number_at-written}
use Rattle.vol_base.specs.Packing.{Packing, IsPacked, IsPacking, entries_of, numbers, packed_bytes, packing_of, room_of}

-- an entry that is counted stands within the room
pub entry_fits : (w n k : ℕ) → k < n → n ≤ room_of w → w * k + w ≤ 4032
entry_fits w n k h room =
    let split = div-add-mod' 4032 w in
    let below : (k + 1) * w ≤ 4032 / w * w = mul-le-mul_right w (omega arith) in
    omega arith

-- the entries stand within the room
pub entries_fit : (w n : ℕ) → n ≤ room_of w → w * n ≤ 4032
entries_fit w n room =
    let split = div-add-mod' 4032 w in
    let below : n * w ≤ 4032 / w * w = mul-le-mul_right w room in
    omega arith

pub length-entries_of : (w n : ℕ) (bytes : List ℕ) → length (entries_of w n bytes) ≡ n
unfolding entries_of
length-entries_of w zero bytes = refl
length-entries_of w (suc n) bytes = ap suc (length-entries_of w n (drop w bytes))

-- entry k is the piece from byte w * k on
pub slice_get-entries_of : (w n k : ℕ) (bytes : List ℕ) → k < n → slice_get (entries_of w n bytes) k ≡ Some (take w (drop (w * k) bytes))
unfolding entries_of
slice_get-entries_of w zero k bytes h = absurd (omega arith)
slice_get-entries_of w (suc n) zero bytes h = let none : w * 0 ≡ 0 = omega arith in rw none refl
slice_get-entries_of w (suc n) (suc k) bytes h =
    let more : w * suc k ≡ w + w * k = omega arith in
    slice_get-entries_of w n k (drop w bytes) (omega arith) ∙ ap (λ (xs : List ℕ). Some (take w xs)) (rw more (drop-drop (w * k) w bytes))

-- a first piece, and the pieces behind it
entries_of-cons : (w n : ℕ) (front rest : List ℕ) → length front ≡ w → entries_of w (suc n) (front ++ rest) ≡ front ∷ entries_of w n rest
unfolding entries_of
entries_of-cons w n front rest h = rw (take_at front rest w h, drop_at front rest w h) refl

-- a write to the bytes of entry k changes that entry alone
pub entries_of-set : (w n k : ℕ) (bytes entry : List ℕ) → k < n → w * n ≤ length bytes → length entry ≡ w
    → entries_of w n (take (w * k) bytes ++ (entry ++ drop w (drop (w * k) bytes))) ≡ set (entries_of w n bytes) k entry
unfolding entries_of
entries_of-set w zero k bytes entry h fits wide = absurd (omega arith)
entries_of-set w (suc n) zero bytes entry h fits wide =
    let none : w * 0 ≡ 0 = omega arith in
    rw none (entries_of-cons w n entry (drop w bytes) wide)
entries_of-set w (suc n) (suc k) bytes entry h fits wide =
    let more : w * suc k ≡ w + w * k = omega arith in
    let all : w * suc n ≡ w + w * n = omega arith in
    let first : length (take w bytes) ≡ w = length-take-le w bytes (omega arith) in
    let rest = drop w bytes in
    rw (more, take-add w (w * k) bytes, ← drop-drop (w * k) w bytes, append_assoc (take w bytes) (take (w * k) rest) (entry ++ drop w (drop (w * k) rest)))
    (entries_of-cons w n (take w bytes) (take (w * k) rest ++ (entry ++ drop w (drop (w * k) rest))) first
    ∙ ap (λ (es : List (List ℕ)). take w bytes ∷ es) (entries_of-set w n k rest entry (omega arith) (omega (arith, length-drop w bytes)) wide))

-- one piece more
entries_of-more : (w n : ℕ) (bytes : List ℕ) → entries_of w (suc n) bytes ≡ entries_of w n bytes ++ take w (drop (w * n) bytes) ∷ []
unfolding entries_of
entries_of-more w zero bytes = let none : w * 0 ≡ 0 = omega arith in rw none refl
entries_of-more w (suc n) bytes =
    let more : w * suc n ≡ w + w * n = omega arith in
    rw (more, ← drop-drop (w * n) w bytes) (ap (λ (es : List (List ℕ)). take w bytes ∷ es) (entries_of-more w n (drop w bytes)))

-- a write behind the last entry that is counted adds an entry
pub entries_of-push : (w n : ℕ) (bytes entry : List ℕ) → w * n + w ≤ length bytes → length entry ≡ w
    → entries_of w (n + 1) (take (w * n) bytes ++ (entry ++ drop w (drop (w * n) bytes))) ≡ entries_of w n bytes ++ entry ∷ []
entries_of-push w n bytes entry fits wide =
    rw add-one
    (entries_of-set w (suc n) n bytes entry (omega arith) (omega arith) wide
    ∙ ap (λ (es : List (List ℕ)). set es n entry) (entries_of-more w n bytes)
    ∙ set_at (entries_of w n bytes) (take w (drop (w * n) bytes)) [] entry n (length-entries_of w n bytes))

-- the pieces joined are the bytes that they were cut from
pub concat-entries_of : (w n : ℕ) (bytes : List ℕ) → concat (entries_of w n bytes) ≡ take (w * n) bytes
unfolding entries_of
concat-entries_of w zero bytes = let none : w * 0 ≡ 0 = omega arith in rw none refl
concat-entries_of w (suc n) bytes =
    let more : w * suc n ≡ w + w * n = omega arith in
    rw (more, take-add w (w * n) bytes) (ap (λ (xs : List ℕ). take w bytes ++ xs) (concat-entries_of w n (drop w bytes)))

-- each piece has the width
pub All-entries_of : (w n : ℕ) (bytes : List ℕ) → w * n ≤ length bytes → All (λ entry. length entry ≡ w) (entries_of w n bytes)
unfolding entries_of
All-entries_of w zero bytes h = All-nil (λ (entry : List ℕ). length entry ≡ w)
All-entries_of w (suc n) bytes h =
    let more : w * suc n ≡ w + w * n = omega arith in
    All-cons (λ (entry : List ℕ). length entry ≡ w) (take w bytes) (entries_of w n (drop w bytes)) (length-take-le w bytes (omega arith)) (All-entries_of w n (drop w bytes) (omega (arith, length-drop w bytes)))

-- joined entries are cut into the same entries again
entries_of-concat : (w : ℕ) (entries : List (List ℕ)) (rest : List ℕ) → All (λ entry. length entry ≡ w) entries
    → entries_of w (length entries) (concat entries ++ rest) ≡ entries
unfolding entries_of
entries_of-concat w [] rest wide = refl
entries_of-concat w (e ∷ es) rest wide =
    rw (append_assoc e (concat es) rest)
    (entries_of-cons w (length es) e (concat es ++ rest) (All-head (λ (entry : List ℕ). length entry ≡ w) e es wide)
    ∙ ap (λ (xs : List (List ℕ)). e ∷ xs) (entries_of-concat w es rest (All-tail (λ (entry : List ℕ). length entry ≡ w) e es wide)))

-- there is never room for more entries than the header can count
pub room_of-le : (w : ℕ) → room_of w ≤ 4032
room_of-le w = div-le_self 4032 w

-- the four parts that are looked at, in bytes that are written one behind the other
read_parts : (n word : ℕ) (a d e f : List ℕ) → length a ≡ 8 → length d ≡ 48 → n < 256 ^ 4 → word < 256 ^ 4
    → (let bytes = a ++ bytes_of 4 n ++ bytes_of 4 word ++ d ++ e ++ f in
    (take 8 bytes ≡ a) × (number_at 4 bytes 8 ≡ n) × (number_at 4 bytes 12 ≡ word) × (drop 64 bytes ≡ e ++ f))
read_parts n word a d e f eight long small fits =
    let b = bytes_of 4 n in
    let c = bytes_of 4 word in
    let b_long : length b ≡ 4 = length-bytes_of 4 n in
    let c_long : length c ≡ 4 = length-bytes_of 4 word in
    let head : length (a ++ b) ≡ 12 = length-append a b ∙ omega arith in
    let header : length (a ++ b ++ c ++ d) ≡ 64 = simp length-append (omega arith) in
    let at_magic : a ++ b ++ c ++ d ++ e ++ f ≡ a ++ (b ++ (c ++ (d ++ (e ++ f)))) = simp append_assoc in
    let at_count : a ++ b ++ c ++ d ++ e ++ f ≡ (a ++ b) ++ (c ++ (d ++ (e ++ f))) = simp append_assoc in
    let at_word : a ++ b ++ c ++ d ++ e ++ f ≡ ((a ++ b) ++ c) ++ (d ++ (e ++ f)) = simp append_assoc in (
      ap (take 8) at_magic ∙ take_at a (b ++ (c ++ (d ++ (e ++ f)))) 8 eight,
      ap (λ (xs : List ℕ). number_at 4 xs 8) at_count ∙ number_at-written 4 n 8 a (c ++ (d ++ (e ++ f))) (sym eight) small,
      ap (λ (xs : List ℕ). number_at 4 xs 12) at_word ∙ number_at-written 4 word 12 (a ++ b) (d ++ (e ++ f)) (sym head) fits,
      ap (drop 64) (append_assoc (a ++ b ++ c ++ d) e f) ∙ drop_at (a ++ b ++ c ++ d) (e ++ f) 64 header,
    )

-- what is written reads back
pub packing_of-packed_bytes : (w : ℕ) (p : Packing) → IsPacking w p → packing_of w (packed_bytes w p) ≡ p
unfolding packed_bytes
packing_of-packed_bytes w p fits =
    let n = length p.entries in
    let rest = zeros (4032 - w * n) in
    let below = room_of-le w in
    let parts = read_parts n p.word p.magic (zeros 48) (concat p.entries) rest fits.magic (length-zeros 48) (omega (arith, fits.room)) fits.word in
    rw (parts.0, parts.1, parts.2, parts.3, entries_of-concat w p.entries rest fits.wide) refl

-- and it has the magic, and no more entries than there is room for
pub IsPacked-packed_bytes : (w : ℕ) (p : Packing) → IsPacking w p → IsPacked w p.magic (packed_bytes w p)
unfolding packed_bytes
IsPacked-packed_bytes w p fits =
    let below = room_of-le w in
    let parts = read_parts (length p.entries) p.word p.magic (zeros 48) (concat p.entries) (zeros (4032 - w * length p.entries)) fits.magic (length-zeros 48) (omega (arith, fits.room)) fits.word in
    (parts.0, rw (parts.1) fits.room)

-- entry k of a block is the piece of its bytes from byte 64 + w * k on
pub slice_get-entries : (w k : ℕ) (bytes : List ℕ) → k < u32_at bytes 8
    → slice_get (packing_of w bytes).entries k ≡ Some (take w (drop (64 + w * k) bytes))
slice_get-entries w k bytes h =
    slice_get-entries_of w (u32_at bytes 8) k (drop 64 bytes) h ∙ ap (λ (xs : List ℕ). Some (take w xs)) (drop-drop (w * k) 64 bytes)

-- number k of a block with entries of four bytes stands at byte 64 + 4 * k
pub slice_index-numbers : (k : ℕ) (bytes : List ℕ) → k < u32_at bytes 8
    → slice_index (numbers (packing_of 4 bytes)) k ≡ u32_at bytes (64 + 4 * k)
slice_index-numbers k bytes h =
    let long = length-entries_of 4 (u32_at bytes 8) (drop 64 bytes) in
    get_or-map (λ (entry : List ℕ). u32_at entry 0) (packing_of 4 bytes).entries k [] 0 (omega arith)
    ∙ ap (λ (entry : List ℕ). u32_at entry 0) (get_or_from_slice_get (packing_of 4 bytes).entries k (take 4 (drop (64 + 4 * k) bytes)) [] (slice_get-entries 4 k bytes h))
    ∙ number_at-take 4 4 0 (drop (64 + 4 * k) bytes) (omega arith)
    ∙ number_at-drop 4 0 (64 + 4 * k) bytes
    ∙ ap (u32_at bytes) (omega arith)

-- and it is that number in the bytes that are written
pub u32_at-packed_bytes : (k : ℕ) (p : Packing) → IsPacking 4 p → k < length p.entries
    → u32_at (packed_bytes 4 p) (64 + 4 * k) ≡ slice_index (numbers p) k
u32_at-packed_bytes k p fits h =
    let reads = packing_of-packed_bytes 4 p fits in
    let counted : u32_at (packed_bytes 4 p) 8 ≡ length p.entries =
    sym (length-entries_of 4 (u32_at (packed_bytes 4 p) 8) (drop 64 (packed_bytes 4 p))) ∙ ap (λ (q : Packing). length q.entries) reads in
    sym (slice_index-numbers k (packed_bytes 4 p) (omega arith)) ∙ ap (λ (q : Packing). slice_index (numbers q) k) reads
