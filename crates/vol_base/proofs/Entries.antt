-- What the calls of a packed block do to its entries, over plain lists.
use Rattle.std.proofs.Common.{◌≡◌, ◌<◌, ◌≤◌, ◌+◌, ◌-◌, ◌*◌, ◌^◌, ℕ, List, [], ◌∷◌, ◌++◌, Some, length, set, take, drop, refl, sym, subst, ap, ◌∙◌, arith, length-drop, length-take-le}
use Rattle.std.specs.Prelude.{slice_get}
use borrow.Rule.Slice.PartMut.{mid_of, put_mid}
use Rattle.vol_base.specs.Bytes.{bytes_of, zeros}
use Rattle.vol_base.specs.Packing.{IsPacking, Packing, entries_of, packed_bytes, room_of}
use Rattle.vol_base.specs.laws.PackingLaws.{All-entries_of, concat-entries_of, entries_fit, entries_of-push, entries_of-set, length-entries_of, slice_get-entries_of}

-- the count is the number of entries that are seen
pub entry_count : (w n : ℕ) (bytes : List ℕ) (entries : List (List ℕ)) → entries_of w n bytes ≡ entries → n ≡ length entries
entry_count w n bytes entries seen = sym (length-entries_of w n bytes) ∙ ap length seen

-- a packed block's fields stand for what fits one
pub is_packing : (w n : ℕ) (magic bytes : List ℕ) (word : ℕ) (p : Packing)
    → (let q : Packing = record { magic = magic; word = word; entries = entries_of w n bytes } in q ≡ p)
    → n ≤ room_of w → length magic ≡ 8 → length bytes ≡ 4032 → word < 2 ^ 32 → IsPacking w p
is_packing w n magic bytes word p seen room eight all small =
    let fields : Packing = record { magic = magic; word = word; entries = entries_of w n bytes } in
    let fits : IsPacking w fields = record {
      magic = eight;
      word = small;
      room = rw (length-entries_of w n bytes) room;
      wide = All-entries_of w n bytes (omega (arith, entries_fit w n room));
    } in
    subst (IsPacking w) seen fits

-- other entries in the same packing
pub with_entries : (p q : Packing) (old new : List (List ℕ)) → p ≡ q → old ≡ new
    → (let before : Packing = record p { entries = old } in let after : Packing = record q { entries = new } in before ≡ after)
with_entries p q old new same e =
    ap (λ (r : Packing). let s : Packing = record r { entries = old } in s) same ∙ ap (λ (es : List (List ℕ)). let s : Packing = record q { entries = es } in s) e

-- the bytes that are read are those of the entry
pub entry_read : (w n k at : ℕ) (bytes entry : List ℕ) (entries : List (List ℕ)) → entries_of w n bytes ≡ entries → k < n
    → at ≡ w * k → entry ≡ mid_of at (at + w - at) bytes → slice_get entries k ≡ Some entry
entry_read w n k at bytes entry entries seen h there read =
    let wide : at + w - at ≡ w = omega arith in
    ap (λ (es : List (List ℕ)). slice_get es k) (sym seen)
    ∙ slice_get-entries_of w n k bytes h
    ∙ ap (λ (xs : List ℕ). Some xs)
    (sym (read ∙ ap (λ (m : ℕ). take m (drop at bytes)) wide ∙ ap (λ (m : ℕ). take w (drop m bytes)) there))

-- a piece in the place of an entry, spelled with the place and the width that the laws have
put_at : (w k at : ℕ) (bytes part : List ℕ) → at ≡ w * k
    → put_mid at (at + w - at) bytes part ≡ take (w * k) bytes ++ (part ++ drop w (drop (w * k) bytes))
put_at w k at bytes part there =
    let wide : at + w - at ≡ w = omega arith in
    ap (λ (m : ℕ). put_mid at m bytes part) wide ∙ ap (λ (m : ℕ). put_mid m w bytes part) there

-- a piece that was read has the width
mid_long : (w at : ℕ) (bytes part : List ℕ) → at + w ≤ length bytes → length part ≡ length (mid_of at (at + w - at) bytes) → length part ≡ w
mid_long w at bytes part within long =
    long ∙ length-take-le (at + w - at) (drop at bytes) (omega (arith, length-drop at bytes)) ∙ omega arith

-- a write to an entry's bytes sets that entry
pub entry_written : (w n k at : ℕ) (bytes part entry : List ℕ) (entries : List (List ℕ)) → entries_of w n bytes ≡ entries → k < n
    → n ≤ room_of w
    → length bytes ≡ 4032 → at ≡ w * k → at + w ≤ 4032 → part ≡ entry → length part ≡ length (mid_of at (at + w - at) bytes)
    → entries_of w n (put_mid at (at + w - at) bytes part) ≡ set entries k entry
entry_written w n k at bytes part entry entries seen h room all there within same long =
    ap (entries_of w n) (put_at w k at bytes part there)
    ∙ entries_of-set w n k bytes part h (omega (arith, entries_fit w n room)) (mid_long w at bytes part (omega arith) long)
    ∙ ap (λ (es : List (List ℕ)). set es k part) seen
    ∙ ap (set entries k) same

-- a write behind the entries, with one more counted, adds an entry
pub entry_added : (w n at : ℕ) (bytes part entry : List ℕ) (entries : List (List ℕ)) → entries_of w n bytes ≡ entries
    → length bytes ≡ 4032 → at ≡ w * n → at + w ≤ 4032 → part ≡ entry → length part ≡ length (mid_of at (at + w - at) bytes)
    → entries_of w (n + 1) (put_mid at (at + w - at) bytes part) ≡ entries ++ entry ∷ []
entry_added w n at bytes part entry entries seen all there within same long =
    ap (entries_of w (n + 1)) (put_at w n at bytes part there)
    ∙ entries_of-push w n bytes part (omega arith) (mid_long w at bytes part (omega arith) long)
    ∙ ap (λ (es : List (List ℕ)). es ++ part ∷ []) seen
    ∙ ap (λ (xs : List ℕ). entries ++ xs ∷ []) same

-- the pieces that a packed block is written in
pub pieces_written : (w n word : ℕ) (magic bytes header padded whole result : List ℕ) → n ≤ room_of w → length bytes ≡ 4032
    → header ≡ magic ++ bytes_of 4 n ++ bytes_of 4 word → length header ≡ 16 → padded ≡ header ++ zeros (64 - length header)
    → length padded ≡ 64
    → whole ≡ padded ++ take (w * n) bytes → length whole ≡ length padded + length (take (w * n) bytes)
    → result ≡ whole ++ zeros (4096 - length whole)
    → result ≡ packed_bytes w (let p : Packing = record { magic = magic; word = word; entries = entries_of w n bytes } in p)
unfolding packed_bytes
pieces_written w n word magic bytes header padded whole result room all h sixteen p front_long q whole_long r =
    let front : padded ≡ header ++ zeros 48 = p ∙ ap (λ (m : ℕ). header ++ zeros (64 - m)) sixteen in
    let written : whole ≡ magic ++ bytes_of 4 n ++ bytes_of 4 word ++ zeros 48 ++ take (w * n) bytes =
    q ∙ ap (λ (xs : List ℕ). xs ++ take (w * n) bytes) (front ∙ ap (λ (xs : List ℕ). xs ++ zeros 48) h) in
    let entries_long = length-take-le (w * n) bytes (omega (arith, entries_fit w n room)) in
    let rest : 4096 - length whole ≡ 4032 - w * n = omega arith in
    r
    ∙ ap (λ (m : ℕ). whole ++ zeros m) rest
    ∙ ap (λ (xs : List ℕ). xs ++ zeros (4032 - w * n)) written
    ∙ rw (length-entries_of w n bytes, concat-entries_of w n bytes) refl
