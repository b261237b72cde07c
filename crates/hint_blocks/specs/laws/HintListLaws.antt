-- What is kept of a block's entries reads as the same hints.
use Rattle.std.proofs.Common.{◌≡◌, ◌<◌, ◌≤◌, ◌+◌, ℕ, zero, suc, List, [], ◌∷◌, ◌++◌, true, false, not, Some, None, Option, length, refl, sym, ap, ◌∙◌, arith, drop, map, take, subst, zero-le, suc-le-suc}
use Rattle.std.specs.Prelude.{All, IfSome, option_map, slice_get, nat_le, nat_lt}
use Rattle.std.specs.List.{filter_map, cons_option}
use Rattle.std.specs.Str.{bytes_eq}
use Rattle.std.proofs.lemmas.List.{append-nil, take_more}
use Rattle.std.proofs.lemmas.List.Elements.{All-cons, All-head, All-nil, All-tail, filter-append, filter_map-append}
use Rattle.std.specs.Option.{option_to_list}
use Rattle.std.proofs.lemmas.List.Filters.{length-filter_both}
use Rattle.std.proofs.lemmas.Bool.{and_from, and_parts, cond-false, cond-true, false_from_ne_true, le-leb, le-ltb, leb-true, lt-ltb}
use Rattle.std.proofs.lemmas.Option.{get_or_from_slice_get, none-some, same_Some, slice_get_within}
use Rattle.std.proofs.lemmas.Slice.Eq.{bytes_eq-Decides}
use Rattle.vol_base.specs.Bytes.{u32_at}
use Rattle.vol_base.specs.Packing.{IsPacked, Packing, packing_of, room_of}
use Rattle.hint_blocks.specs.HintLists.{hints_in, is_hint_block, pushed_over, without}

-- the piece is the spelling of the hint that it reads as
abbrev pub IsSpelling : {T : Type 0} → (List ℕ → Option T) → (T → List ℕ) → List ℕ → Type 0
IsSpelling read bytes entry = option_map bytes (read entry) ≡ Some entry

-- the element at a place
All-slice_get : {X : Type 0} (P : X → Type 0) (xs : List X) (k : ℕ) (x : X) → All P xs → slice_get xs k ≡ Some x → P x
All-slice_get P xs k x all h = subst P (get_or_from_slice_get xs k x x h) (all k x (slice_get_within xs k x h))

pub take_more_get : {X : Type 0} (xs : List X) (k : ℕ) (x : X) → slice_get xs k ≡ Some x → take (k + 1) xs ≡ take k xs ++ x ∷ []
take_more_get xs k x h =
    take_more xs k x (slice_get_within xs k x h) ∙ ap (λ y. take k xs ++ y ∷ []) (get_or_from_slice_get xs k x x h)

length-cons_option : {T : Type 0} (o : Option T) (xs : List T) (n : ℕ) → length xs ≤ n → length (cons_option o xs) ≤ suc n
length-cons_option None xs n h = omega arith
length-cons_option (Some x) xs n h = suc-le-suc h

-- the hint that is spelled
spelled_hint : {T : Type 0} (bytes : T → List ℕ) (o : Option T) (entry : List ℕ) → option_map bytes o ≡ Some entry
    → (hint : T) × (o ≡ Some hint) × (bytes hint ≡ entry)
spelled_hint bytes None entry h = cc
spelled_hint bytes (Some hint) entry h = (hint, refl, same_Some (bytes hint) entry h)

pub length-filter_map : {T : Type 0} (read : List ℕ → Option T) (bytes : T → List ℕ) (es : List (List ℕ)) → All (IsSpelling read bytes) es
    → length (filter_map read es) ≡ length es
length-filter_map read bytes [] all = refl
length-filter_map read bytes (e ∷ es) all =
    let first = spelled_hint bytes (read e) e (All-head (IsSpelling read bytes) e es all) in
    rw (first.1) (ap suc (length-filter_map read bytes es (All-tail (IsSpelling read bytes) e es all)))

pub map-filter_map : {T : Type 0} (read : List ℕ → Option T) (bytes : T → List ℕ) (es : List (List ℕ)) → All (IsSpelling read bytes) es
    → map bytes (filter_map read es) ≡ es
map-filter_map read bytes [] all = refl
map-filter_map read bytes (e ∷ es) all =
    let first = spelled_hint bytes (read e) e (All-head (IsSpelling read bytes) e es all) in
    let rest = map-filter_map read bytes es (All-tail (IsSpelling read bytes) e es all) in
    rw (first.1, first.2, rest) refl

pub slice_get-filter_map : {T : Type 0} (read : List ℕ → Option T) (bytes : T → List ℕ) (es : List (List ℕ)) (k : ℕ) (e : List ℕ)
    → All (IsSpelling read bytes) es → slice_get es k ≡ Some e
    → slice_get (filter_map read es) k ≡ read e
slice_get-filter_map read bytes [] k e all h = cc
slice_get-filter_map read bytes (x ∷ es) zero e all h =
    let first = spelled_hint bytes (read x) x (All-head (IsSpelling read bytes) x es all) in
    let same : x ≡ e = same_Some x e h in
    rw (first.1) (sym first.1 ∙ ap read same)
slice_get-filter_map read bytes (x ∷ es) (suc k) e all h =
    let first = spelled_hint bytes (read x) x (All-head (IsSpelling read bytes) x es all) in
    rw (first.1) (slice_get-filter_map read bytes es k e (All-tail (IsSpelling read bytes) x es all) h)

-- no piece is left out
pub spelled_is_read : {T : Type 0} (read : List ℕ → Option T) (bytes : T → List ℕ) (es : List (List ℕ)) (k : ℕ) (e : List ℕ)
    → All (IsSpelling read bytes) es → slice_get es k ≡ Some e → read e ≡ None → ⊥
spelled_is_read read bytes es k e all h none =
    let here : IsSpelling read bytes e = All-slice_get (IsSpelling read bytes) es k e all h in
    let found = spelled_hint bytes (read e) e here in
    none-some (found.0) (sym none ∙ found.1)

-- one piece more
cons_option-nil : {T : Type 0} (o : Option T) → cons_option o [] ≡ option_to_list o
cons_option-nil None = refl
cons_option-nil (Some x) = refl

pub filter_map-more : {T : Type 0} (read : List ℕ → Option T) (es : List (List ℕ)) (k : ℕ) (e : List ℕ) → slice_get es k ≡ Some e
    → filter_map read (take (k + 1) es) ≡ filter_map read (take k es) ++ option_to_list (read e)
filter_map-more read es k e h =
    ap (filter_map read) (take_more_get es k e h)
    ∙ filter_map-append read (take k es) (e ∷ [])
    ∙ ap (λ (xs : List _). filter_map read (take k es) ++ xs) (cons_option-nil (read e))

pub length-filter_map-le : {T : Type 0} (read : List ℕ → Option T) (es : List (List ℕ)) → length (filter_map read es) ≤ length es
length-filter_map-le read [] = zero-le
length-filter_map-le read (e ∷ es) = length-cons_option (read e) (filter_map read es) (length es) (length-filter_map-le read es)

-- what is known of all that is read
All-cons_option : {T : Type 0} (P : T → Type 0) (o : Option T) (xs : List T) → IfSome o P → All P xs → All P (cons_option o xs)
All-cons_option P None xs h all = all
All-cons_option P (Some x) xs h all = All-cons P x xs h all

pub All-filter_map : {T : Type 0} (read : List ℕ → Option T) (P : T → Type 0) → ((e : List ℕ) → IfSome (read e) P) → (es : List (List ℕ))
    → All P (filter_map read es)
All-filter_map read P h [] = All-nil P
All-filter_map read P h (e ∷ es) = All-cons_option P (read e) (filter_map read es) (h e) (All-filter_map read P h es)

-- the test of a block of hints
is_packed : (magic bytes : List ℕ) → is_hint_block magic bytes ≡ true → IsPacked 32 magic bytes
is_packed magic bytes h =
    let parts = and_parts (bytes_eq (take 8 bytes) magic) (nat_le (u32_at bytes 8) (room_of 32)) h in
    ((bytes_eq-Decides (take 8 bytes) magic).0 parts.0, leb-true (u32_at bytes 8) (room_of 32) parts.1)

-- a block of hints, and one that is none
pub hints_in-packed : {T : Type 0} (magic bytes : List ℕ) (read : List ℕ → Option T) → IsPacked 32 magic bytes
    → hints_in magic read bytes ≡ filter_map read (packing_of 32 bytes).entries
unfolding hints_in
hints_in-packed magic bytes read h =
    let same : bytes_eq (take 8 bytes) magic ≡ true = (bytes_eq-Decides (take 8 bytes) magic).1 h.0 in
    let few : nat_le (u32_at bytes 8) (room_of 32) ≡ true = le-leb (u32_at bytes 8) (room_of 32) h.1 in
    cond-true (is_hint_block magic bytes) (filter_map read (packing_of 32 bytes).entries) [] (and_from _ _ same few)

pub hints_in-other : {T : Type 0} (magic bytes : List ℕ) (read : List ℕ → Option T) → (IsPacked 32 magic bytes → ⊥)
    → hints_in magic read bytes ≡ []
unfolding hints_in
hints_in-other magic bytes read h =
    cond-false (is_hint_block magic bytes) (filter_map read (packing_of 32 bytes).entries) [] (false_from_ne_true (is_hint_block magic bytes) (λ e. h (is_packed magic bytes e)))

-- a packed block by its parts
pub packing_parts : (p : Packing) (magic : List ℕ) (es : List (List ℕ)) → p.magic ≡ magic → p.word ≡ 0 → p.entries ≡ es
    → (let q : Packing = record { magic = magic; word = 0; entries = es } in p ≡ q)
packing_parts p magic es a b c = rw (← a, ← b, ← c) refl

-- one hint more that is of the digest, or of another
without-more : {T : Type 0} (digest_bytes : T → List ℕ) (digest : List ℕ) (xs : List T) (k : ℕ) (x : T) → slice_get xs k ≡ Some x
    → without digest_bytes digest (take (k + 1) xs) ≡ without digest_bytes digest (take k xs) ++ without digest_bytes digest (x ∷ [])
without-more digest_bytes digest xs k x h =
    ap (without digest_bytes digest) (take_more_get xs k x h) ∙ filter-append (λ y. not (bytes_eq (digest_bytes y) digest)) (take k xs) (x ∷ [])

pub without-other : {T : Type 0} (digest_bytes : T → List ℕ) (digest : List ℕ) (xs : List T) (k : ℕ) (x : T) → slice_get xs k ≡ Some x
    → bytes_eq (digest_bytes x) digest ≡ false
    → without digest_bytes digest (take (k + 1) xs) ≡ without digest_bytes digest (take k xs) ++ x ∷ []
without-other digest_bytes digest xs k x h other = without-more digest_bytes digest xs k x h ∙ rw other refl

pub without-same : {T : Type 0} (digest_bytes : T → List ℕ) (digest : List ℕ) (xs : List T) (k : ℕ) (x : T) → slice_get xs k ≡ Some x
    → bytes_eq (digest_bytes x) digest ≡ true
    → without digest_bytes digest (take (k + 1) xs) ≡ without digest_bytes digest (take k xs)
without-same digest_bytes digest xs k x h same =
    without-more digest_bytes digest xs k x h ∙ rw same (append-nil (without digest_bytes digest (take k xs)))

pub length-without : {T : Type 0} (digest_bytes : T → List ℕ) (digest : List ℕ) (xs : List T)
    → length (without digest_bytes digest xs) ≤ length xs
length-without digest_bytes digest xs =
    let both = length-filter_both (λ y. not (bytes_eq (digest_bytes y) digest)) (λ y. not (not (bytes_eq (digest_bytes y) digest))) (λ _. refl) xs in
    omega arith

-- a push where there is room, and where there is none
pub pushed_over-room : {T : Type 0} (room : ℕ) (xs : List T) (x : T) → length xs < room → pushed_over room xs x ≡ xs ++ x ∷ []
pushed_over-room room xs x h = ap (λ ys. ys ++ x ∷ []) (cond-true (nat_lt (length xs) room) xs (drop 1 xs) (lt-ltb (length xs) room h))

pub pushed_over-full : {T : Type 0} (room : ℕ) (xs : List T) (x : T) → room ≤ length xs → pushed_over room xs x ≡ drop 1 xs ++ x ∷ []
pushed_over-full room xs x h = ap (λ ys. ys ++ x ∷ []) (cond-false (nat_lt (length xs) room) xs (drop 1 xs) (le-ltb (length xs) room h))
