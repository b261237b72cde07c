-- Entries of a block, one after the other.
use Rattle.std.proofs.Common.{◌≡◌, ◌+◌, ◌≤◌, ◌++◌, ℕ, suc, List, [], ◌∷◌, Some, ap, append_assoc, arith, length, length-append, length-take-le, refl, sym, take, ◌∙◌}
use Rattle.std.specs.Prelude.{slice_get}
use Rattle.hint_blocks.specs.declared.entry.LogEntry.{LogEntry}
use Rattle.hint_blocks.specs.laws.HintListLaws.{take_more_get}
use Rattle.merge_shelves.specs.Rooms.{noted_from}
use Rattle.merge_shelves.specs.declared.room.Noted.{Noted}

pub long : (place : ℕ) (entries : List LogEntry) → length (noted_from place entries) ≡ length entries
unfolding noted_from
long place [] = refl
long place (e ∷ es) = ap suc (long (place + 1) es)

last : (place : ℕ) (entries : List LogEntry) (e : LogEntry)
    → noted_from place (entries ++ e ∷ []) ≡ noted_from place entries ++ record { entry = e; place = place + length entries } ∷ []
unfolding noted_from
last place [] e =
    let same : place ≡ place + 0 = omega arith in
    ap (λ (p : ℕ). let n : Noted = record { entry = e; place = p } in n ∷ []) same
last place (x ∷ xs) e =
    let same : place + 1 + length xs ≡ place + suc (length xs) = omega arith in
    let one : Noted = record { entry = x; place = place } in
    ap (λ (ns : List Noted). one ∷ ns) (last (place + 1) xs e)
    ∙ ap (λ (p : ℕ). let n : Noted = record { entry = e; place = p } in one ∷ noted_from (place + 1) xs ++ n ∷ []) same

pub one_more : (place : ℕ) (entries : List LogEntry) (k : ℕ) (e : LogEntry) → slice_get entries k ≡ Some e → k ≤ length entries
    → noted_from place (take (k + 1) entries) ≡ noted_from place (take k entries) ++ record { entry = e; place = place + k } ∷ []
one_more place entries k e at le =
    let many : length (take k entries) ≡ k = length-take-le k entries le in
    ap (noted_from place) (take_more_get entries k e at)
    ∙ last place (take k entries) e
    ∙ ap (λ (j : ℕ). let n : Noted = record { entry = e; place = place + j } in noted_from place (take k entries) ++ n ∷ []) many

-- the same behind others
pub behind : (others : List Noted) (place : ℕ) (entries : List LogEntry) (k : ℕ) (e : LogEntry) (now after : List Noted) (n : Noted)
    → slice_get entries k ≡ Some e → k ≤ length entries → now ≡ others ++ noted_from place (take k entries)
    → n ≡ record { entry = e; place = place + k } → after ≡ now ++ n ∷ []
    → after ≡ others ++ noted_from place (take (k + 1) entries)
behind others place entries k e now after n at le is one more =
    more ∙ ap (λ (ns : List Noted). ns ++ n ∷ []) is
    ∙ ap (λ (m : Noted). (others ++ noted_from place (take k entries)) ++ m ∷ []) one
    ∙ append_assoc others (noted_from place (take k entries)) _
    ∙ ap (λ (ns : List Noted). others ++ ns) (sym (one_more place entries k e at le))

-- how many there are then
pub many : (others : List Noted) (place : ℕ) (entries : List LogEntry) (k : ℕ) (now : List Noted)
    → k ≤ length entries → now ≡ others ++ noted_from place (take k entries) → length now ≡ length others + k
many others place entries k now le is =
    ap length is ∙ length-append others (noted_from place (take k entries))
    ∙ ap (λ (j : ℕ). length others + j) (long place (take k entries) ∙ length-take-le k entries le)
