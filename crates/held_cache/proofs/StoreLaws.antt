-- What a store of tables keeps when a table is put, is put at a new place, or is taken away.
use Rattle.std.proofs.Common.{◌≡◌, ◌≢◌, ◌<◌, ◌≤◌, ◌+◌, ◌⊎◌, inl, inr, zero, suc, ℕ, List, [], ◌∷◌, ◌++◌, Option, Some, None, cond, refl, sym, ap, ◌∙◌, arith, length, get_or, set, length-set, replicate, subst}
use Rattle.std.specs.Prelude.{count_by, is_some}
use Rattle.std.proofs.lemmas.Bool.{cases_eq, cases_lt}
use Rattle.std.proofs.lemmas.List.{ext_get_or, get_or-map, get_or-set_other, get_or-set_same, get_or_append_left, get_or_past, get_or_push, get_or_read, length-map, length-replicate, length_push, set-get_or}
use Rattle.std.proofs.lemmas.Option.{none-some, same_Some}
use Rattle.std.proofs.lemmas.List.Sums.{count_by-le-length, sum_by-set}
use Rattle.vol_base.specs.Packing.{Packing}
use Rattle.held_cache.specs.Stored.{ClearsRange, IsStored, position_of, stored, table_at}

-- what a place has
pub stored-at : (P : List (Option ℕ)) (T : List (Option Packing)) (i : ℕ) → get_or (stored P T) i None ≡ table_at T (position_of P i)
stored-at P T i =
    elim (cases_lt i (length P)) [
      | inl within ↦ get_or-map (table_at T) P i None None within
      | inr past ↦
          let long : length (stored P T) ≤ i = omega (arith, length-map P (table_at T)) in
          get_or_past (stored P T) i None long ∙ sym (ap (table_at T) (get_or_past P i None past))
    ]

-- two stores that have the same at each place
same : (P Q : List (Option ℕ)) (T : List (Option Packing)) (all : List (Option Packing))
    → length Q ≡ length all → ((i : ℕ) → i < length Q → table_at T (position_of Q i) ≡ get_or all i None) → stored Q T ≡ all
same P Q T all long each =
    let count = length-map Q (table_at T) in
    ext_get_or None (stored Q T) all (count ∙ long) (λ i within. stored-at Q T i ∙ each i (omega arith))

-- a position that the change does not touch
elsewhere : (T : List (Option Packing)) (n : ℕ) (table : Option Packing) (o : Option ℕ) → ((m : ℕ) → o ≡ Some m → m ≡ n → ⊥)
    → table_at (set T n table) o ≡ table_at T o
elsewhere T n table None apart = refl
elsewhere T n table (Some m) apart = get_or-set_other T n m table None (apart m refl)

-- a table in the place of another
pub stored-put : (P : List (Option ℕ)) (T : List (Option Packing)) (capacity place n : ℕ) (table : Option Packing)
    → IsStored P T capacity → position_of P place ≡ Some n → stored P (set T n table) ≡ set (stored P T) place table
stored-put P T capacity place n table is at =
    let within : n < length T = is.inside place n at in
    let all = set (stored P T) place table in
    let long : length P ≡ length all = sym (length-set (stored P T) place table ∙ length-map P (table_at T)) in
    same P P (set T n table) all long (λ i below.
    elim (cases_eq i place) [
      | inl here ↦
          let place_within : place < length (stored P T) = omega (arith, length-map P (table_at T)) in
          ap (λ (k : ℕ). table_at (set T n table) (position_of P k)) here
          ∙ ap (table_at (set T n table)) at
          ∙ get_or-set_same T n table None within
          ∙ sym (get_or-set_same (stored P T) place table None place_within)
          ∙ sym (ap (λ (k : ℕ). get_or all k None) here)
      | inr other ↦
          elsewhere T n table (position_of P i) (λ m e. λ clash. other (is.apart i place n (e ∙ ap Some clash) at))
          ∙ sym (stored-at P T i)
          ∙ sym (get_or-set_other (stored P T) place i table None other)
    ])

-- a position that stood before another table came behind the last one
before_push : (T : List (Option Packing)) (table : Option Packing) (o : Option ℕ) → ((m : ℕ) → o ≡ Some m → m < length T)
    → table_at (T ++ table ∷ []) o ≡ table_at T o
before_push T table None inside = refl
before_push T table (Some m) inside = get_or_append_left T (table ∷ []) None m (inside m refl)

-- the first table of a place
pub stored-push : (P : List (Option ℕ)) (T : List (Option Packing)) (capacity place : ℕ) (table : Option Packing)
    → IsStored P T capacity → place < length P → stored (set P place (Some (length T))) (T ++ table ∷ []) ≡ set (stored P T) place table
stored-push P T capacity place table is within =
    let all = set (stored P T) place table in
    let Q = set P place (Some (length T)) in
    let long : length Q ≡ length all = length-set P place (Some (length T)) ∙ sym (length-set (stored P T) place table ∙ length-map P (table_at T)) in
    same P Q (T ++ table ∷ []) all long (λ i below.
    elim (cases_eq i place) [
      | inl here ↦
          let place_within : place < length (stored P T) = omega (arith, length-map P (table_at T)) in
          ap (λ (k : ℕ). table_at (T ++ table ∷ []) (position_of Q k)) here
          ∙ ap (table_at (T ++ table ∷ [])) (get_or-set_same P place (Some (length T)) None within)
          ∙ get_or_push T table None (length T) refl
          ∙ sym (get_or-set_same (stored P T) place table None place_within)
          ∙ sym (ap (λ (k : ℕ). get_or all k None) here)
      | inr other ↦
          ap (table_at (T ++ table ∷ [])) (get_or-set_other P place i (Some (length T)) None other)
          ∙ before_push T table (position_of P i) (λ m e. is.inside i m e)
          ∙ sym (stored-at P T i)
          ∙ sym (get_or-set_other (stored P T) place i table None other)
    ])

-- a place without a position has no table
pub stored-none : (P : List (Option ℕ)) (T : List (Option Packing)) (place : ℕ) → position_of P place ≡ None
    → stored P T ≡ set (stored P T) place None
stored-none P T place at =
    sym (set-get_or (stored P T) place None)
    ∙ ap (λ (table : Option Packing). set (stored P T) place table) (stored-at P T place ∙ ap (table_at T) at)

-- what a store keeps when the table at a position changes
pub kept-put : (P : List (Option ℕ)) (T : List (Option Packing)) (capacity n : ℕ) (table : Option Packing) → IsStored P T capacity
    → IsStored P (set T n table) capacity
kept-put P T capacity n table is =
    let long : length (set T n table) ≡ length T = length-set T n table in
    record {
      counted = is.counted ∙ sym long;
      inside = λ place m at. let within = is.inside place m at in omega arith;
      apart = is.apart;
      room = is.room;
    }

-- one place more has a position
count-push : (P : List (Option ℕ)) (place n : ℕ) → place < length P → position_of P place ≡ None
    → count_by is_some (set P place (Some n)) ≡ count_by is_some P + 1
count-push P place n within at =
    let one : Option ℕ → ℕ = λ o. cond (is_some o) 1 0 in
    let sums : count_by is_some (set P place (Some n)) + one (get_or P place None) ≡ count_by is_some P + 1 = sum_by-set one P place (Some n) None within in
    let nothing : one (get_or P place None) ≡ 0 = ap one at in
    omega (arith, sums, nothing)

-- there is room for the first table of a place
pub room-push : (P : List (Option ℕ)) (T : List (Option Packing)) (capacity place : ℕ) → IsStored P T capacity → place < length P
    → position_of P place ≡ None → length T < capacity
room-push P T capacity place is within at =
    let more = count-push P place 0 within at in
    let most = count_by-le-length is_some (set P place (Some 0)) in
    let long : length (set P place (Some 0)) ≡ length P = length-set P place (Some 0) in
    let counted = is.counted in
    let room = is.room in
    omega arith

-- the position of each place, once one has got a new position
position-push : (P : List (Option ℕ)) (T : List (Option Packing)) (capacity place other m : ℕ) → IsStored P T capacity → place < length P
    → position_of (set P place (Some (length T))) other ≡ Some m
    → ((other ≡ place) × (m ≡ length T)) ⊎ (position_of P other ≡ Some m)
position-push P T capacity place other m is within at =
    elim (cases_eq other place) [
      | inl here ↦
          let last : Some (length T) ≡ Some m =
          sym (get_or-set_same P place (Some (length T)) None within) ∙ sym (ap (λ (k : ℕ). position_of (set P place (Some (length T))) k) here) ∙ at in
          inl (here, sym (same_Some (length T) m last))
      | inr apart ↦ inr (sym (get_or-set_other P place other (Some (length T)) None apart) ∙ at)
    ]

-- what a store keeps when a place gets its first table
pub kept-push : (P : List (Option ℕ)) (T : List (Option Packing)) (capacity place : ℕ) (table : Option Packing)
    → IsStored P T capacity → place < length P → position_of P place ≡ None
    → IsStored (set P place (Some (length T))) (T ++ table ∷ []) capacity
kept-push P T capacity place table is within at =
    let Q = set P place (Some (length T)) in
    let longer : length (T ++ table ∷ []) ≡ length T + 1 = length_push T table in
    record {
      counted = count-push P place (length T) within at ∙ ap (λ (n : ℕ). n + 1) is.counted ∙ sym longer;
      inside = λ other m e.
          elim (position-push P T capacity place other m is within e) [
            | inl new ↦ omega (arith, new.1)
            | inr old ↦ omega (arith, is.inside other m old)
          ];
      apart = λ one two m e f.
          elim (position-push P T capacity place one m is within e) [
            | inl new ↦
                elim (position-push P T capacity place two m is within f) [
                  | inl again ↦ new.0 ∙ sym again.0
                  | inr old ↦ absurd (omega (arith, new.1, is.inside two m old))
                ]
            | inr old ↦
                elim (position-push P T capacity place two m is within f) [
                  | inl again ↦ absurd (omega (arith, again.1, is.inside one m old))
                  | inr older ↦ is.apart one two m old older
                ]
          ];
      room = let long : length Q ≡ length P = length-set P place (Some (length T)) in let room = is.room in omega arith;
    }

-- an empty store
pub stored-empty : (places : ℕ) → stored (replicate places None) [] ≡ replicate places None
stored-empty zero = refl
stored-empty (suc n) = ap (λ (xs : List (Option Packing)). None ∷ xs) (stored-empty n)

count-empty : (places : ℕ) → count_by {X = Option ℕ} is_some (replicate places None) ≡ 0
count-empty zero = refl
count-empty (suc n) = count-empty n

position-empty : (places place : ℕ) → position_of (replicate places None) place ≡ None
position-empty zero place = refl
position-empty (suc n) zero = refl
position-empty (suc n) (suc place) = position-empty n place

pub kept-empty : (places capacity : ℕ) → places ≤ capacity → IsStored (replicate places None) [] capacity
kept-empty places capacity room =
    record {
      counted = count-empty places;
      inside = λ place n e. absurd (none-some n (sym (position-empty places place) ∙ e));
      apart = λ place other n e f. absurd (none-some n (sym (position-empty places place) ∙ e));
      room = omega (arith, length-replicate {A = Option ℕ} places None);
    }

-- the position that was read at a place
pub read-position : (P : List (Option ℕ)) (T : List (Option Packing)) (all : List (Option Packing)) (place : ℕ) (o : Option ℕ)
    → stored P T ≡ all → place < length all → o ≡ get_or P place o → (place < length P) × (position_of P place ≡ o)
read-position P T all place o e within read =
    let long = ap length e in
    let inside : place < length P = omega (arith, long, length-map P (table_at T)) in
    (inside, sym (get_or_read P place o inside read None))

-- what is told of a store by its parts, where these are told by other names
pub kept-pushed : (P : List (Option ℕ)) (T after : List (Option Packing)) (capacity now place n : ℕ) (table : Option Packing)
    → n ≡ length T → after ≡ T ++ table ∷ [] → now ≡ capacity
    → IsStored P T capacity → place < length P → position_of P place ≡ None → IsStored (set P place (Some n)) after now
kept-pushed P T after capacity now place n table count pushed same is within at =
    subst (λ (k : ℕ). IsStored (set P place (Some k)) after now) (sym count)
    (subst (λ (tables : List (Option Packing)). IsStored (set P place (Some (length T))) tables now) (sym pushed)
    (subst (λ (room : ℕ). IsStored (set P place (Some (length T))) (T ++ table ∷ []) room) (sym same)
    (kept-push P T capacity place table is within at)))

pub stored-pushed : (P : List (Option ℕ)) (T after all : List (Option Packing)) (capacity place n : ℕ) (table : Option Packing)
    → n ≡ length T → after ≡ T ++ table ∷ [] → stored P T ≡ all
    → IsStored P T capacity → place < length P → stored (set P place (Some n)) after ≡ set all place table
stored-pushed P T after all capacity place n table count pushed e is within =
    ap (λ (k : ℕ). stored (set P place (Some k)) after) count
    ∙ ap (λ (tables : List (Option Packing)). stored (set P place (Some (length T))) tables) pushed
    ∙ stored-push P T capacity place table is within
    ∙ ap (λ (tables : List (Option Packing)). set tables place table) e

pub stored-made : (P : List (Option ℕ)) (T : List (Option Packing)) (places : ℕ) → P ≡ replicate places None → T ≡ []
    → stored P T ≡ replicate places None
stored-made P T places positions tables =
    ap (λ (ps : List (Option ℕ)). stored ps T) positions ∙ ap (stored (replicate places None)) tables ∙ stored-empty places

pub kept-made : (P : List (Option ℕ)) (T : List (Option Packing)) (places capacity : ℕ) → P ≡ replicate places None → T ≡ []
    → places ≤ capacity → IsStored P T capacity
kept-made P T places capacity positions tables room =
    subst (λ (ps : List (Option ℕ)). IsStored ps T capacity) (sym positions)
    (subst (λ (ts : List (Option Packing)). IsStored (replicate places None) ts capacity) (sym tables) (kept-empty places capacity room))

-- one place more was cleared
pub cleared-none : (all : List (Option Packing)) (first : ℕ) → ClearsRange all all first first
cleared-none all first = record { long = refl; cleared = λ place low high. absurd (omega arith); others = λ place out. refl }

pub cleared-more : (old between new : List (Option Packing)) (first at : ℕ) → ClearsRange old between first at → first ≤ at
    → at < length old → new ≡ set between at None → ClearsRange old new first (at + 1)
cleared-more old between new first at clears low within e =
    let inside : at < length between = omega (arith, clears.long) in
    record {
      long = ap length e ∙ length-set between at None ∙ clears.long;
      cleared = λ place from before.
          ap (λ (xs : List (Option Packing)). get_or xs place None) e
          ∙ elim (cases_eq place at) as (λ _. get_or (set between at None) place None ≡ None) [
            | inl here ↦ ap (λ (k : ℕ). get_or (set between at None) k None) here ∙ get_or-set_same between at None None inside
            | inr apart ↦ get_or-set_other between at place None None apart ∙ clears.cleared place from (omega arith)
          ];
      others = λ place out.
          let apart : place ≢ at = elim out [ inl before ↦ λ same. omega arith | inr behind ↦ λ same. omega arith ] in
          let out_before : (place < first) ⊎ (at ≤ place) = elim out [ inl before ↦ inl before | inr behind ↦ inr (omega arith) ] in
          ap (λ (xs : List (Option Packing)). get_or xs place None) e ∙ get_or-set_other between at place None None apart ∙ clears.others place out_before;
    }
