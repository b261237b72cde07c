-- The data blocks that remains name, ascending and each once.
use Rattle.std.proofs.Common.{◌≡◌, ◌≢◌, ◌<◌, ◌≤◌, ◌+◌, ◌&&◌, ◌++◌, ℕ, zero, suc, Bool, true, false, List, [], ◌∷◌, None, Option, Some, inl, inr, refl, subst, arith, length}
use Rattle.std.specs.Prelude.{All, if◌then◌else◌, map, nat_le, nat_lt}
use Rattle.std.specs.Option.{option_to_list}
use Rattle.std.proofs.lemmas.Bool.{cases_eq, cases_lt, eq-eqb, le-leb, leb-true, lt-ltb, ltb-true, ne_eqb, and_parts}
use Rattle.std.proofs.lemmas.Bool.Decides.{nat_tests}
use Rattle.std.proofs.lemmas.List.Elements.{All-cons, All-head, All-tail}
use Rattle.vol_layout.specs.declared.field.Edit.{Edit}
use Rattle.vol_layout.specs.declared.field.Field.TheVariants.{Count}
use Rattle.vol_layout.specs.Edits.{AreApart, touches}
use Rattle.vol_layout.specs.laws.EditLaws.{other_field-is, same_field-refl}
use Rattle.call_effects.specs.Purges.{counted}
use Rattle.call_effects.specs.laws.EachEdit.{all-none, all-weaker}
use Rattle.file_plans.specs.Commits.{blocks_from, bound_behind, lower_of, lowest_from, named_in}
use Rattle.file_plans.specs.declared.remains.Remain.{Remain}

-- how many remains name a data block from a bound upwards
abbrev pub rest : ℕ → List Remain → ℕ
rest from [] = 0
rest from (r ∷ rs) = if nat_le from r.number then rest from rs + 1 else rest from rs

rest_most : (from : ℕ) (rs : List Remain) → rest from rs ≤ length rs
rest_most from [] = omega arith
rest_most from (r ∷ rs) = let more = rest_most from rs in grind (arith, nat_tests, more)

-- behind a data block there are less, by those that name it
rest_less : (from d : ℕ) (rs : List Remain) → from ≤ d → rest (d + 1) rs + named_in rs d ≤ rest from rs
rest_less from d [] low = omega arith
rest_less from d (r ∷ rs) low = let more = rest_less from d rs low in grind (arith, nat_tests, more, low)

-- which data block from a bound upwards is the lowest
pub record IsLowest (from : ℕ) (rs : List Remain) (e : ℕ) : Type 0 where
  pub low : from ≤ e
  pub there : 1 ≤ named_in rs e
  pub least : (d : ℕ) → from ≤ d → 1 ≤ named_in rs d → e ≤ d

abbrev pub IsFirst : ℕ → List Remain → Option ℕ → Type 0
IsFirst from rs None = rest from rs ≡ 0
IsFirst from rs (Some e) = IsLowest from rs e

-- none is there where none is left
none_named : (from d : ℕ) (rs : List Remain) → from ≤ d → rest from rs ≡ 0 → named_in rs d ≡ 0
none_named from d rs low none = let more = rest_less from d rs low in omega (arith, more, none)

test_first : (from : ℕ) (r : Remain) (rs : List Remain) (b : Bool) → nat_le from r.number ≡ b → rest from rs ≡ 0
    → IsFirst from (r ∷ rs) (if b then Some r.number else None)
test_first from r rs true low none = record {
  low = leb-true from r.number low;
  there = let here = eq-eqb r.number r.number refl in rw here (omega arith);
  least = λ d past named. elim (cases_eq r.number d) [
    | inl same ↦ omega (arith, same)
    | inr other ↦ let zero' = none_named from d rs past none in let apart = ne_eqb r.number d other in
        absurd (omega (arith, zero', rw apart at named))
  ];
}
test_first from r rs false high none = rw high none

-- of a remain of another data block
named_later : (r : Remain) (rs : List Remain) (d : ℕ) → r.number ≢ d → 1 ≤ named_in (r ∷ rs) d → 1 ≤ named_in rs d
named_later r rs d other named = let apart = ne_eqb r.number d other in rw apart at named

test_lower : (from e : ℕ) (r : Remain) (rs : List Remain) (b : Bool) → (nat_le from r.number && nat_lt r.number e) ≡ b
    → IsLowest from rs e → IsFirst from (r ∷ rs) (if b then Some r.number else Some e)
test_lower from e r rs true is lowest =
    let both = and_parts (nat_le from r.number) (nat_lt r.number e) is in record {
      low = leb-true from r.number both.0;
      there = let here = eq-eqb r.number r.number refl in rw here (omega arith);
      least = λ d past named. elim (cases_eq r.number d) [
        | inl same ↦ omega (arith, same)
        | inr other ↦ let below = ltb-true r.number e both.1 in let least = lowest.least d past (named_later r rs d other named) in
            omega (arith, below, least)
      ];
    }
test_lower from e r rs false is lowest = record {
  low = lowest.low;
  there = let there = lowest.there in grind (arith, nat_tests, there);
  least = λ d past named. elim (cases_eq r.number d) [
    | inl same ↦ elim (cases_lt d e) [
      | inl below ↦ absurd (let a = le-leb from r.number (omega (arith, same, past)) in
          let b = lt-ltb r.number e (omega (arith, same, below)) in let both : true ≡ false = rw (a, b) at is in cc)
      | inr not_below ↦ not_below
    ]
    | inr other ↦ lowest.least d past (named_later r rs d other named)
  ];
}

step_first : (from : ℕ) (r : Remain) (rs : List Remain) (o : Option ℕ) → IsFirst from rs o
    → IsFirst from (r ∷ rs) (lower_of from r.number o)
step_first from r rs None none = test_first from r rs (nat_le from r.number) refl none
step_first from r rs (Some e) is = test_lower from e r rs (nat_le from r.number && nat_lt r.number e) refl is

pub first_is : (from : ℕ) (rs : List Remain) → IsFirst from rs (lowest_from from rs)
first_is from [] = refl
first_is from (r ∷ rs) = step_first from r rs (lowest_from from rs) (first_is from rs)

-- what holds of the data block of each remain holds of one that a remain names
named_all : (P : ℕ → Type 0) (rs : List Remain) (d : ℕ) → All (λ r. P r.number) rs → 1 ≤ named_in rs d → P d
named_all P [] d all named = absurd (omega (arith, named))
named_all P (r ∷ rs) d all named =
    elim (cases_eq r.number d) [
      | inl same ↦ subst P same (All-head (λ s. P s.number) r rs all)
      | inr other ↦ named_all P rs d (All-tail (λ s. P s.number) r rs all) (named_later r rs d other named)
    ]

-- a remain names its data block
pub each_named : (rs : List Remain) → All (λ r. 1 ≤ named_in rs r.number) rs
each_named [] = all-none (λ r. 1 ≤ named_in [] r.number)
each_named (r ∷ rs) =
    All-cons (λ s. 1 ≤ named_in (r ∷ rs) s.number) r rs (let here = eq-eqb r.number r.number refl in rw here (omega arith))
    (all-weaker (λ s. 1 ≤ named_in rs s.number) (λ s. 1 ≤ named_in (r ∷ rs) s.number) rs (λ s there. grind (arith, nat_tests, there))
    (each_named rs))

-- so of the lowest one
found_lowest : (from : ℕ) (rs : List Remain) (d : ℕ) (o : Option ℕ) → IsFirst from rs o → o ≡ Some d → IsLowest from rs d
found_lowest from rs d None is found = absurd cc
found_lowest from rs d (Some e) is found = let same : e ≡ d = cc in subst (IsLowest from rs) same is

pub lowest_past : (from : ℕ) (rs : List Remain) (d : ℕ) → lowest_from from rs ≡ Some d → from ≤ d
lowest_past from rs d found = (found_lowest from rs d (lowest_from from rs) (first_is from rs) found).low

pub lowest_all : (P : ℕ → Type 0) (from : ℕ) (rs : List Remain) (d : ℕ) → All (λ r. P r.number) rs → lowest_from from rs ≡ Some d → P d
lowest_all P from rs d all found =
    named_all P rs d all (found_lowest from rs d (lowest_from from rs) (first_is from rs) found).there

-- at most so many
step_few : (n m from : ℕ) (o : Option ℕ) (bs : List ℕ) → length bs ≤ n → length (option_to_list o ++ bs) ≤ suc n
step_few n m from None bs few = omega (arith, few)
step_few n m from (Some d) bs few = omega (arith, few)

pub blocks_few : (n from : ℕ) (rs : List Remain) → length (blocks_from n from rs) ≤ n
blocks_few zero from rs = omega arith
blocks_few (suc n) from rs =
    step_few n 0 from (lowest_from from rs) (blocks_from n (bound_behind from (lowest_from from rs)) rs)
    (blocks_few n (bound_behind from (lowest_from from rs)) rs)

-- what holds of the data block of each remain holds of each of them
pub blocks_all : (P : ℕ → Type 0) (n from : ℕ) (rs : List Remain) → All (λ r. P r.number) rs → All P (blocks_from n from rs)
blocks_all P zero from rs all = all-none P
blocks_all P (suc n) from rs all =
    each (lowest_from from rs) refl (blocks_all P n (bound_behind from (lowest_from from rs)) rs all)
  where
    each : (o : Option ℕ) → lowest_from from rs ≡ o → All P (blocks_from n (bound_behind from (lowest_from from rs)) rs)
        → All P (option_to_list o ++ blocks_from n (bound_behind from (lowest_from from rs)) rs)
    each None is later = later
    each (Some d) is later = All-cons P d (blocks_from n (bound_behind from (lowest_from from rs)) rs) (lowest_all P from rs d all is) later

module _ (F : ℕ → ℕ) where
  abbrev listed : List ℕ → List Edit
  listed bs = counted (map (λ b. (b, F b)) bs)

  -- below the bound none is touched
  untouched_below : (o : Option ℕ) (n from d : ℕ) (rs : List Remain) → IsFirst from rs o → d < from
      → (bound_behind from o ≤ d → ⊥) × (touches (listed (blocks_from n (bound_behind from o) rs)) (Count d) ≡ false)
      → touches (listed (option_to_list o ++ blocks_from n (bound_behind from o) rs)) (Count d) ≡ false
  untouched_below None n from d rs is below later = later.1
  untouched_below (Some e) n from d rs is below later =
      let low = is.low in
      let other = other_field-is (Count e) (Count d) (λ same. let one : e ≡ d = cc in absurd (omega (arith, one, low, below))) in
      let rest' = later.1 in rw (other, rest') refl

  bound_past : (o : Option ℕ) (from : ℕ) (rs : List Remain) → IsFirst from rs o → from ≤ bound_behind from o
  bound_past None from rs is = omega arith
  bound_past (Some e) from rs is = let low = is.low in omega (arith, low)

  pub blocks_below : (n from d : ℕ) (rs : List Remain) → d < from → touches (listed (blocks_from n from rs)) (Count d) ≡ false
  blocks_below zero from d rs below = refl
  blocks_below (suc n) from d rs below =
      let o = lowest_from from rs in
      let past = bound_past (lowest_from from rs) from rs (first_is from rs) in
      untouched_below (lowest_from from rs) n from d rs (first_is from rs) below (
        λ reach. absurd (omega (arith, reach, past, below)),
        blocks_below n (bound_behind from (lowest_from from rs)) d rs
            (omega (arith, past, below)),
      )

  -- so each is there once
  apart_step : (o : Option ℕ) (n from : ℕ) (rs : List Remain) → AreApart (listed (blocks_from n (bound_behind from o) rs))
      → AreApart (listed (option_to_list o ++ blocks_from n (bound_behind from o) rs))
  apart_step None n from rs later = later
  apart_step (Some e) n from rs later = (blocks_below n (e + 1) e rs (omega arith), later)

  pub blocks_apart : (n from : ℕ) (rs : List Remain) → AreApart (listed (blocks_from n from rs))
  blocks_apart zero from rs = tt
  blocks_apart (suc n) from rs =
      apart_step (lowest_from from rs) n from rs (blocks_apart n (bound_behind from (lowest_from from rs)) rs)

  -- and each that a remain names is there
  pub blocks_there : (n from d : ℕ) (rs : List Remain) → from ≤ d → rest from rs ≤ n → 1 ≤ named_in rs d
      → touches (listed (blocks_from n from rs)) (Count d) ≡ true
  blocks_there zero from d rs low few named = let more = rest_less from d rs low in absurd (omega (arith, more, few, named))
  blocks_there (suc n) from d rs low few named =
      there (lowest_from from rs) (first_is from rs)
      (λ past less. blocks_there n (bound_behind from (lowest_from from rs)) d rs past less named)
    where
      there : (o : Option ℕ) → IsFirst from rs o
          → (bound_behind from o ≤ d → rest (bound_behind from o) rs ≤ n
          → touches (listed (blocks_from n (bound_behind from o) rs)) (Count d) ≡ true)
          → touches (listed (option_to_list o ++ blocks_from n (bound_behind from o) rs)) (Count d) ≡ true
      there None is later = let none = none_named from d rs low is in absurd (omega (arith, none, named))
      there (Some e) is later =
          let least = is.least d low named in
          let less = rest_less from e rs is.low in
          let some = is.there in
          elim (cases_eq e d) [
            | inl same ↦ let one = same_field-refl (Count d) in rw (same, one) refl
            | inr other ↦
                let apart = other_field-is (Count e) (Count d) (λ eq. let one : e ≡ d = cc in other one) in
                let later' = later (omega (arith, least, other)) (omega (arith, less, some, few)) in rw (apart, later') refl
          ]

  pub each_there : (d : ℕ) (rs : List Remain) → 1 ≤ named_in rs d → touches (listed (blocks_from (length rs) 0 rs)) (Count d) ≡ true
  each_there d rs named = blocks_there (length rs) 0 d rs (omega arith) (rest_most 0 rs) named
