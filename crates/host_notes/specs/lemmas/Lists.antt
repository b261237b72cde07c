-- Numbers that stand in a list, are put into it, or taken out of it.
use Rattle.std.proofs.Common.{◌≡◌, ◌≢◌, ◌<◌, ◌⊎◌, ◌==◌, ◌∷◌, get_or, ℕ, zero, suc, Bool, true, false, not, List, [], length, filter, refl, ap, sym, ◌∙◌, inl, inr, arith, true≢false}
use Rattle.std.specs.Prelude.{Contains, if◌then◌else◌, slice_index_or}
use Rattle.std.specs.List.{list_any}
use Rattle.std.proofs.lemmas.Bool.{cases_Bool, eq-eqb, ne_eqb}
use Rattle.std.proofs.lemmas.Grind.{get_or_default_zero}
use Rattle.std.proofs.lemmas.List.Folds.{list_any_none}
use Rattle.shared_disk.specs.laws.CalledLaws.{kept_by}
use Rattle.host_runs.specs.Memories.{leave_out, put_in}

-- an element that a filter kept passes its test, and was there before
kept_first : (p : ℕ → Bool) (y : ℕ) (ys xs : List ℕ) (x k : ℕ) → p y ≡ true
    → ((n : ℕ) → n < length ys → slice_index_or ys n x ≡ x → (p x ≡ true) × Contains xs x)
    → k < length (y ∷ ys) → slice_index_or (y ∷ ys) k x ≡ x → (p x ≡ true) × Contains (y ∷ xs) x
kept_first p y ys xs x zero passes rest lt is = (ap p (sym is) ∙ passes, (0, omega arith, is))
kept_first p y ys xs x (suc k) passes rest lt is =
    let old = rest k (omega (arith, lt)) is in (old.0, (suc old.1.0, omega (arith, old.1.1), old.1.2))

kept_at : (p : ℕ → Bool) (xs : List ℕ) (x k : ℕ) → k < length (filter p xs) → slice_index_or (filter p xs) k x ≡ x
    → (p x ≡ true) × Contains xs x
kept_at p [] x k lt is = absurd (omega (arith, lt))
kept_at p (y ∷ xs) x k lt is =
    elim (cases_Bool (p y)) [
      | inl kept ↦ kept_first p y (filter p xs) xs x k kept (λ n below at. kept_at p xs x n below at) (rw kept at lt) (rw kept at is)
      | inr dropped ↦
          let old = kept_at p xs x k (rw dropped at lt) (rw dropped at is) in (old.0, (suc old.1.0, omega (arith, old.1.1), old.1.2))
    ]

pub out_cases : (x q : ℕ) (xs : List ℕ) → Contains (leave_out x xs) q → (q ≢ x) × Contains xs q
out_cases x q xs has =
    let old = kept_at (λ y. not (y == x)) xs q has.0 has.1 has.2 in
    (λ same. let gone : not (q == x) ≡ false = rw (eq-eqb q x same) refl in true≢false (sym old.0 ∙ gone), old.1)

put_cases : (x q : ℕ) (xs : List ℕ) → Contains (put_in x xs) q → (q ≡ x) ⊎ ((q ≢ x) × Contains xs q)
put_cases x q xs has = at has.0 has.1 has.2
  where
    at : (k : ℕ) → k < length (put_in x xs) → slice_index_or (put_in x xs) k q ≡ q → (q ≡ x) ⊎ ((q ≢ x) × Contains xs q)
    at zero lt is = inl (sym is)
    at (suc k) lt is = inr (out_cases x q xs (k, omega (arith, lt), is))

-- an element of a list into which a number was put, or of which it was taken out
pub chosen_cases : (b : Bool) (x q : ℕ) (xs : List ℕ) → Contains (if b then put_in x xs else leave_out x xs) q
    → ((b ≡ true) × (q ≡ x)) ⊎ ((q ≢ x) × Contains xs q)
chosen_cases true x q xs has = elim (put_cases x q xs has) [ inl here ↦ inl (refl, here) | inr old ↦ inr old ]
chosen_cases false x q xs has = inr (out_cases x q xs has)

pub chosen_twice : (a b : Bool) (x q : ℕ) (xs : List ℕ)
    → Contains (if a then (if b then put_in x xs else leave_out x xs) else leave_out x xs) q
    → ((a ≡ true) × (b ≡ true) × (q ≡ x)) ⊎ ((q ≢ x) × Contains xs q)
chosen_twice true b x q xs has = elim (chosen_cases b x q xs has) [ inl here ↦ inl (refl, here.0, here.1) | inr old ↦ inr old ]
chosen_twice false b x q xs has = inr (out_cases x q xs has)

-- what was there is there, and so is the number that was put in
still_in : (x q : ℕ) (xs : List ℕ) → q ≢ x → Contains xs q → Contains (leave_out x xs) q
still_in x q xs other has = kept_by (λ y. not (y == x)) xs q has (rw (ne_eqb q x other) refl)

pub chosen_still : (b : Bool) (x q : ℕ) (xs : List ℕ) → q ≢ x → Contains xs q → Contains (if b then put_in x xs else leave_out x xs) q
chosen_still true x q xs other has = let rest = still_in x q xs other has in (suc rest.0, omega (arith, rest.1), rest.2)
chosen_still false x q xs other has = still_in x q xs other has

pub chosen_here : (b : Bool) (x : ℕ) (xs : List ℕ) → b ≡ true → Contains (if b then put_in x xs else leave_out x xs) x
chosen_here true x xs is = (0, omega arith, refl)
chosen_here false x xs is = absurd cc

-- nothing stands in an empty list
pub none_in : (q : ℕ) (xs : List ℕ) → xs ≡ [] → Contains xs q → ⊥
none_in q xs none has = let long = ap length none in absurd (omega (arith, has.1, long))

-- a list without elements is empty, and one without a number does not have it
pub no_element : (xs : List ℕ) → ((x : ℕ) → Contains xs x → ⊥) → xs ≡ []
no_element [] none = refl
no_element (x ∷ xs) none = absurd (none x (0, omega arith, refl))

pub not_among : (xs : List ℕ) (x : ℕ) → (Contains xs x → ⊥) → list_any (λ y. y == x) xs ≡ false
not_among xs x none =
    list_any_none (λ y. y == x) xs (λ k d lt. ne_eqb (get_or xs k d) x (λ e.
    none (k, lt, get_or_default_zero xs k x lt ∙ sym (get_or_default_zero xs k d lt) ∙ e)))
