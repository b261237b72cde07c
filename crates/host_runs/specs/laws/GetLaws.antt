-- What stands at the places of a list of which one element was replaced.
use Rattle.std.proofs.Common.{◌≡◌, ◌≢◌, ◌<◌, ◌⊎◌, ℕ, zero, suc, List, [], ◌∷◌, Some, length, slice_get, slice_set, refl, ap, inl, inr, arith}

pub get_set-same : {X : Type 0} (xs : List X) (p : ℕ) (x : X) → p < length xs → slice_get (slice_set xs p x) p ≡ Some x
get_set-same [] p x lt = absurd (omega (arith, lt))
get_set-same (y ∷ xs) zero x lt = refl
get_set-same (y ∷ xs) (suc p) x lt = get_set-same xs p x (omega (arith, lt))

pub get_set-other : {X : Type 0} (xs : List X) (p q : ℕ) (x : X) → q ≢ p → slice_get (slice_set xs p x) q ≡ slice_get xs q
get_set-other [] p q x other = refl
get_set-other (y ∷ xs) zero zero x other = absurd (other refl)
get_set-other (y ∷ xs) zero (suc q) x other = refl
get_set-other (y ∷ xs) (suc p) zero x other = refl
get_set-other (y ∷ xs) (suc p) (suc q) x other = get_set-other xs p q x (λ same. other (ap suc same))

-- an element that was there before, or the new one
pub get_set : {X : Type 0} (xs : List X) (p q : ℕ) (x y : X) → slice_get (slice_set xs p x) q ≡ Some y
    → ((q ≢ p) × (slice_get xs q ≡ Some y)) ⊎ ((q ≡ p) × (x ≡ y))
get_set [] p q x y is = absurd cc
get_set (z ∷ xs) zero zero x y is = inr (refl, cc)
get_set (z ∷ xs) zero (suc q) x y is = inl (λ same. absurd cc, is)
get_set (z ∷ xs) (suc p) zero x y is = inl (λ same. absurd cc, is)
get_set (z ∷ xs) (suc p) (suc q) x y is =
    elim (get_set xs p q x y is) [
      | inl old ↦ inl (λ same. old.0 (omega (arith, same)), old.1)
      | inr new ↦ inr (ap suc new.0, new.1)
    ]
