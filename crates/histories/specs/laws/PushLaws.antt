-- What stands at the places of a list with one element more.
use Rattle.std.proofs.Common.{◌≡◌, ◌<◌, ◌++◌, ◌∷◌, [], ◌⊎◌, ℕ, zero, suc, List, Some, length, refl, ap, subst, inl, inr, arith}
use Rattle.std.specs.Prelude.{All, slice_get}
use Rattle.std.proofs.lemmas.Option.{get_or_from_slice_get, slice_get_within}

-- it is an element of the list, or the new one behind it
pub get_pushed : {X : Type 0} (xs : List X) (x y : X) (k : ℕ) → slice_get (xs ++ x ∷ []) k ≡ Some y
    → (slice_get xs k ≡ Some y) ⊎ ((k ≡ length xs) × (x ≡ y))
get_pushed [] x y zero is = inr (refl, cc)
get_pushed [] x y (suc k) is = absurd cc
get_pushed (z ∷ xs) x y zero is = inl is
get_pushed (z ∷ xs) x y (suc k) is =
    elim (get_pushed xs x y k is) [
      | inl old ↦ inl old
      | inr new ↦ inr (ap suc new.0, new.1)
    ]

get_front : {X : Type 0} (xs : List X) (x y : X) (k : ℕ) → k < length xs → slice_get (xs ++ x ∷ []) k ≡ Some y → slice_get xs k ≡ Some y
get_front xs x y k lt is =
    elim (get_pushed xs x y k is) [
      | inl old ↦ old
      | inr new ↦ absurd (omega (arith, lt, new.0))
    ]

-- of two places the first one's element is of the list
pub pair_pushed : {X : Type 0} (xs : List X) (x a b : X) (j k : ℕ) → j < k → slice_get (xs ++ x ∷ []) j ≡ Some a
    → slice_get (xs ++ x ∷ []) k ≡ Some b
    → (slice_get xs j ≡ Some a) × ((slice_get xs k ≡ Some b) ⊎ (x ≡ b))
pair_pushed xs x a b j k lt at_j at_k =
    elim (get_pushed xs x b k at_k) [
      | inl old ↦ (let within = slice_get_within xs k b old in get_front xs x a j (omega (arith, lt, within)) at_j, inl old)
      | inr new ↦ (get_front xs x a j (omega (arith, lt, new.0)) at_j, inr new.1)
    ]

-- what holds of each element holds of the one at a place
pub all_at : {X : Type 0} (P : X → Type 0) (xs : List X) (k : ℕ) (x : X) → All P xs → slice_get xs k ≡ Some x → P x
all_at P xs k x all is = subst P (get_or_from_slice_get xs k x x is) (all k x (slice_get_within xs k x is))
