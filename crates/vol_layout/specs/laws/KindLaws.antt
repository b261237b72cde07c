-- A kind that stands at a place of a volume stands at its own place.
use Rattle.std.proofs.Common.{◌≡◌, ◌<◌, ◌+◌, ◌-◌, ℕ, List, [], ◌∷◌, Some, subst, inl, inr, arith}
use Rattle.std.specs.Prelude.{nat_lt}
use Rattle.std.proofs.lemmas.Bool.{cases_Bool, ltb-true, ltb-false}
use Rattle.vol_layout.specs.declared.geometry.Geometry.{Geometry}
use Rattle.vol_layout.specs.declared.kind.Kind.{Kind}
use Rattle.vol_layout.specs.declared.kind.Kind.TheVariants as kinds
use Rattle.vol_layout.specs.Places.{kind_at, kind_in, place_of}
use Rattle.vol_layout.specs.Ranges.{HasResource}
use Rattle.vol_layout.specs.Regions.{Region, regions}

-- what is said of a slot's and of a lock's place
abbrev pub IsPlaceOf : Geometry → ℕ → Kind → Type 0
IsPlaceOf g place (kinds.Slot h) = (h < g.hosts) × (place ≡ place_of g (kinds.Slot h))
IsPlaceOf g place (kinds.Lock r) = HasResource g r × (place ≡ place_of g (kinds.Lock r))
IsPlaceOf g place kind = Unit {0}

-- a fact of each block of the regions, the first of which stands at this place
EachBlock : (ℕ → Kind → Type 0) → ℕ → List Region → Type 0
EachBlock P at [] = Unit {0}
EachBlock P at (x ∷ xs) = ((i : ℕ) → i < x.size → P (at + i) (x.kind i)) × EachBlock P (at + x.size) xs

found_in : (P : ℕ → Kind → Type 0) (at : ℕ) (xs : List Region) (p : ℕ) (k : Kind) → EachBlock P at xs → kind_in xs p ≡ Some k → P (at + p) k
unfolding EachBlock
found_in P at [] p k each is = absurd cc
found_in P at (x ∷ xs) p k each is =
    elim (cases_Bool (nat_lt p x.size)) [
      | inl here ↦
          let e : Some (x.kind p) ≡ Some k = rw here at is in
          let same : x.kind p ≡ k = cc in
          subst (P (at + p)) same (each.0 p (ltb-true p x.size here))
      | inr later ↦
          let rest = found_in P (at + x.size) xs (p - x.size) k each.1 (rw later at is) in
          let past = ltb-false p x.size later in
          let place : at + x.size + (p - x.size) ≡ at + p = omega (arith, past) in
          subst (λ (q : ℕ). P q k) place rest
    ]

each_placed : (g : Geometry) → EachBlock (IsPlaceOf g) 0 (regions g)
unfolding EachBlock regions place_of
each_placed g =
    (λ i lt. tt, (λ i lt. (lt, omega arith), (λ i lt. tt, (λ i lt. (lt, omega arith), (λ i lt. (lt, omega arith), (λ i lt. (lt, omega arith), (λ i lt. tt, (λ i lt. tt, (λ i lt. tt, (λ i lt. tt, (λ i lt. tt, (λ i lt. tt, (λ i lt. tt, (λ i lt. tt, tt))))))))))))))

pub kind_at-backs : (g : Geometry) (p : ℕ) (k : Kind) → kind_at g p ≡ Some k → IsPlaceOf g p k
unfolding kind_at
kind_at-backs g p k is =
    let zero_add : 0 + p ≡ p = omega arith in
    subst (λ (q : ℕ). IsPlaceOf g q k) zero_add (found_in (IsPlaceOf g) 0 (regions g) p k (each_placed g) is)
