use Rattle.std.proofs.Common.{◌≡◌, ℕ, ◌∷◌, replicate, refl, ap, zero, suc}
use Rattle.std.specs.Prelude.{map}

-- as many equal elements, each mapped
pub map-replicate : {A B : Type 0} (f : A → B) (n : ℕ) (x : A) → map f (replicate n x) ≡ replicate n (f x)
map-replicate f zero x = refl
map-replicate f (suc n) x = ap (λ rest. f x ∷ rest) (map-replicate f n x)
