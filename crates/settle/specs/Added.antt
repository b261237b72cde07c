-- A representative more.
use Rattle.std.specs.Prelude.{◌≡◌, ◌⊎◌, ℕ, Some}
use Rattle.vol_base.specs.declared.block.Digest.{Digest}
use Rattle.settle.specs.Gathered.{Found}
use Rattle.settle.specs.declared.candidates.Spot.{Spot}

-- the place was added under this number of the digest, and all others stay
pub record Adds (found more : Found) (x : Digest) (n : ℕ) (s : Spot) : Type 0 where
  pub here : more x n ≡ Some s
  pub kept : (y : Digest) (m : ℕ) (t : Spot) → found y m ≡ Some t → more y m ≡ Some t
  pub from : (y : Digest) (m : ℕ) (t : Spot) → more y m ≡ Some t → ((y ≡ x) × (m ≡ n)) ⊎ (found y m ≡ Some t)
