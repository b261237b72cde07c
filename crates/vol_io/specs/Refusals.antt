use Rattle.std.specs.Prelude.{◌≡◌, ◌+◌, ◌<◌, ◌≤◌, ◌⊎◌, ℕ, List, Result, Ok, length}
use Rattle.vol_base.specs.Faults.{Rose}

-- the sink took nothing of a piece that is not empty
abbrev pub IsRefusal : {E : Type 0} → Result ℕ E → List ℕ → Type 0
IsRefusal result piece = (result ≡ Ok 0) × (0 < length piece)

-- a count of refusals never falls, rises by one at each refusal, and stays at every other answer
pub record CountsRefusals {E : Type 0} (before now : ℕ) (result : Result ℕ E) (piece : List ℕ) : Type 0 where
  pub later : before ≤ now
  pub refused : IsRefusal result piece → Rose before now
  pub by_one : now ≤ before + 1
  pub stays : (now ≡ before) ⊎ IsRefusal result piece
