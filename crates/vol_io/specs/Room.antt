use Rattle.std.specs.Prelude.{◌+◌, ◌<◌, ◌≤◌, ℕ, List, Result, IfOk, OnErr}
use Rattle.vol_io.specs.Refusals.{IsRefusal}

-- the room falls by no more than was taken, and while there is room something is taken of a piece that is not empty
pub record KeepsRoom {E : Type 0} (before now : ℕ) (result : Result ℕ E) (piece : List ℕ) : Type 0 where
  pub taken : IfOk result (λ count. before ≤ now + count)
  pub kept : OnErr result (before ≤ now)
  pub some : 0 < before → IsRefusal result piece → ⊥
