use Rattle.std.specs.Prelude.{ℕ, List}
use Rattle.vol_io.specs.Plan.{Plan}

-- a source in memory: the bytes left, and the plan of its failures
pub record PlannedSource : Type 0 where
  pub left : List ℕ
  pub plan : Plan

-- a sink in memory: the bytes taken, how many more it has room for, and its count of refusals
pub record Store : Type 0 where
  pub taken : List ℕ
  pub room : ℕ
  pub refusals : ℕ

-- a sink in memory with a plan of its failures
pub record PlannedStore : Type 0 where
  pub store : Store
  pub plan : Plan
