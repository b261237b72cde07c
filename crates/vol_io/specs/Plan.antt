use Rattle.std.specs.Prelude.{ℕ, List, Bool, Contains}
use Rattle.vol_io.specs.Counts.{risen, counted}

-- the numbers of the calls that are to fail, where the first call is 1, and how many calls and faults there were
pub record Plan : Type 0 where
  pub fails : List ℕ
  pub calls : ℕ
  pub faults : ℕ

-- the next call is to fail
abbrev pub IsDue : Plan → Type 0
IsDue plan = Contains plan.fails (risen plan.calls)

-- the plan after a call, which failed or not
abbrev pub called : Bool → Plan → Plan
called failed plan = record plan { calls = risen plan.calls; faults = counted failed plan.faults }
