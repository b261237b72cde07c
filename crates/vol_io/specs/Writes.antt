use Rattle.std.specs.Prelude.{◌≡◌, ◌+◌, ◌<◌, ◌≤◌, ◌⊎◌, ℕ, List, Option, Result, length, take, IsErrOf}
use Rattle.std.specs.Io.KnownBytes.{Appends}
use Rattle.vol_base.specs.Faults.{Rose}
use Rattle.vol_io.specs.declared.writing.WriteNo.{WriteNo}
use Rattle.vol_io.specs.declared.writing.WriteNo.TheVariants.{Stuck}

-- a front of the text was taken, and not the whole of it
pub record AppendsFront (old new : Option (List ℕ)) (text : List ℕ) : Type 0 where
  pub count : ℕ
  pub partial : count < length text
  pub appended : Appends old new (take count text)

-- the count of refusals rose by one where the answer is `Stuck`, and stays at every other answer
pub record CountsStuck {T : Type 0} (before now : ℕ) (result : Result T WriteNo) : Type 0 where
  pub later : before ≤ now
  pub stuck : IsErrOf result Stuck → Rose before now
  pub by_one : now ≤ before + 1
  pub stays : (now ≡ before) ⊎ IsErrOf result Stuck
