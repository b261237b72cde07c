use Rattle.std.specs.Prelude.{◌≡◌, ◌+◌, ◌≤◌, ◌↔◌, ℕ, List, Option, length}
use Rattle.std.specs.Io.KnownBytes.{Consumes, IsAtEnd}
use Rattle.vol_io.specs.declared.reading.ReadNo.{ReadNo}
use Rattle.vol_io.specs.declared.reading.ReadNo.TheVariants.{Long}

-- all that was left was read, to the end of input, and is within the limit
pub record ReadsToEnd (limit : ℕ) (old new : Option (List ℕ)) (bytes : List ℕ) : Type 0 where
  pub consumed : Consumes old new bytes
  pub ended : IsAtEnd new
  pub within : length bytes ≤ limit

-- a front of what was left was taken, and it has one byte more than the limit exactly where the answer is `Long`
pub record ReadsFront (limit : ℕ) (old new : Option (List ℕ)) (answer : ReadNo) : Type 0 where
  pub front : List ℕ
  pub consumed : Consumes old new front
  pub bounded : length front ≤ limit + 1
  pub long : (answer ≡ Long) ↔ (length front ≡ limit + 1)
