use Rattle.std.specs.Prelude.{ℕ}

-- a reader, and how often it failed
pub record Reading (R : Type 0) : Type 0 where
  pub reader : R
  pub faults : ℕ

-- a writer, how often it failed, and how often it refused a piece
pub record Writing (W : Type 0) : Type 0 where
  pub writer : W
  pub faults : ℕ
  pub refusals : ℕ
