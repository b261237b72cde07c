-- Plain files.
use Rattle.std.specs.Prelude.{◌≤◌, ℕ, List, length, replicate, slice_index_or, Option, None, IfSome}
use Rattle.std.specs.List.{All}
use Rattle.vol_base.specs.declared.block.Block.{Block}

-- plain files have a greatest length in blocks, and give each file number nothing or a list of blocks
pub record Plain : Type 0 where
  pub limit : ℕ
  pub files : List (Option (List Block))

-- the blocks of a file, or nothing where it is not there
abbrev pub file_of : Plain → ℕ → Option (List Block)
file_of p file = slice_index_or p.files file None

-- so many file numbers, and no file is there
abbrev pub no_files : ℕ → ℕ → Plain
no_files files limit = record { limit = limit; files = replicate files None }

-- no file is longer than the greatest length
abbrev pub IsWithinLimit : Plain → Type 0
IsWithinLimit p = All (λ file. IfSome file (λ blocks. length blocks ≤ p.limit)) p.files
