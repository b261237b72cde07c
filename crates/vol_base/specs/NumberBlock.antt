use Rattle.std.specs.Prelude.{ℕ, zero, suc, List, [], ◌++◌}
use Rattle.vol_base.specs.declared.block.Block.{Block}
use Rattle.vol_base.specs.Bytes.{bytes_of}

-- a list so many times over
abbrev pub repeated : ℕ → List ℕ → List ℕ
repeated zero xs = []
repeated (suc n) xs = repeated n xs ++ xs

-- the bytes of a number block: the eight bytes of the number, the highest first, 512 times over
unfoldable pub number_bytes : ℕ → List ℕ
number_bytes n = repeated 512 (bytes_of 8 n)

-- the block that is filled with a number
abbrev pub number_block : ℕ → Block
number_block n = record { 0 = number_bytes n }
