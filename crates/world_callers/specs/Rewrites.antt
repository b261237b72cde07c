-- What a file's first table says of a block of it that may be written in place.
use Rattle.std.specs.Prelude.{◌≡◌, ◌+◌, ◌<◌, ◌^◌, ℕ}
use Rattle.vol_base.specs.Packing.{Packing}
use Rattle.vol_layout.specs.declared.field.Field.TheVariants.{Head, Pointer}
use Rattle.table_blocks.specs.Tables.{number_in}

-- the pointer below the file's length is the number of the data block, without the mark
pub record ShowsOwn (table : Packing) (f i d : ℕ) : Type 0 where
  pub inside : i + 1 < number_in table (Head f)
  pub pointer : number_in table (Pointer f i) ≡ d + 1
  pub unmarked : d + 1 < 2 ^ 31
