-- How much of a volume is used.
use Rattle.std.specs.Prelude.{ℕ, count_by, length, nat_lt}
use Rattle.std.specs.List.{range_with_len}
use Rattle.vol_layout.specs.declared.geometry.Geometry.{Geometry}
use Rattle.vol_layout.specs.declared.field.Field.TheVariants.{Count}
use Rattle.vol_layout.specs.Ranges.{data_blocks}
use Rattle.image_view.specs.declared.usage.Usage.{Usage}
use Rattle.image_view.specs.Images.{Image, geometry_of}
use Rattle.image_view.specs.Numbers.{logical}
use Rattle.image_view.specs.Mappings.{mappings}

-- how many data numbers have a logical count that is not 0
unfoldable pub used_numbers : Geometry → Image → ℕ
used_numbers g image = count_by (λ d. nat_lt 0 (logical g image (Count d))) (range_with_len 0 (data_blocks g))

-- the usage of a volume: its used data numbers, and its mappings
abbrev pub usage_in : Geometry → Image → Usage
usage_in g image = record { used = used_numbers g image; mapped = length (mappings g image) }

abbrev pub usage_of : Image → Usage
usage_of image = usage_in (geometry_of image) image
