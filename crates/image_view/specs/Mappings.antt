-- The mappings of an image, and how often a data number is mapped.
use Rattle.std.specs.Prelude.{◌++◌, ◌==◌, ℕ, List, map, count_by, Option, option_map}
use Rattle.std.specs.List.{filter_map, flat_map, range_with_len}
use Rattle.vol_layout.specs.declared.geometry.Geometry.{Geometry}
use Rattle.vol_layout.specs.declared.field.Field.{Field}
use Rattle.vol_layout.specs.declared.field.Field.TheVariants.{Pointer, Slot}
use Rattle.vol_layout.specs.Ranges.{limit, arena_slots}
use Rattle.image_view.specs.Images.{Image}
use Rattle.image_view.specs.Numbers.{logical}
use Rattle.image_view.specs.Pointers.{named}

-- a pointer or slot, and the data number that it names
pub record Mapping : Type 0 where
  pub by : Field
  pub number : ℕ

-- all pointers of a file, those at and past its length included
abbrev pub pointers_of : Geometry → ℕ → List Field
pointers_of g f = map (λ i. Pointer f i) (range_with_len 0 (limit g))

-- all pointers and slots of a volume
unfoldable pub reference_fields : Geometry → List Field
reference_fields g =
    flat_map (λ f. pointers_of g f) (range_with_len 0 g.files) ++ map (λ s. Slot s) (range_with_len 0 (arena_slots g))

-- the mapping of a pointer or slot, where its logical number is not 0
abbrev pub mapping_of : Geometry → Image → Field → Option Mapping
mapping_of g image x = option_map (λ d. record { by = x; number = d }) (named (logical g image x))

-- the mappings of a volume: each pointer and slot that names a data number, remains included
unfoldable pub mappings : Geometry → Image → List Mapping
mappings g image = filter_map (mapping_of g image) (reference_fields g)

-- how often a data number is mapped
unfoldable pub uses : Geometry → Image → ℕ → ℕ
uses g image d = count_by (λ m. m.number == d) (mappings g image)
