-- The first line of a text: the geometry of its volume.
use Rattle.std.specs.Prelude.{◌==◌, ◌&&◌, ◌||◌, ℕ, Bool, true, List, [], ◌∷◌, Result, Ok, Err, codes, length, nat_le, slice_index, if◌then◌else◌}
use Rattle.std.specs.Option.{ok_or}
use Rattle.std.specs.Str.{bytes_eq}
use Rattle.vol_layout.specs.declared.geometry.Geometry.{Geometry}
use Rattle.vol_layout.specs.Ranges.{is_geometry}
use Rattle.workload.specs.declared.cause.WorkloadNo.{WorkloadNo}
use Rattle.workload.specs.declared.cause.WorkloadNo.TheVariants.{Shape, Volume, Count, Number, Range}
use Rattle.workload.specs.Checks.{◌>>=◌, checked}
use Rattle.workload.specs.Numerals.{numbers_of}
use Rattle.workload.specs.Texts.{is_shaped, words_of}

-- the geometry of six or seven numbers; without a seventh a file has one table block
abbrev pub geometry_of : List ℕ → Geometry
geometry_of ns =
    record {
      hosts = slice_index ns 0;
      files = slice_index ns 1;
      groups = slice_index ns 2;
      parts = slice_index ns 3;
      shards = slice_index ns 4;
      logs = slice_index ns 5;
      tables = if length ns == 7 then slice_index ns 6 else 1;
    }

-- the numbers are those of a geometry; a seventh is at least 2
abbrev pub are_in_range : List ℕ → Bool
are_in_range ns = is_geometry (geometry_of ns) && (if length ns == 7 then nat_le 2 (slice_index ns 6) else true)

-- the geometry of the words behind `volume`, or the first cause why they have none
unfoldable pub volume_numbers : List (List ℕ) → Result Geometry WorkloadNo
volume_numbers args =
    checked (length args == 6 || length args == 7) Count
    (ok_or (numbers_of args) Number >>= λ ns. checked (are_in_range ns) Range (Ok (geometry_of ns)))

-- the geometry of the words of the first line
unfoldable pub volume_words : List (List ℕ) → Result Geometry WorkloadNo
volume_words [] = Err Volume
volume_words (first ∷ args) = checked (bytes_eq first (codes "volume")) Volume (volume_numbers args)

-- what the first line says
unfoldable pub volume_line : List ℕ → Result Geometry WorkloadNo
volume_line line = checked (is_shaped line) Shape (volume_words (words_of line))
