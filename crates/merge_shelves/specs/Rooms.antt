-- The entries of a host's logs as they are read, and the order in which a merge handles them.
use Rattle.std.specs.Prelude.{◌+◌, ℕ, List, [], ◌∷◌, IsPermutation, codes}
use Rattle.std.specs.Cmp.Lexicographic.{slice_cmp}
use Rattle.std.specs.List.Sorted.{IsSortedByKey}
use Rattle.std.specs.Ordering.{nat_cmp, ordering_then}
use Rattle.std.specs.declared.cmp.Ordering.{Ordering}
use Rattle.vol_layout.specs.declared.geometry.Geometry.{Geometry}
use Rattle.hint_blocks.specs.declared.entry.LogEntry.{LogEntry}
use Rattle.hint_blocks.specs.Entries.{log_entry_of}
use Rattle.hint_blocks.specs.HintLists.{hints_in}
use Rattle.merge_shelves.specs.Parts.{shelf_of}
use Rattle.merge_shelves.specs.declared.room.Noted.{Noted}

-- the entries of a log block, as it reads
abbrev pub log_entries : Geometry → List ℕ → List LogEntry
log_entries g block = hints_in (codes "DEDELOGS") (log_entry_of g) block

-- entries with the places at which they were read, from this one on
unfoldable pub noted_from : ℕ → List LogEntry → List Noted
noted_from place [] = []
noted_from place (entry ∷ entries) = record { entry = entry; place = place } ∷ noted_from (place + 1) entries

-- the shelf of an entry, of so many, its digest, and its place
abbrev pub sort_key : ℕ → Noted → ℕ × List ℕ × ℕ
sort_key shelves noted = (shelf_of shelves noted.entry.digest.0, noted.entry.digest.0, noted.place)

abbrev pub key_cmp : ℕ × List ℕ × ℕ → ℕ × List ℕ × ℕ → Ordering
key_cmp one other =
    ordering_then (ordering_then (nat_cmp one.0 other.0) (slice_cmp nat_cmp one.1 other.1)) (nat_cmp one.2 other.2)

-- the same entries, by ascending shelf, then digest, and those of one digest in the order in which they were read
pub record IsOrdered (shelves : ℕ) (read ordered : List Noted) : Type 0 where
  pub sorted : IsSortedByKey (sort_key shelves) key_cmp ordered
  pub same : IsPermutation read ordered
