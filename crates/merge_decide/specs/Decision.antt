-- What a merge does with an entry of a log.
use Rattle.std.specs.Prelude.{◌==◌, ◌&&◌, ℕ, Bool, true, false, List, Option, Some, None, slice_get, if◌then◌else◌}
use Rattle.std.specs.List.{filter_map, list_any}
use Rattle.std.specs.Str.{bytes_eq}
use Rattle.vol_base.specs.declared.block.Digest.{Digest}
use Rattle.hint_blocks.specs.declared.entry.HintTo.{HintTo}
use Rattle.hint_blocks.specs.declared.entry.HintTo.TheVariants as to
use Rattle.hint_blocks.specs.declared.entry.IndexEntry.{IndexEntry}
use Rattle.hint_blocks.specs.declared.entry.LogEntry.{LogEntry}
use Rattle.merge_decide.specs.declared.action.Action.{Action}
use Rattle.merge_decide.specs.declared.action.Action.TheVariants.{Stale, PutUnique, Share, Promote, Post, Skip}

-- whether the block at the entry's place has this digest now
abbrev pub is_now : Digest → Option Digest → Bool
is_now digest None = false
is_now digest (Some now) = bytes_eq now.0 digest.0

-- the slot of a shared entry
abbrev pub slot_in : HintTo → Option ℕ
slot_in (to.Shared slot) = Some slot
slot_in (to.Unique file index) = None

-- whether a unique entry is of this place
abbrev pub is_at : LogEntry → HintTo → Bool
is_at entry (to.Unique file index) = file == entry.file && index == entry.index
is_at entry (to.Shared slot) = false

-- the place of a unique entry, where that is another
abbrev pub other_in : LogEntry → HintTo → Option (ℕ × ℕ)
other_in entry (to.Unique file index) = if file == entry.file && index == entry.index then None else Some (file, index)
other_in entry (to.Shared slot) = None

-- the slot of the first shared entry
unfoldable pub first_shared : List IndexEntry → Option ℕ
first_shared found = slice_get (filter_map (λ hint. slot_in hint.to) found) 0

-- the place of the first unique entry of another place
unfoldable pub first_other : LogEntry → List IndexEntry → Option (ℕ × ℕ)
first_other entry found = slice_get (filter_map (λ hint. other_in entry hint.to) found) 0

-- whether there is the unique entry of the entry's own place
unfoldable pub has_own : LogEntry → List IndexEntry → Bool
has_own entry found = list_any (λ hint. is_at entry hint.to) found

-- the first line that fits: whether the merging host holds the file, whether the entry's digest is that of the
-- block now, the first shared slot, the first other place, and whether the own place is in the index
abbrev pub first_line : Bool → Bool → Option ℕ → Option (ℕ × ℕ) → Bool → Action
first_line true false shared other own = Stale
first_line true true (Some slot) other own = Share slot
first_line false now (Some slot) other own = Post slot
first_line true true None (Some place) own = Promote place.0 place.1
first_line held now None other true = Skip
first_line held now None other false = PutUnique

-- what is done with an entry, where these are the index's entries of its digest, in order
abbrev pub decision : LogEntry → Bool → Option Digest → List IndexEntry → Action
decision entry held now found =
    first_line held (is_now entry.digest now) (first_shared found) (first_other entry found) (has_own entry found)
