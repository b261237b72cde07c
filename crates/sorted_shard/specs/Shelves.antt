use Rattle.std.specs.Prelude.{◌≡◌, ◌≤◌, ◌+◌, ◌*◌, ℕ, List, ◌++◌, All, codes, filter, length}
use Rattle.std.specs.List.{flat_map}
use Rattle.std.specs.List.Sorted.{IsSortedByKey}
use Rattle.std.specs.Ordering.{nat_cmp}
use Rattle.std.specs.declared.cmp.Ordering.{Ordering}
use Rattle.std.specs.Cmp.Lexicographic.{slice_cmp}
use Rattle.std.specs.Str.{bytes_eq}
use Rattle.vol_base.specs.declared.block.Block.{Block}
use Rattle.vol_layout.specs.Ranges.{IsGeometry}
use Rattle.vol_layout.specs.declared.geometry.Geometry.{Geometry}
use Rattle.hint_blocks.specs.declared.entry.IndexEntry.{IndexEntry}
use Rattle.hint_blocks.specs.Entries.{IsIndexEntry, index_entry_of}
use Rattle.hint_blocks.specs.HintLists.{hints_in, without}

-- a shelf: its number of blocks, its entries, and the geometry that they are in range of
pub record ShelfList : Type 0 where
  pub geometry : Geometry
  pub blocks : ℕ
  pub entries : List IndexEntry

-- the bytes of an entry's digest
abbrev pub digest_of : IndexEntry → List ℕ
digest_of entry = entry.digest.0

-- how an entry's digest compares to a digest, byte by byte
abbrev pub order : IndexEntry → List ℕ → Ordering
order entry digest = slice_cmp nat_cmp (digest_of entry) digest

-- no digest is lower than the one before it
abbrev pub IsSortedByDigest : List IndexEntry → Type 0
IsSortedByDigest entries = IsSortedByKey digest_of (slice_cmp nat_cmp) entries

-- the entries of a digest, and those of other digests
abbrev pub with_digest : List ℕ → List IndexEntry → List IndexEntry
with_digest digest entries = filter (λ entry. bytes_eq (digest_of entry) digest) entries

abbrev pub without_digest : List ℕ → List IndexEntry → List IndexEntry
without_digest digest entries = without digest_of digest entries

-- the same entries sorted by digest, those of each digest in the same order
pub record IsSortedFrom (before after : List IndexEntry) : Type 0 where
  pub sorted : IsSortedByDigest after
  pub stable : (digest : List ℕ) → with_digest digest after ≡ with_digest digest before

-- all entries of shard blocks as they read, in the order of the blocks
unfoldable pub entries_in : Geometry → List Block → List IndexEntry
entries_in g blocks = flat_map (λ block. hints_in (codes "DEDEINDX") (index_entry_of g) block.0) blocks

-- what always holds of a shelf: one to four blocks, and entries that they have room for, in order and in range
pub record IsShelf (shelf : ShelfList) : Type 0 where
  pub geometry : IsGeometry shelf.geometry
  pub some : 1 ≤ shelf.blocks
  pub few : shelf.blocks ≤ 4
  pub room : length shelf.entries ≤ 126 * shelf.blocks
  pub sorted : IsSortedByDigest shelf.entries
  pub range : All (IsIndexEntry shelf.geometry) shelf.entries

-- a shelf after entries were added that it had room for
pub record Gains (old new : ShelfList) (added : List IndexEntry) : Type 0 where
  pub geometry : new.geometry ≡ old.geometry
  pub blocks : new.blocks ≡ old.blocks
  pub long : length new.entries ≡ length old.entries + length added
  pub entries : IsSortedFrom (old.entries ++ added) new.entries
