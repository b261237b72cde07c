-- The blocks that a merge writes.
use Rattle.std.specs.Prelude.{◌≡◌, ◌≢◌, ◌≤◌, ◌<◌, ◌*◌, ℕ, List, Option, Some, None, codes, drop, length, map, slice_get, take}
use Rattle.vol_base.specs.declared.block.Block.{Block}
use Rattle.vol_layout.specs.declared.geometry.Geometry.{Geometry}
use Rattle.hint_blocks.specs.declared.entry.IndexEntry.{IndexEntry}
use Rattle.hint_blocks.specs.declared.entry.Request.{Request}
use Rattle.hint_blocks.specs.Entries.{index_bytes, index_entry_of, request_bytes, request_of}
use Rattle.hint_blocks.specs.HintLists.{hint_block, hints_in, pushed_over}

-- the block of requests with one more
abbrev pub requested_with : Geometry → List ℕ → Request → List ℕ
requested_with g block request =
    hint_block (codes "DEDEREQS") (map request_bytes (pushed_over 126 (hints_in (codes "DEDEREQS") (request_of g) block) request))

-- the entries of a shard block as it reads, and those that a shelf has for its block k
abbrev pub index_in : Geometry → List ℕ → List IndexEntry
index_in g block = hints_in (codes "DEDEINDX") (index_entry_of g) block

abbrev pub part : ℕ → List IndexEntry → List IndexEntry
part k entries = take 126 (drop (126 * k) entries)

-- the block that is written for it
abbrev pub shard_bytes : ℕ → List IndexEntry → List ℕ
shard_bytes k entries = hint_block (codes "DEDEINDX") (map index_bytes (part k entries))

-- the blocks from one place up to before another have the entries that the shelf has for them
abbrev pub AreSame : Geometry → List Block → List IndexEntry → ℕ → ℕ → Type 0
AreSame g read entries from to =
    (k : ℕ) (block : Block) → from ≤ k → k < to → slice_get read k ≡ Some block → index_in g block.0 ≡ part k entries

-- the first block from a place on whose entries are others, if there is one
abbrev pub IsNextChanged : Geometry → List Block → List IndexEntry → ℕ → Option ℕ → Type 0
IsNextChanged g read entries from (Some k) =
    (from ≤ k) × AreSame g read entries from k
    × (block : Block) × (slice_get read k ≡ Some block) × (index_in g block.0 ≢ part k entries)
IsNextChanged g read entries from None = AreSame g read entries from (length read)
