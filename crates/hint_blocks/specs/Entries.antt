use Rattle.std.specs.Prelude.{◌<◌, ℕ, zero, suc, Bool, ◌&&◌, nat_lt, if◌then◌else◌, List, [], ◌∷◌, ◌++◌, Option, Some, None, option_map, take}
use Rattle.std.specs.List.{flat_map}
use Rattle.vol_base.specs.Bytes.{bytes_of, u32_at}
use Rattle.vol_base.specs.declared.block.Digest.{Digest}
use Rattle.vol_layout.specs.Ranges.{arena_slots, limit}
use Rattle.vol_layout.specs.declared.geometry.Geometry.{Geometry}
use Rattle.hint_blocks.specs.declared.entry.LogEntry.{LogEntry}
use Rattle.hint_blocks.specs.declared.entry.IndexEntry.{IndexEntry}
use Rattle.hint_blocks.specs.declared.entry.Request.{Request}
use Rattle.hint_blocks.specs.declared.entry.HintTo.{HintTo}
use Rattle.hint_blocks.specs.declared.entry.HintTo.TheVariants.{Unique, Shared}

-- a file of the volume, and an index that a file may be long enough for
abbrev pub IsPlace : Geometry → ℕ → ℕ → Type 0
IsPlace g file index = (file < g.files) × (index < limit g)

abbrev pub has_place : Geometry → ℕ → ℕ → Bool
has_place g file index = nat_lt file g.files && nat_lt index (limit g)

-- what the volume allows to stand in an entry of a log, of the index, and of requests
abbrev pub IsLogEntry : Geometry → LogEntry → Type 0
IsLogEntry g hint = IsPlace g hint.file hint.index

abbrev pub IsTarget : Geometry → HintTo → Type 0
IsTarget g (Unique file index) = IsPlace g file index
IsTarget g (Shared slot) = slot < arena_slots g

abbrev pub IsIndexEntry : Geometry → IndexEntry → Type 0
IsIndexEntry g hint = IsTarget g hint.to

abbrev pub IsRequest : Geometry → Request → Type 0
IsRequest g hint = (hint.index < limit g) × (hint.slot < arena_slots g)

abbrev pub has_request : Geometry → ℕ → ℕ → Bool
has_request g index slot = nat_lt index (limit g) && nat_lt slot (arena_slots g)

-- the digest at the front of an entry
abbrev pub digest_at : List ℕ → Digest
digest_at bytes = record { 0 = take 20 bytes }

-- an entry of a log: a file at byte 20, an index at byte 24
unfoldable pub log_entry_of : Geometry → List ℕ → Option LogEntry
log_entry_of g bytes =
    let file = u32_at bytes 20 in
    let index = u32_at bytes 24 in
    if has_place g file index then Some (record { digest = digest_at bytes; file = file; index = index }) else None

-- where an entry of the index points, by its kind and the two numbers behind it
abbrev pub target_of : Geometry → ℕ → ℕ → ℕ → Option HintTo
target_of g zero file index = if has_place g file index then Some (Unique file index) else None
target_of g (suc zero) slot other = if nat_lt slot (arena_slots g) then Some (Shared slot) else None
target_of g (suc (suc kind)) first second = None

-- an entry of the index: a kind at byte 20, and two numbers behind it
unfoldable pub index_entry_of : Geometry → List ℕ → Option IndexEntry
index_entry_of g bytes =
    option_map (λ to. record { digest = digest_at bytes; to = to }) (target_of g (u32_at bytes 20) (u32_at bytes 24) (u32_at bytes 28))

-- a request: an index at byte 20, a slot at byte 24
unfoldable pub request_of : Geometry → List ℕ → Option Request
request_of g bytes =
    let index = u32_at bytes 20 in
    let slot = u32_at bytes 24 in
    if has_request g index slot then Some (record { digest = digest_at bytes; index = index; slot = slot }) else None

-- a digest and numbers of four bytes behind it
unfoldable pub spelled : Digest → List ℕ → List ℕ
spelled digest numbers = digest.0 ++ flat_map (bytes_of 4) numbers

-- the numbers behind the digest, of each kind of entry
abbrev pub log_numbers : LogEntry → List ℕ
log_numbers hint = hint.file ∷ hint.index ∷ 0 ∷ []

abbrev pub target_numbers : HintTo → List ℕ
target_numbers (Unique file index) = 0 ∷ file ∷ index ∷ []
target_numbers (Shared slot) = 1 ∷ slot ∷ 0 ∷ []

abbrev pub request_numbers : Request → List ℕ
request_numbers hint = hint.index ∷ hint.slot ∷ 0 ∷ []

-- the bytes that are written for an entry
abbrev pub log_bytes : LogEntry → List ℕ
log_bytes hint = spelled hint.digest (log_numbers hint)

abbrev pub index_bytes : IndexEntry → List ℕ
index_bytes hint = spelled hint.digest (target_numbers hint.to)

abbrev pub request_bytes : Request → List ℕ
request_bytes hint = spelled hint.digest (request_numbers hint)
