use Rattle.std.specs.Prelude.{◌&&◌, ℕ, Bool, not, nat_le, nat_lt, if◌then◌else◌, List, [], ◌∷◌, ◌++◌, Option, drop, filter, length, take}
use Rattle.std.specs.List.{filter_map}
use Rattle.std.specs.Str.{bytes_eq}
use Rattle.vol_base.specs.Bytes.{u32_at}
use Rattle.vol_base.specs.Packing.{packed_bytes, packing_of, room_of}
use Rattle.vol_layout.specs.declared.geometry.Geometry.{Geometry}

-- the hints of a block, and the geometry of the volume that they are in range of
pub record HintList (T : Type 0) : Type 0 where
  pub geometry : Geometry
  pub entries : List T

-- whether the block has this magic, and no more entries than there is room for
abbrev pub is_hint_block : List ℕ → List ℕ → Bool
is_hint_block magic bytes = bytes_eq (take 8 bytes) magic && nat_le (u32_at bytes 8) (room_of 32)

-- what a block reads as: its entries in range, in order; nothing where it is no block of hints
unfoldable pub hints_in : {T : Type 0} → List ℕ → (List ℕ → Option T) → List ℕ → List T
hints_in magic read bytes = if is_hint_block magic bytes then filter_map read (packing_of 32 bytes).entries else []

-- the one block that is written for entries of 32 bytes
abbrev pub hint_block : List ℕ → List (List ℕ) → List ℕ
hint_block magic entries = packed_bytes 32 (record { magic = magic; word = 0; entries = entries })

-- a hint behind all others; where there is no more room, the first of them goes
abbrev pub pushed_over : {T : Type 0} → ℕ → List T → T → List T
pushed_over room hints hint = (if nat_lt (length hints) room then hints else drop 1 hints) ++ hint ∷ []

-- the hints of other digests than this
abbrev pub without : {T : Type 0} → (T → List ℕ) → List ℕ → List T → List T
without digest_bytes digest hints = filter (λ hint. not (bytes_eq (digest_bytes hint) digest)) hints
