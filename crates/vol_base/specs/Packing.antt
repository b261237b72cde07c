use Rattle.std.specs.Prelude.{◌≡◌, ◌<◌, ◌≤◌, ◌-◌, ◌*◌, ◌/◌, ◌^◌, ℕ, zero, suc, List, [], ◌∷◌, ◌++◌, All, length, map, take, drop}
use Rattle.std.specs.List.{concat}
use Rattle.vol_base.specs.Bytes.{bytes_of, u32_at, zeros}

-- what a packed block stands for: its magic, its word, and its entries
pub record Packing : Type 0 where
  pub magic : List ℕ
  pub word : ℕ
  pub entries : List (List ℕ)

-- how many entries of w bytes stand behind a header of 64 bytes
abbrev pub room_of : ℕ → ℕ
room_of w = 4032 / w

-- the first n pieces of w bytes, one behind the other
unfoldable pub entries_of : ℕ → ℕ → List ℕ → List (List ℕ)
entries_of w zero bytes = []
entries_of w (suc n) bytes = take w bytes ∷ entries_of w n (drop w bytes)

-- the block has this magic, and no more entries than there is room for
abbrev pub IsPacked : ℕ → List ℕ → List ℕ → Type 0
IsPacked w magic bytes = (take 8 bytes ≡ magic) × (u32_at bytes 8 ≤ room_of w)

-- what a block reads as: the count at byte 8, the word at byte 12, the entries from byte 64 on
abbrev pub packing_of : ℕ → List ℕ → Packing
packing_of w bytes =
    record { magic = take 8 bytes; word = u32_at bytes 12; entries = entries_of w (u32_at bytes 8) (drop 64 bytes) }

-- the bytes that are written: all that is neither number nor entry is 0
unfoldable pub packed_bytes : ℕ → Packing → List ℕ
packed_bytes w p =
    p.magic
    ++ bytes_of 4 (length p.entries)
    ++ bytes_of 4 p.word
    ++ zeros 48
    ++ concat p.entries
    ++ zeros (4032 - w * length p.entries)

-- what fits a packed block with entries of w bytes
pub record IsPacking (w : ℕ) (p : Packing) : Type 0 where
  pub magic : length p.magic ≡ 8
  pub word : p.word < 2 ^ 32
  pub room : length p.entries ≤ room_of w
  pub wide : All (λ entry. length entry ≡ w) p.entries

-- the entries of four bytes as numbers
abbrev pub numbers : Packing → List ℕ
numbers p = map (λ entry. u32_at entry 0) p.entries
