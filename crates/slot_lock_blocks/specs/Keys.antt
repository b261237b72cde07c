use Rattle.std.specs.Prelude.{◌≡◌, ◌≢◌, ◌<◌, ◌%◌, ◌^◌, ℕ, List, ◌++◌}
use Rattle.vol_base.specs.Bytes.{bytes_of, zeros}

-- a key as a number of eight bytes: no key is 0
abbrev pub IsKey : ℕ → Type 0
IsKey n = (n ≢ 0) × (n < 2 ^ 64)

-- a key of this host: its number modulo 16 is the host's
abbrev pub IsKeyOf : ℕ → ℕ → Type 0
IsKeyOf host n = (n ≢ 0) × (n % 16 ≡ host)

-- the first 24 bytes of a slot or lock: its magic, its state, and the key that it shows, 0 for none
abbrev pub header_bytes : List ℕ → ℕ → ℕ → List ℕ
header_bytes magic state key = magic ++ bytes_of 4 state ++ zeros 4 ++ bytes_of 8 key
