use Rattle.std.specs.Prelude.{◌≡◌, ◌<◌, ℕ, List, All, drop, length, replicate}
use Rattle.byteorder.specs.Endian.{big_bytes, big_number}

-- so many bytes that are 0
unfoldable pub zeros : ℕ → List ℕ
zeros n = replicate n 0

-- the bytes of a number, so many of them, the highest first
unfoldable pub bytes_of : ℕ → ℕ → List ℕ
bytes_of width n = big_bytes width n

-- the number in the bytes from byte `at` on, so many bytes wide, the highest byte first
unfoldable pub number_at : ℕ → List ℕ → ℕ → ℕ
number_at width bytes at = big_number width (drop at bytes)

-- the number of four bytes at byte `at`
abbrev pub u32_at : List ℕ → ℕ → ℕ
u32_at bytes at = number_at 4 bytes at

-- the number of eight bytes at byte `at`
abbrev pub u64_at : List ℕ → ℕ → ℕ
u64_at bytes at = number_at 8 bytes at

-- the bytes of a block: 4,096 numbers below 256
pub record IsBlock (bytes : List ℕ) : Type 0 where
  pub long : length bytes ≡ 4096
  pub small : All (λ byte. byte < 256) bytes
