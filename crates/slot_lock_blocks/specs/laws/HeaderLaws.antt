-- The numbers of a header read back, whatever stands behind it.
use Rattle.std.proofs.Common.{◌≡◌, ◌<◌, ◌^◌, ℕ, List, ◌++◌, length, ◌∙◌, arith, length-append}
use Rattle.vol_base.specs.Bytes.{bytes_of, zeros, u32_at, u64_at}
use Rattle.vol_base.specs.laws.BytesLaws.{length-bytes_of, length-zeros, number_at-append, number_at-written}
use Rattle.slot_lock_blocks.specs.Keys.{header_bytes}

to_zeros : (magic : List ℕ) (state : ℕ) → length magic ≡ 8 → length (magic ++ bytes_of 4 state ++ zeros 4) ≡ 16
to_zeros magic state eight =
    omega (arith, length-append (magic ++ bytes_of 4 state) (zeros 4), length-append magic (bytes_of 4 state), length-bytes_of 4 state, length-zeros 4)

pub length-header_bytes : (magic : List ℕ) (state key : ℕ) → length magic ≡ 8 → length (header_bytes magic state key) ≡ 24
length-header_bytes magic state key eight =
    omega (arith, length-append (magic ++ bytes_of 4 state ++ zeros 4) (bytes_of 8 key), to_zeros magic state eight, length-bytes_of 8 key)

pub header-state : (magic rest : List ℕ) (state key : ℕ) → length magic ≡ 8 → state < 256 ^ 4
    → u32_at (header_bytes magic state key ++ rest) 8 ≡ state
header-state magic rest state key eight small =
    number_at-append 4 8 (header_bytes magic state key) rest (omega (arith, length-header_bytes magic state key eight))
    ∙ number_at-append 4 8 (magic ++ bytes_of 4 state ++ zeros 4) (bytes_of 8 key) (omega (arith, to_zeros magic state eight))
    ∙ number_at-written 4 state 8 magic (zeros 4) (omega arith) small

pub header-key : (magic rest : List ℕ) (state key : ℕ) → length magic ≡ 8 → key < 256 ^ 8
    → u64_at (header_bytes magic state key ++ rest) 16 ≡ key
header-key magic rest state key eight small =
    number_at-written 8 key 16 (magic ++ bytes_of 4 state ++ zeros 4) rest (omega (arith, to_zeros magic state eight)) small
