use Rattle.std.proofs.Common.{◌≡◌, ℕ, ap}
use Rattle.vol_base.specs.declared.block.Key.{Key}

abbrev pub key_of : ℕ → Key
key_of n = record { 0 = n }

-- a key is its number
pub same_key : (a b : Key) → a.0 ≡ b.0 → a ≡ b
same_key a b e = ap key_of e
