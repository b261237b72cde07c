-- The text of a block that a file holds.
use Rattle.std.specs.Prelude.{ℕ, List, ◌++◌, Option, Some, None, codes, decimal, if◌then◌else◌}
use Rattle.std.specs.Str.{bytes_eq}
use Rattle.fingerprint.specs.DigestOf.{digest_of}
use Rattle.hex.specs.Hex.{encode_lower}
use Rattle.vol_base.specs.declared.block.Block.{Block}
use Rattle.vol_base.specs.Bytes.{u64_at}
use Rattle.vol_base.specs.NumberBlock.{number_bytes}

-- the number of a number block: the one in its first eight bytes, where the block of that number is this block
unfoldable pub shown_number : Block → Option ℕ
shown_number block =
    let n = u64_at block.0 0 in
    if bytes_eq (number_bytes n) block.0 then Some n else None

-- a block by its number, or else by its digest
abbrev pub text_by : Block → Option ℕ → List ℕ
text_by block (Some n) = codes "= " ++ decimal n
text_by block None = codes "# " ++ encode_lower (digest_of block).0

-- the text of a block
abbrev pub content_text : Block → List ℕ
content_text block = text_by block (shown_number block)
