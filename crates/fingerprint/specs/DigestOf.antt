use Rattle.sha1.specs.Sha1.{sha1}
use Rattle.vol_base.specs.declared.block.Block.{Block}
use Rattle.vol_base.specs.declared.block.Digest.{Digest}

-- the digest of a block: the SHA-1 of its 4,096 bytes
abbrev pub digest_of : Block → Digest
digest_of block = record { 0 = sha1 block.0 }
