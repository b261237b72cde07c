use Rattle.std.proofs.lemmas.List.{map-set, map_push, length-set}
use Rattle.std.proofs.lemmas.List.Elements.{All-set}
use Rattle.vol_base.specs.Bytes.{IsBlock}
use Rattle.shared_disk.proofs.mem_disk.MemDisk.set_block.Goals as goal

pub returns-clause-ok : goal.returns-clause-ok
returns-clause-ok c = simp (c.push_reserved.ensures.items, c.reserve.ensures.items, map-set, map_push, length-set)

pub invariant_of-self-2-clause-whole : goal.invariant_of-self-2-clause-whole
invariant_of-self-2-clause-whole c =
    All-set (λ block. IsBlock block.0) c.args.self.now.image.items c.args.place c.args.block.now c.bytes-bytes.ensures.block c.args.self.now.whole
