use Rattle.std.proofs.Common.{◌≡◌, ◌∙◌, ap, replicate}
use Rattle.shared_disk.specs.MemDisk.{zero_blocks, bytes_of}
use Rattle.shared_disk.proofs.BlockLists.{map-replicate}
use Rattle.shared_disk.proofs.mem_disk.MemDisk.new.Goals as goal

pub returns-in-Ok-clause-fresh : goal.returns-in-Ok-clause-fresh
unfolding zero_blocks
returns-in-Ok-clause-fresh c =
    let zeros : bytes_of c.in-Ok.image.items ≡ zero_blocks c.args.blocks =
    rw (c.in-Ok.ensures.items_if_clones_equal (λ _ clone. clone)) (map-replicate _ _ _ ∙ ap (replicate c.args.blocks) c.zeros.ensures) in
    rw zeros at c.of_image.ensures
