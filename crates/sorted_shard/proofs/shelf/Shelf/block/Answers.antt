use Rattle.std.proofs.Common.{◌≤◌, ◌*◌, List, ap, arith, drop, length}
use Rattle.std.proofs.lemmas.List.{length-take}
use Rattle.hint_blocks.specs.declared.entry.IndexEntry.{IndexEntry}
use Rattle.sorted_shard.proofs.Shelving.{block_step}
use Rattle.sorted_shard.proofs.shelf.Shelf.block.Goals as goal

pub loop-entry-preserved : goal.loop-entry-preserved
loop-entry-preserved c =
    let items = c.part-entry-items.result.now in
    let few : length items ≤ 126 =
    omega (arith, ap (λ (xs : List IndexEntry). length xs) c.part-entry-items.ensures.entries, length-take 126 (drop (126 * c.args.k) c.args.self.now.entries)) in
    block_step c.empty-hints.result.geometry c.loop-entry.hints c.push_over.new.self items c.loop-entry.entry-index _ c.loop-entry-test.true few c.loop-entry.invariant c.push_over.ensures
