use Rattle.std.proofs.Common.{List, ap, arith, length, subst, sym, take}
use Rattle.hint_blocks.specs.declared.entry.IndexEntry.{IndexEntry}
use Rattle.sorted_shard.proofs.ShelfLaws.{Gains-append}
use Rattle.sorted_shard.specs.Shelves.{Gains, ShelfList, entries_in}
use Rattle.sorted_shard.proofs.Shelving.{entries_in-more, gains_nothing}
use Rattle.sorted_shard.proofs.shelf.Shelf.of.Goals as goal

pub loop-block-init : goal.loop-block-init
loop-block-init c =
    let nothing = ap (λ (s : ShelfList). s.entries) c.empty-shelf.ensures in
    (gains_nothing c.args.geometry.now c.empty-shelf.result nothing, omega (arith, ap (λ (es : List IndexEntry). length es) nothing))

pub loop-block-preserved : goal.loop-block-preserved
loop-block-preserved c =
    let blocks = c.args.blocks.now in
    let at = c.loop-block.block-index in
    let more = entries_in-more c.args.geometry.now blocks at _ c.of.result.entries c.loop-block-test.true c.of.ensures.entries in
    let gained = Gains-append c.empty-shelf.result c.loop-block.shelf c.insert_all.new.self (entries_in c.args.geometry.now (take at blocks)) c.of.result.entries c.loop-block.invariant.0 c.insert_all.ensures in (
      subst (λ (es : List IndexEntry). Gains c.empty-shelf.result c.insert_all.new.self es) (sym more) gained,
      omega (arith, c.insert_all.ensures.long, c.of.ensures.room, c.loop-block.invariant.1),
    )
