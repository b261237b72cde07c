use Rattle.std.proofs.Common.{List, [], ◌∷◌, subst, sym, take}
use Rattle.hint_blocks.specs.laws.HintListLaws.{take_more_get}
use Rattle.hint_blocks.specs.declared.entry.IndexEntry.{IndexEntry}
use Rattle.sorted_shard.proofs.ShelfLaws.{Gains-append}
use Rattle.sorted_shard.specs.Shelves.{Gains}
use Rattle.sorted_shard.proofs.shelf.Shelf.insert_all.Goals as goal

pub loop-k-preserved : goal.loop-k-preserved
loop-k-preserved c =
    let hints = c.args.hints.now.entries in
    subst (λ (es : List IndexEntry). Gains c.args.self.now c.insert.new.self es) (sym (take_more_get hints c.loop-k.k c.get.result c.get.ensures.value))
    (Gains-append c.args.self.now c.loop-k.self c.insert.new.self (take c.loop-k.k hints) (c.get.result ∷ []) c.loop-k.invariant c.insert.ensures)
