use Rattle.std.proofs.Common.{List, arith, subst, sym, take, ◌∙◌}
use Rattle.hint_blocks.specs.declared.entry.IndexEntry.{IndexEntry}
use Rattle.sorted_shard.specs.Shelves.{IsShelf}
use Rattle.sorted_shard.proofs.Shelving.{shelf_behind}
use Rattle.sorted_shard.proofs.shelf.Shelf.drop_first.Goals as goal

pub invariant_of-self : goal.invariant_of-self
invariant_of-self c =
    let fields = c.self.inside in (
      c.take_out.ensures.long ∙ c.self.invariant.0,
      omega (arith, c.self.invariant.1),
      subst (λ (es : List IndexEntry). IsShelf (record { geometry = fields.geometry; blocks = fields.blocks; entries = es })) (sym c.take_out.ensures.entries)
          (shelf_behind (record { geometry = fields.geometry; blocks = fields.blocks; entries = take fields.count fields.entries }) 1 c.self.invariant.2),
    )
