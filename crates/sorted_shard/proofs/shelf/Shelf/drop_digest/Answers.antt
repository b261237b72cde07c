use Rattle.std.proofs.Common.{List, arith, subst, sym, take, ◌∙◌}
use Rattle.hint_blocks.specs.declared.entry.IndexEntry.{IndexEntry}
use Rattle.sorted_shard.specs.Shelves.{IsShelf}
use Rattle.sorted_shard.proofs.Shelving.{shelf_without}
use Rattle.sorted_shard.proofs.shelf.Shelf.drop_digest.Goals as goal

pub invariant_of-self : goal.invariant_of-self
invariant_of-self c =
    let fields = c.self.inside in
    let left = c.take_out.ensures.entries ∙ c.range_of-start.ensures.outside in (
      c.take_out.ensures.long ∙ c.self.invariant.0,
      omega (arith, c.self.invariant.1),
      subst (λ (es : List IndexEntry). IsShelf (record { geometry = fields.geometry; blocks = fields.blocks; entries = es })) (sym left)
          (shelf_without (record { geometry = fields.geometry; blocks = fields.blocks; entries = take fields.count fields.entries }) c.args.digest.now.0 c.self.invariant.2),
    )
