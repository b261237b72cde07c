use Rattle.std.proofs.Common.{◌<◌, ◌+◌, ◌*◌, List, [], ◌∷◌, arith, length, subst, sym, take, ◌∙◌}
use Rattle.std.proofs.lemmas.List.{length-take}
use Rattle.hint_blocks.specs.declared.entry.IndexEntry.{IndexEntry}
use Rattle.hint_blocks.specs.Entries.{IsIndexEntry}
use Rattle.sorted_shard.specs.Shelves.{Gains, IsShelf, ShelfList}
use Rattle.sorted_shard.proofs.Shelving.{gains_inserted, shelf_inserted}
use Rattle.sorted_shard.proofs.shelf.Shelf.insert.Goals as goal

pub invariant_of-self : goal.invariant_of-self
invariant_of-self c =
    let fields = c.self.inside in
    let shelf : ShelfList = record { geometry = fields.geometry; blocks = fields.blocks; entries = take fields.count fields.entries } in
    let room : length shelf.entries < 126 * shelf.blocks = subst (λ (s : ShelfList). length s.entries < 126 * s.blocks) (sym c.self.view_is) c.requires.room in
    let range = subst (λ (s : ShelfList). IsIndexEntry s.geometry c.args.entry) (sym c.self.view_is) c.requires.range in
    let place = c.count_up_to-place in (
      c.put_at.ensures.long ∙ c.self.invariant.0,
      omega (arith, c.self.invariant.1, c.self.invariant.2.few, length-take fields.count fields.entries, c.self.invariant.0),
      subst (λ (es : List IndexEntry). IsShelf (record { geometry = fields.geometry; blocks = fields.blocks; entries = es })) (sym c.put_at.ensures.entries)
          (shelf_inserted shelf place.result c.args.entry c.self.invariant.2 room range place.ensures.within place.ensures.up_to place.ensures.others),
    )

pub returns : goal.returns
returns c =
    let fields = c.self.inside in
    let shelf : ShelfList = record { geometry = fields.geometry; blocks = fields.blocks; entries = take fields.count fields.entries } in
    let room : length shelf.entries < 126 * shelf.blocks = subst (λ (s : ShelfList). length s.entries < 126 * s.blocks) (sym c.self.view_is) c.requires.room in
    let range = subst (λ (s : ShelfList). IsIndexEntry s.geometry c.args.entry) (sym c.self.view_is) c.requires.range in
    let place = c.count_up_to-place in
    let new : ShelfList = record { geometry = fields.geometry; blocks = fields.blocks; entries = take (fields.count + 1) c.put_at.new.entries } in
    subst (λ (s : ShelfList). Gains s new (c.args.entry ∷ [])) c.self.view_is
    (subst (λ (es : List IndexEntry). Gains shelf (record { geometry = fields.geometry; blocks = fields.blocks; entries = es }) (c.args.entry ∷ [])) (sym c.put_at.ensures.entries)
    (gains_inserted shelf place.result c.args.entry c.self.invariant.2 room range place.ensures.within place.ensures.up_to place.ensures.others))
