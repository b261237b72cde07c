use Rattle.std.proofs.Common.{◌∙◌, ap, map, sym}
use Rattle.std.specs.List.{filter_map}
use Rattle.vol_base.specs.Packing.{IsPacked, Packing, packed_bytes}
use Rattle.vol_layout.specs.declared.geometry.Geometry.{Geometry}
use Rattle.hint_blocks.specs.HintLists.{HintList, hints_in}
use Rattle.hint_blocks.specs.laws.HintListLaws.{hints_in-packed, map-filter_map, packing_parts}
use Rattle.hint_blocks.proofs.hints.Hints.into_block.Goals as goal

pub returns-clause-bytes : goal.returns-clause-bytes
returns-clause-bytes g c =
    let fields = c.self.inside in
    let kept = map-filter_map (g.T.Hint.read fields.geometry) g.T.Hint.entry_bytes fields.packed.entries c.self.invariant.3 in
    let seen = ap (λ (hints : HintList g.row.T.Denot). map g.T.Hint.entry_bytes hints.entries) c.self.view_is in
    c.into_block.ensures.bytes
    ∙ ap (packed_bytes 32) (packing_parts fields.packed g.T.Hint.MAGIC (map g.T.Hint.entry_bytes c.args.self.entries) c.self.invariant.1 c.self.invariant.2 (sym kept ∙ seen))

pub returns-clause-reads : goal.returns-clause-reads
returns-clause-reads g c =
    let fields = c.self.inside in
    let bytes = c.into_block.result.0 in
    let packed : IsPacked 32 g.T.Hint.MAGIC bytes = (c.into_block.ensures.packed.0 ∙ c.self.invariant.1, c.into_block.ensures.packed.1) in
    ap (λ (geometry : Geometry). hints_in g.T.Hint.MAGIC (g.T.Hint.read geometry) bytes) (ap (λ (hints : HintList g.row.T.Denot). hints.geometry) (sym c.self.view_is))
    ∙ hints_in-packed g.T.Hint.MAGIC bytes (g.T.Hint.read fields.geometry) packed
    ∙ ap (λ (p : Packing). filter_map (g.T.Hint.read fields.geometry) p.entries) c.into_block.ensures.reads
    ∙ ap (λ (hints : HintList g.row.T.Denot). hints.entries) c.self.view_is
