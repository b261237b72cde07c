use Rattle.std.proofs.Common.{◌∙◌, ap, sym, subst, arith}
use Rattle.vol_base.specs.Packing.{IsPacked, packed_bytes, packing_of}
use Rattle.vol_base.specs.laws.PackingLaws.{IsPacked-packed_bytes, entries_fit, packing_of-packed_bytes}
use Rattle.vol_base.proofs.Entries.{is_packing, pieces_written}
use Rattle.vol_base.proofs.packed.Packed.into_block.Goals as goal

pub overflow_mul-end : goal.overflow_mul-end
overflow_mul-end g c = let within = entries_fit g.row.W c.self.inside.count c.self.invariant.1 in omega arith

pub returns-clause-bytes : goal.returns-clause-bytes
returns-clause-bytes g c =
    pieces_written g.row.W c.self.inside.count c.self.inside.word _ c.self.inside.entries _ _ _ _ c.self.invariant.1 c.self.invariant.3
    c.header-draft.ensures.value c.header-draft.ensures.long c.skip_to.ensures.value c.skip_to.ensures.long
    c.push_bytes.ensures.value c.push_bytes.ensures.long c.finish.ensures.bytes
    ∙ ap (packed_bytes g.row.W) c.self.view_is

pub returns-clause-reads : goal.returns-clause-reads
returns-clause-reads g c =
    ap (packing_of g.row.W) (returns-clause-bytes g c)
    ∙ packing_of-packed_bytes g.row.W c.args.self
    (is_packing g.row.W c.self.inside.count _ c.self.inside.entries _ _ c.self.view_is c.self.invariant.1 c.self.invariant.2 c.self.invariant.3 c.self.invariant.4)

pub returns-clause-packed : goal.returns-clause-packed
returns-clause-packed g c =
    subst (IsPacked g.row.W c.args.self.magic) (sym (returns-clause-bytes g c))
    (IsPacked-packed_bytes g.row.W c.args.self
    (is_packing g.row.W c.self.inside.count _ c.self.inside.entries _ _ c.self.view_is c.self.invariant.1 c.self.invariant.2 c.self.invariant.3 c.self.invariant.4))
