use Rattle.std.proofs.Common.{arith, ap}
use Rattle.vol_base.specs.Packing.{Packing}
use Rattle.vol_base.proofs.Entries.{entry_count, entry_written, with_entries}
use Rattle.vol_base.proofs.packed.Packed.set.Goals as goal

pub place-at-requires-clause-counted : goal.place-at-requires-clause-counted
place-at-requires-clause-counted g c =
    let count = entry_count g.row.W _ _ _ (ap (λ (p : Packing). p.entries) c.self.view_is) in omega arith

pub returns : goal.returns
returns g c =
    let seen = ap (λ (p : Packing). p.entries) c.self.view_is in
    let count = entry_count g.row.W _ _ _ seen in
    with_entries _ _ _ _ c.self.view_is
    (entry_written g.row.W c.self.inside.count c.args.k c.place-at.result c.self.inside.entries _ _ _ seen (omega arith) c.self.invariant.1
    c.self.told.1 c.place-at.ensures.value c.place-at.ensures.within c.copy_from_slice.ensures.after c.copy_from_slice.ensures.len)
