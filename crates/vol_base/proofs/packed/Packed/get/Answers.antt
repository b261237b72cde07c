use Rattle.std.proofs.Common.{arith, ap}
use Rattle.vol_base.specs.Packing.{Packing}
use Rattle.vol_base.proofs.Entries.{entry_count, entry_read}
use Rattle.vol_base.proofs.packed.Packed.get.Goals as goal

pub place-start-requires-clause-counted : goal.place-start-requires-clause-counted
place-start-requires-clause-counted g c =
    let count = entry_count g.row.W _ _ _ (ap (λ (p : Packing). p.entries) c.self.view_is) in omega arith

pub returns : goal.returns
returns g c =
    let seen = ap (λ (p : Packing). p.entries) c.self.view_is in
    let count = entry_count g.row.W _ _ _ seen in
    entry_read g.row.W c.self.inside.count c.args.k c.place-start.result c.self.inside.entries _ _ seen (omega arith) c.place-start.ensures.value c.copy_from_slice.ensures.after
