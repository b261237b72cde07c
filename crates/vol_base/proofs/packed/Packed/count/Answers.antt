use Rattle.std.proofs.Common.{ap}
use Rattle.vol_base.specs.Packing.{Packing}
use Rattle.vol_base.proofs.Entries.{entry_count, is_packing}
use Rattle.vol_base.proofs.packed.Packed.count.Goals as goal

pub returns-clause-value : goal.returns-clause-value
returns-clause-value g c = entry_count g.row.W _ _ _ (ap (λ (p : Packing). p.entries) c.self.view_is)

pub returns-clause-packing : goal.returns-clause-packing
returns-clause-packing g c = is_packing g.row.W c.self.inside.count _ c.self.inside.entries _ _ c.self.view_is c.self.invariant.1 c.self.told.0 c.self.told.1 c.self.invariant.4
