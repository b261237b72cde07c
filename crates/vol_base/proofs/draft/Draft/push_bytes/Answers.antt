use Rattle.std.proofs.Common.{arith, refl, ap, length, length-take-le}
use Rattle.vol_base.proofs.Padding.{drop_written}
use Rattle.vol_base.proofs.draft.Draft.push_bytes.Goals as goal

pub invariant_of-self : goal.invariant_of-self
invariant_of-self c =
    let len = length-take-le c.self.inside.len c.self.inside.bytes (omega arith) in
    let view = ap length c.self.view_is in
    let part = ap length c.copy_from_slice.ensures.after in
    (omega arith, drop_written c.self.inside.len _ _ _ _ refl part (omega arith) c.self.told c.self.invariant.1)
