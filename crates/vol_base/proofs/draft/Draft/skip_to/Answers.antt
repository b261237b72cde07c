use Rattle.std.proofs.Common.{arith, ap, length, length-take-le}
use Rattle.vol_base.proofs.Padding.{drop_padded, take_padded}
use Rattle.vol_base.proofs.draft.Draft.skip_to.Goals as goal

pub invariant_of-self : goal.invariant_of-self
invariant_of-self c =
    let len = length-take-le c.self.inside.len c.self.inside.bytes (omega arith) in
    let view = ap length c.self.view_is in
    (c.requires.within, drop_padded c.self.inside.len _ _ (omega arith) c.requires.within c.self.invariant.1)

pub returns-clause-value : goal.returns-clause-value
returns-clause-value c =
    let len = length-take-le c.self.inside.len c.self.inside.bytes (omega arith) in
    rw (← c.self.view_is, len) (take_padded c.self.inside.len _ _ (omega (arith, ap length c.self.view_is)) c.requires.within c.self.invariant.1)
