use Rattle.std.proofs.Common.{Option, refl, subst, sym, ap, ◌∙◌, Some}
use Rattle.settle.specs.declared.lone.LoneNo.{LoneNo}
use Rattle.settle.specs.laws.PassLaws.{goes_same}
use Rattle.solo.specs.Views.{IsInOrder, state_of, told}
use Rattle.solo.specs.laws.BeganLaws.{refused_since}
use Rattle.solo.proofs.solo.Solo.compare_share.Goals as goal

pub invariant_of-self-in-Err : goal.invariant_of-self-in-Err
invariant_of-self-in-Err g c =
    subst (λ (stopped : Option LoneNo). IsInOrder c.shares.new.world c.forget.new.cache c.self.inside.start.value.locks.disk stopped)
    (sym (c.stop.ensures.stopped ∙ ap (λ (no' : LoneNo). Some no') c.stop.ensures.no))
    (refused_since c.self.inside.start.value.locks.disk c.self.inside.world c.shares.new.world c.forget.new.cache c.args.file c.args.index
    c.args.source c.in-Err.why c.self.invariant.later c.in-Err.ensures.stopped)

pub returns-in-Some-clause-on : goal.returns-in-Some-clause-on
returns-in-Some-clause-on g c =
    goes_same (state_of c.args.self.now).counter (state_of c.args.self.now).counter (told c.args.self.now) (told c.args.self.now) refl refl
