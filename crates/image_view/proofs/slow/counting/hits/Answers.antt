use Rattle.std.proofs.Common.{◌-◌, ◌%◌, ◌^◌, ◌==◌, sym, ◌∙◌}
use Rattle.image_view.specs.laws.SumLaws.{bool_byte-is}
use Rattle.image_view.proofs.SlowLaws.{hits_any, hits_one, hits_zero}
use Rattle.image_view.proofs.slow.counting.hits.Goals as goal

pub returns-then-name-eq0-clause-hits : goal.returns-then-name-eq0-clause-hits
returns-then-name-eq0-clause-hits c = sym (hits_zero c.args.wanted c.args.number c.if-name-eq0.true)

pub returns-in-None-clause-hits : goal.returns-in-None-clause-hits
returns-in-None-clause-hits c = rw c.in-None.is (sym (hits_any c.args.number c.if-name-eq0.false))

pub returns-in-Some-clause-hits : goal.returns-in-Some-clause-hits
returns-in-Some-clause-hits c =
    rw c.in-Some.is (c.from.ensures ∙ bool_byte-is (c.args.number % 2 ^ 31 - 1 == c.in-Some.data) ∙ sym (hits_one c.args.number c.in-Some.data c.if-name-eq0.false))
