use Rattle.std.proofs.Common.{◌∙◌, ◌≡◌, false, refl, sym, true}
use Rattle.recover_plan.specs.laws.RecoverLaws.{answers_found, claims_again}
use Rattle.recover_plan.proofs.recover.found_slot.Goals as goal

pub returns-then-again : goal.returns-then-again
returns-then-again c =
    answers_found c.args.of c.args.from c.args.found c.args.watch.now c.remembered.new.watch c.args.again c.remembered.result
    (λ first. let both : true ≡ false = sym c.if-again.true ∙ first in absurd cc) c.remembered.ensures.kept c.remembered.ensures.looked
    c.remembered.ensures.answer

pub returns-then-is_same_live : goal.returns-then-is_same_live
returns-then-is_same_live c =
    claims_again c.args.of c.args.from c.args.found c.args.watch.now c.args.again c.if-again.false (c.if-is_same_live.ensures.0 refl)

pub returns : goal.returns
returns c =
    answers_found c.args.of c.args.from c.args.found c.args.watch.now c.remembered-2.new.watch c.args.again c.remembered-2.result
    (λ first same. let both : false ≡ true = c.if-is_same_live.ensures.1 same in absurd cc) c.remembered-2.ensures.kept
    c.remembered-2.ensures.looked c.remembered-2.ensures.answer
