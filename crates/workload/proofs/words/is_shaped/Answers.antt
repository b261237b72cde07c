use Rattle.std.proofs.Common.{Bool, ◌&&◌, sym, ap, ◌∙◌}
use Rattle.workload.specs.Texts.{is_shaped}
use Rattle.workload.proofs.Parts.{is_shaped-first, is_shaped-last}
use Rattle.workload.proofs.words.is_shaped.Goals as goal

pub returns-then-not-is_word : goal.returns-then-not-is_word
returns-then-not-is_word c =
    let first = is_shaped-first _ _ _ c.in-Some.ensures.parts in
    sym (sym c.loop-word.invariant ∙ first ∙ ap (λ (b : Bool). b && is_shaped c.in-Some.after.now) (sym c.is_word.ensures ∙ c.if-not-is_word.true))

pub loop-word-preserved : goal.loop-word-preserved
loop-word-preserved c =
    let first = is_shaped-first _ _ _ c.in-Some.ensures.parts in
    sym (first ∙ ap (λ (b : Bool). b && is_shaped c.in-Some.after.now) (sym c.is_word.ensures ∙ c.if-not-is_word.false)) ∙ c.loop-word.invariant

pub returns : goal.returns
returns c = c.is_word-2.ensures ∙ sym (is_shaped-last _ c.in_default.ensures.parts) ∙ c.loop-word.invariant
