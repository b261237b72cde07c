use Rattle.std.proofs.Common.{◌≡◌, ℕ, Some, sym, ap, ◌∙◌, arith}
use Rattle.image_view.proofs.SlowLaws.{edits_found, edits_none}
use Rattle.image_view.proofs.slow.journals.edit_in.Goals as goal

pub returns-then-is_of : goal.returns-then-is_of
returns-then-is_of c =
    ap (λ (n : ℕ). Some n) c.number.ensures
    ∙ sym (edits_found c.args.journal.now.0 c.args.field.now c.loop-k.k c.u32_at-count.result c.u32_at-count.ensures.number c.loop-k-test.true c.loop-k.invariant (sym c.is_of.ensures ∙ c.if-is_of.true))

pub returns : goal.returns
returns c =
    let end : c.loop-k.k ≡ c.u32_at-count.result = omega arith in
    sym (edits_none c.args.journal.now.0 c.args.field.now c.loop-k.k (end ∙ c.u32_at-count.ensures.number) c.loop-k.invariant)
