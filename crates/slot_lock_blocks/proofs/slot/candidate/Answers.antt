use Rattle.std.proofs.Common.{refl, sym, ap, ◌∙◌, Some, arith}
use Rattle.slot_lock_blocks.proofs.SlotWalk.{is_free, is_live, is_recovering, has_by, has_key, has_state}
use Rattle.slot_lock_blocks.proofs.slot.candidate.Goals as goal

pub returns-in_err-key_at-in-1-clause-spelled : goal.returns-in_err-key_at-in-1-clause-spelled
returns-in_err-key_at-in-1-clause-spelled c slot h =
    let state = sym c.u32_at.ensures.number ∙ c.in-1.is in
    absurd (has_key _ slot h (λ none. absurd (omega arith)) (c.in_err-key_at-in-1.ensures.none.0 refl))

pub returns-in_err-key_at-in-2-clause-spelled : goal.returns-in_err-key_at-in-2-clause-spelled
returns-in_err-key_at-in-2-clause-spelled c slot h =
    let state = sym c.u32_at.ensures.number ∙ c.in-2.is in
    absurd (has_key _ slot h (λ none. absurd (omega arith)) (c.in_err-key_at-in-2.ensures.none.0 refl))

pub returns-in_err-key_at-in-2-2-clause-spelled : goal.returns-in_err-key_at-in-2-2-clause-spelled
returns-in_err-key_at-in-2-2-clause-spelled c slot h =
    absurd (has_by _ slot h (sym c.u32_at.ensures.number ∙ c.in-2.is) (c.in_err-key_at-in-2-2.ensures.none.0 refl))

pub returns-in-0-clause-spelled : goal.returns-in-0-clause-spelled
returns-in-0-clause-spelled c slot h = ap Some (sym (is_free _ slot h (sym c.u32_at.ensures.number ∙ c.in-0.is)))

pub returns-in_ok-key_at-in-1-clause-spelled : goal.returns-in_ok-key_at-in-1-clause-spelled
returns-in_ok-key_at-in-1-clause-spelled c slot h = ap Some (sym (is_live _ slot _ _ h (sym c.u32_at.ensures.number ∙ c.in-1.is) c.in_ok-key_at-in-1.ensures.number c.u64_at.ensures.number))

pub returns-in_ok-key_at-in-2-2-clause-spelled : goal.returns-in_ok-key_at-in-2-2-clause-spelled
returns-in_ok-key_at-in-2-2-clause-spelled c slot h = ap Some (sym (is_recovering _ slot _ _ h (sym c.u32_at.ensures.number ∙ c.in-2.is) c.in_ok-key_at-in-2.ensures.number c.in_ok-key_at-in-2-2.ensures.number))

pub returns-in_default-clause-spelled : goal.returns-in_default-clause-spelled
returns-in_default-clause-spelled c slot h = let small = has_state _ slot h in let was = c.u32_at.ensures.number in absurd (grind arith)
