use Rattle.std.proofs.Common.{refl, sym, ap, ◌∙◌, Some, arith}
use Rattle.slot_lock_blocks.proofs.LockWalk.{is_free, is_held, is_read, has_holder, has_state}
use Rattle.slot_lock_blocks.proofs.lock.candidate.Goals as goal

pub returns-in_err-key_at-in-1-clause-spelled : goal.returns-in_err-key_at-in-1-clause-spelled
returns-in_err-key_at-in-1-clause-spelled c word h =
    absurd (has_holder _ word h (sym c.u32_at.ensures.number ∙ c.in-1.is) (c.in_err-key_at-in-1.ensures.none.0 refl))

pub returns-in_err-readers_in-in-2-clause-spelled : goal.returns-in_err-readers_in-in-2-clause-spelled
returns-in_err-readers_in-in-2-clause-spelled c word h =
    let read = is_read _ word h (sym c.u32_at.ensures.number ∙ c.in-2.is) in
    let is = c.in_err-readers_in-in-2.ensures.stand read.readers read.are read.stand read.some in
    absurd cc

pub returns-in-0-clause-spelled : goal.returns-in-0-clause-spelled
returns-in-0-clause-spelled c word h = ap Some (sym (is_free _ word h (sym c.u32_at.ensures.number ∙ c.in-0.is)))

pub returns-in_ok-key_at-in-1-clause-spelled : goal.returns-in_ok-key_at-in-1-clause-spelled
returns-in_ok-key_at-in-1-clause-spelled c word h =
    ap Some (sym (is_held _ word _ h (sym c.u32_at.ensures.number ∙ c.in-1.is) c.in_ok-key_at-in-1.ensures.number))

pub returns-in_ok-readers_in-in-2-clause-spelled : goal.returns-in_ok-readers_in-in-2-clause-spelled
returns-in_ok-readers_in-in-2-clause-spelled c word h =
    let read = is_read _ word h (sym c.u32_at.ensures.number ∙ c.in-2.is) in
    let is = c.in_ok-readers_in-in-2.ensures.stand read.readers read.are read.stand read.some in
    let word_is = read.word_is in
    cc

pub returns-in_default-clause-spelled : goal.returns-in_default-clause-spelled
returns-in_default-clause-spelled c word h = let small = has_state _ word h in let was = c.u32_at.ensures.number in absurd (grind arith)
