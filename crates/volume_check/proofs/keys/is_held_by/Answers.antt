use Rattle.std.proofs.Common.{ℕ, List, ap, ◌∙◌}
use Rattle.std.proofs.lemmas.Bool.{eqb-true}
use Rattle.vol_base.specs.Bytes.{u32_at, u64_at}
use Rattle.image_view.specs.HostKeys.{lock_key_at, lock_state_at}
use Rattle.volume_check.proofs.HoldLaws.{held_by}
use Rattle.volume_check.proofs.keys.is_held_by.Goals as goal

pub returns-then-u32_at-eq-HELD : goal.returns-then-u32_at-eq-HELD
unfolding lock_state_at lock_key_at
returns-then-u32_at-eq-HELD c =
    let state = c.u32_at.ensures.number ∙ ap (λ (bytes : List ℕ). u32_at bytes 8) c.block-lock.ensures.bytes in
    let key = c.u64_at.ensures.number ∙ ap (λ (bytes : List ℕ). u64_at bytes 16) c.block-lock.ensures.bytes in
    held_by c.args.metadata.now c.args.resource c.args.key.0 _ _ state key c.if-u32_at-eq-HELD.true

pub returns-else-u32_at-eq-HELD : goal.returns-else-u32_at-eq-HELD
unfolding lock_state_at
returns-else-u32_at-eq-HELD c =
    let state = c.u32_at.ensures.number ∙ ap (λ (bytes : List ℕ). u32_at bytes 8) c.block-lock.ensures.bytes in
    (λ t. absurd (c.if-u32_at-eq-HELD.false (eqb-true _ _ t)), λ h. absurd (c.if-u32_at-eq-HELD.false (state ∙ h.held)))
