use Rattle.std.proofs.Common.{ℕ, List, sym, ap, ◌∙◌}
use Rattle.vol_base.specs.Bytes.{u32_at, u64_at}
use Rattle.vol_layout.specs.declared.geometry.Geometry.{Geometry}
use Rattle.vol_layout.specs.declared.kind.Kind.TheVariants as kinds
use Rattle.vol_layout.specs.Places.{place_of}
use Rattle.image_view.specs.HostKeys.{lock_key_at, lock_state_at}
use Rattle.volume_check.proofs.HoldLaws.{lock_added, lock_free}
use Rattle.volume_check.proofs.SiteLaws.{OnOk-follows}
use Rattle.volume_check.proofs.holds.add_of_lock.Goals as goal

pub returns-then-u32_at-ne-HELD : goal.returns-then-u32_at-ne-HELD
unfolding lock_state_at
returns-then-u32_at-ne-HELD c =
    let state = c.u32_at.ensures.number ∙ ap (λ (bytes : List ℕ). u32_at bytes 8) c.block-lock.ensures.bytes in
    lock_free c.args.metadata.now c.args.resource c.args.faults.now.items (λ held. c.if-u32_at-ne-HELD.true (state ∙ held))

pub returns : goal.returns
unfolding lock_state_at lock_key_at
returns c =
    let state = c.u32_at.ensures.number ∙ ap (λ (bytes : List ℕ). u32_at bytes 8) c.block-lock.ensures.bytes in
    let key = c.u64_at-key.ensures.number ∙ ap (λ (bytes : List ℕ). u64_at bytes 16) c.block-lock.ensures.bytes in
    let place = c.place-place.ensures.place ∙ ap (λ (g : Geometry). place_of g (kinds.Lock c.args.resource)) c.geometry.ensures.geometry in
    OnOk-follows c.add_where.result _ _
    (λ grew. lock_added c.args.metadata.now c.args.resource c.place-place.result c.u64_at-key.result c.is_shown-shown.result c.args.faults.now.items c.add_where.new.faults.items c.requires
    (sym state ∙ c.if-u32_at-ne-HELD.false) place key c.is_shown-shown.ensures grew)
    c.add_where.ensures
