use Rattle.std.proofs.Common.{ℕ, List, ap, ◌∙◌}
use Rattle.vol_base.specs.Bytes.{u64_at}
use Rattle.image_view.specs.HostKeys.{slot_key_at}
use Rattle.volume_check.proofs.keys.slot_key.Goals as goal

pub returns : goal.returns
unfolding slot_key_at
returns c = c.u64_at.ensures.number ∙ ap (λ (bytes : List ℕ). u64_at bytes 16) c.block.ensures.bytes
