use Rattle.std.proofs.Common.{◌≡◌}
use Rattle.std.specs.List.{flat_map, range_with_len}
use Rattle.image_view.specs.Numbers.{journal}
use Rattle.volume_check.proofs.standing.standing.Given as goal

abbrev pub invariant-loop-host : goal.invariant-loop-host
invariant-loop-host l = l.edits.items ≡ flat_map (λ h. journal l.metadata.geometry l.metadata.image h) (range_with_len 0 l.host)
