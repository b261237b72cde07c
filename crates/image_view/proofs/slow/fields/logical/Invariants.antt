use Rattle.std.proofs.Common.{◌≡◌, ◌<◌, ℕ, None}
use Rattle.image_view.specs.Blocks.{image_of}
use Rattle.image_view.specs.Found.{found}
use Rattle.image_view.specs.Numbers.{journal}
use Rattle.image_view.proofs.slow.fields.logical.Given as goal

abbrev pub invariant-loop-host : goal.invariant-loop-host
invariant-loop-host l = (k : ℕ) → k < l.host → found (journal l.geometry (image_of l.image) k) l.what ≡ None
