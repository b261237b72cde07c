use Rattle.std.proofs.Common.{sym, ◌∙◌}
use Rattle.volume_opening.proofs.OpeningSteps.{same_size, told_fits, unchanged_images}
use Rattle.volume_opening.proofs.opening.open_under.Goals as goal

pub returns-in-Err-clause-images : goal.returns-in-Err-clause-images
returns-in-Err-clause-images g c = unchanged_images _ _ _ c.read_block_zero.ensures.same

pub returns-in-Some-clause-refused : goal.returns-in-Some-clause-refused
returns-in-Some-clause-refused g c =
    told_fits _ _ _ c.in-Ok.found _ c.in-Ok.ensures.found (rw (same_size _ _ _ c.blocks-2.ensures c.read_block_zero.ensures.same) at (sym c.find_misfit.ensures ∙ c.in-Some.is))

pub returns-in-Some-clause-images : goal.returns-in-Some-clause-images
returns-in-Some-clause-images g c = unchanged_images _ _ _ c.read_block_zero.ensures.same
