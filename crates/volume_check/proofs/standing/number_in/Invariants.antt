use Rattle.std.proofs.Common.{◌≡◌, drop}
use Rattle.image_view.specs.Found.{found}
use Rattle.volume_check.proofs.standing.number_in.Given as goal

abbrev pub invariant-loop-edit : goal.invariant-loop-edit
invariant-loop-edit l = found l.edits l.what ≡ found (drop l.edit-index l.edits) l.what
