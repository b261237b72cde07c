use Rattle.std.proofs.Common.{◌≡◌, take, false}
use Rattle.vol_layout.specs.Edits.{touches}
use Rattle.journal_block.proofs.record.Record.touches.Given as goal

abbrev pub invariant-loop-edit : goal.invariant-loop-edit
invariant-loop-edit l = touches (take l.edit-index l.edit-items) l.field ≡ false
