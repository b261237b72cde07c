use Rattle.std.proofs.Common.{◌≡◌, ◌++◌, take}
use Rattle.std.specs.List.{flat_map}
use Rattle.vol_layout.specs.Journal.{edit_bytes}
use Rattle.journal_block.proofs.journal.written.Given as goal

abbrev pub invariant-loop-edit : goal.invariant-loop-edit
invariant-loop-edit l = l.draft ≡ l.initial.draft ++ flat_map edit_bytes (take l.edit-index l.edits)
