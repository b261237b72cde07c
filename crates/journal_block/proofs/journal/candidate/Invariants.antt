use Rattle.std.specs.Prelude.{All}
use Rattle.vol_layout.specs.Edits.{IsEdit}
use Rattle.journal_block.proofs.JournalWalk.{ReadUpTo}
use Rattle.journal_block.proofs.journal.candidate.Given as goal

abbrev pub invariant-loop-k : goal.invariant-loop-k
invariant-loop-k l = All (IsEdit l.geometry) l.record.edits × ReadUpTo l.geometry l.block.0 l.k l.record
