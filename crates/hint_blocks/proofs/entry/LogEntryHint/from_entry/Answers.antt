use Rattle.std.proofs.Common.{refl}
use Rattle.hint_blocks.specs.Entries.{log_entry_of}
use Rattle.hint_blocks.proofs.entry.LogEntryHint.from_entry.Goals as goal

pub returns-then-not-has_place : goal.returns-then-not-has_place
unfolding log_entry_of
returns-then-not-has_place c = rw (← c.number_in-file.ensures, ← c.number_in-index.ensures, ← c.if-not-has_place.ensures.place) refl

pub returns : goal.returns
unfolding log_entry_of
returns c = rw (← c.number_in-file.ensures, ← c.number_in-index.ensures, ← c.if-not-has_place.ensures.place, c.digest_in.ensures) refl
