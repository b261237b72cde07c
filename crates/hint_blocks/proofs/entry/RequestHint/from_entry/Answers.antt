use Rattle.std.proofs.Common.{refl}
use Rattle.hint_blocks.specs.Entries.{request_of}
use Rattle.hint_blocks.proofs.entry.RequestHint.from_entry.Goals as goal

pub returns-then-not-has_request : goal.returns-then-not-has_request
unfolding request_of
returns-then-not-has_request c = rw (← c.number_in-index.ensures, ← c.number_in-slot.ensures, ← c.if-not-has_request.ensures) refl

pub returns : goal.returns
unfolding request_of
returns c = rw (← c.number_in-index.ensures, ← c.number_in-slot.ensures, ← c.if-not-has_request.ensures, c.digest_in.ensures) refl
