use Rattle.std.proofs.Common.{◌∙◌, refl, sym}
use Rattle.hint_blocks.specs.Entries.{index_entry_of}
use Rattle.hint_blocks.proofs.entry.IndexEntryHint.from_entry.Goals as goal

pub returns-in_err-to : goal.returns-in_err-to
unfolding index_entry_of
returns-in_err-to c = c.from_residual.ensures ∙ rw (sym c.target_in.ensures ∙ c.in_err-to.was) refl

pub returns : goal.returns
unfolding index_entry_of
returns c = rw (sym c.target_in.ensures ∙ c.in_ok-to.was, c.digest_in.ensures) refl
