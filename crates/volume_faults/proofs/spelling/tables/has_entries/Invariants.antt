use Rattle.std.proofs.Common.{◌<◌, ◌+◌, ◌*◌, ℕ}
use Rattle.vol_base.specs.Bytes.{u32_at}
use Rattle.vol_layout.specs.Fields.{IsInRange}
use Rattle.volume_faults.specs.TableFields.{entry_field}
use Rattle.volume_faults.proofs.spelling.tables.has_entries.Given as goal

abbrev pub invariant-loop-entry : goal.invariant-loop-entry
invariant-loop-entry l = (e : ℕ) → e < l.entry → IsInRange l.geometry (entry_field l.table e) (u32_at l.block.0 (64 + 4 * e))
