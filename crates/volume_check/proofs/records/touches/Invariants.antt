use Rattle.std.proofs.Common.{◌≡◌, ◌≢◌, ◌<◌, ℕ, Some}
use Rattle.std.specs.Prelude.{slice_get}
use Rattle.vol_layout.specs.declared.field.Edit.{Edit}
use Rattle.volume_check.proofs.records.touches.Given as goal

abbrev pub invariant-loop-index : goal.invariant-loop-index
invariant-loop-index l = (k : ℕ) (e : Edit) → k < l.index → slice_get l.entry.edits k ≡ Some e → e.field ≢ l.field
