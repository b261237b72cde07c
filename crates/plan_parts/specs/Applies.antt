-- A record on its way into the tables: what stands between two of its steps, and what each step leaves.
use Rattle.std.specs.Prelude.{◌≡◌, ◌≢◌, ◌⊎◌, ℕ, [], ◌∷◌, All, List, None}
use Rattle.vol_base.specs.Packing.{Packing, packed_bytes}
use Rattle.vol_layout.specs.declared.field.Edit.{Edit}
use Rattle.vol_layout.specs.declared.kind.Kind.TheVariants as kinds
use Rattle.vol_layout.specs.Edits.{IsEdit}
use Rattle.vol_layout.specs.Fields.{table_of}
use Rattle.vol_layout.specs.Journal.{journal_bytes}
use Rattle.shared_disk.specs.Events.{Event}
use Rattle.table_blocks.specs.Made.{made}
use Rattle.host_facts.specs.Facts.Fact.{RecordIs}
use Rattle.host_facts.specs.Knows.{Knows}
use Rattle.host_facts.specs.Records.{IsDone}
use Rattle.host_facts.specs.Views.{WorldView}
use Rattle.host_facts.specs.Wrote.{Wrote}
use Rattle.plan_parts.specs.KeptTables.{AreKept, AreTwo, IsKept, IsLeft}
use Rattle.plan_parts.specs.QuietCalls.{Quiet}
use Rattle.plan_parts.specs.declared.applying.Applied.{Applied}
use Rattle.plan_parts.specs.declared.applying.Applied.TheVariants as applied
use Rattle.plan_parts.specs.declared.kept.Kept.{Kept}

-- the record stands in the host's journal, and each of its edits is written, or is of a table that is left
pub record IsApplying (v : WorldView) (h : ℕ) (es : List Edit) (left : List Kept) : Type 0 where
  pub some : es ≢ []
  pub edits : All (IsEdit v.locks.geometry) es
  pub stands : Knows v h (RecordIs es)
  pub kept : AreKept v h left
  pub two : AreTwo left
  pub each : All (λ e. IsLeft left (table_of e.field) ⊎ IsDone v h es e) es

-- a table was written, the first that was left, with all edits of the record; the host knows it so
pub record TableWritten (h : ℕ) (v w : WorldView) (es : List Edit) (left after : List Kept) (kept : Kept) : Type 0 where
  pub before : Packing
  pub first : left ≡ record { which = kept.which; table = before } ∷ after
  pub is_made : kept.table ≡ made kept.which es before
  pub wrote : Wrote h (kinds.Table kept.which) (packed_bytes 4 kept.table) [] None v w
  pub now : IsKept w h kept
  pub stands : IsApplying w h es after
  pub event : Event
  pub quiet : Quiet h v w event

-- no table was left, and the empty journal was written
pub record RecordEnded (h : ℕ) (v w : WorldView) (left : List Kept) : Type 0 where
  pub none : left ≡ []
  pub wrote : Wrote h (kinds.Journal h) (journal_bytes 0 []) [] None v w
  pub empty : Knows w h (RecordIs [])
  pub event : Event
  pub quiet : Quiet h v w event

-- what one step did, by what it says
abbrev pub Went : ℕ → WorldView → WorldView → List Edit → List Kept → List Kept → Applied → Type 0
Went h v w es left after (applied.Wrote kept) = TableWritten h v w es left after kept
Went h v w es left after applied.Finished = RecordEnded h v w left
