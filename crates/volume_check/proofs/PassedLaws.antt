-- What the second stage says of journals, tables and logical numbers.
use Rattle.std.proofs.Common.{◌≡◌, ◌<◌, ℕ, List, Some, refl, sym, ap, subst, ◌∙◌, arith}
use Rattle.std.specs.Prelude.{All, slice_get}
use Rattle.std.proofs.lemmas.Option.{get_or_from_slice_get, slice_get_within}
use Rattle.vol_layout.specs.declared.kind.Kind.TheVariants as kinds
use Rattle.vol_layout.specs.declared.field.Field.{Field}
use Rattle.vol_layout.specs.declared.field.Edit.{Edit}
use Rattle.vol_layout.specs.Edits.{IsEdit}
use Rattle.vol_layout.specs.Fields.{HasField, IsInRange, table_of}
use Rattle.image_view.specs.laws.FileLaws.{each_in_range}
use Rattle.image_view.specs.laws.FrameLaws.{HasTable-table_of}
use Rattle.image_view.specs.Images.{block_at}
use Rattle.image_view.specs.Numbers.{field, journal, logical, standing}
use Rattle.image_view.specs.Spelled.{IsJournal}
use Rattle.volume_faults.specs.Sites.{Block}
use Rattle.volume_check.specs.Metadatas.{Metadata, Passes}
use Rattle.volume_check.specs.Records.{IsRecordOf}
use Rattle.journal_block.specs.JournalRecord.{JournalRecord}

-- each journal is the spelling of a record or of none
pub journal_spelled : (m : Metadata) (h : ℕ) → Passes 2 m → h < m.geometry.hosts → IsJournal m.geometry m.counter (block_at m.geometry m.image (kinds.Journal h))
journal_spelled m h passed below = passed (Block (kinds.Journal h)) (refl, (below, tt))

journal_edits : (m : Metadata) (h : ℕ) → Passes 2 m → h < m.geometry.hosts → All (IsEdit m.geometry) (journal m.geometry m.image h)
unfolding journal
journal_edits m h passed below = (journal_spelled m h passed below).spelled.edits.each

-- an edit of a record is in range
pub edit_in_range : (m : Metadata) (h k : ℕ) (r : JournalRecord) (e : Edit) → Passes 2 m → IsRecordOf m h r → slice_get r.edits k ≡ Some e → IsEdit m.geometry e
edit_in_range m h k r e passed of at =
    let there = ap (λ (es : List Edit). slice_get es k) (sym of.edits) ∙ at in
    subst (IsEdit m.geometry) (get_or_from_slice_get (journal m.geometry m.image h) k e e there) (journal_edits m h passed of.host k e (slice_get_within (journal m.geometry m.image h) k e there))

-- a number in a table is in range
table_in_range : (m : Metadata) (x : Field) → Passes 2 m → HasField m.geometry x → IsInRange m.geometry x (field m.geometry m.image x)
unfolding field
table_in_range m x passed has = (passed (Block (kinds.Table (table_of x))) (refl, (HasTable-table_of m.geometry x has, tt))).1 x has refl

-- the logical numbers are in range
pub logical_in_range : (m : Metadata) (x : Field) → Passes 2 m → HasField m.geometry x → IsInRange m.geometry x (logical m.geometry m.image x)
unfolding logical standing
logical_in_range m x passed has =
    each_in_range m.geometry (λ h. journal m.geometry m.image h) x (field m.geometry m.image x) 0 m.geometry.hosts m.geometry.hosts (omega arith) (λ h below. journal_edits m h passed below) (table_in_range m x passed has)
