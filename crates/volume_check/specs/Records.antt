-- The record of a host, as it was read.
use Rattle.std.specs.Prelude.{◌≡◌, ◌<◌, ℕ}
use Rattle.journal_block.specs.JournalRecord.{JournalRecord}
use Rattle.image_view.specs.HostKeys.{journal_key_at}
use Rattle.image_view.specs.Numbers.{journal}
use Rattle.volume_check.specs.Metadatas.{Metadata}

-- the record that stands in the journal of a host of the volume
pub record IsRecordOf (m : Metadata) (h : ℕ) (r : JournalRecord) : Type 0 where
  pub host : h < m.geometry.hosts
  pub key : r.key ≡ journal_key_at m.geometry m.image h
  pub edits : r.edits ≡ journal m.geometry m.image h
