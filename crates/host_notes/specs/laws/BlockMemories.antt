-- What a host remembers behind calls at tables, journals, data blocks and hint blocks: all that it did.
use Rattle.std.proofs.Common.{ℕ, List, Option, true, false, refl}
use Rattle.std.specs.Prelude.{Ok}
use Rattle.vol_base.specs.declared.block.Block.{Block}
use Rattle.vol_base.specs.Packing.{Packing, packed_bytes}
use Rattle.vol_layout.specs.declared.geometry.Geometry.{Geometry}
use Rattle.vol_layout.specs.declared.kind.Kind.{Kind}
use Rattle.vol_layout.specs.declared.kind.Kind.TheVariants as kinds
use Rattle.vol_layout.specs.declared.kind.Table.{Table}
use Rattle.vol_layout.specs.declared.field.Field.TheVariants as fields
use Rattle.vol_layout.specs.Fields.{table_of}
use Rattle.vol_layout.specs.Journal.{journal_bytes}
use Rattle.vol_layout.specs.Places.{place_of}
use Rattle.shared_disk.specs.Events.{Done, Reads, Shows, Tests, Writes}
use Rattle.shared_disk.specs.declared.answers.Tested.TheVariants.{Found, Swapped}
use Rattle.journal_block.specs.JournalRecord.{JournalRecord, entry_edits, entry_key}
use Rattle.lock_store.specs.Calls.{ReadsBlock, SwapsBlock, WritesBlock}
use Rattle.lock_store.specs.Events.{read_of, swap_of}
use Rattle.lock_store.specs.Views.{LocksView, host_at}
use Rattle.disk_locks.specs.MayWrite.{IsWritable}
use Rattle.host_facts.specs.Calls.{PeeksSlot, ReadsJournal, ReadsPlace, ReadsTable, SwapsPlace, WritesPlace}
use Rattle.host_facts.specs.Hints.{IsHintPlace}
use Rattle.host_runs.specs.Memories.{Memory}
use Rattle.host_notes.specs.Asked.{IsPlainPlace}
use Rattle.host_notes.specs.Remembered.{IsRemembered, RemembersCall}
use Rattle.host_notes.specs.laws.QuietMemories.{remembered_same}
use Rattle.host_notes.specs.lemmas.PlainKinds.{hint_writable}

module _ (v l : LocksView) (h : ℕ) (memory : Memory) (is : IsRemembered v.geometry memory (host_at v h)) where
  -- the block of a kind was read, written, or tested and set
  pub remembered_block_read : (kind : Kind) (block : Block) → ReadsBlock v h kind (Ok block) l
      → RemembersCall v h memory (read_of v kind) (Shows block.0) l
  remembered_block_read kind block did = remembered_same v l h memory (read_of v kind) (Shows block.0) is tt did.mine

  pub remembered_block_write : (kind : Kind) (block : List ℕ) (done : Unit) → IsWritable v.geometry kind
      → WritesBlock v h kind block (host_at v h) (Ok done) l
      → RemembersCall v h memory (Writes (place_of v.geometry kind) block) Done l
  remembered_block_write kind block done writable did =
      remembered_same v l h memory (Writes (place_of v.geometry kind) block) Done is
      (record { kind = kind; writable = writable; at = refl }) did.mine

  pub remembered_block_swap : (kind : Kind) (old new : List ℕ) → IsWritable v.geometry kind
      → SwapsBlock v h kind old new (host_at v h) (Ok Swapped) l → RemembersCall v h memory (swap_of v kind old new) Done l
  remembered_block_swap kind old new writable did =
      remembered_same v l h memory (swap_of v kind old new) Done is (record { kind = kind; writable = writable; at = refl }) did.mine

  pub remembered_block_found : (kind : Kind) (old new : List ℕ) (block : Block)
      → SwapsBlock v h kind old new (host_at v h) (Ok (Found block)) l
      → RemembersCall v h memory (swap_of v kind old new) (Shows block.0) l
  remembered_block_found kind old new block did = remembered_same v l h memory (swap_of v kind old new) (Shows block.0) is tt did.mine

  -- a table and a journal were read
  pub remembered_table : (t : Table) (table : Packing) → ReadsTable v h t (Ok table) l
      → RemembersCall v h memory (read_of v (kinds.Table t)) (Shows (packed_bytes 4 table)) l
  remembered_table t table did = remembered_same v l h memory (read_of v (kinds.Table t)) (Shows (packed_bytes 4 table)) is tt did.0.mine

  pub remembered_peek : (s number : ℕ) (did : PeeksSlot v h s (Ok number) l)
      → RemembersCall v h memory (read_of v (kinds.Table (table_of (fields.Slot s)))) (Shows (packed_bytes 4 did.0)) l
  remembered_peek s number did = remembered_table (table_of (fields.Slot s)) did.0 did.1

  pub remembered_journal : (y : ℕ) (entry : Option JournalRecord) → ReadsJournal v h y (Ok entry) l
      → RemembersCall v h memory (read_of v (kinds.Journal y)) (Shows (journal_bytes (entry_key entry) (entry_edits entry))) l
  remembered_journal y entry did =
      remembered_same v l h memory (read_of v (kinds.Journal y)) (Shows (journal_bytes (entry_key entry) (entry_edits entry)))
      is tt did.0.mine

  -- the block at a plain place was read, written, or tested and set
  pub remembered_place_read : (place : ℕ) (block : Block) → ReadsPlace v h place (Ok block) l
      → RemembersCall v h memory (Reads place) (Shows block.0) l
  remembered_place_read place block did = remembered_same v l h memory (Reads place) (Shows block.0) is tt did.mine

  pub remembered_place_write : (place : ℕ) (block : List ℕ) (done : Unit) → IsPlainPlace v.geometry place
      → WritesPlace v h place block (Ok done) l → RemembersCall v h memory (Writes place block) Done l
  remembered_place_write place block done plain did = remembered_same v l h memory (Writes place block) Done is plain did.mine

  pub remembered_place_swap : (place : ℕ) (old new : List ℕ) → IsPlainPlace v.geometry place → SwapsPlace v h place old new (Ok true) l
      → RemembersCall v h memory (Tests place old new) Done l
  remembered_place_swap place old new plain did = remembered_same v l h memory (Tests place old new) Done is plain did.mine

  pub remembered_place_found : (place : ℕ) (old new : List ℕ) (did : SwapsPlace v h place old new (Ok false) l)
      → RemembersCall v h memory (Tests place old new) (Shows did.0) l
  remembered_place_found place old new did = remembered_same v l h memory (Tests place old new) (Shows did.0) is tt did.1.mine

-- a hint place is a plain one
pub plain_hint : (g : Geometry) (place : ℕ) → IsHintPlace g place → IsPlainPlace g place
plain_hint g place hint = record { kind = hint.kind; writable = hint_writable g hint.kind hint.hint hint.has; at = hint.at }
