-- What a read lets the host know, by cases on its answer.
use Rattle.std.proofs.Common.{◌≡◌, ◌+◌, ◌/◌, ℕ, Err, Ok, Option, Result, refl, true}
use Rattle.std.specs.Prelude.{IfOk}
use Rattle.vol_base.specs.declared.block.Block.{Block}
use Rattle.vol_base.specs.Packing.{Packing}
use Rattle.vol_layout.specs.declared.kind.Kind.TheVariants as kinds
use Rattle.vol_layout.specs.declared.kind.Resource.TheVariants.{Group}
use Rattle.vol_layout.specs.declared.kind.Table.{Table}
use Rattle.vol_layout.specs.declared.field.Field.{Field}
use Rattle.vol_layout.specs.declared.field.Field.TheVariants.{Count, Slot}
use Rattle.vol_layout.specs.Fields.{HasField, IsInRange}
use Rattle.vol_layout.specs.Ranges.{HasTable, per_table}
use Rattle.journal_block.specs.JournalRecord.{JournalRecord, entry_edits}
use Rattle.image_view.specs.Numbers.{field}
use Rattle.lock_store.specs.declared.answers.StepNo.{StepNo}
use Rattle.lock_store.specs.Calls.{ReadsBlock}
use Rattle.lock_store.specs.Memories.{holds, may_read}
use Rattle.lock_store.specs.Views.{host_at}
use Rattle.disk_locks.specs.Consistent.{Consistent}
use Rattle.disk_locks.specs.Keys.{owner}
use Rattle.disk_locks.specs.Sure.{Sure}
use Rattle.host_facts.specs.Calls.{PeeksSlot, ReadsJournal, ReadsTable}
use Rattle.host_facts.specs.Facts.{Claims}
use Rattle.host_facts.specs.Facts.Fact.{BlockIs, DeadRecord, SlotIs, TableIs}
use Rattle.host_facts.specs.Knows.{Knows}
use Rattle.host_facts.specs.OwnBlocks.{MayName}
use Rattle.host_facts.specs.Replays.{KnowsDead}
use Rattle.host_facts.specs.Views.{WorldView}
use Rattle.host_facts.specs.laws.ReadLaws.{block_known, dead_known, record_known, slot_known, slot_shown, table_known}

module _ (v w : WorldView) (h : ℕ) where
  pub knows_table : (t : Table) (result : Result Packing StepNo) → ReadsTable v.locks h t result w.locks → HasTable v.locks.geometry t
      → may_read (host_at v.locks h) (owner t) ≡ true → IfOk result (λ table. Knows w h (TableIs t table))
  knows_table t (Ok table) did has may = table_known v w h t table did has may
  knows_table t (Err why) did has may = tt

  pub knows_dead : (t : Table) (result : Result Packing StepNo) → ReadsTable v.locks h t result w.locks
      → IfOk result (λ table. KnowsDead v w h t table)
  knows_dead t (Ok table) did = dead_known v w h t table did
  knows_dead t (Err why) did = tt

  pub knows_entry : (y : ℕ) (result : Result (Option JournalRecord) StepNo) → Consistent v.locks → ReadsJournal v.locks h y result w.locks
      → Claims v.locks.geometry (host_at v.locks h) y → IfOk result (λ entry. Knows w h (DeadRecord y (entry_edits entry)))
  knows_entry y (Ok entry) is did claims = record_known v w h y entry is did claims
  knows_entry y (Err why) is did claims = tt

  pub slot_range : (s : ℕ) (result : Result ℕ StepNo) → PeeksSlot v.locks h s result w.locks → HasField v.locks.geometry (Slot s)
      → IfOk result (IsInRange v.locks.geometry (Slot s))
  slot_range s (Ok number) did has = rw did.2 (did.1.1.range (Slot s) has refl)
  slot_range s (Err why) did has = tt

  pub slot_number : (s : ℕ) (result : Result ℕ StepNo) → PeeksSlot v.locks h s result w.locks
      → IfOk result (λ number. Sure w.locks h (λ image. field w.locks.geometry image (Slot s) ≡ number))
  slot_number s (Ok number) did = slot_shown v w h s number did
  slot_number s (Err why) did = tt

  pub knows_slot : (s : ℕ) (result : Result ℕ StepNo) → PeeksSlot v.locks h s result w.locks → HasField v.locks.geometry (Slot s)
      → IfOk result (λ number. (d : ℕ) → number ≡ d + 1 → holds (host_at v.locks h) (Group (d / per_table)) ≡ true → Knows w h (SlotIs s d))
  knows_slot s (Ok number) did has = λ d names held. slot_known v w h s number d did has names held
  knows_slot s (Err why) did has = tt

  pub knows_block : (d : ℕ) (result : Result Block StepNo) → ReadsBlock v.locks h (kinds.Number d) result w.locks
      → HasField v.locks.geometry (Count d)
      → IfOk result (λ block. (x : Field) → MayName v h x d → Knows w h (BlockIs x d block.0))
  knows_block d (Ok block) did has = λ x may. block_known v w h d x block.0 has may did
  knows_block d (Err why) did has = tt
