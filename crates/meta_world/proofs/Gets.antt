-- Reads: what they leave to the host.
use Rattle.std.proofs.Common.{◌≡◌, ℕ, Err, List, Ok, Option, Result}
use Rattle.std.specs.Prelude.{OnOk}
use Rattle.vol_base.specs.declared.block.Block.{Block}
use Rattle.vol_base.specs.Packing.{Packing}
use Rattle.vol_layout.specs.declared.kind.Kind.{Kind}
use Rattle.vol_layout.specs.declared.kind.Table.{Table}
use Rattle.shared_disk.specs.Events.Call.{Reads}
use Rattle.shared_disk.specs.Events.Reply.{Shows}
use Rattle.journal_block.specs.JournalRecord.{JournalRecord}
use Rattle.lock_store.specs.declared.answers.StepNo.{StepNo}
use Rattle.lock_store.specs.Calls.{ReadsBlock}
use Rattle.lock_store.specs.Events.{Did}
use Rattle.lock_store.specs.Views.{host_at}
use Rattle.disk_locks.specs.Others as locks'
use Rattle.host_facts.specs.Calls.{PeeksSlot, ReadsJournal, ReadsPlace, ReadsTable}
use Rattle.host_facts.specs.Looks.{Looks}
use Rattle.host_facts.specs.Views.{WorldView}
use Rattle.meta_world.proofs.Puts.{same_record}
use Rattle.host_facts.specs.laws.OwnLaws.{looked_law}

module _ (v w : WorldView) (h : ℕ) (others : locks'.Others h v.locks w.locks) (same : w.standing ≡ v.standing) where
  pub get_looks : (place : ℕ) (block : List ℕ) → Did v.locks h (Reads place) (Shows block) (host_at v.locks h) w.locks → Looks h v w
  get_looks place block did =
      looked_law v w h (Reads place) (Shows block) did did.acts.changes.1 did.acts.admitted others.lasts (same_record v w same h)

  pub table_looks : (t : Table) (result : Result Packing StepNo) → ReadsTable v.locks h t result w.locks → OnOk result (Looks h v w)
  table_looks t (Ok table) did = get_looks _ _ did.0
  table_looks t (Err why) did = tt

  pub slot_looks : (s : ℕ) (result : Result ℕ StepNo) → PeeksSlot v.locks h s result w.locks → OnOk result (Looks h v w)
  slot_looks s (Ok number) did = get_looks _ _ did.1.0
  slot_looks s (Err why) did = tt

  pub journal_looks : (y : ℕ) (result : Result (Option JournalRecord) StepNo) → ReadsJournal v.locks h y result w.locks
      → OnOk result (Looks h v w)
  journal_looks y (Ok entry) did = get_looks _ _ did.0
  journal_looks y (Err why) did = tt

  pub block_looks : (kind : Kind) (result : Result Block StepNo) → ReadsBlock v.locks h kind result w.locks → OnOk result (Looks h v w)
  block_looks kind (Ok block) did = get_looks _ _ did
  block_looks kind (Err why) did = tt
