-- What a host knows of the block that it read.
use Rattle.std.proofs.Common.{◌≡◌, ◌+◌, ◌/◌, ◌<◌, ◌≤◌, ℕ, List, [], Ok, Option, true, sym, ap, ◌∙◌, subst, refl, arith}
use Rattle.vol_base.specs.Packing.{Packing, packed_bytes}
use Rattle.vol_layout.specs.declared.geometry.Geometry.{Geometry}
use Rattle.vol_layout.specs.declared.kind.Kind.{Kind}
use Rattle.vol_layout.specs.declared.kind.Kind.TheVariants as kinds
use Rattle.vol_layout.specs.declared.kind.Resource.TheVariants.{Group}
use Rattle.vol_layout.specs.declared.kind.Table.{Table}
use Rattle.vol_layout.specs.declared.field.Field.{Field}
use Rattle.vol_layout.specs.declared.field.Field.TheVariants.{Count, Head, Pointer, Slot}
use Rattle.vol_layout.specs.Edits.{touches}
use Rattle.vol_layout.specs.Fields.{HasField, table_of}
use Rattle.vol_layout.specs.Journal.{journal_bytes}
use Rattle.vol_layout.specs.Places.{place_of}
use Rattle.vol_layout.specs.Ranges.{HasTable, data_blocks, per_table}
use Rattle.shared_disk.specs.Events.Reply.{Shows}
use Rattle.shared_disk.specs.State.{Stands, State}
use Rattle.journal_block.specs.JournalRecord.{JournalRecord, entry_edits, entry_key}
use Rattle.image_view.specs.Images.{Image, block_at}
use Rattle.image_view.specs.Numbers.{field, journal}
use Rattle.table_blocks.specs.Tables.{number_in}
use Rattle.table_blocks.specs.laws.NumberLaws.{field-number_in}
use Rattle.lock_store.specs.declared.host.HostState.{HostState}
use Rattle.lock_store.specs.Events.{Did, read_of}
use Rattle.lock_store.specs.Memories.{holds, key_of, may_read}
use Rattle.lock_store.specs.Views.{LocksView, host_at}
use Rattle.disk_locks.specs.Consistent.{Consistent}
use Rattle.disk_locks.specs.Keys.{owner}
use Rattle.disk_locks.specs.Sure.{Sure}
use Rattle.host_facts.specs.Calls.{PeeksSlot, ReadsJournal, ReadsTable}
use Rattle.host_facts.specs.Facts.Fact.{BlockIs, DeadRecord, SlotIs, TableIs}
use Rattle.host_facts.specs.Facts.{Claims, DeadTable, Fact, IsGuarded, Names, Tells}
use Rattle.host_facts.specs.Knows.{Knows}
use Rattle.host_facts.specs.OwnBlocks.{MayName}
use Rattle.host_facts.specs.Replays.{KnowsDead}
use Rattle.host_facts.specs.Views.{WorldView, record_at}
use Rattle.host_facts.specs.laws.EntryLaws.{journal-spelled}
use Rattle.host_facts.specs.laws.FactLaws.{guard_moved}
use Rattle.host_facts.specs.laws.FindsLaws.{stands_sure}
use Rattle.host_facts.specs.laws.ToldLaws.{sure_and, sure_of, sure_still}

-- the block that was read stands at the place of its kind
read_sure : (v w : LocksView) (h : ℕ) (kind : Kind) (block : List ℕ) (m : HostState) → Did v h (read_of v kind) (Shows block) m w
    → Sure v h (λ image. block_at v.geometry image kind ≡ block)
read_sure v w h kind block m did = stands_sure v h kind block did.acts.changes.0

-- and after the call, for every host
pub read_stands : (v w : LocksView) (h : ℕ) (kind : Kind) (block : List ℕ) (m : HostState) → Did v h (read_of v kind) (Shows block) m w
    → (x : ℕ) → Sure w x (λ image. block_at w.geometry image kind ≡ block)
read_stands v w h kind block m did x =
    stands_sure w x kind block (subst (λ (g : Geometry). Stands w.disk.state (place_of g kind) block) (sym did.geometry)
    (subst (λ (s : State). Stands s (place_of v.geometry kind) block) (sym did.acts.changes.1) did.acts.changes.0))

-- what a host that read a block is sure of before the call, it is sure of behind it
looked_known : (v w : WorldView) (h : ℕ) (kind : Kind) (block : List ℕ) (a : Fact)
    → Did v.locks h (read_of v.locks kind) (Shows block) (host_at v.locks h) w.locks
    → ((image : Image) → Tells v.locks h image a → Tells w.locks h image a)
    → IsGuarded v.locks.geometry (host_at v.locks h) (record_at w h) a → Sure v.locks h (λ image. Tells v.locks h image a) → Knows w h a
looked_known v w h kind block a did f guard sure = record {
  guard = guard_moved v.locks w.locks h (record_at w h) a did.geometry did.mine guard;
  sure = sure_still v.locks w.locks h (λ image. Tells v.locks h image a) (λ image. Tells w.locks h image a) (ap key_of did.mine)
      did.acts.changes.1 f sure;
}

-- a table of what the host may read
pub table_known : (v w : WorldView) (h : ℕ) (t : Table) (p : Packing) → ReadsTable v.locks h t (Ok p) w.locks
    → HasTable v.locks.geometry t → may_read (host_at v.locks h) (owner t) ≡ true → Knows w h (TableIs t p)
table_known v w h t p did has may =
    looked_known v w h (kinds.Table t) (packed_bytes 4 p) (TableIs t p) did.0 (λ image tells. rw did.0.geometry tells) (has, may)
    (read_sure v.locks w.locks h (kinds.Table t) (packed_bytes 4 p) (host_at v.locks h) did.0)

-- the journal of a host whose slot is claimed
pub record_known : (v w : WorldView) (h y : ℕ) (entry : Option JournalRecord) → Consistent v.locks
    → ReadsJournal v.locks h y (Ok entry) w.locks → Claims v.locks.geometry (host_at v.locks h) y
    → Knows w h (DeadRecord y (entry_edits entry))
record_known v w h y entry is did claims =
    let g = v.locks.geometry in
    let es = entry_edits entry in
    let block = journal_bytes (entry_key entry) es in
    looked_known v w h (kinds.Journal y) block (DeadRecord y es) did.0 (λ image tells. rw did.0.geometry tells) claims
    (sure_of v.locks h (λ image. block_at g image (kinds.Journal y) ≡ block) (λ image. journal g image y ≡ es)
    (λ image shown. journal-spelled g image y (entry_key entry) es is.geometry did.1 shown)
    (read_sure v.locks w.locks h (kinds.Journal y) block (host_at v.locks h) did.0))

-- a table that the record of such a host edits
pub dead_known : (v w : WorldView) (h : ℕ) (t : Table) (p : Packing) → ReadsTable v.locks h t (Ok p) w.locks → KnowsDead v w h t p
dead_known v w h t p did y es x known has touched at =
    let g = v.locks.geometry in
    let Stood = λ (image : Image). journal g image y ≡ es in
    let Shown = λ (image : Image). block_at g image (kinds.Table t) ≡ packed_bytes 4 p in
    looked_known v w h (kinds.Table t) (packed_bytes 4 p) (DeadTable y x p) did.0 (λ image tells. rw did.0.geometry tells)
    (has, known.guard)
    (sure_of v.locks h (λ image. Stood image × Shown image) (λ image. Tells v.locks h image (DeadTable y x p))
    (λ image both. (
      ap (λ fs. touches fs x) both.0 ∙ touched,
      subst (λ (u : Table). block_at g image (kinds.Table u) ≡ packed_bytes 4 p) (sym at) both.1,
    ))
    (sure_and v.locks h Stood Shown known.sure
    (read_sure v.locks w.locks h (kinds.Table t) (packed_bytes 4 p) (host_at v.locks h) did.0)))

-- a slot's number in its table
slot_sure : (v w : WorldView) (h s number : ℕ) → PeeksSlot v.locks h s (Ok number) w.locks
    → Sure v.locks h (λ image. field v.locks.geometry image (Slot s) ≡ number)
slot_sure v w h s number did =
    let g = v.locks.geometry in
    let t = table_of (Slot s) in
    sure_of v.locks h (λ image. block_at g image (kinds.Table t) ≡ packed_bytes 4 did.0) (λ image. field g image (Slot s) ≡ number)
    (λ image spelled. field-number_in g image t did.0 (Slot s) (record { packing = did.1.1; spelled = spelled }) refl ∙ sym did.2)
    (read_sure v.locks w.locks h (kinds.Table t) (packed_bytes 4 did.0) (host_at v.locks h) did.1.0)

pub slot_shown : (v w : WorldView) (h s number : ℕ) → PeeksSlot v.locks h s (Ok number) w.locks
    → Sure w.locks h (λ image. field w.locks.geometry image (Slot s) ≡ number)
slot_shown v w h s number did =
    sure_still v.locks w.locks h (λ image. field v.locks.geometry image (Slot s) ≡ number)
    (λ image. field w.locks.geometry image (Slot s) ≡ number) (ap key_of did.1.0.mine) did.1.0.acts.changes.1
    (λ image shown. rw did.1.0.geometry shown) (slot_sure v w h s number did)

pub slot_known : (v w : WorldView) (h s number d : ℕ) → PeeksSlot v.locks h s (Ok number) w.locks → HasField v.locks.geometry (Slot s)
    → number ≡ d + 1 → holds (host_at v.locks h) (Group (d / per_table)) ≡ true → Knows w h (SlotIs s d)
slot_known v w h s number d did has names held =
    let most : number_in did.0 (Slot s) ≤ data_blocks v.locks.geometry = did.1.1.range (Slot s) has refl in
    let count : d < data_blocks v.locks.geometry = omega (arith, most, did.2, names) in
    looked_known v w h (kinds.Table (table_of (Slot s))) (packed_bytes 4 did.0) (SlotIs s d) did.1.0
    (λ image tells. rw did.1.0.geometry tells) (has, count, held)
    (sure_of v.locks h (λ image. field v.locks.geometry image (Slot s) ≡ number) (λ image. field v.locks.geometry image (Slot s) ≡ d + 1)
    (λ image shown. shown ∙ names) (slot_sure v w h s number did))

-- a data block that a field names
may_look : (v w : WorldView) (h d : ℕ) (x : Field) (bytes : List ℕ) → HasField v.locks.geometry (Count d) → MayName v h x d
    → IsGuarded v.locks.geometry (host_at v.locks h) (record_at w h) (BlockIs x d bytes)
may_look v w h d (Head f) bytes has may = (may.0, has, may.1)
may_look v w h d (Pointer f i) bytes has may = (may.0, has, may.1)
may_look v w h d (Slot s) bytes has may = (may.0.guard.0, has, may.0.guard.2)
may_look v w h d (Count c) bytes has may = (may.0, has, may.1)

names_sure : (v : WorldView) (h d : ℕ) (x : Field) → MayName v h x d → Sure v.locks h (λ image. Names v.locks.geometry h image x d)
names_sure v h d (Head f) may = may.2
names_sure v h d (Pointer f i) may = may.2
names_sure v h d (Slot s) may =
    let Slotted = λ (image : Image). field v.locks.geometry image (Slot s) ≡ d + 1 in
    let Empty = λ (image : Image). journal v.locks.geometry image h ≡ [] in
    sure_of v.locks h (λ image. Slotted image × Empty image) (λ image. Names v.locks.geometry h image (Slot s) d)
    (λ image both. (both.0, ap (λ es. touches es (Slot s)) both.1)) (sure_and v.locks h Slotted Empty may.0.sure may.1.sure)
names_sure v h d (Count c) may = may.2

pub block_known : (v w : WorldView) (h d : ℕ) (x : Field) (bytes : List ℕ) → HasField v.locks.geometry (Count d) → MayName v h x d
    → Did v.locks h (read_of v.locks (kinds.Number d)) (Shows bytes) (host_at v.locks h) w.locks → Knows w h (BlockIs x d bytes)
block_known v w h d x bytes has may did =
    looked_known v w h (kinds.Number d) bytes (BlockIs x d bytes) did (λ image tells. rw did.geometry tells)
    (may_look v w h d x bytes has may)
    (sure_and v.locks h (λ image. Names v.locks.geometry h image x d) (λ image. block_at v.locks.geometry image (kinds.Number d) ≡ bytes)
    (names_sure v h d x may) (read_sure v.locks w.locks h (kinds.Number d) bytes (host_at v.locks h) did))
