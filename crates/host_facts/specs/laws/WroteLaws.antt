-- What a host knows of the block that it wrote.
use Rattle.std.proofs.Common.{◌≡◌, ◌==◌, ◌≤◌, ℕ, List, [], ◌∷◌, Option, None, Some, true}
use Rattle.std.proofs.Common.{refl, sym, ap, ◌∙◌, subst, arith, length}
use Rattle.std.proofs.lemmas.Bool.Decides.{nat_tests}
use Rattle.std.proofs.lemmas.Bool.{eq-eqb}
use Rattle.vol_base.specs.Packing.{Packing, packed_bytes}
use Rattle.vol_layout.specs.declared.kind.Kind.TheVariants as kinds
use Rattle.vol_layout.specs.declared.kind.Resource.TheVariants as resources
use Rattle.vol_layout.specs.declared.kind.Table.{Table}
use Rattle.vol_layout.specs.declared.field.Edit.{Edit}
use Rattle.vol_layout.specs.declared.field.Field.TheVariants.{Count, Pointer}
use Rattle.vol_layout.specs.declared.geometry.Geometry.{Geometry}
use Rattle.vol_layout.specs.declared.kind.Kind.{Kind}
use Rattle.vol_layout.specs.Edits.{touches}
use Rattle.vol_layout.specs.Fields.{HasField, resource_of}
use Rattle.vol_layout.specs.Journal.{journal_bytes}
use Rattle.vol_layout.specs.Ranges.{HasKind, HasTable}
use Rattle.vol_layout.specs.Regions.{total}
use Rattle.journal_block.specs.JournalRecord.{JournalRecord}
use Rattle.image_view.specs.Balances.{share}
use Rattle.image_view.specs.Images.{Image, OnlyChanges, block_at}
use Rattle.image_view.specs.Numbers.{journal, logical}
use Rattle.image_view.specs.laws.FrameLaws.{HasTable-table_of, block_at-written, journal_kept, write_only}
use Rattle.call_effects.specs.Changes.{Changes, Data}
use Rattle.lock_store.specs.Memories.{holds, key_of, may_read}
use Rattle.lock_store.specs.Views.{LocksView, counter_of, host_at, key_at}
use Rattle.disk_locks.specs.Consistent.{Consistent}
use Rattle.disk_locks.specs.Keys.{owner}
use Rattle.disk_locks.specs.Sure.{Sure}
use Rattle.host_facts.specs.Facts.Fact.{BlockIs, DeadRecord, DeadTable, FreshIs, RecordIs, TableIs}
use Rattle.host_facts.specs.Facts.{Claims, Fact, IsGuarded, IsInMemory, Tells}
use Rattle.host_facts.specs.Finds.{Finds}
use Rattle.host_facts.specs.Knows.{Knows}
use Rattle.host_facts.specs.OwnBlocks.{IsOwnBlock}
use Rattle.host_facts.specs.Replays.{KnowsDead}
use Rattle.host_facts.specs.Steps.{IsStep}
use Rattle.host_facts.specs.Views.{WorldView, edits_under, record_at, standing_at}
use Rattle.host_facts.specs.Wrote.{Writing, Wrote}
use Rattle.host_facts.specs.laws.EntryLaws.{journal-spelled, no_edits}
use Rattle.host_facts.specs.laws.FactLaws.{guard_moved, held_readable}
use Rattle.host_facts.specs.laws.FindsLaws.{found}
use Rattle.host_facts.specs.laws.StepLaws.{share_named}
use Rattle.host_facts.specs.laws.ToldLaws.{sure_and, sure_of, sure_over}

-- what a host was sure of, and what its write did, say what it knows
wrote_known : (v w : WorldView) (h : ℕ) (kind : Kind) (block : List ℕ) (es : List Edit) (put : Data) (a : Fact) (P : Image → Type 0)
    → Wrote h kind block es put v w → IsGuarded v.locks.geometry (host_at v.locks h) (record_at w h) a → Sure v.locks h P
    → ((old new : Image) → Writing v.locks.geometry kind block es put old new → P old → Tells w.locks h new a) → Knows w h a
wrote_known v w h kind block es put a P wrote guard sure f = record {
  guard = guard_moved v.locks w.locks h (record_at w h) a wrote.geometry wrote.memory guard;
  sure =
      sure_over v.locks w.locks h (Writing v.locks.geometry kind block es put) P (λ image. Tells w.locks h image a) (ap key_of wrote.memory)
      (λ now. wrote.registered) (λ now. wrote.images) f sure;
}

-- the data block has these bytes
number_put : (g : Geometry) (d : ℕ) (bytes : List ℕ) (old new : Image) → HasField g (Count d) → Changes g [] (Some (d, bytes)) old new
    → block_at g new (kinds.Number d) ≡ bytes
number_put g d bytes old new has changes =
    let same : (d == d) ≡ true = grind (arith, nat_tests) in
    changes.blocks d has ∙ rw same refl

-- a free data block of a held group
pub wrote_fresh : (v w : WorldView) (h d : ℕ) (bytes : List ℕ) → Wrote h (kinds.Number d) bytes [] (Some (d, bytes)) v w
    → HasField v.locks.geometry (Count d) → holds (host_at v.locks h) (resource_of (Count d)) ≡ true
    → Sure v.locks h (λ image. logical v.locks.geometry image (Count d) ≡ 0) → Knows w h (FreshIs d bytes)
wrote_fresh v w h d bytes wrote has held free =
    wrote_known v w h (kinds.Number d) bytes [] (Some (d, bytes)) (FreshIs d bytes) (λ image. logical v.locks.geometry image (Count d) ≡ 0)
    wrote (has, held) free
    (λ old new writing none. rw wrote.geometry (
      number_put v.locks.geometry d bytes old new has writing.changes,
      writing.changes.numbers (Count d) has ∙ none,
    ))

-- a data block that a file shows and nothing else names
pub wrote_own : (v w : WorldView) (h f i d : ℕ) (bytes : List ℕ) → Consistent v.locks
    → Wrote h (kinds.Number d) bytes [] (Some (d, bytes)) v w
    → HasField v.locks.geometry (Pointer f i) → HasField v.locks.geometry (Count d)
    → holds (host_at v.locks h) (resources.File f) ≡ true → Sure v.locks h (IsOwnBlock v.locks.geometry f i d)
    → Knows w h (BlockIs (Pointer f i) d bytes)
wrote_own v w h f i d bytes is wrote pointer count held own =
    wrote_known v w h (kinds.Number d) bytes [] (Some (d, bytes)) (BlockIs (Pointer f i) d bytes) (IsOwnBlock v.locks.geometry f i d) wrote
    (pointer, count, held_readable (host_at v.locks h) (resources.File f) held) own
    (λ old new writing block. rw wrote.geometry (
      ap (λ n. share n d) (writing.changes.numbers (Pointer f i) pointer ∙ block.pointer)
          ∙ share_named v.locks.geometry d is.geometry count,
      number_put v.locks.geometry d bytes old new count writing.changes,
    ))

-- the own journal: a record, which is then in memory too
in_memory : (own es : List Edit) → own ≡ es → IsInMemory own es
in_memory own [] same = tt
in_memory own (e ∷ es) same = same

record_put : (v w : WorldView) (h : ℕ) (block : List ℕ) (es : List Edit) → Wrote h (kinds.Journal h) block es None v w
    → Sure v.locks h (IsStep v.locks.geometry (counter_of v.locks) h (host_at v.locks h) (kinds.Journal h) block es None)
    → (host_at v.locks h).joined ≡ true → IsInMemory (record_at w h) es → Knows w h (RecordIs es)
record_put v w h block es wrote step joined memory =
    wrote_known v w h (kinds.Journal h) block es None (RecordIs es)
    (IsStep v.locks.geometry (counter_of v.locks) h (host_at v.locks h) (kinds.Journal h) block es None) wrote (joined, memory) step
    (λ old new writing s. rw (wrote.geometry, writing.only) (s.own refl))

pub wrote_record : (v w : WorldView) (h : ℕ) (block : List ℕ) (r : JournalRecord) → Wrote h (kinds.Journal h) block r.edits None v w
    → Sure v.locks h (IsStep v.locks.geometry (counter_of v.locks) h (host_at v.locks h) (kinds.Journal h) block r.edits None)
    → (host_at v.locks h).joined ≡ true → r.key ≡ key_at v.locks h → standing_at w h ≡ Some r → Knows w h (RecordIs r.edits)
wrote_record v w h block r wrote step joined under standing =
    let key : r.key ≡ key_at w.locks h = under ∙ sym (ap key_of wrote.memory) in
    let counts : (r.key == key_at w.locks h) ≡ true = eq-eqb r.key (key_at w.locks h) key in
    let own : record_at w h ≡ r.edits = ap (λ (o : Option JournalRecord). edits_under (key_at w.locks h) o) standing ∙ rw counts refl in
    record_put v w h block r.edits wrote step joined (in_memory (record_at w h) r.edits own)

-- and none
pub wrote_empty : (v w : WorldView) (h : ℕ) (block : List ℕ) → Wrote h (kinds.Journal h) block [] None v w
    → Sure v.locks h (IsStep v.locks.geometry (counter_of v.locks) h (host_at v.locks h) (kinds.Journal h) block [] None)
    → (host_at v.locks h).joined ≡ true → Knows w h (RecordIs [])
wrote_empty v w h block wrote step joined = record_put v w h block [] wrote step joined tt

-- a told image has all blocks of the volume, so the block of a kind is what was written
long_sure : (v : LocksView) (h : ℕ) → Consistent v → Sure v h (λ image. total v.geometry ≤ length image)
long_sure v h is =
    sure_of v h (λ image. Finds v h image) (λ image. total v.geometry ≤ length image) (λ image finds. finds.agrees.valid.long)
    (found v h is)

block_put : (g : Geometry) (kind : Kind) (block : List ℕ) (es : List Edit) (put : Data) (old new : Image) → HasKind g kind
    → total g ≤ length old → Writing g kind block es put old new → block_at g new kind ≡ block
block_put g kind block es put old new has long writing = rw writing.only (block_at-written g old kind block has long)

-- the journal of a host whose slot is claimed, emptied
pub wrote_dead : (v w : WorldView) (h y : ℕ) → Consistent v.locks → Wrote h (kinds.Journal y) (journal_bytes 0 []) [] None v w
    → Claims v.locks.geometry (host_at v.locks h) y → Knows w h (DeadRecord y [])
wrote_dead v w h y is wrote claims =
    let g = v.locks.geometry in
    wrote_known v w h (kinds.Journal y) (journal_bytes 0 []) [] None (DeadRecord y []) (λ image. total g ≤ length image) wrote claims
    (long_sure v.locks h is)
    (λ old new writing long. rw wrote.geometry (journal-spelled g new y 0 [] is.geometry (no_edits g)
    (block_put g (kinds.Journal y) (journal_bytes 0 []) [] None old new claims.0 long writing)))

-- a table of what the host may read
pub wrote_table : (v w : WorldView) (h : ℕ) (t : Table) (q : Packing) (es : List Edit) (put : Data) → Consistent v.locks
    → Wrote h (kinds.Table t) (packed_bytes 4 q) es put v w → HasTable v.locks.geometry t
    → may_read (host_at v.locks h) (owner t) ≡ true → Knows w h (TableIs t q)
wrote_table v w h t q es put is wrote has may =
    wrote_known v w h (kinds.Table t) (packed_bytes 4 q) es put (TableIs t q) (λ image. total v.locks.geometry ≤ length image) wrote
    (has, may) (long_sure v.locks h is)
    (λ old new writing long. rw wrote.geometry
    (block_put v.locks.geometry (kinds.Table t) (packed_bytes 4 q) es put old new has long writing))

-- a table that the record of a host edits whose slot is claimed
pub dead_wrote : (v w : WorldView) (h : ℕ) (t : Table) (q : Packing) (es : List Edit) (put : Data) → Consistent v.locks
    → Wrote h (kinds.Table t) (packed_bytes 4 q) es put v w → KnowsDead v w h t q
dead_wrote v w h t q es put is wrote y dead x known has touched at =
    let g = v.locks.geometry in
    let table : HasTable g t = subst (λ (u : Table). HasTable g u) at (HasTable-table_of g x has) in
    wrote_known v w h (kinds.Table t) (packed_bytes 4 q) es put (DeadTable y x q)
    (λ image. (journal g image y ≡ dead) × (total g ≤ length image)) wrote (has, known.guard)
    (sure_and v.locks h (λ image. journal g image y ≡ dead) (λ image. total g ≤ length image) known.sure (long_sure v.locks h is))
    (λ old new writing both.
    let only : OnlyChanges g old new (kinds.Table t) = rw writing.only (write_only g old (kinds.Table t) (packed_bytes 4 q) table) in
    rw wrote.geometry (
      ap (λ fs. touches fs x) (journal_kept g old new (kinds.Table t) y only known.guard.0 (λ e. cc) ∙ both.0) ∙ touched,
      subst (λ (u : Table). block_at g new (kinds.Table u) ≡ packed_bytes 4 q) (sym at)
          (block_put g (kinds.Table t) (packed_bytes 4 q) es put old new table both.1 writing),
    ))
