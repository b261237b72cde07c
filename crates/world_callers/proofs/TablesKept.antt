-- Both tables of a punch, and its record, from the commit to the end.
use Rattle.std.proofs.Common.{◌≡◌, ◌≢◌, ◌-◌, ◌/◌, ◌==◌, ◌∙◌, ℕ, List, None, Some, Option, [], true}
use Rattle.std.proofs.Common.{ap, eq-eqb, inl, inr, refl, slice_index_or, subst, sym}
use Rattle.std.specs.Prelude.{All, Err, Ok, OnOk, Result}
use Rattle.std.proofs.lemmas.Bool.{cases_Bool}
use Rattle.vol_base.specs.Packing.{Packing}
use Rattle.vol_layout.specs.declared.geometry.Geometry.{Geometry}
use Rattle.vol_layout.specs.declared.kind.Kind.{Kind}
use Rattle.vol_layout.specs.declared.kind.Kind.TheVariants as kinds
use Rattle.vol_layout.specs.declared.kind.Resource.TheVariants.{File}
use Rattle.vol_layout.specs.declared.kind.Table.{Table}
use Rattle.vol_layout.specs.declared.field.Edit.{Edit}
use Rattle.vol_layout.specs.declared.field.Field.TheVariants.{Count, Pointer}
use Rattle.vol_layout.specs.Edits.{IsEdit}
use Rattle.vol_layout.specs.Fields.{HasField, resource_of, table_of}
use Rattle.vol_layout.specs.Ranges.{IsGeometry, per_table}
use Rattle.vol_layout.specs.laws.EditLaws.{touches-at}
use Rattle.journal_block.specs.JournalRecord.{JournalRecord}
use Rattle.image_view.specs.Balances.{edit}
use Rattle.table_blocks.specs.Made.{made}
use Rattle.table_blocks.specs.Tables.{IsPackingOf}
use Rattle.table_blocks.specs.laws.MadeLaws.{made-packing}
use Rattle.call_effects.specs.Changes.{Data}
use Rattle.call_effects.specs.Drops.{dropped}
use Rattle.call_effects.specs.laws.EachEdit.{all-two}
use Rattle.lock_store.specs.declared.answers.StepNo.{StepNo}
use Rattle.lock_store.specs.declared.host.HostState.{HostState}
use Rattle.lock_store.specs.Memories.{holds, key_of}
use Rattle.lock_store.specs.Views.{key_at}
use Rattle.disk_locks.specs.Sure.{Sure}
use Rattle.host_facts.specs.Facts.Fact.{RecordIs, TableIs}
use Rattle.host_facts.specs.Knows.{Knows}
use Rattle.host_facts.specs.Records.{IsApplied, IsDone}
use Rattle.host_facts.specs.Views.{WorldView, edits_under, record_at, standing_at}
use Rattle.host_facts.specs.Wrote.{Wrote}
use Rattle.host_facts.specs.laws.DoneLaws.{applied_known, done_made}
use Rattle.host_facts.specs.laws.FactLaws.{record_still}
use Rattle.world_callers.specs.Punches.{KnowsBoth, Standing}

-- the two tables are two
pub tables_apart : (f i d : ℕ) → table_of (Pointer f i) ≢ table_of (Count d)
tables_apart f i d =
    elim (cases_Bool (i / per_table == 0)) [
      | inl first ↦ rw first (λ e. cc)
      | inr further ↦ rw further (λ e. cc)
    ]

-- the host still holds both, and knows the tables as they are then
both_kept : (v w : WorldView) (h f i d : ℕ) (p q r s : Packing) (kind : Kind) (block : List ℕ) (es : List Edit) (put : Data)
    → Wrote h kind block es put v w → KnowsBoth v h f i d p q
    → IsPackingOf v.locks.geometry (table_of (Pointer f i)) r → Knows w h (TableIs (table_of (Pointer f i)) r)
    → IsPackingOf v.locks.geometry (table_of (Count d)) s → Knows w h (TableIs (table_of (Count d)) s) → KnowsBoth w h f i d r s
both_kept v w h f i d p q r s kind block es put wrote both pointers pointers_known counts counts_known = record {
  pointer = subst (λ (g : Geometry). HasField g (Pointer f i)) (sym wrote.geometry) both.pointer;
  count = subst (λ (g : Geometry). HasField g (Count d)) (sym wrote.geometry) both.count;
  holds_file = ap (λ (m : HostState). holds m (File f)) wrote.memory ∙ both.holds_file;
  holds_group = ap (λ (m : HostState). holds m (resource_of (Count d))) wrote.memory ∙ both.holds_group;
  pointers_fit = subst (λ (g : Geometry). IsPackingOf g (table_of (Pointer f i)) r) (sym wrote.geometry) pointers;
  counts_fit = subst (λ (g : Geometry). IsPackingOf g (table_of (Count d)) s) (sym wrote.geometry) counts;
  pointers_known = pointers_known;
  counts_known = counts_known;
}

-- over a write of the journal
pub both_journal : (v w : WorldView) (h f i d : ℕ) (p q : Packing) (block : List ℕ) (es : List Edit)
    → Wrote h (kinds.Journal h) block es None v w → KnowsBoth v h f i d p q → KnowsBoth w h f i d p q
both_journal v w h f i d p q block es wrote both =
    both_kept v w h f i d p q p q (kinds.Journal h) block es None wrote both
    both.pointers_fit (wrote.facts (TableIs (table_of (Pointer f i)) p) (λ e. cc) both.pointers_known)
    both.counts_fit (wrote.facts (TableIs (table_of (Count d)) q) (λ e. cc) both.counts_known)

-- the record in memory is the one that the journal has
pub own_record : (v : WorldView) (h f i d : ℕ) (es : List Edit) (p q : Packing) → Standing v h f i d es p q
    → Knows v h (RecordIs (record_at v h))
own_record v h f i d es p q stands = subst (λ (ds : List Edit). Knows v h (RecordIs ds)) (sym stands.memory) stands.known

-- so behind the commit
pub committed : (v w : WorldView) (h f i d : ℕ) (block : List ℕ) (r : JournalRecord) (key : ℕ) (es : List Edit) (p q : Packing)
    → IsGeometry v.locks.geometry → All (IsEdit v.locks.geometry) es → KnowsBoth v h f i d p q → r ≡ record { key = key; edits = es }
    → Wrote h (kinds.Journal h) block r.edits None v w → Knows w h (RecordIs r.edits) → standing_at w h ≡ Some r
    → r.key ≡ key_at v.locks h → Standing w h f i d es p q
committed v w h f i d block r key es p q range each both is wrote known standing own =
    let edits : r.edits ≡ es = ap (λ (s : JournalRecord). s.edits) is in
    let mine : r.key ≡ key_at w.locks h = own ∙ sym (ap key_of wrote.memory) in
    let counts : (r.key == key_at w.locks h) ≡ true = eq-eqb r.key (key_at w.locks h) mine in
    record {
      range = subst IsGeometry (sym wrote.geometry) range;
      each = subst (λ (g : Geometry). All (IsEdit g) es) (sym wrote.geometry) each;
      known = subst (λ (ds : List Edit). Knows w h (RecordIs ds)) edits known;
      memory = ap (λ (o : Option JournalRecord). edits_under (key_at w.locks h) o) standing ∙ rw counts edits;
      both = both_journal v w h f i d p q block r.edits wrote both;
    }

-- behind a write of one of the tables, from what the host then knows
table_written : (v w : WorldView) (h f i d : ℕ) (t : Table) (block : List ℕ) (es : List Edit) (p q r s : Packing)
    → Wrote h (kinds.Table t) block [] None v w → w.standing ≡ v.standing → Standing v h f i d es p q → KnowsBoth w h f i d r s
    → Standing w h f i d es r s
table_written v w h f i d t block es p q r s wrote same stands both = record {
  range = subst IsGeometry (sym wrote.geometry) stands.range;
  each = subst (λ (g : Geometry). All (IsEdit g) es) (sym wrote.geometry) stands.each;
  known = wrote.facts (RecordIs es) (λ e. cc) stands.known;
  memory =
      record_still v w h wrote.memory (ap (λ (rs : List (Option JournalRecord)). slice_index_or rs h None) same) ∙ stands.memory;
  both = both;
}

-- behind that of the pointer's
pub pointers_written : (v w : WorldView) (h f i d : ℕ) (t : Table) (block : List ℕ) (es : List Edit) (p q : Packing)
    → Standing v h f i d es p q → t ≡ table_of (Pointer f i) → Wrote h (kinds.Table t) block [] None v w → w.standing ≡ v.standing
    → Knows w h (TableIs t (made t (record_at v h) p)) → Standing w h f i d es (made (table_of (Pointer f i)) es p) q
pointers_written v w h f i d t block es p q stands at wrote same known =
    table_written v w h f i d t block es p q (made (table_of (Pointer f i)) es p) q wrote same stands
    (both_kept v w h f i d p q (made (table_of (Pointer f i)) es p) q (kinds.Table t) block [] None wrote stands.both
    (made-packing v.locks.geometry (table_of (Pointer f i)) es p stands.range stands.each stands.both.pointers_fit)
    (subst (λ (u : Table). Knows w h (TableIs u (made u es p))) at
    (subst (λ (ds : List Edit). Knows w h (TableIs t (made t ds p))) stands.memory known))
    stands.both.counts_fit
    (wrote.facts (TableIs (table_of (Count d)) q)
    (λ (e : kinds.Table (table_of (Count d)) ≡ kinds.Table t).
    tables_apart f i d (let same : table_of (Pointer f i) ≡ table_of (Count d) = cc in same))
    stands.both.counts_known))

-- and that of the count's
pub counts_written : (v w : WorldView) (h f i d : ℕ) (t : Table) (block : List ℕ) (es : List Edit) (p q : Packing)
    → Standing v h f i d es p q → t ≡ table_of (Count d) → Wrote h (kinds.Table t) block [] None v w → w.standing ≡ v.standing
    → Knows w h (TableIs t (made t (record_at v h) q)) → Standing w h f i d es p (made (table_of (Count d)) es q)
counts_written v w h f i d t block es p q stands at wrote same known =
    table_written v w h f i d t block es p q p (made (table_of (Count d)) es q) wrote same stands
    (both_kept v w h f i d p q p (made (table_of (Count d)) es q) (kinds.Table t) block [] None wrote stands.both
    stands.both.pointers_fit
    (wrote.facts (TableIs (table_of (Pointer f i)) p)
    (λ (e : kinds.Table (table_of (Pointer f i)) ≡ kinds.Table t).
    tables_apart f i d (let same : table_of (Pointer f i) ≡ table_of (Count d) = cc in same))
    stands.both.pointers_known)
    (made-packing v.locks.geometry (table_of (Count d)) es q stands.range stands.each stands.both.counts_fit)
    (subst (λ (u : Table). Knows w h (TableIs u (made u es q))) at
    (subst (λ (ds : List Edit). Knows w h (TableIs t (made t ds q))) stands.memory known)))

-- then every edit is written
pub drop_applied : (v : WorldView) (h f i d n : ℕ) (p q : Packing) → IsPackingOf v.locks.geometry (table_of (Pointer f i)) p
    → IsPackingOf v.locks.geometry (table_of (Count d)) q
    → Standing v h f i d (dropped f i d n) (made (table_of (Pointer f i)) (dropped f i d n) p)
    (made (table_of (Count d)) (dropped f i d n) q)
    → Sure v.locks h (IsApplied v.locks.geometry h)
drop_applied v h f i d n p q pointers counts stands =
    let es = dropped f i d n in
    let hole = edit (Pointer f i) 0 in
    let lowered = edit (Count d) (n - 1) in
    applied_known v h es stands.known (all-two (IsDone v h es) hole lowered
    (done_made v h (table_of (Pointer f i)) es p hole stands.range stands.each pointers stands.both.pointers_known
    (touches-at es 0 hole refl) refl)
    (done_made v h (table_of (Count d)) es q lowered stands.range stands.each counts stands.both.counts_known
    (touches-at es 1 lowered refl) refl))

-- and both tables are known to the end
pub both_finished : (v w : WorldView) (h f i d : ℕ) (block : List ℕ) (es : List Edit) (p q : Packing) (result : Result Unit StepNo)
    → Standing v h f i d es p q → OnOk result (Wrote h (kinds.Journal h) block [] None v w) → OnOk result (KnowsBoth w h f i d p q)
both_finished v w h f i d block es p q (Ok done) stands wrote = both_journal v w h f i d p q block [] wrote stands.both
both_finished v w h f i d block es p q (Err why) stands wrote = tt
