-- A record on its way into the tables: what its steps owe, and that it stands over the calls of others.
use Rattle.std.proofs.Common.{◌≡◌, ◌≢◌, ◌⊎◌, ◌<◌, ℕ, List, [], ◌∷◌, true, false, None, refl, ap, sym, subst, ◌∙◌, inl, inr, ◌+◌, arith}
use Rattle.std.proofs.lemmas.Bool.{cases_Bool}
use Rattle.shared_disk.specs.Events.{Done, Writes, event}
use Rattle.std.proofs.lemmas.Option.{slice_get-get_or}
use Rattle.vol_layout.specs.Places.{place_of}
use Rattle.std.specs.Prelude.{All, Ok, length, map, slice_index_or}
use Rattle.vol_base.specs.Packing.{Packing, packed_bytes}
use Rattle.vol_layout.specs.declared.field.Edit.{Edit}
use Rattle.vol_layout.specs.declared.geometry.Geometry.{Geometry}
use Rattle.vol_layout.specs.declared.kind.Kind.TheVariants as kinds
use Rattle.vol_layout.specs.declared.kind.Table.{Table}
use Rattle.vol_layout.specs.Edits.{IsEdit, touches}
use Rattle.vol_layout.specs.Fields.{table_of}
use Rattle.vol_layout.specs.Journal.{journal_bytes}
use Rattle.vol_layout.specs.Ranges.{HasTable, IsGeometry}
use Rattle.vol_layout.specs.laws.EditLaws.{touches-at}
use Rattle.table_blocks.specs.Made.{made, stands_in}
use Rattle.table_blocks.specs.Tables.{IsPackingOf}
use Rattle.table_blocks.specs.laws.MadeLaws.{made-packing, stands_in-is, stands_in-of}
use Rattle.lock_store.specs.declared.host.HostState.{HostState}
use Rattle.lock_store.specs.Calls.{WritesBlock}
use Rattle.lock_store.specs.Memories.{holds}
use Rattle.lock_store.specs.Views.{host_at, key_at}
use Rattle.disk_locks.specs.Consistent.{Consistent}
use Rattle.disk_locks.specs.Keys.{owner}
use Rattle.disk_locks.specs.Sure.{Sure}
use Rattle.host_facts.specs.Facts.Fact.{RecordIs, TableIs}
use Rattle.host_facts.specs.Knows.{Knows}
use Rattle.host_facts.specs.Others.{Others}
use Rattle.host_facts.specs.Records.{IsApplied, IsDone}
use Rattle.host_facts.specs.Views.{WorldView, record_at}
use Rattle.host_facts.specs.Wrote.{FilesStay, HasValidImage, Wrote}
use Rattle.host_facts.specs.laws.DoneLaws.{applied_known, done_made, done_stays, entered_kept}
use Rattle.host_facts.specs.laws.FactLaws.{joined_key}
use Rattle.plan_parts.specs.Applies.{IsApplying, RecordEnded, TableWritten}
use Rattle.plan_parts.specs.KeptTables.{AreKept, IsKept, IsLeft}
use Rattle.plan_parts.specs.TableOrder.{tables_of}
use Rattle.plan_parts.specs.declared.kept.Kept.{Kept}
use Rattle.plan_parts.specs.laws.TableOrderLaws.{ordered_each, ordered_two}
use Rattle.plan_parts.specs.laws.QuietCallLaws.{quiet_write}

-- the record in memory is the one that the journal has
pub own_record : (v : WorldView) (h : ℕ) (es : List Edit) → es ≢ [] → Knows v h (RecordIs es) → record_at v h ≡ es
own_record v h [] some known = absurd (some refl)
own_record v h (e ∷ es) some known = known.guard.1

pub record_stands : (v : WorldView) (h : ℕ) (es : List Edit) (left : List Kept) → IsApplying v h es left
    → Knows v h (RecordIs (record_at v h))
record_stands v h es left is = subst (λ (ds : List Edit). Knows v h (RecordIs ds)) (sym (own_record v h es is.some is.stands)) is.stands

-- a kept table stays so where the host has its lock still and knows it
kept_on : (v w : WorldView) (h : ℕ) (kept : Kept) → w.locks.geometry ≡ v.locks.geometry → host_at w.locks h ≡ host_at v.locks h
    → Knows w h (TableIs kept.which kept.table) → IsKept v h kept → IsKept w h kept
kept_on v w h kept geometry memory known is = record {
  table = subst (λ (g : Geometry). HasTable g kept.which) (sym geometry) is.table;
  held = ap (λ (m : HostState). holds m (owner kept.which)) memory ∙ is.held;
  packing = subst (λ (g : Geometry). IsPackingOf g kept.which kept.table) (sym geometry) is.packing;
  known = known;
}

pub all_kept : (v w : WorldView) (h : ℕ) (left : List Kept) → w.locks.geometry ≡ v.locks.geometry
    → host_at w.locks h ≡ host_at v.locks h
    → ((t : Table) (p : Packing) → IsLeft left t → Knows v h (TableIs t p) → Knows w h (TableIs t p)) → AreKept v h left → AreKept w h left
all_kept v w h [] geometry memory stays are = tt
all_kept v w h (kept ∷ more) geometry memory stays are = (
  kept_on v w h kept geometry memory (stays kept.which kept.table (inl refl) are.0.known) are.0,
  all_kept v w h more geometry memory (λ t p left. stays t p (inr left)) are.1,
)

module _ (v w : WorldView) (h : ℕ) (es : List Edit) (kept : Kept) (after : List Kept) (c : Consistent v.locks)
    (is : IsApplying v h es (kept ∷ after))
    (wrote : Wrote h (kinds.Table kept.which) (packed_bytes 4 (made kept.which es kept.table)) [] None v w)
    (known : Knows w h (TableIs kept.which (made kept.which es kept.table))) where
  range : IsGeometry w.locks.geometry
  range = subst IsGeometry (sym wrote.geometry) c.geometry

  edits : All (IsEdit w.locks.geometry) es
  edits = subst (λ (g : Geometry). All (IsEdit g) es) (sym wrote.geometry) is.edits

  packing : IsPackingOf w.locks.geometry kept.which kept.table
  packing = subst (λ (g : Geometry). IsPackingOf g kept.which kept.table) (sym wrote.geometry) is.kept.0.packing

  -- its edits are written, and those that were written are still
  here : (e : Edit) → touches es e.field ≡ true → table_of e.field ≡ kept.which → IsDone w h es e
  here e touched at = done_made w h kept.which es kept.table e range edits packing known touched at

  before : (e : Edit) → touches es e.field ≡ true → IsDone v h es e → IsDone w h es e
  before e touched done =
      elim (cases_Bool (stands_in e.field kept.which)) [
        | inl same ↦ here e touched (stands_in-is e.field kept.which same)
        | inr other ↦
            done_stays v w h kept.which (packed_bytes 4 (made kept.which es kept.table)) [] None es e wrote (λ at.
            let there : stands_in e.field kept.which ≡ true = subst (λ (t : Table). stands_in e.field t ≡ true) at (stands_in-of e.field) in
            let both : true ≡ false = sym there ∙ other in absurd cc) done
      ]

  one_less : (e : Edit) → touches es e.field ≡ true → IsLeft (kept ∷ after) (table_of e.field) ⊎ IsDone v h es e
      → IsLeft after (table_of e.field) ⊎ IsDone w h es e
  one_less e touched (inl (inl same)) = inr (here e touched (sym same))
  one_less e touched (inl (inr later)) = inl later
  one_less e touched (inr done) = inr (before e touched done)

  stays : (t : Table) (p : Packing) → IsLeft after t → Knows v h (TableIs t p) → Knows w h (TableIs t p)
  stays t p left = wrote.facts (TableIs t p) (λ same.
      let one : t ≡ kept.which = cc in
      is.two.0 (subst (λ (u : Table). IsLeft after u) one left))

  applying_on : IsApplying w h es after
  applying_on = record {
    some = is.some;
    edits = edits;
    stands = wrote.facts (RecordIs es) (λ e. cc) is.stands;
    kept = all_kept v w h after wrote.geometry wrote.memory stays is.kept.1;
    two = is.two.1;
    each = λ k d lt. one_less (slice_index_or es k d) (touches-at es k _ (slice_get-get_or es k d lt)) (is.each k d lt);
  }

  -- the write of a table
  pub table_written : (done : Unit) → Others h v w → HasValidImage w → FilesStay v w
      → WritesBlock v.locks h (kinds.Table kept.which) (packed_bytes 4 (made kept.which es kept.table)) (host_at v.locks h) (Ok done)
      w.locks
      → TableWritten h v w es (kept ∷ after) after (record { which = kept.which; table = made kept.which es kept.table })
  table_written done others valid files did = record {
    before = kept.table;
    first = refl;
    is_made = refl;
    wrote = wrote;
    now = record {
      table = subst (λ (g : Geometry). HasTable g kept.which) (sym wrote.geometry) is.kept.0.table;
      held = ap (λ (m : HostState). holds m (owner kept.which)) wrote.memory ∙ is.kept.0.held;
      packing = made-packing w.locks.geometry kept.which es kept.table range edits packing;
      known = known;
    };
    stands = applying_on;
    event = event (key_at v.locks h)
        (Writes (place_of v.locks.geometry (kinds.Table kept.which)) (packed_bytes 4 (made kept.which es kept.table))) Done;
    quiet = λ command outcome.
        quiet_write command v w h (kinds.Table kept.which) (packed_bytes 4 (made kept.which es kept.table)) outcome done is.kept.0.table did
        others valid files;
  }

-- behind its commit a record is applied, where its tables are kept, in the order of its edits
pub committed : (v w : WorldView) (h : ℕ) (block : List ℕ) (es : List Edit) (left : List Kept) → es ≢ [] → All (IsEdit v.locks.geometry) es
    → AreKept v h left → map (λ (k : Kept). k.which) left ≡ tables_of es → Wrote h (kinds.Journal h) block es None v w
    → Knows w h (RecordIs es) → IsApplying w h es left
committed v w h block es left some edits kept order wrote stands = record {
  some = some;
  edits = subst (λ (g : Geometry). All (IsEdit g) es) (sym wrote.geometry) edits;
  stands = stands;
  kept = all_kept v w h left wrote.geometry wrote.memory (λ t p here. wrote.facts (TableIs t p) (λ e. cc)) kept;
  two = ordered_two left es order;
  each = λ k d lt. inl (ordered_each left es order k d lt);
}

-- one table less is left behind each write of one
pub one_table_less : (h : ℕ) (v w : WorldView) (es : List Edit) (left after : List Kept) (kept : Kept)
    → TableWritten h v w es left after kept → length left ≡ length after + 1
one_table_less h v w es left after kept written = ap length written.first ∙ omega arith

-- as it is said of that write, by the record in memory
pub advanced : (v w : WorldView) (h : ℕ) (es : List Edit) (kept : Kept) (after : List Kept) (out : Kept) (done : Unit) → Consistent v.locks
    → IsApplying v h es (kept ∷ after) → Others h v w → HasValidImage w → FilesStay v w
    → WritesBlock v.locks h (kinds.Table kept.which) (packed_bytes 4 (made kept.which (record_at v h) kept.table)) (host_at v.locks h)
    (Ok done) w.locks
    → Wrote h (kinds.Table kept.which) (packed_bytes 4 (made kept.which (record_at v h) kept.table)) [] None v w
    → Knows w h (TableIs kept.which (made kept.which (record_at v h) kept.table))
    → out ≡ record { which = kept.which; table = made kept.which es kept.table } → TableWritten h v w es (kept ∷ after) after out
advanced v w h es kept after out done c is others valid files did wrote known same =
    let own = own_record v h es is.some is.stands in
    subst (λ (k : Kept). TableWritten h v w es (kept ∷ after) after k) (sym same)
    (table_written v w h es kept after c is
    (subst (λ (ds : List Edit). Wrote h (kinds.Table kept.which) (packed_bytes 4 (made kept.which ds kept.table)) [] None v w) own wrote)
    (subst (λ (ds : List Edit). Knows w h (TableIs kept.which (made kept.which ds kept.table))) own known) done others valid files
    (subst (λ (ds : List Edit). WritesBlock v.locks h (kinds.Table kept.which) (packed_bytes 4 (made kept.which ds kept.table))
    (host_at v.locks h) (Ok done) w.locks) own did))

-- no edit is left to write once no table is
none_left : (v : WorldView) (h : ℕ) (es : List Edit) (e : Edit) → IsLeft [] (table_of e.field) ⊎ IsDone v h es e → IsDone v h es e
none_left v h es e (inl left) = absurd left
none_left v h es e (inr done) = done

pub all_applied : (v : WorldView) (h : ℕ) (es : List Edit) → IsApplying v h es [] → Sure v.locks h (IsApplied v.locks.geometry h)
all_applied v h es is =
    applied_known v h es is.stands (λ k d lt. none_left v h es (slice_index_or es k d) (is.each k d lt))

pub record_ended : (v w : WorldView) (h : ℕ) (es : List Edit) (done : Unit) → IsApplying v h es [] → h < v.locks.geometry.hosts
    → Others h v w → HasValidImage w → FilesStay v w → Wrote h (kinds.Journal h) (journal_bytes 0 []) [] None v w → Knows w h (RecordIs [])
    → WritesBlock v.locks h (kinds.Journal h) (journal_bytes 0 []) (host_at v.locks h) (Ok done) w.locks → RecordEnded h v w []
record_ended v w h es done is below others valid files wrote empty did = record {
  none = refl;
  wrote = wrote;
  empty = empty;
  event = event (key_at v.locks h) (Writes (place_of v.locks.geometry (kinds.Journal h)) (journal_bytes 0 [])) Done;
  quiet = λ command outcome.
      quiet_write command v w h (kinds.Journal h) (journal_bytes 0 []) outcome done below did others valid files;
}

-- over the calls of other hosts
pub applying_still : (v w : WorldView) (h x : ℕ) (es : List Edit) (left : List Kept) → Consistent v.locks → Others x v w → h ≢ x
    → IsApplying v h es left → IsApplying w h es left
applying_still v w h x es left c others apart is =
    let some = joined_key v.locks.geometry.hosts _ h (host_at v.locks h) (c.memories h) is.stands.guard.0 in
    let keeps = others.locks.keeps h apart some in
    let geometry = others.locks.lasts.geometry in record {
      some = is.some;
      edits = subst (λ (g : Geometry). All (IsEdit g) es) (sym geometry) is.edits;
      stands = others.facts h (RecordIs es) apart is.stands;
      kept = all_kept v w h left geometry keeps.memory (λ t p here. others.facts h (TableIs t p) apart) is.kept;
      two = is.two;
      each = λ k d lt. still (slice_index_or es k d) (is.each k d lt);
    }
  where
    still : (e : Edit) → IsLeft left (table_of e.field) ⊎ IsDone v h es e → IsLeft left (table_of e.field) ⊎ IsDone w h es e
    still e (inl here) = inl here
    still e (inr done) =
        inr (entered_kept v w h _ es e others.locks.lasts.geometry (λ p. others.facts h (TableIs (table_of e.field) p) apart) done)
