-- The tables of a record that is to be committed, and what its commit leaves.
use Rattle.std.proofs.Common.{◌≡◌, ◌≢◌, ◌<◌, ◌≤◌, ◌+◌, ◌==◌, ◌/◌, ◌++◌, ℕ, Bool, true, false, List, [], ◌∷◌, None, Option, Some, inl, inr, refl, sym, ap, ◌∙◌, subst, arith}
use Rattle.std.specs.Prelude.{Err, IfOk, IfSome, IsSome, Ok, Result, map}
use Rattle.std.proofs.lemmas.Bool.{cases_Bool}
use Rattle.vol_base.specs.PlainCalls.{plain_call_of}
use Rattle.vol_base.specs.declared.plain.PlainCall.{PlainCall}
use Rattle.vol_base.specs.declared.plain.PlainReply.{PlainReply}
use Rattle.vol_layout.specs.declared.field.Edit.{Edit}
use Rattle.vol_layout.specs.declared.field.Field.{Field}
use Rattle.vol_layout.specs.declared.field.Field.TheVariants.{Count, Head, Pointer}
use Rattle.vol_layout.specs.declared.geometry.Geometry.{Geometry}
use Rattle.vol_layout.specs.declared.kind.Kind.{Kind}
use Rattle.vol_layout.specs.declared.kind.Kind.TheVariants as kinds
use Rattle.vol_layout.specs.declared.kind.Resource.{Resource}
use Rattle.vol_layout.specs.declared.kind.Resource.TheVariants.{File}
use Rattle.vol_layout.specs.declared.kind.Table.{Table}
use Rattle.vol_layout.specs.declared.kind.Table.TheVariants as tables
use Rattle.vol_layout.specs.Edits.{touches}
use Rattle.vol_layout.specs.Fields.{HasField, greatest_count, resource_of, table_of}
use Rattle.vol_layout.specs.Journal.{journal_bytes}
use Rattle.vol_layout.specs.Ranges.{HasResource, HasTable, IsGeometry, data_blocks, per_table}
use Rattle.vol_layout.specs.laws.EditLaws.{other_field-is, touches-append}
use Rattle.shared_disk.specs.State.{OnImages, Told}
use Rattle.image_view.specs.Balances.{edit}
use Rattle.image_view.specs.Held.{HoldsField}
use Rattle.image_view.specs.Images.{Image}
use Rattle.image_view.specs.Numbers.{logical}
use Rattle.image_view.specs.Pointers.{named, pointer_number}
use Rattle.image_view.specs.declared.pointer.Number.{Number}
use Rattle.image_view.specs.declared.pointer.Number.TheVariants.{At}
use Rattle.journal_block.specs.JournalRecord.{JournalRecord}
use Rattle.table_blocks.specs.Tables.{IsPackingOf, number_in}
use Rattle.call_effects.specs.Changes.{Changes, Data}
use Rattle.call_effects.specs.Places.{IsPlaced, KeepsFiles, Places}
use Rattle.lock_store.specs.Memories.{holds}
use Rattle.lock_store.specs.Views.{host_at, key_at, told_of}
use Rattle.disk_locks.specs.Consistent.{Consistent}
use Rattle.disk_locks.specs.Keys.{owner}
use Rattle.disk_locks.specs.Sure.{BothTold, Sure}
use Rattle.held_cache.specs.Kept.{Cache, IsFileTable, kept_at}
use Rattle.host_facts.specs.Facts.Fact.{RecordIs, TableIs}
use Rattle.host_facts.specs.Finds.{Finds}
use Rattle.host_facts.specs.Knows.{Knows}
use Rattle.host_facts.specs.Views.{WorldView}
use Rattle.host_facts.specs.Wrote.{Writing, Wrote}
use Rattle.host_facts.specs.laws.DoneLaws.{number_known}
use Rattle.host_facts.specs.laws.FoundLaws.{held_found}
use Rattle.host_facts.specs.laws.ToldLaws.{sure_and, sure_each}
use Rattle.plan_parts.specs.Applies.{IsApplying}
use Rattle.plan_parts.specs.KeptTables.{IsKept}
use Rattle.plan_parts.specs.TableOrder.{same_table, tables_else, tables_of}
use Rattle.plan_parts.specs.declared.applying.Applying.{Applying}
use Rattle.plan_parts.specs.declared.kept.Kept.{Kept}
use Rattle.plan_parts.specs.declared.outcome.Outcome.TheVariants.{Open}
use Rattle.file_plans.specs.Bases.{IsCached}
use Rattle.file_plans.specs.Commits.{HasCommitted, IsPut}
use Rattle.file_plans.specs.Says.{HasBlock, Known, PointsTo, Reads}
use Rattle.file_plans.specs.laws.KnownLaws.{at_named, reading}
use Rattle.file_plans.specs.declared.call.FileCall.{FileCall}
use Rattle.file_plans.specs.declared.call.FileCall.TheVariants.{Plain}

-- an edit of another field touches the field no more than the others do
pub added_other : (es : List Edit) (e : Edit) (x : Field) → touches es x ≡ false → e.field ≢ x → touches (es ++ e ∷ []) x ≡ false
added_other es e x none other =
    touches-append es (e ∷ []) x ∙ (let apart = other_field-is e.field x other in rw (none, apart) refl)

pub count_added : (old now : JournalRecord) (a b : Edit) (d e n m : ℕ) → now ≡ record old { edits = old.edits ++ a ∷ [] }
    → a ≡ edit (Count d) n → b ≡ edit (Count e) m → ((d : ℕ) → touches old.edits (Count d) ≡ false) → d ≢ e
    → touches now.edits b.field ≡ false
count_added old now a b d e n m is a_is b_is none other =
    subst (λ (f : Edit). touches now.edits f.field ≡ false) (sym b_is)
    (ap (λ (r : JournalRecord). touches r.edits (Count e)) is
    ∙ added_other old.edits a (Count e) (none e) (λ same. let field : a.field ≡ Count d = ap (λ (f : Edit). f.field) a_is in
    let one : Count d ≡ Count e = sym field ∙ same in other cc))

-- a record of one edit, which is no count
pub first_other : (key f i n : ℕ) (r : JournalRecord) → r ≡ record { key = key; edits = edit (Pointer f i) n ∷ [] } → (d : ℕ)
    → touches r.edits (Count d) ≡ false
first_other key f i n r is d =
    ap (λ (s : JournalRecord). touches s.edits (Count d)) is
    ∙ (let other = other_field-is (Pointer f i) (Count d) (λ e. cc) in rw other refl)

-- and with one more
pub second_added : (key : ℕ) (a b c : Edit) (old now : JournalRecord) → old ≡ record { key = key; edits = a ∷ [] } → c ≡ b
    → now ≡ record old { edits = old.edits ++ c ∷ [] } → now ≡ record { key = key; edits = a ∷ b ∷ [] }
second_added key a b c old now first added is =
    is ∙ ap (λ (r : JournalRecord). let s : JournalRecord = record r { edits = r.edits ++ c ∷ [] } in s) first
    ∙ ap (λ (e : Edit). let s : JournalRecord = record { key = key; edits = a ∷ e ∷ [] } in s) added

pub more_added : (key : ℕ) (a : Edit) (more : List Edit) (old now : JournalRecord) → old ≡ record { key = key; edits = a ∷ [] }
    → now ≡ record old { edits = old.edits ++ more } → now ≡ record { key = key; edits = a ∷ more }
more_added key a more old now first is =
    is ∙ ap (λ (r : JournalRecord). let s : JournalRecord = record r { edits = r.edits ++ more } in s) first

-- what follows of an answer
pub ok_of : {T E : Type 0} (r : Result T E) (P Q : T → Type 0) → IfOk r P → ((x : T) → P x → Q x) → IfOk r Q
ok_of (Ok x) P Q p f = f x p
ok_of (Err e) P Q p f = tt

-- a file's table that is kept in the cache, of a file that is held
has_table : (g : Geometry) (t : Table) → IsFileTable g t → HasTable g t
has_table g (tables.File f) is = is
has_table g (tables.More f t) is = is
has_table g (tables.Group r) is = absurd is
has_table g (tables.Part p) is = absurd is

pub kept_of_file : (v : WorldView) (c : Cache) (h f : ℕ) (t : Table) (k : Kept) → IsCached v c h
    → holds (host_at v.locks h) (File f) ≡ true → IsFileTable v.locks.geometry t → owner t ≡ File f → k.which ≡ t
    → kept_at c h t ≡ Some k.table → IsKept v h k
kept_of_file v c h f t k cached held is of which kept =
    let known = cached.known t k.table is kept in record {
      table = subst (HasTable v.locks.geometry) (sym which) (has_table v.locks.geometry t is);
      held = ap (λ (u : Table). holds (host_at v.locks h) (owner u)) which ∙ ap (λ (r : Resource). holds (host_at v.locks h) r) of ∙ held;
      packing = subst (λ (u : Table). IsPackingOf v.locks.geometry u k.table) (sym which) known.1;
      known = subst (λ (u : Table). Knows v h (TableIs u k.table)) (sym which) known.0;
    }

-- a field of a held resource
pub held_field : (v : WorldView) (h : ℕ) (image : Image) → Finds v.locks h image → (x : Field) → HasField v.locks.geometry x
    → HasResource v.locks.geometry (resource_of x) → holds (host_at v.locks h) (resource_of x) ≡ true
    → HoldsField v.locks.geometry image (key_at v.locks h) x
held_field v h image found x has resource held = (has, held_found v.locks h image (resource_of x) found resource held)

-- the counts in a kept table are the logical ones
abbrev pub CountsBy : Geometry → Kept → Image → Type 0
CountsBy g kept image = (d : ℕ) → kept.which ≡ table_of (Count d) → logical g image (Count d) ≡ number_in kept.table (Count d)

-- a count of a kept table is one of the volume
pub count_has : (g : Geometry) (d : ℕ) (kept : Kept) → HasTable g kept.which → kept.which ≡ table_of (Count d) → HasField g (Count d)
unfolding data_blocks per_table
count_has g d kept has which =
    let below : d / 1008 < g.groups = subst (HasTable g) which has in omega (arith, below)

pub counts_known : (v : WorldView) (h : ℕ) (kept : Kept) → Consistent v.locks → IsKept v h kept → Knows v h (RecordIs [])
    → Sure v.locks h (CountsBy v.locks.geometry kept)
counts_known v h kept c is empty =
    sure_each v.locks h ℕ _ (λ d. sure_each v.locks h (kept.which ≡ table_of (Count d)) _ (λ which.
    number_known v h kept.which kept.table (Count d) c is.known is.packing empty (count_has v.locks.geometry d kept is.table which)
    (sym which)))

-- it is held, and its number is in range
pub held_count : (v : WorldView) (h d : ℕ) (kept : Kept) (image : Image) → Finds v.locks h image → IsKept v h kept
    → kept.which ≡ table_of (Count d) → HoldsField v.locks.geometry image (key_at v.locks h) (Count d)
held_count v h d kept image found is which =
    held_field v h image found (Count d) (count_has v.locks.geometry d kept is.table which)
    (subst (HasTable v.locks.geometry) which is.table)
    (ap (λ (t : Table). holds (host_at v.locks h) (owner t)) (sym which) ∙ is.held)

pub count_range : (v : WorldView) (h d : ℕ) (kept : Kept) → IsKept v h kept → kept.which ≡ table_of (Count d)
    → number_in kept.table (Count d) ≤ greatest_count v.locks.geometry
count_range v h d kept is which = is.packing.range (Count d) (count_has v.locks.geometry d kept is.table which) (sym which)

-- tables of groups and of files are not one
pub group_apart : (f i r : ℕ) → same_table (tables.Group r) (table_of (Pointer f i)) ≡ false
group_apart f i r = elim (cases_Bool (i / per_table == 0)) [ inl first ↦ rw first refl | inr more ↦ rw more refl ]

-- the tables of a pointer and of counts that are of one table
pub two_tables : (f i d : ℕ) (k group : Kept) → k.which ≡ table_of (Pointer f i) → group.which ≡ table_of (Count d)
    → k.which ∷ group.which ∷ [] ≡ table_of (Pointer f i) ∷ tables_else (table_of (Pointer f i)) (table_of (Count d) ∷ [])
two_tables f i d k group pointers which =
    let apart = group_apart f i (d / per_table) in rw (pointers, which, apart) refl

-- the data block that a pointer names, and the head of its file
pub pointer_found : (g : Geometry) (known : Known) (f i d : ℕ) (shared : Bool) (image : Image) → IsGeometry g → Reads g known image
    → PointsTo g known f i (At d shared) → named (logical g image (Pointer f i)) ≡ Some d
pointer_found g known f i d shared image range reads points =
    ap named (reads (Pointer f i) (pointer_number (At d shared)) points.has points.says) ∙ at_named g d shared range points.inside

pub block_inside : (g : Geometry) (known : Known) (f i : ℕ) (p : Number) (image : Image) → Reads g known image → HasBlock g known f i p
    → i + 1 < logical g image (Head f)
block_inside g known f i p image reads block =
    let head = reads (Head f) (block.length + 1) block.pointer.has.0 block.head in omega (arith, head, block.below)

-- what the host finds, by the tables of its file and one of counts
pub sees : (v : WorldView) (c : Cache) (h : ℕ) → Consistent v.locks → IsCached v c h → Knows v h (RecordIs []) → (group : Kept)
    → IsKept v h group
    → Sure v.locks h (λ image. (Finds v.locks h image × Reads v.locks.geometry (kept_at c h) image) × CountsBy v.locks.geometry group image)
sees v c h is cached empty group kept =
    sure_and v.locks h (λ image. Finds v.locks h image × Reads v.locks.geometry (kept_at c h) image) (CountsBy v.locks.geometry group)
    (reading v c h is cached empty (λ image. Finds v.locks h image × Reads v.locks.geometry (kept_at c h) image)
    (λ image found reads. (found, reads))) (counts_known v h group is kept empty)

-- what a write does to the files, by what the host found before it
pub write_places : (v w : WorldView) (h : ℕ) (kind : Kind) (block : List ℕ) (es : List Edit) (put : Data) (call : Option PlainCall)
    (placed : Option PlainReply) (P : Image → Type 0) → Wrote h kind block es put v w → Sure v.locks h P
    → ((old new : Image) → P old → Changes v.locks.geometry es put old new → Places v.locks.geometry call placed old new)
    → OnImages (Places v.locks.geometry call placed) (told_of v.locks) (told_of w.locks)
write_places v w h kind block es put call placed P wrote sure f =
    each (told_of v.locks) (told_of w.locks) wrote.images (sure wrote.registered)
  where
    each : (old new : Option Told) → BothTold old new (Writing v.locks.geometry kind block es put) → IfSome old (λ t. P t.image)
        → OnImages (Places v.locks.geometry call placed) old new
    each None None both p = tt
    each None (Some t) both p = both
    each (Some t) None both p = both
    each (Some t) (Some u) both p = f t.image u.image p both.changes

-- what a commit leaves
module _ (v w : WorldView) (h : ℕ) (es : List Edit) (entry : JournalRecord) (left : List Kept) (a : Applying)
    (edits : entry.edits ≡ es) (put : IsPut h v w entry left a) where
  wrote_is : Wrote h (kinds.Journal h) (journal_bytes (key_at v.locks h) es) es None v w
  wrote_is =
      subst (λ (fs : List Edit). Wrote h (kinds.Journal h) (journal_bytes (key_at v.locks h) fs) fs None v w) edits
      (subst (λ (k : ℕ). Wrote h (kinds.Journal h) (journal_bytes k entry.edits) entry.edits None v w) put.may.key put.did.wrote)

  stands_is : IsApplying w h a.entry.edits a.left
  stands_is =
      subst (λ (r : JournalRecord). IsApplying w h r.edits a.left) (sym put.entry_is)
      (subst (λ (ks : List Kept). IsApplying w h entry.edits ks) (sym put.left_is) put.did.stands)

  order_is : map (λ (k : Kept). k.which) a.left ≡ tables_of a.entry.edits
  order_is =
      ap (λ (ks : List Kept). map (λ (k : Kept). k.which) ks) put.left_is ∙ put.may.order
      ∙ ap (λ (r : JournalRecord). tables_of r.edits) (sym put.entry_is)

  -- what it is to the files, by what the host was sure of
  files_by : (call : Option PlainCall) (placed : Option PlainReply) (P : Image → Type 0) → Sure v.locks h P
      → ((old new : Image) → P old → Changes v.locks.geometry es None old new → Places v.locks.geometry call placed old new)
      → OnImages (Places v.locks.geometry call placed) (told_of v.locks) (told_of w.locks)
  files_by call placed P sure f = write_places v w h (kinds.Journal h) _ es None call placed P wrote_is sure f

  -- where its write is the place of a plain call
  pub has_placed : (call : PlainCall) (reply : PlainReply) (P : Image → Type 0) → Sure v.locks h P
      → ((old new : Image) → P old → Changes v.locks.geometry es None old new → IsPlaced v.locks.geometry call reply old new)
      → HasCommitted h v w (Plain call) (Some reply) es a
  has_placed call reply P sure f = record {
    edits = ap (λ (r : JournalRecord). r.edits) put.entry_is ∙ edits;
    wrote = wrote_is;
    tables = λ t p. put.did.wrote.facts (TableIs t p) (λ e. cc);
    stands = stands_is;
    order = order_is;
    event = put.did.event;
    made = λ command runs.
        put.did.placed command (Some reply) Open
        (subst (λ (o : Option PlainCall). OnImages (Places v.locks.geometry o (Some reply)) (told_of v.locks) (told_of w.locks)) (sym runs)
        (files_by (Some call) (Some reply) P sure f)) (λ some. subst (λ (o : Option PlainCall). IsSome o) (sym runs) refl);
  }

  -- and where no file changed
  pub has_stayed : (call : FileCall) (P : Image → Type 0) → Sure v.locks h P
      → ((old new : Image) → P old → Changes v.locks.geometry es None old new → KeepsFiles old new)
      → HasCommitted h v w call None es a
  has_stayed call P sure f = record {
    edits = ap (λ (r : JournalRecord). r.edits) put.entry_is ∙ edits;
    wrote = wrote_is;
    tables = λ t p. put.did.wrote.facts (TableIs t p) (λ e. cc);
    stands = stands_is;
    order = order_is;
    event = put.did.event;
    made = λ command runs. put.did.placed command None Open (files_by (plain_call_of command) None P sure f) (λ some. absurd cc);
  }
