-- Numbers in tables that a host knows, and records that come to stand in them.
use Rattle.std.proofs.Common.{◌≡◌, ◌≢◌, ◌<◌, ◌%◌, ℕ, List, [], ◌∷◌, true, false, refl, sym, ap, ◌∙◌, subst, inl, inr}
use Rattle.std.specs.Prelude.{All}
use Rattle.std.proofs.lemmas.Bool.{cases_Bool, cases_eq, false_from_ne_true, or_cases}
use Rattle.std.proofs.lemmas.List.Elements.{All-head, All-tail}
use Rattle.vol_base.specs.Packing.{Packing, packed_bytes}
use Rattle.vol_layout.specs.declared.kind.Kind.TheVariants as kinds
use Rattle.vol_layout.specs.declared.kind.Table.{Table}
use Rattle.vol_layout.specs.declared.field.Edit.{Edit}
use Rattle.vol_layout.specs.declared.field.Field.{Field}
use Rattle.vol_layout.specs.declared.geometry.Geometry.{Geometry}
use Rattle.vol_layout.specs.Edits.{IsEdit, edited, same_field, touches}
use Rattle.vol_layout.specs.Fields.{HasField, resource_of, table_of}
use Rattle.vol_layout.specs.Ranges.{IsGeometry}
use Rattle.vol_layout.specs.laws.EditLaws.{same_field-is}
use Rattle.image_view.specs.HostKeys.{slot_key_at}
use Rattle.image_view.specs.Images.{Image, block_at}
use Rattle.image_view.specs.Numbers.{field, journal, logical}
use Rattle.image_view.specs.laws.EditLaws.{edited_touched, edited_untouched}
use Rattle.image_view.specs.laws.FrameLaws.{HasResource-resource_of}
use Rattle.image_view.specs.laws.JournalLaws.{logical_own, record_key, slot_key-host}
use Rattle.table_blocks.specs.Made.{made}
use Rattle.table_blocks.specs.Tables.{IsPackingOf, IsTableOf, number_in}
use Rattle.table_blocks.specs.laws.MadeLaws.{made-number, made-packing}
use Rattle.table_blocks.specs.laws.NumberLaws.{field-number_in}
use Rattle.call_effects.specs.Changes.{Data}
use Rattle.lock_store.specs.Memories.{may_read}
use Rattle.lock_store.specs.Views.{LocksView, counter_of, host_at, key_at}
use Rattle.disk_locks.specs.Consistent.{Consistent}
use Rattle.disk_locks.specs.Keys.{owner}
use Rattle.disk_locks.specs.Sure.{Sure}
use Rattle.disk_locks.specs.laws.HeldLaws.{readable_apart}
use Rattle.host_facts.specs.Facts.Fact.{DeadRecord, DeadTable, RecordIs, TableIs}
use Rattle.host_facts.specs.Facts.{Fact, Tells}
use Rattle.host_facts.specs.Finds.{Finds}
use Rattle.host_facts.specs.Knows.{Knows}
use Rattle.host_facts.specs.Records.{IsApplied, IsDone, IsEntered, IsReplayed}
use Rattle.host_facts.specs.Replays.{IsReplay, KnowsDead}
use Rattle.host_facts.specs.Views.{WorldView}
use Rattle.host_facts.specs.Wrote.{Wrote}
use Rattle.host_facts.specs.laws.FindsLaws.{sure_found}
use Rattle.host_facts.specs.laws.FoundLaws.{host_found, key_found}
use Rattle.host_facts.specs.laws.KindLaws.{owner_table}
use Rattle.host_facts.specs.laws.ToldLaws.{sure_all, sure_and, sure_each, sure_of}

-- no record edits what a registered host may read, where its own journal is empty
none_edits : (v : LocksView) (h : ℕ) (x : Field) (image : Image) → Finds v h image → HasField v.geometry x
    → may_read (host_at v h) (resource_of x) ≡ true → journal v.geometry image h ≡ [] → (k : ℕ) → k < v.geometry.hosts
    → touches (journal v.geometry image k) x ≡ false
none_edits v h x image found has may empty k below =
    let g = v.geometry in
    let valid = found.agrees.valid in
    false_from_ne_true (touches (journal g image k) x) (λ touched.
    let record_is = record_key g (counter_of v) image k x valid below touched in
    elim (cases_eq (slot_key_at g image k) (key_at v h)) [
      | inl mine ↦
          let host = slot_key-host g (counter_of v) image k valid below record_is.0 in
          let same : k ≡ h = sym host ∙ ap (λ n. n % 16) mine ∙ (key_found v h image found).0 in
          let untouched : false ≡ true = ap (λ es. touches es x) (sym (ap (journal g image) same ∙ empty)) ∙ touched in
          let bad : ⊥ = cc in
          bad
      | inr other ↦
          readable_apart v image h (resource_of x) found.consistent found.agrees found.some found.here (HasResource-resource_of g x has)
          may (slot_key_at g image k) other record_is.1
    ])

-- of a known table the numbers are the logical ones, while no own record stands
pub number_known : (v : WorldView) (h : ℕ) (t : Table) (p : Packing) (x : Field) → Consistent v.locks → Knows v h (TableIs t p)
    → IsPackingOf v.locks.geometry t p → Knows v h (RecordIs []) → HasField v.locks.geometry x → table_of x ≡ t
    → Sure v.locks h (λ image. logical v.locks.geometry image x ≡ number_in p x)
number_known v h t p x is table packing empty has at =
    let g = v.locks.geometry in
    let m = host_at v.locks h in
    let may : may_read m (resource_of x) ≡ true = subst (λ r. may_read m r ≡ true) (ap owner (sym at) ∙ owner_table x) table.guard.1 in
    let Spelled = λ (image : Image). block_at g image (kinds.Table t) ≡ packed_bytes 4 p in
    let Empty = λ (image : Image). journal g image h ≡ [] in
    sure_found v.locks h (λ image. Spelled image × Empty image) (λ image. logical g image x ≡ number_in p x) is
    (λ image found both.
    logical_own g image h x (host_found v.locks h image found)
    (λ k lt ne. none_edits v.locks h x image found has may both.1 k lt)
    ∙ ap (λ es. edited es x (field g image x)) both.1
    ∙ field-number_in g image t p x (record { packing = packing; spelled = both.0 }) at)
    (sure_and v.locks h Spelled Empty table.sure empty.sure)

-- of edits of which something holds, it holds of one that edits a touched field
touched_edit : (P : Edit → Type 0) (es : List Edit) (x : Field) → All P es → touches es x ≡ true → (e : Edit) × P e × (e.field ≡ x)
touched_edit P [] x each touched = absurd cc
touched_edit P (e ∷ es) x each touched =
    elim (or_cases (same_field e.field x) (touches es x) touched) [
      | inl here ↦ (e, All-head P e es each, same_field-is e.field x here)
      | inr later ↦ touched_edit P es x (All-tail P e es each) later
    ]

-- an edit is written in a table that the host is sure of
record IsShown (v : LocksView) (h : ℕ) (es : List Edit) (e : Edit) : Type 0 where
  pub table : Packing
  pub sure : Sure v h (λ image. block_at v.geometry image (kinds.Table (table_of e.field)) ≡ packed_bytes 4 table)
  pub packing : IsPackingOf v.geometry (table_of e.field) table
  pub written : (n : ℕ) → number_in table e.field ≡ edited es e.field n

-- where the record edits the field, the field has in its table what the record gives it
abbrev Gives : Geometry → List Edit → Field → Image → Type 0
Gives g es x image = touches es x ≡ true → (n : ℕ) → edited es x n ≡ field g image x

gives_by : (v : LocksView) (h : ℕ) (es : List Edit) (x : Field) → All (IsShown v h es) es → Sure v h (Gives v.geometry es x)
gives_by v h es x each =
    elim (cases_Bool (touches es x)) [
      | inl touched ↦
          let found = touched_edit (IsShown v h es) es x each touched in
          shown_gives found.0 found.1 found.2
      | inr none ↦ sure_all v h (Gives v.geometry es x) (λ image touched. let e : true ≡ false = sym touched ∙ none in absurd cc)
    ]
  where
    shown_gives : (e : Edit) → IsShown v h es e → e.field ≡ x → Sure v h (Gives v.geometry es x)
    shown_gives e shown same =
        subst (λ (y : Field). Sure v h (Gives v.geometry es y)) same
        (sure_of v h (λ image. block_at v.geometry image (kinds.Table (table_of e.field)) ≡ packed_bytes 4 shown.table)
        (Gives v.geometry es e.field) (λ image spelled touched n.
        let of : IsTableOf v.geometry image (table_of e.field) shown.table = record { packing = shown.packing; spelled = spelled } in
        sym (field-number_in v.geometry image (table_of e.field) shown.table e.field of refl ∙ shown.written n)) shown.sure)

applied_by : (v : LocksView) (h y : ℕ) (es : List Edit) → Sure v h (λ image. journal v.geometry image y ≡ es) → All (IsShown v h es) es
    → Sure v h (IsApplied v.geometry y)
applied_by v h y es stands each =
    let Given = λ (image : Image). (x : Field) → Gives v.geometry es x image in
    sure_of v h (λ image. (journal v.geometry image y ≡ es) × Given image) (IsApplied v.geometry y)
    (λ image both x has. ap (λ fs. edited fs x (field v.geometry image x)) both.0 ∙ applied image x (both.1 x))
    (sure_and v h (λ image. journal v.geometry image y ≡ es) Given stands
    (sure_each v h Field (λ x. Gives v.geometry es x) (λ x. gives_by v h es x each)))
  where
    applied : (image : Image) (x : Field) → Gives v.geometry es x image → edited es x (field v.geometry image x) ≡ field v.geometry image x
    applied image x gives =
        elim (cases_Bool (touches es x)) [
          | inl touched ↦ gives touched (field v.geometry image x)
          | inr none ↦ edited_untouched es x (field v.geometry image x) none
        ]

shown : (v : WorldView) (h : ℕ) (spells : Packing → Fact) (es : List Edit) (e : Edit)
    → ((p : Packing) (image : Image) → Tells v.locks h image (spells p)
    → block_at v.locks.geometry image (kinds.Table (table_of e.field)) ≡ packed_bytes 4 p)
    → IsEntered v h spells es e → IsShown v.locks h es e
shown v h spells es e says done = record {
  table = done.table;
  sure = sure_of v.locks h (λ image. Tells v.locks h image (spells done.table))
      (λ image. block_at v.locks.geometry image (kinds.Table (table_of e.field)) ≡ packed_bytes 4 done.table) (says done.table)
      done.known.sure;
  packing = done.packing;
  written = done.written;
}

-- a record of which each edit is written is applied: the own one, and that of a host whose slot is claimed
pub applied_known : (v : WorldView) (h : ℕ) (es : List Edit) → Knows v h (RecordIs es) → All (IsDone v h es) es
    → Sure v.locks h (IsApplied v.locks.geometry h)
applied_known v h es known each =
    applied_by v.locks h h es known.sure (λ k d lt. shown v h _ es _ (λ p image tells. tells) (each k d lt))

pub dead_applied : (v : WorldView) (h y : ℕ) (es : List Edit) → Knows v h (DeadRecord y es) → All (IsReplayed v h y es) es
    → Sure v.locks h (IsApplied v.locks.geometry y)
dead_applied v h y es known each =
    applied_by v.locks h y es known.sure (λ k d lt. shown v h _ es _ (λ p image tells. tells.1) (each k d lt))

-- each edit of a table is written once the table has all of them
made_entered : (v : WorldView) (h : ℕ) (spells : Packing → Fact) (t : Table) (es : List Edit) (p : Packing) (e : Edit)
    → IsGeometry v.locks.geometry → All (IsEdit v.locks.geometry) es → IsPackingOf v.locks.geometry t p
    → Knows v h (spells (made t es p)) → touches es e.field ≡ true → table_of e.field ≡ t → IsEntered v h spells es e
made_entered v h spells t es p e range each packing known touched at = record {
  table = made t es p;
  known = known;
  packing = subst (λ (u : Table). IsPackingOf v.locks.geometry u (made t es p)) (sym at)
      (made-packing v.locks.geometry t es p range each packing);
  written = λ n.
      made-number v.locks.geometry t es p e.field range each packing at
      ∙ edited_touched es e.field (number_in p e.field) n touched;
}

pub done_made : (v : WorldView) (h : ℕ) (t : Table) (es : List Edit) (p : Packing) (e : Edit) → IsGeometry v.locks.geometry
    → All (IsEdit v.locks.geometry) es → IsPackingOf v.locks.geometry t p → Knows v h (TableIs t (made t es p))
    → touches es e.field ≡ true → table_of e.field ≡ t → IsDone v h es e
done_made v h t es p e range each packing known touched at =
    made_entered v h (TableIs (table_of e.field)) t es p e range each packing
    (subst (λ (u : Table). Knows v h (TableIs u (made t es p))) (sym at) known) touched at

pub replayed_made : (v w : WorldView) (h y : ℕ) (t : Table) (kept : Packing) (r : IsReplay v h y t kept) (e : Edit)
    → IsGeometry v.locks.geometry → w.locks.geometry ≡ v.locks.geometry → All (IsEdit v.locks.geometry) r.edits → KnowsDead v w h t kept
    → touches r.edits e.field ≡ true → table_of e.field ≡ t → IsReplayed w h y r.edits e
replayed_made v w h y t kept r e range same each known touched at =
    let found = touched_edit (IsEdit v.locks.geometry) r.edits e.field each touched in
    let has : HasField v.locks.geometry e.field = subst (HasField v.locks.geometry) found.2 found.1.0 in
    made_entered w h (DeadTable y e.field) t r.edits r.before e (subst IsGeometry (sym same) range)
    (subst (λ (g : Geometry). All (IsEdit g) r.edits) (sym same) each)
    (subst (λ (g : Geometry). IsPackingOf g t r.before) (sym same) r.packing)
    (subst (λ (p : Packing). Knows w h (DeadTable y e.field p)) r.made_is (known y r.edits e.field r.known has touched at)) touched at

-- it stays so where the host still knows the table
pub entered_kept : (v w : WorldView) (h : ℕ) (spells : Packing → Fact) (es : List Edit) (e : Edit) → w.locks.geometry ≡ v.locks.geometry
    → ((p : Packing) → Knows v h (spells p) → Knows w h (spells p)) → IsEntered v h spells es e → IsEntered w h spells es e
entered_kept v w h spells es e same kept done = record {
  table = done.table;
  known = kept done.table done.known;
  packing = subst (λ (g : Geometry). IsPackingOf g (table_of e.field) done.table) (sym same) done.packing;
  written = done.written;
}

-- so over the write of another table
pub done_stays : (v w : WorldView) (h : ℕ) (t : Table) (block : List ℕ) (fs : List Edit) (put : Data) (es : List Edit) (e : Edit)
    → Wrote h (kinds.Table t) block fs put v w → table_of e.field ≢ t → IsDone v h es e → IsDone w h es e
done_stays v w h t block fs put es e wrote other =
    entered_kept v w h _ es e wrote.geometry (λ p. wrote.facts (TableIs (table_of e.field) p) (λ same. other cc))

pub replayed_stays : (v w : WorldView) (h y : ℕ) (t : Table) (block : List ℕ) (fs : List Edit) (put : Data) (es : List Edit) (e : Edit)
    → Wrote h (kinds.Table t) block fs put v w → table_of e.field ≢ t → IsReplayed v h y es e → IsReplayed w h y es e
replayed_stays v w h y t block fs put es e wrote other =
    entered_kept v w h _ es e wrote.geometry (λ p. wrote.facts (DeadTable y e.field p) (λ same. cc, λ same. other cc))
