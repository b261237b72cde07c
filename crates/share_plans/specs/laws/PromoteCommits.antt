-- The commit of a promotion: its record is right, no file changes, and what it did.
use Rattle.std.proofs.Common.{◌≡◌, ◌≤◌, ◌<◌, ◌+◌, ◌/◌, ◌∷◌, ◌++◌, ◌==◌, ℕ, true, false, List}
use Rattle.std.proofs.Common.{[], None, Some, refl, ap, sym, subst, ◌∙◌, arith, inl, inr, length}
use Rattle.std.specs.Prelude.{All}
use Rattle.std.proofs.lemmas.Bool.{cases_Bool}
use Rattle.std.proofs.lemmas.List.Elements.{All-cons}
use Rattle.vol_layout.specs.declared.field.Edit.{Edit}
use Rattle.vol_layout.specs.declared.field.Field.TheVariants.{Count, Pointer, Slot}
use Rattle.vol_layout.specs.declared.geometry.Geometry.{Geometry}
use Rattle.vol_layout.specs.declared.kind.Kind.TheVariants as kinds
use Rattle.vol_layout.specs.declared.kind.Resource.TheVariants as resources
use Rattle.vol_layout.specs.declared.kind.Table.{Table}
use Rattle.vol_layout.specs.declared.kind.Table.TheVariants as tables
use Rattle.vol_layout.specs.Edits.{IsEdit, touches}
use Rattle.vol_layout.specs.Fields.{HasField, greatest_count, resource_of, table_of}
use Rattle.vol_layout.specs.Journal.{journal_bytes}
use Rattle.vol_layout.specs.Ranges.{IsGeometry, per_table}
use Rattle.vol_layout.specs.laws.EditLaws.{other_field-is}
use Rattle.image_view.specs.Balances.{edit}
use Rattle.image_view.specs.Images.{Image}
use Rattle.image_view.specs.Links.{marked}
use Rattle.image_view.specs.Numbers.{field, logical}
use Rattle.image_view.specs.Pointers.{IsUnmarked, pointer_number}
use Rattle.image_view.specs.Records.{IsRecord}
use Rattle.image_view.specs.declared.pointer.Number.TheVariants as numbers
use Rattle.image_view.specs.laws.FrameLaws.{HasResource-resource_of}
use Rattle.call_effects.specs.Changes.{Changes}
use Rattle.call_effects.specs.Places.{KeepsFiles}
use Rattle.call_effects.specs.Promotions.{IsPromotable, promoted}
use Rattle.call_effects.specs.laws.EachEdit.{all-two}
use Rattle.call_effects.specs.laws.PointerLaws.{fresh-unmarked, marked-range}
use Rattle.call_effects.specs.laws.PromoteLaws.{count-lone, record-promote, stays-promote}
use Rattle.table_blocks.specs.Tables.{number_in}
use Rattle.table_blocks.specs.laws.NumberLaws.{field-number_in}
use Rattle.journal_block.specs.JournalRecord.{JournalRecord}
use Rattle.lock_store.specs.Memories.{holds}
use Rattle.lock_store.specs.Views.{counter_of, host_at, key_at, told_of}
use Rattle.disk_locks.specs.Consistent.{Consistent}
use Rattle.disk_locks.specs.Keys.{owner}
use Rattle.disk_locks.specs.Sure.{BothTold, Sure}
use Rattle.host_facts.specs.Facts.{Tells}
use Rattle.host_facts.specs.Facts.Fact.{TableIs}
use Rattle.host_facts.specs.Finds.{Finds}
use Rattle.host_facts.specs.Views.{WorldView}
use Rattle.host_facts.specs.Wrote.{FilesStay, Writing}
use Rattle.host_facts.specs.laws.DoneLaws.{number_known}
use Rattle.host_facts.specs.laws.FindsLaws.{sure_found}
use Rattle.host_facts.specs.laws.FoundLaws.{held_found}
use Rattle.host_facts.specs.laws.ToldLaws.{both_of, both_with, sure_and, sure_each, sure_of}
use Rattle.plan_parts.specs.Applies.{IsApplying}
use Rattle.plan_parts.specs.Commits.{Committed}
use Rattle.plan_parts.specs.KeptTables.{AreKept}
use Rattle.plan_parts.specs.TableOrder.{same_table, tables_of}
use Rattle.plan_parts.specs.declared.applying.Applying.{Applying}
use Rattle.plan_parts.specs.declared.kept.Kept.{Kept}
use Rattle.plan_parts.specs.declared.outcome.Outcome.TheVariants as outcomes
use Rattle.plan_parts.specs.laws.TakenLaws.{taking_same}
use Rattle.share_plans.specs.LinkRecords.{table_in}
use Rattle.share_plans.specs.Promotions.{At, IsCause, IsPromotion, Went, known_of}
use Rattle.share_plans.specs.Spots.{Reads}
use Rattle.share_plans.specs.declared.closing.Closing.TheVariants.{Applies}
use Rattle.share_plans.specs.declared.promotion.Doing.TheVariants as doings
use Rattle.share_plans.specs.declared.promotion.Promoted.TheVariants as answers
use Rattle.share_plans.specs.declared.promotion.Promotion.{Promotion}
use Rattle.share_plans.specs.declared.promotion.Reached.TheVariants.{More}
use Rattle.share_plans.specs.laws.ClosingLaws.{keeps_memory}
use Rattle.share_plans.specs.laws.CommitStageLaws.{read_kept}
use Rattle.share_plans.specs.laws.EndLaws.{host_kept}
use Rattle.share_plans.specs.laws.KnownLaws.{place_shown, tables_read}
use Rattle.share_plans.specs.laws.LinkLaws.{holds_count}
use Rattle.share_plans.specs.laws.LinkRecordLaws.{Names, group_apart, named_in}
use Rattle.share_plans.specs.laws.PromoteStages.{same_promotion}
use Rattle.plan_parts.specs.MadeCalls.{CommittedSo, writing_of}
use Rattle.share_plans.specs.laws.SpareLaws.{spares_place}

-- edits of a slot and of a pointer are of other fields than what comes behind them
pub slot_no_pointer : (t n f i : ℕ) → touches (edit (Slot t) n ∷ []) (Pointer f i) ≡ false
slot_no_pointer t n f i = let apart = other_field-is (Slot t) (Pointer f i) (λ e. cc) in rw apart refl

pub names_no_count : (t n f i m d : ℕ) → touches (edit (Slot t) n ∷ edit (Pointer f i) m ∷ []) (Count d) ≡ false
names_no_count t n f i m d =
    let a = other_field-is (Slot t) (Count d) (λ e. cc) in
    let b = other_field-is (Pointer f i) (Count d) (λ e. cc) in rw (a, b) refl

pub second_other : (t n f i m key : ℕ) (entry : JournalRecord) (e : Edit) → entry ≡ record { key = key; edits = edit (Slot t) n ∷ [] }
    → e ≡ edit (Pointer f i) m → touches entry.edits e.field ≡ false
second_other t n f i m key entry e entry_is e_is =
    ap (λ (r : JournalRecord). touches r.edits e.field) entry_is ∙ ap (λ (x : Edit). touches (edit (Slot t) n ∷ []) x.field) e_is
    ∙ slot_no_pointer t n f i

pub third_other : (t n f i m key d : ℕ) (entry : JournalRecord) (e : Edit) (after : JournalRecord)
    → entry ≡ record { key = key; edits = edit (Slot t) n ∷ [] } → e ≡ edit (Pointer f i) m → after ≡ record entry { edits = entry.edits ++ e ∷ [] }
    → touches after.edits (Count d) ≡ false
third_other t n f i m key d entry e after entry_is e_is after_is =
    ap (λ (r : JournalRecord). touches r.edits (Count d)) after_is
    ∙ ap (λ (r : JournalRecord). touches (r.edits ++ e ∷ []) (Count d)) entry_is
    ∙ ap (λ (x : Edit). touches (edit (Slot t) n ∷ x ∷ []) (Count d)) e_is
    ∙ names_no_count t n f i m d

-- a data block can be named twice
two_counts : (g : Geometry) → IsGeometry g → 2 ≤ greatest_count g
unfolding greatest_count per_table
two_counts g range =
    elim (cases_Bool (g.tables == 1)) [
      | inl one ↦ rw one (omega arith)
      | inr more ↦ rw more (omega (arith, range.parts.0))
    ]

-- the table of a part is none of pointers
part_apart : (f i p : ℕ) → same_table (table_of (Pointer f i)) (tables.Part p) ≡ false
part_apart f i p = elim (cases_Bool (i / per_table == 0)) [ inl first ↦ rw first refl | inr more ↦ rw more refl ]

-- what is sure of its edits is so of the record
pub record_as : (v : WorldView) (core : Promotion) (d t key : ℕ) (entry : JournalRecord) → key ≡ key_at v.locks core.host
    → entry ≡ record { key = key; edits = promoted t core.file core.index d }
    → Sure v.locks core.host (λ image. IsRecord v.locks.geometry image (key_at v.locks core.host) (promoted t core.file core.index d))
    → Sure v.locks core.host (λ image. IsRecord v.locks.geometry image entry.key entry.edits)
record_as v core d t key entry key_is entry_is sure =
    subst (λ (r : JournalRecord). Sure v.locks core.host (λ image. IsRecord v.locks.geometry image r.key r.edits)) (sym entry_is)
    (subst (λ (k : ℕ). Sure v.locks core.host (λ image. IsRecord v.locks.geometry image k (promoted t core.file core.index d))) (sym key_is) sure)

module _ (v : WorldView) (core : Promotion) (d t : ℕ) (part group : Kept) (is : Consistent v.locks)
    (at : At v core (doings.Commits d t part group)) where
  abbrev g : Geometry
  g = v.locks.geometry

  abbrev key : ℕ
  key = key_at v.locks core.host

  abbrev es : List Edit
  es = promoted t core.file core.index d

  abbrev PartSays : Image → Type 0
  PartSays image = (s : ℕ) → HasField g (Slot s) → table_of (Slot s) ≡ part.which → logical g image (Slot s) ≡ number_in part.table (Slot s)

  -- what the host is sure of before its commit
  record Seen (image : Image) : Type 0 where
    pub found : Finds v.locks core.host image
    pub reads : Reads g (known_of core) image
    pub slots : PartSays image
    pub table : field g image (Slot t) ≡ 0

  part_says : Sure v.locks core.host PartSays
  part_says =
      sure_each v.locks core.host ℕ
      (λ s image. HasField g (Slot s) → table_of (Slot s) ≡ part.which → logical g image (Slot s) ≡ number_in part.table (Slot s)) (λ s.
      sure_each v.locks core.host (HasField g (Slot s))
      (λ has image. table_of (Slot s) ≡ part.which → logical g image (Slot s) ≡ number_in part.table (Slot s)) (λ has.
      sure_each v.locks core.host (table_of (Slot s) ≡ part.which) (λ which image. logical g image (Slot s) ≡ number_in part.table (Slot s)) (λ which.
      number_known v core.host part.which part.table (Slot s) is at.0.slot.kept.known at.0.slot.kept.packing at.0.base.empty has which)))

  slot_says : Sure v.locks core.host (λ image. field g image (Slot t) ≡ 0)
  slot_says =
      sure_of v.locks core.host (λ image. Tells v.locks core.host image (TableIs part.which part.table)) (λ image. field g image (Slot t) ≡ 0)
      (λ image spelled.
      field-number_in g image part.which part.table (Slot t) (record { packing = at.0.slot.kept.packing; spelled = spelled }) (sym at.0.slot.which)
      ∙ at.0.slot.empty)
      at.0.slot.kept.known.sure

  seen_sure : Sure v.locks core.host Seen
  seen_sure =
      let Table = λ (image : Image). field g image (Slot t) ≡ 0 in
      sure_found v.locks core.host (λ image. Reads g (known_of core) image × (PartSays image × Table image)) Seen is
      (λ image found all. record { found = found; reads = all.0; slots = all.1.0; table = all.1.1 })
      (sure_and v.locks core.host (Reads g (known_of core)) (λ image. PartSays image × Table image)
      (tables_read v core.host core.tables is at.0.base.kept at.0.base.empty)
      (sure_and v.locks core.host PartSays Table part_says slot_says))

  module _ (image : Image) (seen : Seen image) where
    number_is : logical g image (Pointer core.file core.index) ≡ d + 1
    number_is = seen.reads (Pointer core.file core.index) (pointer_number (numbers.At d false)) at.0.block.has at.0.block.pointer ∙ omega arith

    slot_is : logical g image (Slot t) ≡ 0
    slot_is = seen.slots t at.0.slot.has (sym at.0.slot.which) ∙ at.0.slot.empty

    part_held : holds (host_at v.locks core.host) (resource_of (Slot t)) ≡ true
    part_held = ap (λ (u : Table). holds (host_at v.locks core.host) (owner u)) (sym at.0.slot.which) ∙ at.0.slot.kept.held

    promotable : IsPromotable g image key t core.file core.index d
    promotable = record {
      pointer = (
        at.0.block.has,
        held_found v.locks core.host image (resources.File core.file) seen.found
            at.0.base.is_host.file at.0.base.is_host.held,
      );
      names = number_is;
      lone = subst IsUnmarked (sym number_is) (fresh-unmarked g d is.geometry at.0.block.inside);
      slot = (
        at.0.slot.has,
        held_found v.locks core.host image (resource_of (Slot t)) seen.found
            (HasResource-resource_of g (Slot t) at.0.slot.has) part_held,
      );
      table = seen.table;
      empty = slot_is;
      count = holds_count v core.host d group is at.1 image seen.found;
    }

    right_record : IsRecord g image key es
    right_record = record-promote g (counter_of v.locks) image key t core.file core.index d seen.found.agrees.valid promotable

    module _ (new : Image) (step : Changes g es None image new) where
      files_stay : KeepsFiles image new
      files_stay = stays-promote g (counter_of v.locks) image new key t core.file core.index d seen.found.agrees.valid promotable step

      promotion_made : IsPromotion g core t image new
      promotion_made = record {
        block = d;
        own = (place_shown g (known_of core) image is.geometry seen.reads core.file core.index d (false, at.0.block), number_is);
        once = count-lone g (counter_of v.locks) image key t core.file core.index d seen.found.agrees.valid promotable;
        slot = record {
          has = at.0.slot.has;
          part = at.0.slot.own;
          empty = slot_is;
          lowest = λ s own before zero.
              let here : table_of (Slot s) ≡ part.which = ap tables.Part (own ∙ sym at.0.slot.own) ∙ sym at.0.slot.which in
              at.0.slot.lowest s here before (sym (seen.slots s (slot_has s before) here) ∙ zero);
        };
        changes = step;
      }
        where
          slot_has : (s : ℕ) → s < t → HasField g (Slot s)
          slot_has s before = let below = at.0.slot.has in omega (arith, before, below)

  pub edits_right : All (IsEdit g) es
  edits_right =
      let below = at.0.block.inside in
      All-cons (IsEdit g) (edit (Slot t) (d + 1)) (edit (Pointer core.file core.index) (marked d) ∷ edit (Count d) 2 ∷ [])
      (at.0.slot.has, omega (arith, below))
      (all-two (IsEdit g) (edit (Pointer core.file core.index) (marked d)) (edit (Count d) 2)
      (at.0.block.has, marked-range g d is.geometry at.0.block.inside) (at.0.block.inside, two_counts g is.geometry))

  pub may_record : Sure v.locks core.host (λ image. IsRecord g image key es)
  may_record = sure_of v.locks core.host Seen (λ image. IsRecord g image key es) (λ image seen. right_record image seen) seen_sure

  module _ (pointers : Kept) (pointers_is : table_in (known_of core) (table_of (Pointer core.file core.index)) ≡ Some pointers) where
    pub tables_kept : AreKept v core.host (part ∷ pointers ∷ group ∷ [])
    tables_kept = (
      at.0.slot.kept,
      (read_kept v core.host core.tables (table_of (Pointer core.file core.index)) pointers at.0.base.kept pointers_is, (at.1.0, tt)),
    )

    pub tables_order : Names (part ∷ pointers ∷ group ∷ []) ≡ tables_of es
    tables_order =
        let named = named_in (known_of core) (table_of (Pointer core.file core.index)) pointers pointers_is in
        let a = part_apart core.file core.index (t / per_table) in
        let b = group_apart core.file core.index (d / per_table) in
        rw (at.0.slot.which, named, at.1.1, a, b) refl

  pub promotion_committed : (w : WorldView) (k : ℕ) (entry : JournalRecord) (left : List Kept) (a : Applying)
      → entry ≡ record { key = k; edits = es } → length left ≡ 3 → Committed core.host v w entry left → CommittedSo core.host v w entry
      → a.entry ≡ entry → a.left ≡ left
      → Went v w core core (doings.Commits d t part group) (More (doings.Closes (Applies a) (answers.Promoted t)))
  promotion_committed w k entry left a entry_is long did so a_entry a_left =
      let h = core.host in
      let edits_is : entry.edits ≡ es = ap (λ (r : JournalRecord). r.edits) entry_is in
      let keeps = keeps_memory h v w did.wrote.geometry did.wrote.memory in
      let Done = λ (old new : Image). KeepsFiles old new × IsCause g core (answers.Promoted t) old new in
      let done : BothTold (told_of v.locks) (told_of w.locks) Done =
      both_with (told_of v.locks) (told_of w.locks) Seen
      (Writing g (kinds.Journal h) (journal_bytes entry.key entry.edits) entry.edits None) Done
      (seen_sure did.wrote.registered) did.wrote.images
      (λ old new seen step.
      let changes = subst (λ (fs : List Edit). Changes g fs None old new) edits_is step.changes in
      (files_stay old seen new changes, promotion_made old seen new changes)) in
      let files : FilesStay v w = both_of (told_of v.locks) (told_of w.locks) Done KeepsFiles done (λ old new both. both.0) in
      let long_too : length a.left ≡ length left = ap length a_left in
      let taken = at.0.few in
      record {
        same = same_promotion core core.taken;
        keeps = keeps;
        stands = (
          host_kept v w h core.file keeps at.0.base.is_host,
          (
            taking_same v w h core.taken did.wrote.geometry did.wrote.memory at.0.base.taking,
            subst (λ (r : JournalRecord). IsApplying w h r.edits a.left) (sym a_entry)
                (subst (IsApplying w h entry.edits) (sym a_left) did.stands),
          ),
          subst (λ (x : Geometry). HasField x (Slot t)) (sym keeps.geometry) at.0.slot.has,
        );
        answers_are = (both_of (told_of v.locks) (told_of w.locks) Done (IsCause g core (answers.Promoted t)) done (λ old new both. both.1), tt);
        less = omega (arith, long, long_too, taken);
        event = writing_of v h (kinds.Journal h) (journal_bytes entry.key entry.edits);
        spares = spares_place g (kinds.Journal h) at.0.base.is_host.host refl;
        quiet = λ command may. so files command outcomes.Open;
      }
