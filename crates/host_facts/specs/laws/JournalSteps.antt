-- The write of a journal is a step.
use Rattle.std.proofs.Common.{◌≡◌, ◌≢◌, ◌⊎◌, ◌<◌, ◌≤◌, ◌/◌, ℕ, true, List, [], None, length, refl, sym, ap, ◌∙◌, subst, inl, inr, arith}
use Rattle.std.proofs.lemmas.Bool.{cases_Bool}
use Rattle.std.proofs.lemmas.List.{length-set}
use Rattle.std.proofs.lemmas.List.Elements.{All-cons, All-nil}
use Rattle.vol_layout.specs.declared.geometry.Geometry.{Geometry}
use Rattle.vol_layout.specs.declared.kind.Kind.TheVariants as kinds
use Rattle.vol_layout.specs.declared.field.Edit.{Edit}
use Rattle.vol_layout.specs.declared.field.Field.{Field}
use Rattle.vol_layout.specs.declared.field.Field.TheVariants.{Slot}
use Rattle.vol_layout.specs.Edits.{touches}
use Rattle.vol_layout.specs.Fields.{resource_of}
use Rattle.vol_layout.specs.Journal.{SpellsJournal, edits_of, journal_bytes, journal_key}
use Rattle.vol_layout.specs.Places.{place_of}
use Rattle.vol_layout.specs.Ranges.{IsGeometry}
use Rattle.vol_layout.specs.Regions.{total}
use Rattle.vol_layout.specs.laws.JournalLaws.{edits_of-spelled, journal_key-spelled}
use Rattle.image_view.specs.Counted.{IsCounted}
use Rattle.image_view.specs.Held.{CountsSlots, HoldsField}
use Rattle.image_view.specs.HostKeys.{IsHeldBy, journal_key_at, slot_key_at}
use Rattle.image_view.specs.Images.{Image, OnlyChanges, block_at, written}
use Rattle.image_view.specs.Numbers.{journal, logical}
use Rattle.image_view.specs.Records.{IsEdited, IsRecord}
use Rattle.image_view.specs.Spelled.{IsJournal}
use Rattle.image_view.specs.laws.EditLaws.{edited_untouched}
use Rattle.image_view.specs.laws.FrameLaws.{block_at-written, field_kept, write_only}
use Rattle.image_view.specs.laws.JournalLaws.{journals_apart, logical-commit, logical-finish, others_untouched}
use Rattle.image_view.specs.laws.UseLaws.{counted-edited}
use Rattle.image_view.specs.laws.ValidLaws.{counted_kept}
use Rattle.lock_store.specs.Memories.{claim_of}
use Rattle.lock_store.specs.Views.{LocksView, counter_of, host_at, key_at}
use Rattle.host_facts.specs.Finds.{Finds}
use Rattle.host_facts.specs.Records.{IsApplied}
use Rattle.host_facts.specs.Steps.{IsStep}
use Rattle.host_facts.specs.laws.FoundLaws.{host_found, joined_found, key_found}
use Rattle.host_facts.specs.laws.ImageLaws.{valid_journal_write}
use Rattle.host_facts.specs.laws.KindLaws.{changes_by}
use Rattle.host_facts.specs.laws.EntryLaws.{no_edits}

-- a host may write its own journal while it is joined, and that of a slot that it claimed
abbrev pub MayClear : LocksView → ℕ → ℕ → Type 0
MayClear v h y = ((y ≡ h) × ((host_at v h).joined ≡ true)) ⊎ (claim_of (host_at v h) y ≢ 0)

-- what a written journal reads as
record ReadsAs (g : Geometry) (counter : ℕ) (image : Image) (y key : ℕ) (es : List Edit) : Type 0 where
  pub spelled : IsJournal g counter (block_at g image (kinds.Journal y))
  pub key_is : journal_key_at g image y ≡ key
  pub edits_are : journal g image y ≡ es

written_journal : (g : Geometry) (counter : ℕ) (image : Image) (y key : ℕ) (es : List Edit) → IsGeometry g → total g ≤ length image
    → y < g.hosts → SpellsJournal g (journal_bytes key es) key es → key / 16 ≤ counter
    → ReadsAs g counter (written g image (kinds.Journal y) (journal_bytes key es)) y key es
unfolding journal journal_key_at
written_journal g counter image y key es range long below spells given =
    let block = journal_bytes key es in
    let stands = block_at-written g image (kinds.Journal y) block below long in
    let key_is = journal_key-spelled g block key es spells in
    let edits_are = edits_of-spelled g block key es range spells in
    let reads = subst (SpellsJournal g block key) (sym edits_are) spells in
    let key_given : journal_key block / 16 ≤ counter = rw key_is given in
    record {
      spelled = rw stands (record {
        spelled = subst (λ (k : ℕ). SpellsJournal g block k (edits_of block)) (sym key_is) reads;
        given = All-cons (λ (k : ℕ). k / 16 ≤ counter) (journal_key block) [] key_given (All-nil (λ (k : ℕ). k / 16 ≤ counter));
      });
      key_is = ap journal_key stands ∙ key_is;
      edits_are = ap edits_of stands ∙ edits_are;
    }

-- the journal of one host is written, which edits just what the new record says
journal_step : (v : LocksView) (h y key : ℕ) (es : List Edit) (image : Image) → Finds v h image → y < v.geometry.hosts → MayClear v h y
    → ReadsAs v.geometry (counter_of v) (written v.geometry image (kinds.Journal y) (journal_bytes key es)) y key es
    → (es ≢ [] → (slot_key_at v.geometry image y ≢ 0) × (key ≡ slot_key_at v.geometry image y))
    → ((x : Field) → touches es x ≡ true → (key ≡ key_at v h) × HoldsField v.geometry image key x)
    → CountsSlots v.geometry image es
    → IsEdited v.geometry image (written v.geometry image (kinds.Journal y) (journal_bytes key es)) es
    → IsCounted v.geometry (written v.geometry image (kinds.Journal y) (journal_bytes key es))
    → IsStep v.geometry (counter_of v) h (host_at v h) (kinds.Journal y) (journal_bytes key es) es None image
journal_step v h y key es image found below may reads keyed holds slots edits counted =
    let g = v.geometry in
    let kind = kinds.Journal y in
    let block = journal_bytes key es in
    let new = written g image kind block in
    let only : OnlyChanges g image new kind = write_only g image kind block below in
    let same_edits = reads.edits_are in
    let its = λ (x : Field) (touched : touches (journal g new y) x ≡ true).
    holds x (ap (λ (fs : List Edit). touches fs x) (sym same_edits) ∙ touched) in
    let number_is = λ (z : ℕ) (e : kind ≡ kinds.Journal z). let e' : y ≡ z = cc in e' in
    record {
      valid =
          valid_journal_write g (counter_of v) image new y only (length-set image (place_of g kind) block) reads.spelled
          (λ some. let k = keyed (λ none. some (same_edits ∙ none)) in (k.0, reads.key_is ∙ k.1))
          (λ x touched. rw (reads.key_is) ((its x touched).1))
          (subst (CountsSlots g image) (sym same_edits) slots)
          counted found.agrees.valid;
      may = record {
        numbers = λ x there other. edits x there ∙ elim (cases_Bool (touches es x)) [
          | inl touched ↦ let mine = holds x touched in absurd (other (subst (IsHeldBy g image (resource_of x)) mine.0 mine.1.1))
          | inr kept ↦ edited_untouched es x (logical g image x) kept
        ];
        journal = λ z e. subst (MayClear v h) (number_is z e) may;
        table = λ t e. absurd cc;
        number = λ d e. absurd cc;
        fresh = λ d e. absurd cc;
        slots = λ s d there names. inl (field_kept g image new kind (Slot s) only there (λ e. cc) ∙ names);
        no_slot = λ d e. absurd cc;
      };
      changes = changes_by g es image new kind only (λ e. cc) (λ d e. cc) edits;
      own = λ e. ap (journal g new) (sym (number_is h e)) ∙ same_edits;
    }

-- a record comes to stand in the own journal, which was empty
pub commit_step : (v : LocksView) (h key : ℕ) (es : List Edit) (image : Image) → Finds v h image → (host_at v h).joined ≡ true
    → key ≡ key_at v h → es ≢ [] → journal v.geometry image h ≡ [] → IsRecord v.geometry image key es
    → IsStep v.geometry (counter_of v) h (host_at v h) (kinds.Journal h) (journal_bytes key es) es None image
commit_step v h key es image found joined own some empty is =
    let g = v.geometry in
    let kind = kinds.Journal h in
    let block = journal_bytes key es in
    let new = written g image kind block in
    let below = host_found v h image found in
    let only : OnlyChanges g image new kind = write_only g image kind block below in
    let shown = joined_found v h image found joined in
    let valid = found.agrees.valid in
    let keyed : key ≡ slot_key_at g image h = own ∙ sym shown in
    let slot_some : slot_key_at g image h ≢ 0 = λ none. found.some (sym shown ∙ none) in
    let named = (found.consistent.memories h).named found.some in
    let spells : SpellsJournal g block key es =
    record { edits = is.edits; width = rw own ((key_found v h image found).1); keyless = λ none. absurd (some none); spelled = refl } in
    let given : key / 16 ≤ counter_of v = rw own (named.2) in
    let reads = written_journal g (counter_of v) image h key es found.consistent.geometry valid.long below spells given in
    let alone = λ (x : Field) (k : ℕ) (touched : touches (journal g new h) x ≡ true) (lt : k < g.hosts) (ne : k ≢ h).
    let held = (is.held x (ap (λ (fs : List Edit). touches fs x) (sym reads.edits_are) ∙ touched)).1 in
    others_untouched g (counter_of v) image h k x valid below slot_some (subst (IsHeldBy g image (resource_of x)) keyed held) lt ne in
    let makes = logical-commit g image new h only below empty alone in
    let edits : IsEdited g image new es = subst (IsEdited g image new) reads.edits_are makes in
    journal_step v h h key es image found below (inl (refl, joined)) reads (λ e. (slot_some, keyed))
    (λ x touched. (own, is.held x touched)) is.slots edits
    (counted-edited g image new es is.edits edits is.balances is.marks valid.counted)

-- the empty journal is a spelling
empty_reads : (v : LocksView) (h y : ℕ) (image : Image) → Finds v h image → y < v.geometry.hosts
    → ReadsAs v.geometry (counter_of v) (written v.geometry image (kinds.Journal y) (journal_bytes 0 [])) y 0 []
empty_reads v h y image found below =
    written_journal v.geometry (counter_of v) image y 0 [] found.consistent.geometry found.agrees.valid.long below
    (record { edits = no_edits v.geometry; width = omega arith; keyless = λ e. refl; spelled = refl }) (omega arith)

-- a journal is cleared once its edits stand in the tables; it is empty then
pub clear_step : (v : LocksView) (h y : ℕ) (image : Image) → Finds v h image → y < v.geometry.hosts → MayClear v h y
    → IsApplied v.geometry y image
    → IsStep v.geometry (counter_of v) h (host_at v h) (kinds.Journal y) (journal_bytes 0 []) [] None image
clear_step v h y image found below may applied =
    let g = v.geometry in
    let new = written g image (kinds.Journal y) (journal_bytes 0 []) in
    let only : OnlyChanges g image new (kinds.Journal y) = write_only g image (kinds.Journal y) (journal_bytes 0 []) below in
    let reads = empty_reads v h y image found below in
    let valid = found.agrees.valid in
    let alone = λ (x : Field) (k : ℕ) (touched : touches (journal g image y) x ≡ true) (lt : k < g.hosts) (ne : k ≢ y).
    journals_apart g (counter_of v) image y k x valid below lt touched ne in
    let same : IsEdited g image new [] = logical-finish g image new y only below reads.edits_are applied alone in
    journal_step v h y 0 [] image found below may reads (λ some. absurd (some refl)) (λ x touched. absurd cc)
    (λ s d touched names. absurd cc) same (counted_kept g image new same valid.counted)
