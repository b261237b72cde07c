-- How a journal is written, and read edit by edit.
use Rattle.std.proofs.Common.{◌≡◌, ◌<◌, ◌≤◌, ◌+◌, ◌-◌, ◌*◌, ◌^◌, ◌⊎◌, ℕ, List, [], ◌∷◌, ◌++◌, Some, None, true, false, length, take, refl, sym, subst, ap, ◌∙◌, inl, inr, arith, length-append, length-take-le}
use Rattle.std.specs.Prelude.{All, IsTrue, codes, get_or, slice_get}
use Rattle.std.specs.List.{flat_map}
use Rattle.std.proofs.lemmas.Option.{same_Some, slice_get-get_or}
use Rattle.std.proofs.lemmas.List.{take_all, take_more}
use Rattle.std.proofs.lemmas.List.Elements.{All-append, All-cons, All-nil}
use Rattle.vol_base.specs.Bytes.{bytes_of, u32_at, u64_at, zeros}
use Rattle.vol_layout.specs.declared.geometry.Geometry.{Geometry}
use Rattle.vol_layout.specs.declared.field.Edit.{Edit}
use Rattle.vol_layout.specs.declared.field.Field.{Field}
use Rattle.vol_layout.specs.Ranges.{IsGeometry}
use Rattle.vol_layout.specs.Edits.{IsEdit, touches}
use Rattle.vol_layout.specs.laws.EditLaws.{other_field-is, touches-append, touches-at, touches-take}
use Rattle.vol_layout.specs.Journal.{SpellsJournal, edit_at, edit_bytes, journal_bytes}
use Rattle.vol_layout.specs.laws.JournalLaws.{edit_at-spelled, journal_count-spelled, journal_key-spelled, length-edits}
use Rattle.journal_block.specs.JournalRecord.{IsJournalRecord, JournalRecord, entry_of}

-- a draft with the first n edits behind it
pub longer : (draft front : List ℕ) (es : List Edit) (n : ℕ) → draft ≡ front ++ flat_map edit_bytes (take n es) → n ≤ length es
    → length draft ≡ length front + 16 * n
longer draft front es n e h =
    ap length e ∙ length-append front (flat_map edit_bytes (take n es)) ∙ omega (arith, length-edits (take n es), length-take-le n es h)

-- what is written, with the zeros behind it
pub journal_written : (key : ℕ) (es : List Edit) (draft result : List ℕ)
    → draft ≡ codes "DEDEJRNL" ++ bytes_of 4 (length es) ++ zeros 4 ++ bytes_of 8 key ++ zeros 40 ++ flat_map edit_bytes es
    → length draft ≡ 64 + 16 * length es → result ≡ draft ++ zeros (4096 - length draft) → result ≡ journal_bytes key es
unfolding journal_bytes
journal_written key es draft result w long r =
    let rest : 4096 - length draft ≡ 4032 - 16 * length es = omega arith in
    r ∙ ap (λ (m : ℕ). draft ++ zeros m) rest ∙ ap (λ (xs : List ℕ). xs ++ zeros (4032 - 16 * length es)) w

pub record_written : (result : List ℕ) (n key : ℕ) (ds es : List Edit) → result ≡ journal_bytes n ds → n ≡ key → ds ≡ es
    → result ≡ journal_bytes key es
record_written result n key ds es r k e = r ∙ ap (λ (m : ℕ). journal_bytes m ds) k ∙ ap (λ (xs : List Edit). journal_bytes key xs) e

pub spells_none : (g : Geometry) (bytes : List ℕ) → bytes ≡ journal_bytes 0 [] → SpellsJournal g bytes 0 []
spells_none g bytes e = record {
  edits = record { few = omega arith; each = All-nil (IsEdit g); apart = tt };
  width = omega arith;
  keyless = λ none. refl;
  spelled = e;
}

pub spells_record : (g : Geometry) (bytes : List ℕ) (r : JournalRecord) → r.key < 2 ^ 64 → IsJournalRecord r → All (IsEdit g) r.edits
    → bytes ≡ journal_bytes r.key r.edits → SpellsJournal g bytes r.key r.edits
spells_record g bytes r small well each e = record {
  edits = record { few = well.few; each = each; apart = well.apart };
  width = small;
  keyless = λ none. let n = ap length none in absurd (omega (arith, n, well.some));
  spelled = e;
}

-- the record that was read so far, of any that the block spells
abbrev pub ReadUpTo : Geometry → List ℕ → ℕ → JournalRecord → Type 0
ReadUpTo g bytes k r = (key : ℕ) (es : List Edit) → SpellsJournal g bytes key es → r ≡ record { key = key; edits = take k es }

-- the edit that is read next
pub record NextEdit (g : Geometry) (bytes : List ℕ) (es : List Edit) (k : ℕ) : Type 0 where
  pub range : IsEdit g (edit_at bytes (64 + 16 * k))
  pub more : take (k + 1) es ≡ take k es ++ edit_at bytes (64 + 16 * k) ∷ []
  pub new : touches (take k es) (edit_at bytes (64 + 16 * k)).field ≡ false
  pub long : length (take k es) ≡ k

pub next_edit : (g : Geometry) (bytes : List ℕ) (key : ℕ) (es : List Edit) (k : ℕ) → IsGeometry g → SpellsJournal g bytes key es
    → k < u32_at bytes 8 → NextEdit g bytes es k
next_edit g bytes key es k geometry h below =
    let inside : k < length es = omega (arith, journal_count-spelled g bytes key es h) in
    let d = edit_at bytes (64 + 16 * k) in
    let found = slice_get-get_or es k d inside in
    let at = edit_at-spelled g bytes key es k _ geometry h found in
    let is : slice_get es k ≡ Some d = found ∙ ap (λ (e : Edit). Some e) (sym at) in
    record {
      range = subst (IsEdit g) (sym at) (h.edits.each k d inside);
      more = take_more es k d inside ∙ ap (λ (e : Edit). take k es ++ e ∷ []) (sym at);
      new = touches-take es k d h.edits.apart is;
      long = length-take-le k es (omega arith);
    }

-- a block that spells no edit spells the empty journal
pub no_edits : (g : Geometry) (bytes : List ℕ) (key : ℕ) (es : List Edit) → SpellsJournal g bytes key es → u32_at bytes 8 ≡ 0
    → entry_of key es ≡ None
no_edits g bytes key [] h none = refl
no_edits g bytes key (e ∷ es) h none = absurd (omega (arith, journal_count-spelled g bytes key (e ∷ es) h))

-- all that was read
pub all_edits : (g : Geometry) (bytes : List ℕ) (key : ℕ) (es : List Edit) (r : JournalRecord) (k : ℕ) → SpellsJournal g bytes key es
    → r ≡ record { key = key; edits = take k es }
    → k ≡ u32_at bytes 8 → 0 < k → Some r ≡ entry_of key es
all_edits g bytes key [] r k h is all some = absurd (omega (arith, journal_count-spelled g bytes key [] h))
all_edits g bytes key (e ∷ es) r k h is all some =
    let whole : take k (e ∷ es) ≡ e ∷ es = take_all k (e ∷ es) (omega (arith, journal_count-spelled g bytes key (e ∷ es) h)) in
    ap (λ (x : JournalRecord). Some x) (is ∙ ap (λ (xs : List Edit). let x : JournalRecord = record { key = key; edits = xs } in x) whole)

-- what was read at a place, where an edit in range stands there
abbrev pub WasRead : Geometry → Edit → Edit → Type 0
WasRead g there e = IsEdit g there → Some e ≡ Some there

-- the first edit was read
pub first_read : (g : Geometry) (bytes : List ℕ) (number : ℕ) (e : Edit) (r : JournalRecord) → IsGeometry g → 0 < u32_at bytes 8
    → number ≡ u64_at bytes 16
    → WasRead g (edit_at bytes 64) e → r ≡ record { key = number; edits = e ∷ [] } → ReadUpTo g bytes 1 r
first_read g bytes number e r geometry some n_is e_is r_is key es h =
    let next = next_edit g bytes key es 0 geometry h some in
    let same : e ≡ edit_at bytes 64 = same_Some e (edit_at bytes 64) (e_is next.range) in
    r_is
    ∙ ap (λ (m : ℕ). let x : JournalRecord = record { key = m; edits = e ∷ [] } in x) (n_is ∙ journal_key-spelled g bytes key es h)
    ∙ ap (λ (xs : List Edit). let x : JournalRecord = record { key = key; edits = xs } in x) (ap (λ (d : Edit). d ∷ []) same ∙ sym next.more)

-- one more edit was read and added
pub one_more : (g : Geometry) (bytes : List ℕ) (k : ℕ) (e : Edit) (old new : JournalRecord) → IsGeometry g → k < u32_at bytes 8
    → ReadUpTo g bytes k old
    → WasRead g (edit_at bytes (64 + 16 * k)) e → new ≡ record old { edits = old.edits ++ e ∷ [] } → ReadUpTo g bytes (k + 1) new
one_more g bytes k e old new geometry below before e_is new_is key es h =
    let next = next_edit g bytes key es k geometry h below in
    let same : e ≡ edit_at bytes (64 + 16 * k) = same_Some e (edit_at bytes (64 + 16 * k)) (e_is next.range) in
    new_is
    ∙ ap (λ (r : JournalRecord). let x : JournalRecord = record r { edits = r.edits ++ e ∷ [] } in x) (before key es h)
    ∙ ap (λ (xs : List Edit). let x : JournalRecord = record { key = key; edits = xs } in x) (ap (λ (d : Edit). take k es ++ d ∷ []) same ∙ sym next.more)

-- an edit of a spelled record can be added
pub can_be_added : (g : Geometry) (bytes : List ℕ) (k : ℕ) (e : Edit) (r : JournalRecord) (key : ℕ) (es : List Edit) → IsGeometry g
    → SpellsJournal g bytes key es → k < u32_at bytes 8 → u32_at bytes 8 ≤ 8
    → ReadUpTo g bytes k r → WasRead g (edit_at bytes (64 + 16 * k)) e → (length r.edits ≡ 8) ⊎ IsTrue (touches r.edits e.field) → ⊥
can_be_added g bytes k e r key es geometry h below few before e_is full =
    let next = next_edit g bytes key es k geometry h below in
    let same : e ≡ edit_at bytes (64 + 16 * k) = same_Some e (edit_at bytes (64 + 16 * k)) (e_is next.range) in
    let edits_are : r.edits ≡ take k es = ap (λ (x : JournalRecord). x.edits) (before key es h) in
    elim full [
      | inl eight ↦ omega (arith, ap length edits_are, next.long, eight)
      | inr touched ↦
          let is : touches r.edits e.field ≡ touches (take k es) (edit_at bytes (64 + 16 * k)).field =
          ap (λ (xs : List Edit). touches xs e.field) edits_are ∙ ap (λ (d : Edit). touches (take k es) d.field) same in
          let not = next.new in cc
    ]

-- edits in range stay so with one more, and the first is one
pub All-more : (g : Geometry) (e : Edit) (es : List Edit) (new : JournalRecord) (key : ℕ) → All (IsEdit g) es → IsEdit g e
    → new ≡ record { key = key; edits = es ++ e ∷ [] } → All (IsEdit g) new.edits
All-more g e es new key each one is =
    let edits_are : new.edits ≡ es ++ e ∷ [] = ap (λ (x : JournalRecord). x.edits) is in
    subst (All (IsEdit g)) (sym edits_are) (All-append (IsEdit g) es (e ∷ []) each (All-cons (IsEdit g) e [] one (All-nil (IsEdit g))))

-- a field is looked for among edits
pub found : (es : List Edit) (k : ℕ) (d : Edit) (x : Field) → k < length es → (get_or es k d).field ≡ x → touches es x ≡ true
found es k d x inside is = subst (λ (y : Field). touches es y ≡ true) is (touches-at es k (get_or es k d) (slice_get-get_or es k d inside))

pub not_yet : (es : List Edit) (k : ℕ) (d : Edit) (x : Field) → k < length es → touches (take k es) x ≡ false
    → ((get_or es k d).field ≡ x → ⊥) → touches (take (k + 1) es) x ≡ false
not_yet es k d x inside before other =
    let here = other_field-is (get_or es k d).field x other in
    ap (λ (xs : List Edit). touches xs x) (take_more es k d inside) ∙ touches-append (take k es) (get_or es k d ∷ []) x ∙ rw (before, here) refl
