-- What is read of journals, and found among edits.
use Rattle.std.proofs.Common.{◌≡◌, ◌≢◌, ◌<◌, ◌+◌, ℕ, zero, suc, true, false, List, [], ◌∷◌, ◌++◌, Option, Some, None, length, get_or, take, drop, if◌then◌else◌, refl, sym, ap, ◌∙◌, inl, inr, arith, add-one, add-zero, append-nil, append_assoc, zero-add, drop-cons}
use Rattle.std.specs.Prelude.{slice_get}
use Rattle.std.specs.List.{flat_map, range_with_len}
use Rattle.std.specs.Option.{option_flatten}
use Rattle.std.proofs.lemmas.Bool.{cases_Bool}
use Rattle.std.proofs.lemmas.List.{take_more}
use Rattle.std.proofs.lemmas.Option.{get_or_from_slice_get, slice_get_within}
use Rattle.vol_layout.specs.declared.field.Field.{Field}
use Rattle.vol_layout.specs.declared.field.Edit.{Edit}
use Rattle.vol_layout.specs.Edits.{edited, same_field, touches}
use Rattle.vol_layout.specs.laws.EditLaws.{other_field-is, same_field-refl}
use Rattle.vol_layout.specs.declared.geometry.Geometry.{Geometry}
use Rattle.vol_layout.specs.declared.kind.Kind.TheVariants as kinds
use Rattle.vol_layout.specs.Journal.{SpellsJournal, edits_of, journal_key}
use Rattle.journal_block.specs.JournalRecord.{JournalRecord, entry_edits, entry_key, entry_of}
use Rattle.image_view.specs.Found.{found}
use Rattle.image_view.specs.HostKeys.{journal_key_at}
use Rattle.image_view.specs.Images.{block_at}
use Rattle.image_view.specs.Numbers.{field, journal, logical, standing}
use Rattle.volume_check.specs.Counts.{AreStanding}
use Rattle.volume_check.specs.Metadatas.{Metadata, Passes}
use Rattle.volume_check.proofs.PassedLaws.{journal_spelled}

-- the key and the edits of what a journal holds
pub entry_key-of : (key : ℕ) (es : List Edit) → (es ≡ [] → key ≡ 0) → entry_key (entry_of key es) ≡ key
entry_key-of key [] keyless = sym (keyless refl)
entry_key-of key (e ∷ es) keyless = refl

pub entry_edits-of : (key : ℕ) (es : List Edit) → entry_edits (entry_of key es) ≡ es
entry_edits-of key [] = refl
entry_edits-of key (e ∷ es) = refl

-- a field that no edit is of is not touched
pub touches_none : (es : List Edit) (x : Field) → ((k : ℕ) (e : Edit) → slice_get es k ≡ Some e → e.field ≢ x) → touches es x ≡ false
touches_none [] x none = refl
touches_none (e ∷ es) x none = rw (other_field-is e.field x (none 0 e refl)) (touches_none es x (λ k d is. none (suc k) d is))

-- what was found is what the edits leave
pub edited_some : (es : List Edit) (x : Field) (n m : ℕ) → found es x ≡ Some m → edited es x n ≡ m
edited_some [] x n m h = cc
edited_some (e ∷ es) x n m h =
    elim (cases_Bool (same_field e.field x)) [
      | inl here ↦ let h' : Some e.number ≡ Some m = rw here at h in rw here cc
      | inr other ↦ rw other (edited_some es x n m (rw other at h))
    ]

pub edited_none : (es : List Edit) (x : Field) (n : ℕ) → found es x ≡ None → edited es x n ≡ n
edited_none [] x n h = refl
edited_none (e ∷ es) x n h =
    elim (cases_Bool (same_field e.field x)) [
      | inl here ↦ let h' : Some e.number ≡ None = rw here at h in cc
      | inr other ↦ rw other (edited_none es x n (rw other at h))
    ]

-- lists of edits over a range with one more number
flat_from : (f : ℕ → List Edit) (a n : ℕ) → flat_map f (range_with_len a (suc n)) ≡ flat_map f (range_with_len a n) ++ f (a + n)
flat_from f a zero = rw (add-zero a, append-nil (f a)) refl
flat_from f a (suc n) =
    let next : a + 1 + n ≡ a + suc n = omega arith in
    ap (λ es. f a ++ es) (flat_from f (a + 1) n ∙ ap (λ k. flat_map f (range_with_len (a + 1) n) ++ f k) next)
    ∙ sym (append_assoc (f a) (flat_map f (range_with_len (a + 1) n)) (f (a + suc n)))

pub flat_map_more : (f : ℕ → List Edit) (n : ℕ) (es fs : List Edit) → es ≡ flat_map f (range_with_len 0 n) → fs ≡ es ++ f n → fs ≡ flat_map f (range_with_len 0 (n + 1))
flat_map_more f n es fs before more =
    more ∙ ap (λ es. es ++ f n) before ∙ sym (rw (add-one n) (flat_from f 0 n ∙ ap (λ k. flat_map f (range_with_len 0 n) ++ f k) (zero-add n)))

-- what stands in a field's place among edits that are left
pub found_at : (es : List Edit) (x : Field) (i : ℕ) (d : Edit) → i < length es → (get_or es i d).field ≡ x → found (drop i es) x ≡ Some (get_or es i d).number
found_at es x i d below is =
    let e = get_or es i d in
    let same : same_field e.field x ≡ true = ap (same_field e.field) (sym is) ∙ same_field-refl e.field in
    ap (λ (fs : List Edit). found fs x) (drop-cons es i d below) ∙ ap (λ b. if b then Some e.number else found (drop (suc i) es) x) same

pub found_behind : (es : List Edit) (x : Field) (i : ℕ) (d : Edit) → i < length es → ((get_or es i d).field ≡ x → ⊥) → found (drop i es) x ≡ found (drop (i + 1) es) x
found_behind es x i d below other =
    let e = get_or es i d in
    ap (λ (fs : List Edit). found fs x) (drop-cons es i d below)
    ∙ ap (λ b. if b then Some e.number else found (drop (suc i) es) x) (other_field-is e.field x other)
    ∙ ap (λ n. found (drop n es) x) (sym (add-one i))

-- the number that is found among the standing edits is the logical one, and else that of the table
pub logical_some : (m : Metadata) (x : Field) (es : List Edit) (n : ℕ) (r : Option ℕ) → AreStanding m es → r ≡ found es x → r ≡ Some n → n ≡ logical m.geometry m.image x
unfolding logical
logical_some m x es n r stand is some = sym (edited_some (standing m.geometry m.image) x (field m.geometry m.image x) n (ap (λ fs. found fs x) (sym stand) ∙ sym is ∙ some))

pub logical_none : (m : Metadata) (x : Field) (es : List Edit) (n : ℕ) (r : Option ℕ) → AreStanding m es → r ≡ found es x → r ≡ None → n ≡ field m.geometry m.image x → n ≡ logical m.geometry m.image x
unfolding logical
logical_none m x es n r stand is none table = table ∙ sym (edited_none (standing m.geometry m.image) x (field m.geometry m.image x) (ap (λ fs. found fs x) (sym stand) ∙ sym is ∙ none))

-- what a journal holds, by what was read
pub record ReadEntry (m : Metadata) (h : ℕ) (e : Option JournalRecord) : Type 0 where
  pub key : entry_key e ≡ journal_key_at m.geometry m.image h
  pub edits : entry_edits e ≡ journal m.geometry m.image h

pub entry_read : (m : Metadata) (h : ℕ) (g : Geometry) (block : List ℕ) (r : Option (Option JournalRecord)) (e : Option JournalRecord) → Passes 2 m → h < m.geometry.hosts → g ≡ m.geometry
    → block ≡ block_at m.geometry m.image (kinds.Journal h)
    → ((key : ℕ) (es : List Edit) → SpellsJournal g block key es → r ≡ Some (entry_of key es))
    → e ≡ option_flatten r → ReadEntry m h e
unfolding journal journal_key_at
entry_read m h g block r e passed below g_is block_is only flat =
    let there = block_at m.geometry m.image (kinds.Journal h) in
    let spelled = (journal_spelled m h passed below).spelled in
    let here : SpellsJournal g block (journal_key there) (edits_of there) = rw (g_is, block_is) spelled in
    let is : e ≡ entry_of (journal_key there) (edits_of there) = flat ∙ ap option_flatten (only (journal_key there) (edits_of there) here) in
    record { key = ap entry_key is ∙ entry_key-of (journal_key there) (edits_of there) spelled.keyless; edits = ap entry_edits is ∙ entry_edits-of (journal_key there) (edits_of there) }

-- one more edit of a record
pub pushed_next : (es front now new : List Edit) (k : ℕ) (e : Edit) → slice_get es k ≡ Some e → now ≡ front ++ take k es → new ≡ now ++ e ∷ [] → new ≡ front ++ take (k + 1) es
pushed_next es front now new k e at before more =
    let next : take (k + 1) es ≡ take k es ++ e ∷ [] = take_more es k e (slice_get_within es k e at) ∙ ap (λ (d : Edit). take k es ++ d ∷ []) (get_or_from_slice_get es k e e at) in
    more ∙ ap (λ es. es ++ e ∷ []) before ∙ append_assoc front (take k es) (e ∷ []) ∙ ap (λ es. front ++ es) (sym next)
