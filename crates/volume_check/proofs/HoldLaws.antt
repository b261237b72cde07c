-- The sites of the third stage at journals and locks.
use Rattle.std.proofs.Common.{◌≡◌, ◌≢◌, ◌<◌, ◌≤◌, ◌+◌, ◌==◌, ◌++◌, ℕ, Bool, true, List, [], ◌∷◌, Some, length, if◌then◌else◌, inl, inr, refl, sym, ap, subst, ◌∙◌, arith}
use Rattle.std.specs.Prelude.{◌↔◌, IsTrue, not, slice_get}
use Rattle.std.proofs.lemmas.Bool.{cases_Bool, eq-eqb, eqb-true}
use Rattle.std.proofs.lemmas.Option.{same_Some, slice_get_within}
use Rattle.vol_base.specs.declared.block.Key.{Key}
use Rattle.vol_layout.specs.declared.kind.Kind.{Kind}
use Rattle.vol_layout.specs.declared.kind.Kind.TheVariants as kinds
use Rattle.vol_layout.specs.declared.kind.Resource.{Resource}
use Rattle.vol_layout.specs.declared.field.Edit.{Edit}
use Rattle.vol_layout.specs.declared.field.Field.TheVariants.{Slot, Count}
use Rattle.vol_layout.specs.Edits.{touches}
use Rattle.vol_layout.specs.Places.{place_of}
use Rattle.vol_layout.specs.Ranges.{HasResource}
use Rattle.journal_block.specs.JournalRecord.{JournalRecord}
use Rattle.image_view.specs.Held.{CountsEdit, HoldsField, IsShown}
use Rattle.image_view.specs.HostKeys.{IsHeldBy, journal_key_at, lock_key_at, lock_state_at, slot_key_at}
use Rattle.image_view.specs.Numbers.{field, journal}
use Rattle.volume_faults.specs.declared.fault.Fault.{Fault}
use Rattle.volume_faults.specs.declared.fault.FaultKind.TheVariants as causes
use Rattle.volume_faults.specs.Sites.{Block, CountOf, IsRight, LockKey, PointerOf, RecordEdit, RecordKey, Site, Size, Superblock}
use Rattle.volume_check.specs.Metadatas.{AddsOf, Metadata}
use Rattle.volume_check.specs.Records.{IsRecordOf}
use Rattle.volume_check.specs.SitesAt.{AddsAt, IsAt, IsAtBefore, IsAtEntry, entry_at}
use Rattle.volume_check.proofs.SiteLaws.{entry_more, no_entry, none_at, one_site_unless}

-- the key of a number
abbrev key_of : ℕ → Key
key_of n = record { 0 = n }

-- at a lock there is its key
pub at_lock : (m : Metadata) (r : Resource) (s : Site) → IsAt 3 m (kinds.Lock r) s → s ≡ LockKey r
at_lock m r Superblock h = let e : ◌≡◌ {A = ℕ} 1 3 = h.0.0 in absurd (omega arith)
at_lock m r Size h = let e : ◌≡◌ {A = ℕ} 1 3 = h.0.0 in absurd (omega arith)
at_lock m r (Block kind) h = let e : ◌≡◌ {A = ℕ} 2 3 = h.0.0 in absurd (omega arith)
at_lock m r (LockKey r') h = let e : kinds.Lock r' ≡ kinds.Lock r = h.1 in cc
at_lock m r (RecordKey h') h = let e : kinds.Journal h' ≡ kinds.Lock r = h.1 in absurd cc
at_lock m r (RecordEdit h' k) h = let e : kinds.Journal h' ≡ kinds.Lock r = h.1 in absurd cc
at_lock m r (CountOf d) h = let e : ◌≡◌ {A = ℕ} 4 3 = h.0.0 in absurd (omega arith)
at_lock m r (PointerOf f i) h = let e : ◌≡◌ {A = ℕ} 4 3 = h.0.0 in absurd (omega arith)

-- at a journal there are the key of its record and the edits
pub at_record_key : (m : Metadata) (h : ℕ) (s : Site) → IsAtEntry 3 m (kinds.Journal h) 0 s → s ≡ RecordKey h
at_record_key m h Superblock is = let e : ◌≡◌ {A = ℕ} 1 3 = is.0.0.0 in absurd (omega arith)
at_record_key m h Size is = let e : ◌≡◌ {A = ℕ} 1 3 = is.0.0.0 in absurd (omega arith)
at_record_key m h (Block kind) is = let e : ◌≡◌ {A = ℕ} 2 3 = is.0.0.0 in absurd (omega arith)
at_record_key m h (LockKey r) is = let e : kinds.Lock r ≡ kinds.Journal h = is.0.1 in absurd cc
at_record_key m h (RecordKey h') is = let e : kinds.Journal h' ≡ kinds.Journal h = is.0.1 in cc
at_record_key m h (RecordEdit h' k) is = let e : k + 1 ≡ 0 = is.1 in absurd (omega arith)
at_record_key m h (CountOf d) is = let e : ◌≡◌ {A = ℕ} 4 3 = is.0.0.0 in absurd (omega arith)
at_record_key m h (PointerOf f i) is = let e : ◌≡◌ {A = ℕ} 4 3 = is.0.0.0 in absurd (omega arith)

pub at_record_edit : (m : Metadata) (h k : ℕ) (s : Site) → IsAtEntry 3 m (kinds.Journal h) (k + 1) s → s ≡ RecordEdit h k
at_record_edit m h k Superblock is = let e : ◌≡◌ {A = ℕ} 1 3 = is.0.0.0 in absurd (omega arith)
at_record_edit m h k Size is = let e : ◌≡◌ {A = ℕ} 1 3 = is.0.0.0 in absurd (omega arith)
at_record_edit m h k (Block kind) is = let e : ◌≡◌ {A = ℕ} 2 3 = is.0.0.0 in absurd (omega arith)
at_record_edit m h k (LockKey r) is = let e : kinds.Lock r ≡ kinds.Journal h = is.0.1 in absurd cc
at_record_edit m h k (RecordKey h') is = let e : 0 ≡ k + 1 = is.1 in absurd (omega arith)
at_record_edit m h k (RecordEdit h' k') is =
    let e : kinds.Journal h' ≡ kinds.Journal h = is.0.1 in
    let n : k' + 1 ≡ k + 1 = is.1 in
    let same : k' ≡ k = omega arith in
    cc
at_record_edit m h k (CountOf d) is = let e : ◌≡◌ {A = ℕ} 4 3 = is.0.0.0 in absurd (omega arith)
at_record_edit m h k (PointerOf f i) is = let e : ◌≡◌ {A = ℕ} 4 3 = is.0.0.0 in absurd (omega arith)

-- the last entry of a journal
pub edits_end : (m : Metadata) (h n : ℕ) → n ≡ length (journal m.geometry m.image h) → (s : Site) → IsAt 3 m (kinds.Journal h) s → entry_at s < n + 1
edits_end m h n long Superblock is = let e : ◌≡◌ {A = ℕ} 1 3 = is.0.0 in absurd (omega arith)
edits_end m h n long Size is = let e : ◌≡◌ {A = ℕ} 1 3 = is.0.0 in absurd (omega arith)
edits_end m h n long (Block kind) is = let e : ◌≡◌ {A = ℕ} 2 3 = is.0.0 in absurd (omega arith)
edits_end m h n long (LockKey r) is = let e : kinds.Lock r ≡ kinds.Journal h = is.1 in absurd cc
edits_end m h n long (RecordKey h') is = omega arith
edits_end m h n long (RecordEdit h' k) is =
    let e : kinds.Journal h' ≡ kinds.Journal h = is.1 in
    let same : h' ≡ h = cc in
    let lt : k < length (journal m.geometry m.image h) = rw (sym same) (is.0.1.1) in
    let goal : k + 1 < n + 1 = omega arith in
    goal
edits_end m h n long (CountOf d) is = let e : ◌≡◌ {A = ℕ} 4 3 = is.0.0 in absurd (omega arith)
edits_end m h n long (PointerOf f i) is = let e : ◌≡◌ {A = ℕ} 4 3 = is.0.0 in absurd (omega arith)

-- where no record stands there is nothing
no_record : (m : Metadata) (h : ℕ) → journal m.geometry m.image h ≡ [] → (s : Site) → IsAt 3 m (kinds.Journal h) s → ⊥
no_record m h none Superblock is = let e : ◌≡◌ {A = ℕ} 1 3 = is.0.0 in absurd (omega arith)
no_record m h none Size is = let e : ◌≡◌ {A = ℕ} 1 3 = is.0.0 in absurd (omega arith)
no_record m h none (Block kind) is = let e : ◌≡◌ {A = ℕ} 2 3 = is.0.0 in absurd (omega arith)
no_record m h none (LockKey r) is = let e : kinds.Lock r ≡ kinds.Journal h = is.1 in absurd cc
no_record m h none (RecordKey h') is =
    let e : kinds.Journal h' ≡ kinds.Journal h = is.1 in
    let same : h' ≡ h = cc in
    is.0.1.1 (ap (journal m.geometry m.image) same ∙ none)
no_record m h none (RecordEdit h' k) is =
    let e : kinds.Journal h' ≡ kinds.Journal h = is.1 in
    let same : h' ≡ h = cc in
    let empty = ap length (ap (journal m.geometry m.image) same ∙ none) in
    let lt : k < length (journal m.geometry m.image h') = is.0.1.1 in
    absurd (omega arith)
no_record m h none (CountOf d) is = let e : ◌≡◌ {A = ℕ} 4 3 = is.0.0 in absurd (omega arith)
no_record m h none (PointerOf f i) is = let e : ◌≡◌ {A = ℕ} 4 3 = is.0.0 in absurd (omega arith)

pub empty_journal : (m : Metadata) (h : ℕ) (faults : List Fault) → journal m.geometry m.image h ≡ [] → AddsAt 3 m (kinds.Journal h) faults faults
empty_journal m h faults none = none_at 3 m (kinds.Journal h) faults (no_record m h none)

-- at other blocks there is nothing
elsewhere : (m : Metadata) (kind : Kind) → ((h : ℕ) → kind ≢ kinds.Journal h) → ((r : Resource) → kind ≢ kinds.Lock r) → (s : Site) → IsAt 3 m kind s → ⊥
elsewhere m kind no_journal no_lock Superblock is = let e : ◌≡◌ {A = ℕ} 1 3 = is.0.0 in absurd (omega arith)
elsewhere m kind no_journal no_lock Size is = let e : ◌≡◌ {A = ℕ} 1 3 = is.0.0 in absurd (omega arith)
elsewhere m kind no_journal no_lock (Block kind') is = let e : ◌≡◌ {A = ℕ} 2 3 = is.0.0 in absurd (omega arith)
elsewhere m kind no_journal no_lock (LockKey r) is = no_lock r (sym is.1)
elsewhere m kind no_journal no_lock (RecordKey h) is = no_journal h (sym is.1)
elsewhere m kind no_journal no_lock (RecordEdit h k) is = no_journal h (sym is.1)
elsewhere m kind no_journal no_lock (CountOf d) is = let e : ◌≡◌ {A = ℕ} 4 3 = is.0.0 in absurd (omega arith)
elsewhere m kind no_journal no_lock (PointerOf f i) is = let e : ◌≡◌ {A = ℕ} 4 3 = is.0.0 in absurd (omega arith)

pub unheld_elsewhere : (m : Metadata) (kind : Kind) (faults : List Fault) → ((h : ℕ) → kind ≢ kinds.Journal h) → ((r : Resource) → kind ≢ kinds.Lock r) → AddsAt 3 m kind faults faults
unheld_elsewhere m kind faults no_journal no_lock = none_at 3 m kind faults (elsewhere m kind no_journal no_lock)

-- what is asked of an edit, by the record that was read
abbrev pub IsBorneOut : Metadata → JournalRecord → Edit → Type 0
IsBorneOut m r e = HoldsField m.geometry m.image r.key e.field × CountsEdit m.geometry m.image r.edits e

pub edit_right : (m : Metadata) (h k : ℕ) (r : JournalRecord) (e : Edit) → IsRecordOf m h r → slice_get r.edits k ≡ Some e → IsBorneOut m r e → IsRight m.geometry m.counter m.image (RecordEdit h k)
edit_right m h k r e of at right other is =
    let same : e ≡ other = same_Some e other (sym at ∙ ap (λ (es : List Edit). slice_get es k) of.edits ∙ is) in
    let P : ℕ → List Edit → Edit → Type 0 = λ key es d. HoldsField m.geometry m.image key d.field × CountsEdit m.geometry m.image es d in
    subst (P (journal_key_at m.geometry m.image h) (journal m.geometry m.image h)) same (subst (λ es. P (journal_key_at m.geometry m.image h) es e) of.edits (subst (λ key. P key r.edits e) of.key right))

pub edit_wrong : (m : Metadata) (h k : ℕ) (r : JournalRecord) (e : Edit) → IsRecordOf m h r → slice_get r.edits k ≡ Some e → (IsBorneOut m r e → ⊥) → IsRight m.geometry m.counter m.image (RecordEdit h k) → ⊥
edit_wrong m h k r e of at wrong right =
    let P : ℕ → List Edit → Type 0 = λ key es. HoldsField m.geometry m.image key e.field × CountsEdit m.geometry m.image es e in
    let is = right e (ap (λ (es : List Edit). slice_get es k) (sym of.edits) ∙ at) in
    wrong (subst (λ key. P key r.edits) (sym of.key) (subst (λ es. P (journal_key_at m.geometry m.image h) es) (sym of.edits) is))

-- the fault of a held lock
pub lock_free : (m : Metadata) (r : Resource) (faults : List Fault) → lock_state_at m.geometry m.image r ≢ 1 → AddsAt 3 m (kinds.Lock r) faults faults
lock_free m r faults free =
    none_at 3 m (kinds.Lock r) faults
    (λ s h.
    let at = at_lock m r s h in
    let h' : IsAt 3 m (kinds.Lock r) (LockKey r) = subst (IsAt 3 m (kinds.Lock r)) at h in
    free h'.0.1.1)

pub lock_added : (m : Metadata) (r : Resource) (place key : ℕ) (shown : Bool) (a b : List Fault) → HasResource m.geometry r → lock_state_at m.geometry m.image r ≡ 1
    → place ≡ place_of m.geometry (kinds.Lock r) → key ≡ lock_key_at m.geometry m.image r → (IsTrue shown ↔ IsShown m.geometry m.image key)
    → b ≡ (if not shown then a ++ (let fault : Fault = record { place = place; kind = causes.LockKey (key_of key) } in fault) ∷ [] else a)
    → AddsAt 3 m (kinds.Lock r) a b
lock_added m r place key shown a b has held here key_is says grew =
    one_site_unless (IsAt 3 m (kinds.Lock r)) m (LockKey r) (record { place = place; kind = causes.LockKey (key_of key) }) shown a b
    (rw (here, key_is) refl) (at_lock m r) ((refl, (has, held)), refl)
    (λ t. subst (IsShown m.geometry m.image) key_is (says.0 t), λ h. says.1 (subst (IsShown m.geometry m.image) (sym key_is) h))
    grew

-- the fault of a record's key, and those of its edits
pub record_key_added : (m : Metadata) (h : ℕ) (r : JournalRecord) (place key : ℕ) (shown : Bool) (a b : List Fault) → IsRecordOf m h r → 1 ≤ length r.edits
    → place ≡ place_of m.geometry (kinds.Journal h) → key ≡ r.key
    → (IsTrue shown ↔ (slot_key_at m.geometry m.image h ≢ 0) × (key ≡ slot_key_at m.geometry m.image h))
    → b ≡ (if not shown then a ++ (let fault : Fault = record { place = place; kind = causes.JournalKey (key_of key) } in fault) ∷ [] else a)
    → AddsOf (IsAtBefore 3 m (kinds.Journal h) 1) m a b
record_key_added m h r place key shown a b of some here key_is says grew =
    let key_at = key_is ∙ of.key in
    let stands : journal m.geometry m.image h ≢ [] = λ none. let e = ap length (of.edits ∙ none) in absurd (omega arith) in
    entry_more 3 m (kinds.Journal h) 0 a a b
    (no_entry 3 m (kinds.Journal h) 0 a (λ s at. omega arith))
    (one_site_unless (IsAtEntry 3 m (kinds.Journal h) 0) m (RecordKey h) (record { place = place; kind = causes.JournalKey (key_of key) }) shown a b
    (rw (here, key_at) refl) (at_record_key m h) (((refl, (of.host, stands)), refl), refl)
    (λ t. let both = says.0 t in (both.0, sym key_at ∙ both.1), λ both. says.1 (both.0, key_at ∙ both.1))
    grew)

pub record_edit_added : (m : Metadata) (h k : ℕ) (r : JournalRecord) (e : Edit) (place : ℕ) (right : Bool) (a b c : List Fault) → IsRecordOf m h r → slice_get r.edits k ≡ Some e
    → place ≡ place_of m.geometry (kinds.Journal h) → (IsTrue right ↔ IsBorneOut m r e)
    → c ≡ (if not right then b ++ (let fault : Fault = record { place = place; kind = causes.JournalEdit k } in fault) ∷ [] else b)
    → AddsOf (IsAtBefore 3 m (kinds.Journal h) (k + 1)) m a b → AddsOf (IsAtBefore 3 m (kinds.Journal h) (k + 1 + 1)) m a c
record_edit_added m h k r e place right a b c of at here says grew before =
    let below : k < length (journal m.geometry m.image h) = rw (sym of.edits) (slice_get_within r.edits k e at) in
    entry_more 3 m (kinds.Journal h) (k + 1) a b c before
    (one_site_unless (IsAtEntry 3 m (kinds.Journal h) (k + 1)) m (RecordEdit h k) (record { place = place; kind = causes.JournalEdit k }) right b c
    (rw here refl) (at_record_edit m h k) (((refl, (of.host, below)), refl), refl)
    (λ t. edit_right m h k r e of at (says.0 t), λ is. elim (cases_Bool right) [ inl so ↦ so | inr wrong ↦ absurd (edit_wrong m h k r e of at (λ out. let so = says.1 out in cc) is) ])
    grew)

-- what is asked of one number that a slot has
abbrev pub IsNamedCounted : List Edit → ℕ → Type 0
IsNamedCounted es n = (d : ℕ) → n ≡ d + 1 → touches es (Count d) ≡ true

pub slot_counted : (m : Metadata) (es : List Edit) (e : Edit) (n : ℕ) → n ≡ field m.geometry m.image e.field → IsNamedCounted es n → IsNamedCounted es e.number → CountsEdit m.geometry m.image es e
slot_counted m es e n read table new s d is (inl there) = table d (read ∙ ap (field m.geometry m.image) is ∙ there)
slot_counted m es e n read table new s d is (inr here) = new d here

pub table_counted : (m : Metadata) (es : List Edit) (e : Edit) (s n : ℕ) → e.field ≡ Slot s → n ≡ field m.geometry m.image e.field → CountsEdit m.geometry m.image es e → IsNamedCounted es n
table_counted m es e s n is read all d n_is = all s d is (inl (ap (field m.geometry m.image) (sym is) ∙ sym read ∙ n_is))

pub new_counted : (m : Metadata) (es : List Edit) (e : Edit) (s : ℕ) → e.field ≡ Slot s → CountsEdit m.geometry m.image es e → IsNamedCounted es e.number
new_counted m es e s is all d n_is = all s d is (inr n_is)

-- a lock's numbers
pub held_by : (m : Metadata) (r : Resource) (key state k : ℕ) → state ≡ lock_state_at m.geometry m.image r → k ≡ lock_key_at m.geometry m.image r → state ≡ 1
    → IsTrue (k == key) ↔ IsHeldBy m.geometry m.image r key
held_by m r key state k state_is k_is held = (
  λ t. record { held = sym state_is ∙ held; by = sym k_is ∙ eqb-true k key t },
  λ h. eq-eqb k key (k_is ∙ h.by),
)
