-- The faults of a stage, block by block in order of place, and at a block entry by entry.
use Rattle.std.proofs.Common.{◌≡◌, ◌<◌, ◌≤◌, ◌+◌, ◌++◌, ℕ, Bool, true, false, List, [], ◌∷◌, if◌then◌else◌, refl, sym, ap, subst, ◌∙◌, inl, inr, arith}
use Rattle.std.specs.Prelude.{◌↔◌, IfSome, IsNone, IsSome, IsTrue, None, Ok, Err, OnOk, Option, Result, Some, not}
use Rattle.std.proofs.lemmas.Bool.{cases_Bool, cases_eq}
use Rattle.vol_layout.specs.declared.geometry.Geometry.{Geometry}
use Rattle.vol_layout.specs.declared.kind.Kind.{Kind}
use Rattle.vol_layout.specs.declared.field.Field.TheVariants.{Pointer, Count}
use Rattle.vol_layout.specs.Places.{place_of}
use Rattle.vol_layout.specs.Ranges.{HasKind}
use Rattle.vol_layout.specs.Regions.{regions, total}
use Rattle.vol_layout.specs.laws.PlaceLaws.{place_of-inside, places_apart}
use Rattle.image_view.specs.Images.{Image}
use Rattle.image_view.specs.laws.FrameLaws.{HasTable-table_of}
use Rattle.volume_faults.specs.declared.fault.Fault.{Fault}
use Rattle.volume_faults.specs.Faults.{IsOfStage}
use Rattle.volume_faults.specs.laws.ListLaws.{Adds-joined, Adds-right, Adds-same, Adds-wrong}
use Rattle.volume_faults.specs.Order.{fault_entry}
use Rattle.volume_faults.specs.Sites.{Block, CountOf, HasSite, IsRight, LockKey, PointerOf, RecordEdit, RecordKey, Site, Size, Superblock, fault_at}
use Rattle.volume_check.specs.Metadatas.{AddsOf, AddsStage, Metadata}
use Rattle.volume_check.specs.SitesAt.{AddsAt, IsAt, IsAtBefore, IsAtEntry, IsBefore, entry_at, kind_of}

-- where the fault of a site stands
placed : (g : Geometry) (image : Image) (s : Site) → (fault_at g image s).place ≡ place_of g (kind_of s)
unfolding place_of regions
placed g image Superblock = refl
placed g image Size = refl
placed g image (Block kind) = refl
placed g image (LockKey r) = refl
placed g image (RecordKey h) = refl
placed g image (RecordEdit h e) = refl
placed g image (CountOf d) = refl
placed g image (PointerOf f i) = refl

entered : (g : Geometry) (image : Image) (s : Site) → fault_entry (fault_at g image s).kind ≡ entry_at s
entered g image Superblock = refl
entered g image Size = refl
entered g image (Block kind) = refl
entered g image (LockKey r) = refl
entered g image (RecordKey h) = refl
entered g image (RecordEdit h e) = refl
entered g image (CountOf d) = refl
entered g image (PointerOf f i) = refl

-- the volume has that block
has_kind : (g : Geometry) (image : Image) (s : Site) → HasSite g image s → HasKind g (kind_of s)
has_kind g image Superblock h = tt
has_kind g image Size h = tt
has_kind g image (Block kind) h = h.0
has_kind g image (LockKey r) h = h.0
has_kind g image (RecordKey h') h = h.0
has_kind g image (RecordEdit h' e) h = h.0
has_kind g image (CountOf d) h = HasTable-table_of g (Count d) h
has_kind g image (PointerOf f i) h = HasTable-table_of g (Pointer f i) h

-- before the first place there is nothing
pub none_before : (stage : ℕ) (m : Metadata) (faults : List Fault) → AddsOf (IsBefore stage m 0) m faults faults
none_before stage m faults = Adds-right (IsBefore stage m 0) m.geometry m.counter m.image faults (λ s h. let none = h.1 in absurd (omega arith))

-- the faults before a place, and those at the block there
pub before_more : (stage : ℕ) (m : Metadata) (kind : Kind) (place : ℕ) (a b c : List Fault) → HasKind m.geometry kind → place_of m.geometry kind ≡ place
    → AddsOf (IsBefore stage m place) m a b → AddsAt stage m kind b c → AddsOf (IsBefore stage m (place + 1)) m a c
before_more stage m kind place a b c has at first second =
    Adds-joined (IsBefore stage m place) (IsAt stage m kind) (IsBefore stage m (place + 1)) m.geometry m.counter m.image a b c first second
    (λ s h. let below = h.1 in
    elim (cases_eq (place_of m.geometry (kind_of s)) place) [
      | inl here ↦ inr (h.0, places_apart m.geometry (kind_of s) kind (has_kind m.geometry m.image s h.0.1) has (here ∙ sym at))
      | inr other ↦ inl (h.0, omega arith)
    ])
    (λ s h. let below = h.1 in (h.0, omega arith))
    (λ s h. let same : place_of m.geometry (kind_of s) ≡ place = ap (place_of m.geometry) h.1 ∙ at in (h.0, omega arith))
    (λ s t h h'.
    let below = h.1 in
    let p = placed m.geometry m.image s in
    let q : (fault_at m.geometry m.image t).place ≡ place = placed m.geometry m.image t ∙ ap (place_of m.geometry) h'.1 ∙ at in
    inl (omega arith))

-- before the volume's end stand all faults of a stage
pub stage_of_places : (stage : ℕ) (m : Metadata) (place : ℕ) (a b : List Fault) → total m.geometry ≤ place → AddsOf (IsBefore stage m place) m a b → AddsStage stage m a b
stage_of_places stage m place a b end all =
    Adds-same (IsBefore stage m place) (IsOfStage m.geometry m.image stage) m.geometry m.counter m.image a b (λ s h. h.0)
    (λ s h. let inside = place_of-inside m.geometry (kind_of s) (has_kind m.geometry m.image s h.1) in (h, omega arith))
    all

-- the faults before an entry, and that at the entry
pub entry_more : (stage : ℕ) (m : Metadata) (kind : Kind) (entry : ℕ) (a b c : List Fault)
    → AddsOf (IsAtBefore stage m kind entry) m a b → AddsOf (IsAtEntry stage m kind entry) m b c → AddsOf (IsAtBefore stage m kind (entry + 1)) m a c
entry_more stage m kind entry a b c first second =
    Adds-joined (IsAtBefore stage m kind entry) (IsAtEntry stage m kind entry) (IsAtBefore stage m kind (entry + 1)) m.geometry m.counter m.image a b c first second
    (λ s h. let below = h.1 in elim (cases_eq (entry_at s) entry) [ inl here ↦ inr (h.0, here) | inr other ↦ inl (h.0, omega arith) ])
    (λ s h. let below = h.1 in (h.0, omega arith))
    (λ s h. let here = h.1 in (h.0, omega arith))
    (λ s t h h'.
    let below = h.1 in
    let here = h'.1 in
    let e = entered m.geometry m.image s in
    let e' = entered m.geometry m.image t in
    inr (placed m.geometry m.image s ∙ ap (place_of m.geometry) (h.0.1 ∙ sym h'.0.1) ∙ sym (placed m.geometry m.image t), omega arith))

-- no entry of the block is before the first, and all are before the last
pub no_entry : (stage : ℕ) (m : Metadata) (kind : Kind) (entry : ℕ) (faults : List Fault) → ((s : Site) → IsAt stage m kind s → entry ≤ entry_at s)
    → AddsOf (IsAtBefore stage m kind entry) m faults faults
no_entry stage m kind entry faults from =
    Adds-right (IsAtBefore stage m kind entry) m.geometry m.counter m.image faults (λ s h. let low = from s h.0 in let high = h.1 in absurd (omega arith))

pub all_entries : (stage : ℕ) (m : Metadata) (kind : Kind) (entry : ℕ) (a b : List Fault) → ((s : Site) → IsAt stage m kind s → entry_at s < entry)
    → AddsOf (IsAtBefore stage m kind entry) m a b → AddsAt stage m kind a b
all_entries stage m kind entry a b to all =
    Adds-same (IsAtBefore stage m kind entry) (IsAt stage m kind) m.geometry m.counter m.image a b (λ s h. h.0) (λ s h. (h, to s h)) all

-- where there is one site at most, its fault is listed where it is wrong
pub one_site : (Among : Site → Type 0) (m : Metadata) (site : Site) (fault : Fault) (wrong : Bool) (a b : List Fault)
    → fault ≡ fault_at m.geometry m.image site
    → ((s : Site) → Among s → s ≡ site)
    → (wrong ≡ true → Among site × (IsRight m.geometry m.counter m.image site → ⊥))
    → (wrong ≡ false → Among site → IsRight m.geometry m.counter m.image site)
    → b ≡ (if wrong then a ++ fault ∷ [] else a)
    → AddsOf Among m a b
one_site Among m site fault wrong a b is only bad good grew =
    elim (cases_Bool wrong) [
      | inl w ↦
          let e : b ≡ a ++ fault ∷ [] = rw w at grew in
          let found = bad w in
          rw (e, is) (Adds-wrong Among m.geometry m.counter m.image a site found.0 only found.1)
      | inr w ↦
          let e : b ≡ a = rw w at grew in
          rw e
          (Adds-right Among m.geometry m.counter m.image a
          (λ s h. let here = only s h in subst (IsRight m.geometry m.counter m.image) (sym here) (good w (subst Among here h))))
    ]

pub one_site_unless : (Among : Site → Type 0) (m : Metadata) (site : Site) (fault : Fault) (right : Bool) (a b : List Fault)
    → fault ≡ fault_at m.geometry m.image site
    → ((s : Site) → Among s → s ≡ site) → Among site
    → (IsTrue right ↔ IsRight m.geometry m.counter m.image site)
    → b ≡ (if not right then a ++ fault ∷ [] else a)
    → AddsOf Among m a b
one_site_unless Among m site fault right a b is only among says grew =
    elim (cases_Bool right) [
      | inl so ↦ one_site Among m site fault false a b is only (λ e. cc) (λ e h. says.0 so) (rw so at grew)
      | inr wrong ↦ one_site Among m site fault true a b is only (λ e. (among, λ r. let so = says.1 r in cc)) (λ e. cc) (rw wrong at grew)
    ]

-- what stands at a place, from what was found there
pub kind_there : (m : Metadata) (g : Geometry) (found : Option Kind) (kind : Kind) (place : ℕ) → g ≡ m.geometry → found ≡ Some kind → IfSome found (λ k. HasKind g k × (place_of g k ≡ place))
    → HasKind m.geometry kind × (place_of m.geometry kind ≡ place)
kind_there m g found kind place g_is is there =
    let here : HasKind g kind × (place_of g kind ≡ place) = rw is at there in
    subst (λ (g : Geometry). HasKind g kind × (place_of g kind ≡ place)) g_is here

pub kind_found : (found : Option Kind) (P : Type 0) → (IsNone found ↔ P) → (P → ⊥) → IsSome found
kind_found None P h inside = absurd (inside (h.0 refl))
kind_found (Some kind) P h inside = refl

-- a clause on what was done, from another
pub OnOk-follows : {T E : Type 0} (r : Result T E) (P Q : Type 0) → (P → Q) → OnOk r P → OnOk r Q
OnOk-follows (Ok x) P Q f h = f h
OnOk-follows (Err e) P Q f h = tt

-- at a block of which the stage asks nothing the list stays
pub none_at : (stage : ℕ) (m : Metadata) (kind : Kind) (faults : List Fault) → ((s : Site) → IsAt stage m kind s → ⊥) → AddsAt stage m kind faults faults
none_at stage m kind faults none = Adds-right (IsAt stage m kind) m.geometry m.counter m.image faults (λ s h. absurd (none s h))
