-- The notes and the memory of a host agree behind a write of a lock; and what is held stays apart from what is read.
use Rattle.std.proofs.Common.{◌≡◌, ◌≢◌, ◌<◌, ◌≤◌, ◌%◌, ◌==◌, ℕ, List, false, length, set, true, refl, sym, ap, ◌∙◌, subst, inl, inr, arith, true≢false}
use Rattle.std.specs.Prelude.{option_map, slice_index_or}
use Rattle.std.proofs.lemmas.Bool.{cases_eq, eqb-true}
use Rattle.std.proofs.lemmas.List.{get_or-set_other, get_or-set_same, get_or_past}
use Rattle.vol_base.specs.declared.block.Key.{Key}
use Rattle.vol_layout.specs.declared.geometry.Geometry.{Geometry}
use Rattle.vol_layout.specs.declared.kind.Kind.TheVariants as kinds
use Rattle.vol_layout.specs.declared.kind.Resource.{Resource}
use Rattle.vol_layout.specs.declared.kind.Resource.TheVariants.{File, Group, Part}
use Rattle.vol_layout.specs.Places.{place_of}
use Rattle.vol_layout.specs.Ranges.{HasResource, IsGeometry}
use Rattle.vol_layout.specs.laws.PlaceLaws.{places_apart}
use Rattle.lock_store.specs.declared.host.HostState.{HostState}
use Rattle.lock_store.specs.Memories as host
use Rattle.lock_store.specs.Memories.{claim_of, index_of, key_of, with_hold, with_read, writing}
use Rattle.disk_locks.specs.Calls.{IsShared}
use Rattle.disk_locks.specs.SameElse.{SameElse}
use Rattle.host_facts.specs.laws.GuardLaws.{hold_is}
use Rattle.host_runs.specs.Memories.{Memory, with_lock}
use Rattle.host_runs.specs.Words.{reader_in, state_in}
use Rattle.host_notes.specs.Remembered.{AreApart, IsRemembered}
use Rattle.host_notes.specs.lemmas.Lists.{chosen_cases, chosen_twice}

-- locks at one place are of one resource
one_lock : (g : Geometry) (q r : Resource) → HasResource g q → HasResource g r
    → place_of g (kinds.Lock q) ≡ place_of g (kinds.Lock r) → q ≡ r
one_lock g q r has of e = let same : kinds.Lock q ≡ kinds.Lock r = places_apart g (kinds.Lock q) (kinds.Lock r) has of e in cc

module _ (g : Geometry) (r : Resource) (own : ℕ) (block : List ℕ) (memory : Memory) (m n : HostState) (has : HasResource g r) where
  -- a word was written into the lock of one resource, and the memory changed there alone
  pub lock_noted : SameElse g r m n → n.key ≡ m.key
      → (state_in block ≡ 1 → host.holds n r ≡ true)
      → (state_in block ≡ 2 → reader_in block (own % 16) ≡ own → host.reads n r ≡ true)
      → AreApart n → IsRemembered g memory m → IsRemembered g (with_lock (place_of g (kinds.Lock r)) own block memory) n
  lock_noted same key held read apart is =
      let place = place_of g (kinds.Lock r) in
      let reader = reader_in block (own % 16) == own in
      let elsewhere = λ (q : Resource) (other : place_of g (kinds.Lock q) ≢ place) (e : q ≡ r).
      other (ap (λ (x : Resource). place_of g (kinds.Lock x)) e) in
      record {
        key = is.key ∙ ap (λ k. option_map (λ (x : Key). x.0) k) (sym key);
        holds = λ q of there. elim (chosen_cases (state_in block == 1) place (place_of g (kinds.Lock q)) memory.holds there) [
          | inl here ↦ subst (λ (x : Resource). host.holds n x ≡ true) (sym (one_lock g q r of has here.1))
              (held (eqb-true (state_in block) 1 here.0))
          | inr old ↦ same.holds_same q of (elsewhere q old.0) ∙ is.holds q of old.1
        ];
        reads = λ q of there. elim (chosen_twice (state_in block == 2) reader place (place_of g (kinds.Lock q)) memory.reads there) [
          | inl here ↦ subst (λ (x : Resource). host.reads n x ≡ true) (sym (one_lock g q r of has here.2))
              (read (eqb-true (state_in block) 2 here.0) (eqb-true (reader_in block (own % 16)) own here.1))
          | inr old ↦ same.reads_same q of (elsewhere q old.0) ∙ is.reads q of old.1
        ];
        places = λ p there. elim (chosen_cases (state_in block == 1) place p memory.holds there) [
          | inl here ↦ (r, has, here.1)
          | inr old ↦ is.places p old.1
        ];
        claims = λ y below. (
          λ there none. (is.claims y below).0 there (sym (same.claims_same y) ∙ none),
          λ some. (is.claims y below).1 (λ none. some (same.claims_same y ∙ none)),
        );
        left = is.left ∙ sym same.freed;
        stays = λ none. same.freed ∙ is.stays (sym key ∙ none);
        apart = apart;
        own = λ joined. same.claims_same (key_of n % 16) ∙ ap (λ k. claim_of m (k % 16)) same.key ∙ is.own (sym same.joined ∙ joined);
      }

-- no file has the number of a part or a group
past_files : (r : Resource) → IsShared r → 64 ≤ index_of r
past_files (File f) shared = absurd shared
past_files (Part p) shared = omega arith
past_files (Group r) shared = omega arith

pub apart_shared : (r : Resource) (m : HostState) → IsShared r → length m.reading ≡ 64 → AreApart m → AreApart (with_hold r true m)
apart_shared r m shared long apart (File e) held = elim (cases_eq e (index_of r)) [
  | inl same ↦ let past = past_files r shared in get_or_past m.reading e false (omega (arith, past, same, long))
  | inr other ↦ apart (File e) (sym (get_or-set_other m.held (index_of r) e true false other) ∙ held)
]
apart_shared r m shared long apart (Part p) held = refl
apart_shared r m shared long apart (Group p) held = refl

pub apart_unlocked : (g : Geometry) (r : Resource) (m : HostState) → IsGeometry g → HasResource g r → length m.held ≡ 144 → AreApart m
    → AreApart (with_hold r false m)
apart_unlocked g r m range has long apart (File e) held = elim (cases_eq e (index_of r)) [
  | inl same ↦
      let none : host.holds (with_hold r false m) (File e) ≡ false =
      ap (λ i. slice_index_or (set m.held (index_of r) false) i false) same ∙ hold_is g r false m range has long in
      absurd (true≢false (sym held ∙ none))
  | inr other ↦ apart (File e) (sym (get_or-set_other m.held (index_of r) e false false other) ∙ held)
]
apart_unlocked g r m range has long apart (Part p) held = refl
apart_unlocked g r m range has long apart (Group p) held = refl

pub apart_read : (f : ℕ) (m : HostState) → host.holds m (File f) ≡ false → AreApart m → AreApart (with_read f true m)
apart_read f m out apart (File e) held = elim (cases_eq e f) [
  | inl same ↦ let none = ap (λ i. host.holds m (File i)) same ∙ out in absurd (true≢false (sym held ∙ none))
  | inr other ↦ get_or-set_other m.reading f e true false other ∙ apart (File e) held
]
apart_read f m out apart (Part p) held = refl
apart_read f m out apart (Group p) held = refl

-- a file that is read no more
unread : (f e : ℕ) (m : HostState) → f < 64 → length m.reading ≡ 64 → (e ≢ f → host.reads m (File e) ≡ false)
    → host.reads (with_read f false m) (File e) ≡ false
unread f e m small long old = elim (cases_eq e f) [
  | inl same ↦
      ap (λ i. host.reads (with_read f false m) (File i)) same ∙ get_or-set_same m.reading f false false (omega (arith, small, long))
  | inr other ↦ get_or-set_other m.reading f e false false other ∙ old other
]

pub apart_released : (f : ℕ) (m : HostState) → f < 64 → length m.reading ≡ 64 → AreApart m → AreApart (with_read f false m)
apart_released f m small long apart (File e) held = unread f e m small long (λ other. apart (File e) held)
apart_released f m small long apart (Part p) held = refl
apart_released f m small long apart (Group p) held = refl

pub apart_writing : (f : ℕ) (m : HostState) → f < 64 → length m.reading ≡ 64 → AreApart m → AreApart (writing f m)
apart_writing f m small long apart (File e) held =
    unread f e m small long (λ other. apart (File e) (sym (get_or-set_other m.held f e true false other) ∙ held))
apart_writing f m small long apart (Part p) held = refl
apart_writing f m small long apart (Group p) held = refl
