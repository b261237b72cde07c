-- Which guards of facts stay when a memory changes; and memories in which one resource is held or read, or one slot claimed.
use Rattle.std.proofs.Common.{◌≡◌, ◌≢◌, ◌<◌, ◌/◌, ◌∙◌, ℕ, Bool, List, Some, false, length, true, refl, sym, ap, inl, inr, arith}
use Rattle.std.proofs.lemmas.Bool.{cases_Bool, cases_eq}
use Rattle.std.proofs.lemmas.List.{get_or-set_other, get_or-set_same}
use Rattle.vol_layout.specs.declared.geometry.Geometry.{Geometry}
use Rattle.vol_layout.specs.declared.kind.Resource.{Resource}
use Rattle.vol_layout.specs.declared.kind.Resource.TheVariants.{File, Group, Part}
use Rattle.vol_layout.specs.declared.field.Edit.{Edit}
use Rattle.vol_layout.specs.declared.field.Field.TheVariants.{Count, Slot}
use Rattle.vol_layout.specs.Fields.{resource_of}
use Rattle.vol_layout.specs.Ranges.{HasResource, IsGeometry, per_table}
use Rattle.image_view.specs.laws.FrameLaws.{HasResource-resource_of}
use Rattle.lock_store.specs.declared.host.HostState.{HostState}
use Rattle.lock_store.specs.Memories.{claim_of, entered, holds, index_of, key_of, may_read, reads, with_beat, with_claim, with_hold, with_read, writing}
use Rattle.disk_locks.specs.Keys.{owner}
use Rattle.disk_locks.specs.SameElse.{SameElse}
use Rattle.host_facts.specs.Facts.{Fact, IsGuarded}
use Rattle.host_facts.specs.Facts.Fact.{BlockIs, DeadRecord, DeadTable, Ended, FreshIs, Given, NoneFree, Off, RecordIs, SlotIs, Swept, TableIs}
use Rattle.host_facts.specs.Relocks.{claim_guard_of, guard_of}
use Rattle.host_facts.specs.laws.FactLaws.{held_readable}
use Rattle.host_facts.specs.laws.KindLaws.{owner_has}

-- what a memory has for the fact, another one has: the key, that it is joined, and the lock or the claim by which it is guarded
record HasGuard (g : Geometry) (m n : HostState) (a : Fact) : Type 0 where
  key : key_of n ≡ key_of m
  joined : m.joined ≡ true → n.joined ≡ true
  held : (q : Resource) → guard_of a ≡ Some q → HasResource g q → holds m q ≡ true → holds n q ≡ true
  readable : (q : Resource) → guard_of a ≡ Some q → HasResource g q → may_read m q ≡ true → may_read n q ≡ true
  claimed : (y : ℕ) → claim_guard_of a ≡ Some y → claim_of m y ≢ 0 → claim_of n y ≢ 0

guard_kept : (g : Geometry) (m n : HostState) (own : List Edit) (a : Fact) → HasGuard g m n a → IsGuarded g m own a → IsGuarded g n own a
guard_kept g m n own (TableIs t p) all guard = (guard.0, all.readable (owner t) refl (owner_has g t guard.0) guard.1)
guard_kept g m n own (RecordIs es) all guard = (all.joined guard.0, guard.1)
guard_kept g m n own (NoneFree r) all guard = (guard.0, all.held (Group r) refl guard.0 guard.1)
guard_kept g m n own (FreshIs d bytes) all guard =
    (guard.0, all.held (resource_of (Count d)) refl (HasResource-resource_of g (Count d) guard.0) guard.1)
guard_kept g m n own (SlotIs s d) all guard =
    (guard.0, guard.1, all.held (Group (d / per_table)) refl (HasResource-resource_of g (Count d) guard.1) guard.2)
guard_kept g m n own (BlockIs (Slot s) d bytes) all guard =
    (guard.0, guard.1, all.held (Group (d / per_table)) refl (HasResource-resource_of g (Count d) guard.1) guard.2)
guard_kept g m n own (BlockIs x d bytes) all guard =
    (guard.0, guard.1, all.readable (resource_of x) refl (HasResource-resource_of g x guard.0) guard.2)
guard_kept g m n own (Given key) all guard = λ none. guard (sym all.key ∙ none)
guard_kept g m n own (Off key) all guard = λ none. guard (sym all.key ∙ none)
guard_kept g m n own (Ended key) all guard = λ none. guard (sym all.key ∙ none)
guard_kept g m n own (DeadRecord y es) all guard = (guard.0, all.claimed y refl guard.1)
guard_kept g m n own (DeadTable y x p) all guard = (guard.0, (guard.1.0, all.claimed y refl guard.1.1))
guard_kept g m n own (Swept y k) all guard = (guard.0, all.claimed y refl guard.1)

-- a memory has all that another one has, but for claims: its key, that it is joined, its holds, and its read holds, which may be
-- holds now
pub record HasAll (g : Geometry) (m n : HostState) : Type 0 where
  pub key : key_of n ≡ key_of m
  pub joined : m.joined ≡ true → n.joined ≡ true
  pub held : (q : Resource) → HasResource g q → holds m q ≡ true → holds n q ≡ true
  pub readable : (q : Resource) → HasResource g q → may_read m q ≡ true → may_read n q ≡ true

-- then every guard stays, where the claim by which the fact is guarded does
pub guard_more : (g : Geometry) (m n : HostState) (own : List Edit) (a : Fact) → HasAll g m n
    → ((y : ℕ) → claim_guard_of a ≡ Some y → claim_of m y ≢ 0 → claim_of n y ≢ 0)
    → IsGuarded g m own a → IsGuarded g n own a
guard_more g m n own a all claims guard = guard_kept g m n own a (record {
  key = all.key;
  joined = all.joined;
  held = λ q is. all.held q;
  readable = λ q is. all.readable q;
  claimed = claims;
}) guard

-- a memory that differs at one resource keeps the guards that are not of it
pub guard_else : (g : Geometry) (r : Resource) (m n : HostState) (own : List Edit) (a : Fact) → SameElse g r m n → guard_of a ≢ Some r
    → IsGuarded g m own a → IsGuarded g n own a
guard_else g r m n own a same other guard =
    let apart = λ (q : Resource) (is : guard_of a ≡ Some q) (e : q ≡ r). other (is ∙ ap (λ (x : Resource). Some x) e) in
    guard_kept g m n own a (record {
      key = same.key;
      joined = λ joined. same.joined ∙ joined;
      held = λ q is has held. same.holds_same q has (apart q is) ∙ held;
      readable = λ q is has may. rw (same.holds_same q has (apart q is), same.reads_same q has (apart q is)) may;
      claimed = λ y is claim none. claim (sym (same.claims_same y) ∙ none);
    }) guard

-- a memory that has all but the claim of one slot keeps the guards that are not of that claim
pub claim_apart : (a : Fact) (y z : ℕ) → claim_guard_of a ≢ Some y → claim_guard_of a ≡ Some z → z ≢ y
claim_apart a y z other of e = other (of ∙ ap (λ n. Some n) e)

pub guard_unclaimed : (g : Geometry) (y : ℕ) (m n : HostState) (own : List Edit) (a : Fact) → HasAll g m n
    → ((z : ℕ) → z ≢ y → claim_of n z ≡ claim_of m z) → claim_guard_of a ≢ Some y → IsGuarded g m own a → IsGuarded g n own a
guard_unclaimed g y m n own a all claims other =
    guard_more g m n own a all (λ z of claim none. claim (sym (claims z (claim_apart a y z other of)) ∙ none))

-- the numbers of resources are apart, and below 144
index_small : (g : Geometry) (r : Resource) → IsGeometry g → HasResource g r → index_of r < 144
index_small g (File f) range has = omega (arith, range.files.1, has)
index_small g (Part p) range has = omega (arith, range.parts.1, has)
index_small g (Group r) range has = omega (arith, range.groups.1, has)

index_apart : (g : Geometry) (q r : Resource) → IsGeometry g → HasResource g q → HasResource g r → index_of q ≡ index_of r → q ≡ r
index_apart g (File f) (File f') range a b e = ap (λ n. File n) e
index_apart g (File f) (Part p) range a b e = absurd (omega (arith, range.files.1, a, e))
index_apart g (File f) (Group r) range a b e = absurd (omega (arith, range.files.1, a, e))
index_apart g (Part p) (File f) range a b e = absurd (omega (arith, range.files.1, b, e))
index_apart g (Part p) (Part p') range a b e = ap (λ n. Part n) (omega (arith, e))
index_apart g (Part p) (Group r) range a b e = absurd (omega (arith, range.parts.1, a, e))
index_apart g (Group r) (File f) range a b e = absurd (omega (arith, range.files.1, b, e))
index_apart g (Group r) (Part p) range a b e = absurd (omega (arith, range.parts.1, b, e))
index_apart g (Group r) (Group r') range a b e = ap (λ n. Group n) (omega (arith, e))

may_by_read : (m : HostState) (r : Resource) → reads m r ≡ true → may_read m r ≡ true
may_by_read m r is = rw is (elim (cases_Bool (holds m r)) [ inl y ↦ rw y refl | inr n ↦ rw n refl ])

-- what may be read is held or read
may_cases : (m n : HostState) (r : Resource) → (holds m r ≡ true → may_read n r ≡ true) → (reads m r ≡ true → may_read n r ≡ true)
    → may_read m r ≡ true → may_read n r ≡ true
may_cases m n r by_hold by_read may = elim (cases_Bool (holds m r)) [ inl y ↦ by_hold y | inr none ↦ by_read (rw none at may) ]

-- a resource is held, or no more so
pub hold_else : (g : Geometry) (r : Resource) (b : Bool) (m : HostState) → IsGeometry g → HasResource g r → SameElse g r m (with_hold r b m)
hold_else g r b m range has = record {
  key = refl;
  beat = refl;
  joined = refl;
  freed = refl;
  holds_same = λ q has' ne. get_or-set_other m.held (index_of r) (index_of q) b false (λ e. ne (index_apart g q r range has' has e));
  reads_same = λ q has' ne. refl;
  claims_same = λ y. refl;
}

pub hold_is : (g : Geometry) (r : Resource) (b : Bool) (m : HostState) → IsGeometry g → HasResource g r → length m.held ≡ 144
    → holds (with_hold r b m) r ≡ b
hold_is g r b m range has long =
    let small = index_small g r range has in get_or-set_same m.held (index_of r) b false (omega (arith, small, long))

-- a resource that is held has the hold that it had
held_more : (g : Geometry) (r : Resource) (m : HostState) → IsGeometry g → HasResource g r → length m.held ≡ 144
    → (q : Resource) → HasResource g q → holds m q ≡ true → holds (with_hold r true m) q ≡ true
held_more g r m range has long q has' held = elim (cases_eq (index_of q) (index_of r)) [
  | inl e ↦ ap (λ (x : Resource). holds (with_hold r true m) x) (index_apart g q r range has' has e) ∙ hold_is g r true m range has long
  | inr ne ↦ get_or-set_other m.held (index_of r) (index_of q) true false ne ∙ held
]

pub hold_all : (g : Geometry) (r : Resource) (m : HostState) → IsGeometry g → HasResource g r → length m.held ≡ 144
    → HasAll g m (with_hold r true m)
hold_all g r m range has long =
    let n = with_hold r true m in
    record {
      key = refl;
      joined = λ joined. joined;
      held = held_more g r m range has long;
      readable = λ q has' may.
          may_cases m n q (λ held. held_readable n q (held_more g r m range has long q has' held)) (λ is. may_by_read n q is) may;
    }

-- a file is read, or no more so
read_other : (f : ℕ) (b : Bool) (m : HostState) (q : Resource) → q ≢ File f → reads (with_read f b m) q ≡ reads m q
read_other f b m (File e) ne = get_or-set_other m.reading f e b false (λ same. ne (ap (λ n. File n) same))
read_other f b m (Part p) ne = refl
read_other f b m (Group r) ne = refl

pub read_else : (g : Geometry) (f : ℕ) (b : Bool) (m : HostState) → SameElse g (File f) m (with_read f b m)
read_else g f b m = record {
  key = refl;
  beat = refl;
  joined = refl;
  freed = refl;
  holds_same = λ q has ne. refl;
  reads_same = λ q has ne. read_other f b m q ne;
  claims_same = λ y. refl;
}

pub read_is : (g : Geometry) (f : ℕ) (b : Bool) (m : HostState) → IsGeometry g → f < g.files → length m.reading ≡ 64
    → reads (with_read f b m) (File f) ≡ b
read_is g f b m range has long = get_or-set_same m.reading f b false (omega (arith, has, range.files.1, long))

read_more : (g : Geometry) (f : ℕ) (m : HostState) → IsGeometry g → f < g.files → length m.reading ≡ 64 → (q : Resource)
    → reads m q ≡ true → reads (with_read f true m) q ≡ true
read_more g f m range has long (File e) is = elim (cases_eq e f) [
  | inl same ↦ ap (λ k. reads (with_read f true m) (File k)) same ∙ read_is g f true m range has long
  | inr ne ↦ get_or-set_other m.reading f e true false ne ∙ is
]
read_more g f m range has long (Part p) is = is
read_more g f m range has long (Group r) is = is

pub read_all : (g : Geometry) (f : ℕ) (m : HostState) → IsGeometry g → f < g.files → length m.reading ≡ 64
    → HasAll g m (with_read f true m)
read_all g f m range has long =
    let n = with_read f true m in
    record {
      key = refl;
      joined = λ joined. joined;
      held = λ q has' held. held;
      readable = λ q has' may. may_cases m n q (held_readable n q) (λ is. may_by_read n q (read_more g f m range has long q is)) may;
    }

-- a file that may have been read is held, and not read any more
pub writing_else : (g : Geometry) (f : ℕ) (m : HostState) → IsGeometry g → f < g.files → SameElse g (File f) m (writing f m)
writing_else g f m range has = record {
  key = refl;
  beat = refl;
  joined = refl;
  freed = refl;
  holds_same = λ q has' ne. get_or-set_other m.held f (index_of q) true false (λ e. ne (index_apart g q (File f) range has' has e));
  reads_same = λ q has' ne. read_other f false m q ne;
  claims_same = λ y. refl;
}

pub writing_all : (g : Geometry) (f : ℕ) (m : HostState) → IsGeometry g → f < g.files → length m.held ≡ 144 → HasAll g m (writing f m)
writing_all g f m range has long =
    let n = writing f m in
    let held = λ (q : Resource) (has' : HasResource g q) (was : holds m q ≡ true). held_more g (File f) m range has long q has' was in
    record {
      key = refl;
      joined = λ joined. joined;
      held = held;
      readable = λ q has' may. elim (cases_eq (index_of q) f) [
        | inl e ↦
            let same = ap (λ (x : Resource). holds n x) (index_apart g q (File f) range has' has e) in
            held_readable n q (same ∙ hold_is g (File f) true m range has long)
        | inr ne ↦ may_cases m n q (λ was. held_readable n q (held q has' was))
            (λ was. may_by_read n q (read_other f false m q (λ e. ne (ap index_of e)) ∙ was)) may
      ];
    }

-- a slot is claimed, or no more so
pub claim_is : (y dead : ℕ) (m : HostState) → y < 16 → length m.claims ≡ 16 → claim_of (with_claim y dead m) y ≡ dead
claim_is y dead m small long = get_or-set_same m.claims y dead 0 (omega (arith, small, long))

pub claim_else : (y dead z : ℕ) (m : HostState) → z ≢ y → claim_of (with_claim y dead m) z ≡ claim_of m z
claim_else y dead z m other = get_or-set_other m.claims y z dead 0 other

pub claim_all : (g : Geometry) (y dead : ℕ) (m : HostState) → HasAll g m (with_claim y dead m)
claim_all g y dead m = record { key = refl; joined = λ joined. joined; held = λ q has held. held; readable = λ q has may. may }

-- the own slot shows a beat, or is entered
pub beat_all : (g : Geometry) (beat : ℕ) (m : HostState) → HasAll g m (with_beat beat m)
beat_all g beat m = record { key = refl; joined = λ joined. joined; held = λ q has held. held; readable = λ q has may. may }

pub entered_all : (g : Geometry) (h : ℕ) (m : HostState) → HasAll g m (entered h m)
entered_all g h m = record { key = refl; joined = λ joined. refl; held = λ q has held. held; readable = λ q has may. may }
