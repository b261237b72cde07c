-- Facts and their guards, over calls that leave a host's memory.
use Rattle.std.proofs.Common.{◌≡◌, ◌≢◌, ◌/◌, ℕ, List, true, false, refl, sym, ◌∙◌, subst, arith, inl, inr, ap, Option}
use Rattle.std.proofs.lemmas.Bool.{cases_Bool}
use Rattle.vol_layout.specs.declared.geometry.Geometry.{Geometry}
use Rattle.vol_layout.specs.declared.kind.Resource.{Resource}
use Rattle.vol_layout.specs.declared.kind.Resource.TheVariants.{Group}
use Rattle.vol_layout.specs.declared.field.Edit.{Edit}
use Rattle.vol_layout.specs.declared.field.Field.{Field}
use Rattle.vol_layout.specs.declared.field.Field.TheVariants.{Count, Head, Pointer, Slot}
use Rattle.vol_layout.specs.Fields.{resource_of}
use Rattle.vol_layout.specs.Ranges.{per_table}
use Rattle.journal_block.specs.JournalRecord.{JournalRecord}
use Rattle.image_view.specs.Images.{Image}
use Rattle.lock_store.specs.declared.host.HostState.{HostState}
use Rattle.lock_store.specs.Memories.{claim_of, holds, key_of, may_read}
use Rattle.lock_store.specs.Views.{LocksView, host_at, key_at}
use Rattle.disk_locks.specs.Keys.{owner}
use Rattle.disk_locks.specs.Memories.{IsMemory}
use Rattle.disk_locks.specs.Others.{Lasts}
use Rattle.host_facts.specs.Facts.Fact.{BlockIs, DeadRecord, DeadTable, Ended, FreshIs, Given}
use Rattle.host_facts.specs.Facts.Fact.{NoneFree, Off, RecordIs, SlotIs, Swept, TableIs}
use Rattle.host_facts.specs.Facts.{Fact, IsGuarded, MayLook, Tells}
use Rattle.host_facts.specs.Views.{WorldView, edits_under, record_at, standing_at}

-- what a fact says of an image lasts over every call, while the image stays
pub tells_last : (v w : LocksView) (h : ℕ) (image : Image) (a : Fact) → Lasts v w → Tells v h image a → Tells w h image a
tells_last v w h image (TableIs t p) lasts tells = rw lasts.geometry tells
tells_last v w h image (RecordIs es) lasts tells = rw lasts.geometry tells
tells_last v w h image (NoneFree r) lasts tells = rw lasts.geometry tells
tells_last v w h image (FreshIs d bytes) lasts tells = rw lasts.geometry tells
tells_last v w h image (SlotIs s d) lasts tells = rw lasts.geometry tells
tells_last v w h image (BlockIs x d bytes) lasts tells = rw lasts.geometry tells
tells_last v w h image (Given key) lasts tells = omega (arith, tells, lasts.counter)
tells_last v w h image (Off key) lasts tells = lasts.off key tells
tells_last v w h image (Ended key) lasts tells = lasts.ended key tells
tells_last v w h image (DeadRecord y es) lasts tells = rw lasts.geometry tells
tells_last v w h image (DeadTable y x p) lasts tells = rw lasts.geometry tells
tells_last v w h image (Swept y k) lasts tells = rw lasts.geometry tells

-- what a host holds it may read
pub held_readable : (m : HostState) (r : Resource) → holds m r ≡ true → may_read m r ≡ true
held_readable m r held = rw held refl

-- who may read something is joined, and has a key
pub reader_joined : (hosts counter h : ℕ) (m : HostState) (r : Resource) → IsMemory hosts counter h m → may_read m r ≡ true
    → m.joined ≡ true
reader_joined hosts counter h m r is may =
    elim (cases_Bool m.joined) [
      | inl joined ↦ joined
      | inr none ↦ let e : true ≡ false = sym may ∙ is.out none r in absurd cc
    ]

pub joined_key : (hosts counter h : ℕ) (m : HostState) → IsMemory hosts counter h m → m.joined ≡ true → key_of m ≢ 0
joined_key hosts counter h m is joined none = let e : true ≡ false = sym joined ∙ is.keyless none in cc

reader_key : (hosts counter h : ℕ) (m : HostState) (r : Resource) → IsMemory hosts counter h m → may_read m r ≡ true → key_of m ≢ 0
reader_key hosts counter h m r is may = joined_key hosts counter h m is (reader_joined hosts counter h m r is may)

claimer_key : (hosts counter h y : ℕ) (m : HostState) → IsMemory hosts counter h m → claim_of m y ≢ 0 → key_of m ≢ 0
claimer_key hosts counter h y m is claim none = claim (is.unclaimed none y)

-- who may look at a block may read something
pub looker_joined : (hosts counter h : ℕ) (m : HostState) (x : Field) (d : ℕ) → IsMemory hosts counter h m → MayLook m x d → m.joined ≡ true
looker_joined hosts counter h m (Head f) d is may = reader_joined hosts counter h m (resource_of (Head f)) is may
looker_joined hosts counter h m (Pointer f i) d is may = reader_joined hosts counter h m (resource_of (Pointer f i)) is may
looker_joined hosts counter h m (Slot s) d is may =
    reader_joined hosts counter h m (Group (d / per_table)) is (held_readable m (Group (d / per_table)) may)
looker_joined hosts counter h m (Count c) d is may = reader_joined hosts counter h m (resource_of (Count c)) is may

-- a host that has in memory what guards a fact has a key
pub guard_key : (g : Geometry) (hosts counter h : ℕ) (m : HostState) (own : List Edit) (a : Fact) → IsMemory hosts counter h m
    → IsGuarded g m own a → key_of m ≢ 0
guard_key g hosts counter h m own (TableIs t p) is guard = reader_key hosts counter h m (owner t) is guard.1
guard_key g hosts counter h m own (RecordIs es) is guard = joined_key hosts counter h m is guard.0
guard_key g hosts counter h m own (NoneFree r) is guard = reader_key hosts counter h m (Group r) is (held_readable m (Group r) guard.1)
guard_key g hosts counter h m own (FreshIs d bytes) is guard =
    reader_key hosts counter h m (resource_of (Count d)) is (held_readable m (resource_of (Count d)) guard.1)
guard_key g hosts counter h m own (SlotIs s d) is guard =
    joined_key hosts counter h m is (looker_joined hosts counter h m (Slot s) d is guard.2)
guard_key g hosts counter h m own (BlockIs x d bytes) is guard =
    joined_key hosts counter h m is (looker_joined hosts counter h m x d is guard.2)
guard_key g hosts counter h m own (Given key) is guard = guard
guard_key g hosts counter h m own (Off key) is guard = guard
guard_key g hosts counter h m own (Ended key) is guard = guard
guard_key g hosts counter h m own (DeadRecord y es) is guard = claimer_key hosts counter h y m is guard.1
guard_key g hosts counter h m own (DeadTable y x p) is guard = claimer_key hosts counter h y m is guard.1.1
guard_key g hosts counter h m own (Swept y k) is guard = claimer_key hosts counter h y m is guard.1

-- a guard stays with the geometry, the memory, and the own record in memory
pub guard_as : (g k : Geometry) (m n : HostState) (own new : List Edit) (a : Fact) → k ≡ g → n ≡ m → new ≡ own → IsGuarded g m own a
    → IsGuarded k n new a
guard_as g k m n own new a geometry memory record_is guard =
    subst (λ (f : Geometry). IsGuarded f n new a) (sym geometry)
    (subst (λ (s : HostState). IsGuarded g s new a) (sym memory) (subst (λ (es : List Edit). IsGuarded g m es a) (sym record_is) guard))

pub guard_moved : (v w : LocksView) (h : ℕ) (own : List Edit) (a : Fact) → w.geometry ≡ v.geometry → host_at w h ≡ host_at v h
    → IsGuarded v.geometry (host_at v h) own a → IsGuarded w.geometry (host_at w h) own a
guard_moved v w h own a geometry memory =
    guard_as v.geometry w.geometry (host_at v h) (host_at w h) own own a geometry memory refl

-- the record in memory counts as before, where it and the key are as before
pub record_still : (v w : WorldView) (h : ℕ) → host_at w.locks h ≡ host_at v.locks h → standing_at w h ≡ standing_at v h
    → record_at w h ≡ record_at v h
record_still v w h memory standing =
    ap (λ (r : Option JournalRecord). edits_under (key_at w.locks h) r) standing
    ∙ ap (λ (m : HostState). edits_under (key_of m) (standing_at v h)) memory
