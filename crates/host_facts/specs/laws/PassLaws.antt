-- What calls on keys, slots and locks leave of the facts that the calling host knows.
use Rattle.std.proofs.Common.{◌≡◌, ◌≢◌, ◌<◌, ◌∙◌, ℕ, Bool, List, [], None, refl, sym, ap, subst, inr, filter, not}
use Rattle.std.specs.Prelude.{Contains, nat_eq, slice_set}
use Rattle.std.proofs.lemmas.List.Elements.{All-contains, All-contains_itself, All-filter}
use Rattle.vol_layout.specs.declared.geometry.Geometry.{Geometry}
use Rattle.vol_layout.specs.declared.kind.Kind.{Kind}
use Rattle.vol_layout.specs.declared.kind.Kind.TheVariants as kinds
use Rattle.vol_layout.specs.declared.field.Edit.{Edit}
use Rattle.shared_disk.specs.Calls.{after_write}
use Rattle.shared_disk.specs.Events as device
use Rattle.shared_disk.specs.Events.{Call, Done, Fences, Reads, Refuses, Registers, Reply, Shows, Tests, Writes}
use Rattle.shared_disk.specs.State.{State}
use Rattle.image_view.specs.HostKeys.{IsHeldBy, slot_key_at}
use Rattle.image_view.specs.Images.{Image, OnlyChanges}
use Rattle.image_view.specs.laws.FrameLaws.{write_only}
use Rattle.call_effects.specs.Changes.{Changes}
use Rattle.call_effects.specs.Places.{KeepsFiles}
use Rattle.lock_store.specs.declared.host.HostState.{HostState}
use Rattle.lock_store.specs.Events.{Did}
use Rattle.lock_store.specs.Memories.{claim_of, key_of}
use Rattle.lock_store.specs.Views.{LocksView, counter_of, host_at, key_at, keys_of, told_of}
use Rattle.disk_locks.specs.Agreement.{Agrees}
use Rattle.disk_locks.specs.Consistent.{Consistent}
use Rattle.disk_locks.specs.Memories.{IsMemory}
use Rattle.disk_locks.specs.Others as locks'
use Rattle.disk_locks.specs.Sure.{BothTold}
use Rattle.host_facts.specs.Facts.{Fact, IsGuarded, Tells}
use Rattle.host_facts.specs.Facts.Fact.{Swept}
use Rattle.host_facts.specs.Knows.{Knows}
use Rattle.host_facts.specs.Passes.{IsLockCall, IsLockKind, IsLockPlace, Passes, SaysNoLock}
use Rattle.host_facts.specs.Views.{WorldView, edits_under, record_at, standing_at, with_locks}
use Rattle.host_facts.specs.laws.FactLaws.{tells_last}
use Rattle.host_facts.specs.laws.FileStays.{quiet_files}
use Rattle.host_facts.specs.laws.FindsLaws.{sure_later}
use Rattle.host_facts.specs.laws.FoundLaws.{dead_off}
use Rattle.host_facts.specs.laws.KindLaws.{lock_leaves, nothing_changes, numbers_left}
use Rattle.host_facts.specs.laws.SparedLaws.{spares_all, tells_spared}
use Rattle.host_facts.specs.laws.ToldLaws.{both_and, both_of, both_same, both_with, both_written, sure_over}

-- of the blocks of a volume only a slot or a lock changed
pub record OnlyLocks (g : Geometry) (old new : Image) : Type 0 where
  pub kind : Kind
  pub lock : IsLockKind kind
  pub only : OnlyChanges g old new kind

pub no_change : (g : Geometry) (image : Image) → OnlyLocks g image image
no_change g image = record { kind = kinds.Slot 0; lock = tt; only = λ other has ne. refl }

-- what a fact says of it then stays, if it is not one on locks
passed_tells : (v : LocksView) (h : ℕ) (own : List Edit) (i j : Image) → IsMemory v.geometry.hosts (counter_of v) h (host_at v h)
    → OnlyLocks v.geometry i j → (a : Fact) → SaysNoLock a → IsGuarded v.geometry (host_at v h) own a → Tells v h i a → Tells v h j a
passed_tells v h own i j memory o a says guard =
    let leaves = lock_leaves o.kind o.lock in
    tells_spared v h o.kind [] i j memory o.only (numbers_left v.geometry i j o.kind leaves o.only) (λ joined. inr (leaves.journal h))
    a own says guard (spares_all h o.kind a leaves)

-- a key that is left behind a fence was there before it
from_filter : (p : ℕ → Bool) (xs : List ℕ) (k : ℕ) → Contains (filter p xs) k → Contains xs k
from_filter p xs k = All-contains (Contains xs) (filter p xs) k (All-filter p (Contains xs) xs (All-contains_itself xs))

-- what such a call does to a device
record IsPassed (g : Geometry) (s t : State) : Type 0 where
  fewer : (k : ℕ) → Contains t.keys k → Contains s.keys k
  images : BothTold s.told t.told (OnlyLocks g)

passed_same : (g : Geometry) (s t : State) → t ≡ s → IsPassed g s t
passed_same g s t same = subst (λ (u : State). IsPassed g s u) (sym same) (record {
  fewer = λ k now. now;
  images = both_same s.told s.told (OnlyLocks g) refl (no_change g);
})

passed_write : (g : Geometry) (place : ℕ) (block : List ℕ) (s t : State) → IsLockPlace g place → t ≡ after_write place block s
    → IsPassed g s t
passed_write g place block s t lock same = record {
  fewer = λ k now. subst (λ (u : State). Contains u.keys k) same now;
  images = both_of s.told t.told (λ i j. j ≡ slice_set i place block) (OnlyLocks g) (both_written s t place block same) (λ i j now. record {
    kind = lock.kind;
    lock = lock.lock;
    only = rw (now, lock.at) (write_only g i lock.kind block lock.has);
  });
}

passed : (g : Geometry) (call : Call) (reply : Reply) (s t : State) → IsLockCall g call → device.Changes call reply s t → IsPassed g s t
passed g call (Refuses cause) s t lock c = passed_same g s t c
passed g (Reads place) (Shows block) s t lock c = passed_same g s t c.1
passed g (Writes place block) Done s t lock c = passed_write g place block s t lock c
passed g (Tests place old new) Done s t lock c = passed_write g place new s t lock c.1
passed g (Tests place old new) (Shows block) s t lock c = passed_same g s t c.2
passed g (Fences target) Done s t lock c = subst (λ (u : State). IsPassed g s u) (sym c) (record {
  fewer = from_filter (λ k. not (nat_eq k target)) s.keys;
  images = both_same s.told s.told (OnlyLocks g) refl (no_change g);
})
passed g (Registers host) reply s t lock c = absurd lock
passed g call reply s t lock c = absurd c

-- any such call
pub passes_law : (v : WorldView) (h : ℕ) (call : Call) (reply : Reply) (m : HostState) (l : LocksView) → Consistent v.locks
    → locks'.Others h v.locks l → Did v.locks h call reply m l → key_of m ≡ key_at v.locks h → IsLockCall v.locks.geometry call
    → Passes h v (with_locks v l)
passes_law v h call reply m l is others did key lock =
    let g = v.locks.geometry in
    let w = with_locks v l in
    let step = passed g call reply v.locks.disk.state l.disk.state lock did.acts.changes in
    let same : key_at l h ≡ key_at v.locks h = ap key_of did.mine ∙ key in
    record {
      geometry = did.geometry;
      key = same;
      standing = ap (λ k. edits_under k (standing_at v h)) same;
      registered = step.fewer (key_at v.locks h);
      facts = λ a says guard known. record {
        guard = guard;
        sure = sure_over v.locks l h (OnlyLocks g) (λ i. Tells v.locks h i a) (λ j. Tells l h j a) same (step.fewer (key_at v.locks h))
            (λ now. step.images)
            (λ i j only tells. tells_last v.locks l h j a others.lasts
            (passed_tells v.locks h (record_at v h) i j (is.memories h) only a says known.guard tells)) known.sure;
      };
      images = both_of (told_of v.locks) (told_of l) (OnlyLocks g) (Changes g [] None) step.images nothing;
      files = both_with (told_of v.locks) (told_of l) (λ i. Agrees g (counter_of v.locks) (keys_of v.locks) v.locks.hosts i) (OnlyLocks g)
          KeepsFiles is.told step.images (λ i j agrees o. quiet_files g (counter_of v.locks) i j agrees.valid (nothing i j o));
    }
  where
    nothing : (i j : Image) → OnlyLocks v.locks.geometry i j → Changes v.locks.geometry [] None i j
    nothing i j o = nothing_changes v.locks.geometry i j o.kind (lock_leaves o.kind o.lock) o.only

-- the locks of a dead key only go: where its slot is still claimed, and shows the key that it showed, it holds no more of them
pub swept_law : (v : WorldView) (h y k : ℕ) (l : LocksView) → Consistent v.locks → locks'.Others h v.locks l → key_at l h ≡ key_at v.locks h
    → (Contains (keys_of l) (key_at v.locks h) → Contains (keys_of v.locks) (key_at v.locks h)) → claim_of (host_at l h) y ≢ 0
    → BothTold (told_of v.locks) (told_of l) (λ i j. slot_key_at v.locks.geometry j y ≡ slot_key_at v.locks.geometry i y)
    → Knows v h (Swept y k) → Knows (with_locks v l) h (Swept y k)
swept_law v h y k l is others key registered claim shown known =
    let g = v.locks.geometry in
    let stays = λ (i j : Image). slot_key_at g j y ≡ slot_key_at g i y in
    let fades = locks'.Fades g v.locks.disk.state in
    record {
      guard = (subst (λ (g : Geometry). y < g.hosts) (sym others.lasts.geometry) known.guard.0, claim);
      sure = sure_later v.locks l h (λ i j. stays i j × fades i j) (λ i. Tells v.locks h i (Swept y k)) (λ j. Tells l h j (Swept y k))
          is key registered (both_and (told_of v.locks) (told_of l) stays fades shown others.lasts.fades) (λ i j finds kept tells.
          tells_last v.locks l h j (Swept y k) others.lasts (λ r has lt held.
          tells r has lt (kept.1 r (slot_key_at g i y) has (dead_off v.locks h i y finds known.guard.0 known.guard.1)
          (subst (λ n. IsHeldBy g j r n) kept.0 held))))
          known.sure;
    }
