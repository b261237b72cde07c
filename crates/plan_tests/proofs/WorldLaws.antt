-- Of a device that tells nothing, what a host has in memory for a fact is all that it needs to know the fact.
use Rattle.std.proofs.Common.{◌≡◌, ◌<◌, ◌+◌, ◌∙◌, ℕ, Bool, List, [], None, false}
use Rattle.std.proofs.Common.{true, ap, arith, drop, length, refl, sym, subst, inl, inr, slice_index_or}
use Rattle.std.specs.Prelude.{Contains}
use Rattle.std.proofs.lemmas.Bool.{cases_lt, false_from_ne_true}
use Rattle.std.proofs.lemmas.List.{get_or-drop, get_or_past}
use Rattle.std.proofs.lemmas.List.Elements.{Contains-get_or}
use Rattle.vol_layout.specs.Ranges.{HasResource, IsGeometry}
use Rattle.vol_layout.specs.declared.kind.Resource.{Resource}
use Rattle.vol_layout.specs.declared.kind.Resource.TheVariants.{File, Group, Part}
use Rattle.lock_store.specs.declared.host.HostState.{HostState}
use Rattle.lock_store.specs.Memories.{claim_of, holds, index_of}
use Rattle.lock_store.specs.Views.{LocksView, host_at, told_of}
use Rattle.disk_locks.specs.Calls.{IsShared}
use Rattle.disk_locks.specs.Freeing.{MayFreeSlot}
use Rattle.host_facts.specs.Facts.Fact.{RecordIs}
use Rattle.host_facts.specs.Knows.{Knows}
use Rattle.host_facts.specs.Others.{Others}
use Rattle.host_facts.specs.Views.{WorldView}
use Rattle.plan_parts.specs.Fetched.{LockTaken}
use Rattle.plan_parts.specs.Searches.{IsSearching}
use Rattle.plan_parts.specs.TakenLocks.{IsTaking}
use Rattle.plan_parts.specs.declared.searching.Search.TheVariants as searches
use Rattle.plan_parts.specs.laws.SearchLaws.{search_begins}
use Rattle.plan_parts.specs.laws.TakenLaws.{none_held}
use Rattle.plan_tests.proofs.UntoldLaws as untold

-- a hold that stands at a place is one of the list
contained : (xs : List Bool) (i : ℕ) → slice_index_or xs i false ≡ true → Contains xs true
contained xs i held = elim (cases_lt i (length xs)) [
  | inl lt ↦ subst (λ (b : Bool). Contains xs b) held (Contains-get_or xs i false lt)
  | inr ge ↦ let out : false ≡ true = sym (get_or_past xs i false ge) ∙ held in absurd cc
]

-- a call leaves a device untold
pub still : (h : ℕ) (v w : WorldView) → Others h v w → told_of v.locks ≡ None → told_of w.locks ≡ None
still h v w others none = untold.stays h v.locks w.locks others.locks none

-- no record stands
pub none_stands : (v : WorldView) (h : ℕ) → (host_at v.locks h).joined ≡ true → told_of v.locks ≡ None → Knows v h (RecordIs [])
none_stands v h joined none = record { guard = (joined, tt); sure = untold.sure v.locks h _ none }

-- where no part and no group is held, a group of the volume is not
pub taken_out : (v : WorldView) (h r : ℕ) → IsTaking v h [] → r < v.locks.geometry.groups → holds (host_at v.locks h) (Group r) ≡ false
taken_out v h r is has = none_held v h is (Group r) has tt

-- a group that was taken is held, and the holds of files are as before
pub gained : (h r f : ℕ) (v w : WorldView) (taken after : List Resource) → LockTaken h v w (Group r) taken after
    → f < v.locks.geometry.files → holds (host_at v.locks h) (File f) ≡ true → holds (host_at w.locks h) (File f) ≡ true
gained h r f v w taken after is has held = is.gains.relocks.memory.holds_same (File f) has (λ e. cc) ∙ held

-- no hold from number 64 on is one of no part and no group
pub none_taken : (v : WorldView) (h : ℕ) (l : LocksView) (m : HostState) → l ≡ v.locks → m ≡ host_at l h
    → (Contains (drop 64 m.held) true → ⊥) → IsTaking v h []
none_taken v h l m same memory nothing = record { each = tt; only = none_held_here }
  where
    none : Contains (drop 64 (host_at v.locks h).held) true → ⊥
    none =
        subst (λ (n : HostState). Contains (drop 64 n.held) true → ⊥) (memory ∙ ap (λ (k : LocksView). host_at k h) same) nothing

    none_at : (k i : ℕ) → 64 + k ≡ i → slice_index_or (host_at v.locks h).held i false ≡ true → ⊥
    none_at k i is held =
        none (contained (drop 64 (host_at v.locks h).held) k
        (get_or-drop 64 (host_at v.locks h).held k false ∙ ap (λ (j : ℕ). slice_index_or (host_at v.locks h).held j false) is ∙ held))

    none_held_here : (r : Resource) → HasResource v.locks.geometry r → IsShared r → holds (host_at v.locks h) r ≡ true → ⊥
    none_held_here (File f) has shared held = absurd shared
    none_held_here (Part p) has shared held = none_at p (64 + p) refl held
    none_held_here (Group r) has shared held = none_at (16 + r) (80 + r) (omega arith) held

-- a joined host that holds nothing and has not claimed its slot may free it
pub may_leave : (v w : LocksView) (h : ℕ) → w ≡ v → (host_at v h).joined ≡ true → (Contains (drop 0 (host_at v h).held) true → ⊥)
    → claim_of (host_at v h) h ≡ 0 → MayFreeSlot w.geometry h h (host_at w h)
may_leave v w h same joined nothing unclaimed =
    subst (λ (l : LocksView). MayFreeSlot l.geometry h h (host_at l h)) (sym same)
    (inr (refl, joined, (λ (r : Resource) has. out (host_at v h).held (index_of r) nothing), unclaimed))
  where
    out : (xs : List Bool) (i : ℕ) → (Contains xs true → ⊥) → slice_index_or xs i false ≡ false
    out xs i none = false_from_ne_true (slice_index_or xs i false) (λ held. none (contained xs i held))

-- a search begins where no part and no group is held
pub begins : (v : WorldView) (h : ℕ) → IsGeometry v.locks.geometry → (host_at v.locks h).joined ≡ true → told_of v.locks ≡ None
    → IsTaking v h [] → IsSearching v h (searches.Lock 0) []
begins v h range joined none taking = search_begins v h range (none_stands v h joined none) taking
