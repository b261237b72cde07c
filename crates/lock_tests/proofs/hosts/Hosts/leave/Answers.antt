use Rattle.std.proofs.Common.{rules, ◌≡◌, ℕ, List, Bool, true, false, length, inl, inr, refl, subst, sym, slice_index_or}
use Rattle.std.specs.Prelude.{Contains}
use Rattle.std.proofs.lemmas.Bool.{cases_Bool, cases_lt}
use Rattle.std.proofs.lemmas.List.{get_or_past}
use Rattle.std.proofs.lemmas.List.Elements.{Contains-get_or}
use Rattle.vol_layout.specs.declared.geometry.Geometry.{Geometry}
use Rattle.vol_layout.specs.declared.kind.Resource.{Resource}
use Rattle.lock_store.specs.declared.host.HostState.{HostState}
use Rattle.lock_store.specs.Memories.{claim_of, index_of}
use Rattle.lock_store.specs.Views.{LocksView, host_at}
use Rattle.disk_locks.specs.Freeing.{MayFreeSlot}
use Rattle.lock_tests.proofs.hosts.Hosts.leave.Goals as goal

none_held : (xs : List Bool) (i : ℕ) → (Contains xs true → ⊥) → slice_index_or xs i false ≡ false
none_held xs i nothing = elim (cases_Bool (slice_index_or xs i false)) [
  | inl held ↦ elim (cases_lt i (length xs)) [
    | inl lt ↦ absurd (nothing (subst (λ (b : Bool). Contains xs b) held (Contains-get_or xs i false lt)))
    | inr ge ↦ get_or_past xs i false ge
  ]
  | inr free ↦ free
]

may_leave : (g : Geometry) (h : ℕ) (m : HostState) → m.joined ≡ true → (Contains m.held true → ⊥) → claim_of m h ≡ 0 → MayFreeSlot g h h m
may_leave g h m joined nothing unclaimed = inr (refl, joined, (λ (r : Resource) has. none_held m.held (index_of r) nothing), unclaimed)

pub free_slot-requires-clause-may : goal.free_slot-requires-clause-may
free_slot-requires-clause-may c =
    let joined : (host_at c.args.self.now.world.locks c.args.host).joined ≡ true = search rules in
    let nothing : Contains (host_at c.args.self.now.world.locks c.args.host).held true → ⊥ = search rules in
    let unclaimed : claim_of (host_at c.args.self.now.world.locks c.args.host) c.args.host ≡ 0 = search rules in
    subst
    (λ (v : LocksView). MayFreeSlot v.geometry c.args.host c.args.host (host_at v c.args.host))
    (sym c.locks_mut.ensures.now)
    (may_leave c.args.self.now.world.locks.geometry c.args.host (host_at c.args.self.now.world.locks c.args.host) joined nothing unclaimed)
