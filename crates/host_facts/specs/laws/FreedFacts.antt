-- What the freeing of a slot, a claimed one or the own one, leaves to the host that makes the call.
use Rattle.std.proofs.Common.{◌≡◌, ◌≢◌, ◌⊎◌, ◌<◌, ◌==◌, ◌∙◌, ℕ, List, Option, Some, None, true, refl, ap, subst, inl, inr, cond}
use Rattle.std.specs.Prelude.{IfSome, Ok}
use Rattle.std.proofs.lemmas.Bool.{ne_eqb}
use Rattle.vol_layout.specs.declared.geometry.Geometry.{Geometry}
use Rattle.vol_layout.specs.declared.kind.Kind.TheVariants as kinds
use Rattle.vol_layout.specs.declared.field.Edit.{Edit}
use Rattle.shared_disk.specs.Events.{Shows}
use Rattle.shared_disk.specs.State.{State, Told}
use Rattle.slot_lock_blocks.specs.declared.slot.Slot.{Slot}
use Rattle.slot_lock_blocks.specs.declared.slot.Slot.TheVariants as slots
use Rattle.slot_lock_blocks.specs.Slots.{slot_bytes}
use Rattle.lock_store.specs.declared.answers.Claim.TheVariants.{Claimed, Found}
use Rattle.lock_store.specs.declared.host.HostState.{HostState}
use Rattle.lock_store.specs.Events.{swap_of}
use Rattle.lock_store.specs.Memories.{claim_of, key_of, left, with_claim}
use Rattle.lock_store.specs.Views.{LocksView, host_at, key_at, told_of}
use Rattle.disk_locks.specs.Calls.{ClearsSlot, FreesSlot, IsFreed, freeing, key, slot_of}
use Rattle.disk_locks.specs.Consistent.{Consistent}
use Rattle.disk_locks.specs.Others as locks'
use Rattle.host_facts.specs.Facts.{Fact, IsGuarded}
use Rattle.host_facts.specs.Facts.Fact.{DeadRecord, DeadTable, Ended, Given, Off, Swept}
use Rattle.host_facts.specs.FreedResults.{HasFreed, HasLeft, IsOfKeyOrClaim, SlotFreed}
use Rattle.host_facts.specs.Relocks.{claim_guard_of}
use Rattle.host_facts.specs.Views.{WorldView, record_at, with_locks}
use Rattle.host_facts.specs.laws.FindsLaws.{registered_some}
use Rattle.host_facts.specs.laws.GuardLaws.{claim_all, claim_apart, claim_else, guard_unclaimed}
use Rattle.host_facts.specs.laws.LockWrites.{fact_stays, other_shown, shows_law, tested}
use Rattle.host_facts.specs.laws.PassLaws.{passes_law}

told_or : (told : Option Told) → (told ≡ None) ⊎ ((t : Told) × (told ≡ Some t))
told_or None = inl refl
told_or (Some t) = inr (t, refl)

-- what is guarded by a key or a claim alone is guarded behind a leave
left_guard : (g : Geometry) (m : HostState) (own : List Edit) (a : Fact) → IsOfKeyOrClaim a → IsGuarded g m own a
    → IsGuarded g (left m) own a
left_guard g m own (Given key) stays guard = guard
left_guard g m own (Off key) stays guard = guard
left_guard g m own (Ended key) stays guard = guard
left_guard g m own (DeadRecord y es) stays guard = guard
left_guard g m own (DeadTable y x p) stays guard = guard
left_guard g m own (Swept y k) stays guard = guard
left_guard g m own a stays guard = absurd stays

module _ (v : WorldView) (h : ℕ) (l : LocksView) (is : Consistent v.locks) (others : locks'.Others h v.locks l) where
  -- a slot was freed, after which the host has this in memory, and knows still what is of one sort
  slot_cleared : (y : ℕ) (m : HostState) (Kept : Fact → Type 0) → y < v.locks.geometry.hosts → freeing y (host_at v.locks h) ≡ m
      → key_of m ≡ key_at v.locks h
      → ((a : Fact) → Kept a → IsGuarded v.locks.geometry (host_at v.locks h) (record_at v h) a
      → IsGuarded v.locks.geometry m (record_at v h) a)
      → ((a : Fact) → Kept a → (z : ℕ) → claim_guard_of a ≡ Some z → claim_of (host_at v.locks h) z ≢ 0 → z ≢ y)
      → FreesSlot v.locks h y (Ok tt) l → IsFreed v.locks h y (Ok tt) l → SlotFreed h m Kept v (with_locks v l)
  slot_cleared y m Kept has is_freeing same guard apart did freed = elim did [
    | inl free ↦ gone free
    | inr found ↦ elim (told_or (told_of v.locks)) [
      | inl none ↦ kept found.0 found.1 none
      | inr some ↦ gone (subst (λ (o : Option Told). IfSome o (λ t. ClearsSlot v.locks h y (Ok Claimed) l)) some.1 freed)
    ]
  ]
    where
      from : List ℕ
      from = slot_bytes (slot_of (host_at v.locks h) y)

      gone : ClearsSlot v.locks h y (Ok Claimed) l → SlotFreed h m Kept v (with_locks v l)
      gone free =
          let step = tested v h l is others (kinds.Slot y) from (slot_bytes slots.Free) (freeing y (host_at v.locks h)) has tt
          (ap key_of is_freeing ∙ same) free in
          record {
            memory = inl (free.mine ∙ is_freeing);
            registered = step.registered;
            keys = step.keys;
            passes = step.passes;
            facts = λ a stays. fact_stays v h l is others step.passes m (free.mine ∙ is_freeing) same a (guard a stays)
                (λ z of below was now. other_shown v h l is others y (slot_bytes slots.Free) z step below (apart a stays z of was));
          }

      kept : (slot : Slot) → ClearsSlot v.locks h y (Ok (Found slot)) l → told_of v.locks ≡ None → SlotFreed h m Kept v (with_locks v l)
      kept slot other none =
          let call = swap_of v.locks (kinds.Slot y) from (slot_bytes slots.Free) in
          let looks = shows_law v h l is others call (slot_bytes slot) other.0 in
          record {
            memory = inr (none, looks.memory);
            registered = looks.registered;
            keys = ap (λ (s : State). s.keys) looks.state;
            passes = passes_law v h call (Shows (slot_bytes slot)) (host_at v.locks h) l is others other.0 refl
                (record { kind = kinds.Slot y; lock = tt; has = has; at = refl });
            facts = λ a stays. looks.facts a;
          }

  pub slot_freed_law : (y : ℕ) → y < v.locks.geometry.hosts → claim_of (host_at v.locks h) y ≢ 0 → FreesSlot v.locks h y (Ok tt) l
      → IsFreed v.locks h y (Ok tt) l → HasFreed h y v (with_locks v l)
  slot_freed_law y has claim =
      let g = v.locks.geometry in
      let m = host_at v.locks h in
      slot_cleared y (with_claim y 0 m) (λ a. claim_guard_of a ≢ Some y) has
      (ap (λ b. cond b (left m) (with_claim y 0 m)) (ne_eqb (claim_of m y) 0 claim)) refl
      (λ a other. guard_unclaimed g y m (with_claim y 0 m) (record_at v h) a (claim_all g y 0 m) (λ z ne. claim_else y 0 z m ne) other)
      (λ a other z of was. claim_apart a y z other of)

  pub left_law : claim_of (host_at v.locks h) h ≡ 0 → FreesSlot v.locks h h (Ok tt) l → IsFreed v.locks h h (Ok tt) l
      → HasLeft h v (with_locks v l)
  left_law unclaimed did =
      let m = host_at v.locks h in
      let none : (claim_of m h == 0) ≡ true = rw unclaimed refl in
      slot_cleared h (left m) IsOfKeyOrClaim (below did) (ap (λ b. cond b (left m) (with_claim h 0 m)) none) refl
      (λ a stays guard. left_guard v.locks.geometry m (record_at v h) a stays guard)
      (λ a stays z of was e. was (ap (claim_of m) e ∙ unclaimed)) did
    where
      below : FreesSlot v.locks h h (Ok tt) l → h < v.locks.geometry.hosts
      below (inl free) = ((is.memories h).named (registered_some v.locks h is free.acts.admitted)).0
      below (inr other) = ((is.memories h).named (registered_some v.locks h is other.1.0.acts.admitted)).0
