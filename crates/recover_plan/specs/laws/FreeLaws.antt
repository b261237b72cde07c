-- The last step of a `recover`: the slot that was claimed is freed.
use Rattle.std.proofs.Common.{◌≡◌, ◌≢◌, ◌⊎◌, ◌<◌, ℕ, List, [], None, Option, Some, true, ap, sym, subst, ◌∙◌, inl, inr, arith}
use Rattle.std.specs.Prelude.{IfSome, Ok}
use Rattle.vol_layout.specs.declared.geometry.Geometry.{Geometry}
use Rattle.vol_layout.specs.declared.kind.Kind.TheVariants as kinds
use Rattle.vol_layout.specs.declared.kind.Resource.{Resource}
use Rattle.vol_layout.specs.declared.kind.Resource.TheVariants as resources
use Rattle.vol_layout.specs.Ranges.{HasResource}
use Rattle.image_view.specs.HostKeys.{IsHeldBy, slot_key_at, slot_state_at}
use Rattle.image_view.specs.Images.{Image}
use Rattle.image_view.specs.Numbers.{journal}
use Rattle.vol_base.specs.Bytes.{u32_at}
use Rattle.image_view.specs.Images.{OnlyChanges, block_at, written}
use Rattle.image_view.specs.Valid.{IsValid}
use Rattle.image_view.specs.laws.FrameLaws.{IsHeldBy_kept, block_at-written, journal_kept, write_only}
use Rattle.slot_lock_blocks.specs.Slots.{slot_bytes}
use Rattle.slot_lock_blocks.specs.declared.slot.Slot.TheVariants as slots
use Rattle.host_notes.specs.lemmas.Words.{slot_says}
use Rattle.shared_disk.specs.State.{Told}
use Rattle.lock_store.specs.declared.host.HostState.{HostState}
use Rattle.lock_store.specs.declared.answers.Claim.TheVariants.{Claimed}
use Rattle.lock_store.specs.Memories.{claim_of, holds, with_claim}
use Rattle.disk_locks.specs.Calls.{ClearsSlot, FreesSlot, IsFreed}
use Rattle.disk_locks.specs.Others as locks'
use Rattle.host_facts.specs.Facts.Fact.{RecordIs}
use Rattle.host_facts.specs.FreedResults.{HasFreed}
use Rattle.host_facts.specs.laws.FindsLaws.{found}
use Rattle.host_facts.specs.laws.FoundLaws.{claim_found}
use Rattle.host_facts.specs.laws.FreedFacts.{slot_freed_law}
use Rattle.plan_parts.specs.Steps.{IsReady}
use Rattle.recover_plan.specs.laws.StepLaws.{locks_else, ready_on}
use Rattle.lock_store.specs.Views.{counter_of, host_at, told_of}
use Rattle.disk_locks.specs.Consistent.{Consistent}
use Rattle.disk_locks.specs.Freeing.{IsUnneeded, MayFreeSlot}
use Rattle.disk_locks.specs.Sure.{BothTold, Sure}
use Rattle.host_facts.specs.Facts.{locks_of, turn_of}
use Rattle.host_facts.specs.Views.{WorldView}
use Rattle.host_facts.specs.laws.ToldLaws.{both_with, both_written, map_told, sure_and}
use Rattle.watch.specs.declared.watch.Look.{Look}
use Rattle.recover_plan.specs.Plans.{IsRecovering}
use Rattle.recover_plan.specs.Replaying.{IsSwept}

-- each lock of the volume has its turn
turn_below : (g : Geometry) (r : Resource) → HasResource g r → turn_of g r < locks_of g
turn_below g (resources.File f) has = omega (arith, has)
turn_below g (resources.Part p) has = omega (arith, has)
turn_below g (resources.Group q) has = omega (arith, has)

-- nothing needs what the slot of a dead host shows
pub swept_unneeded : (v : WorldView) (h of dead : ℕ) → IsSwept v h of dead (locks_of v.locks.geometry)
    → Sure v.locks h (λ image. IsUnneeded v.locks.geometry image of)
swept_unneeded v h of dead swept here =
    map_told (told_of v.locks) _ _ (sure_and v.locks h _ _ swept.empty.sure swept.swept.sure here)
    (λ t both. record { empty = both.0; unheld = λ r has held. both.1 r has (turn_below v.locks.geometry r has) held })

pub may_free : (v : WorldView) (h of dead : ℕ) (watch : List (Option Look)) → IsRecovering v h of watch
    → IsSwept v h of dead (locks_of v.locks.geometry) → MayFreeSlot v.locks.geometry of h (host_at v.locks h)
may_free v h of dead watch is swept =
    inl (λ none. swept.claimed.some.0 (sym swept.claimed.claim ∙ none), λ own. absurd (is.other own))

-- the image of a slot that was freed: the slot is free, the journal is empty, and no lock is held by the dead key
pub record IsFreedImage (g : Geometry) (of dead : ℕ) (image : Image) : Type 0 where
  pub slot : slot_state_at g image of ≡ 0
  pub journal : journal g image of ≡ []
  pub unheld : (r : Resource) → HasResource g r → IsHeldBy g image r dead → ⊥

pub free_state : (g : Geometry) (image : Image) (of : ℕ) → block_at g image (kinds.Slot of) ≡ slot_bytes slots.Free → slot_state_at g image of ≡ 0
unfolding slot_state_at
free_state g image of is = ap (λ (block : List ℕ). u32_at block 8) is ∙ slot_says slots.Free

freed_image : (g : Geometry) (counter of dead : ℕ) (old new : Image) → of < g.hosts → IsValid g counter old → IsUnneeded g old of
    → slot_key_at g old of ≡ dead → new ≡ written g old (kinds.Slot of) (slot_bytes slots.Free) → IsFreedImage g of dead new
freed_image g counter of dead old new below valid unneeded key is =
    let only : OnlyChanges g old new (kinds.Slot of) = subst (λ (i : Image). OnlyChanges g old i (kinds.Slot of)) (sym is)
    (write_only g old (kinds.Slot of) (slot_bytes slots.Free) below) in
    record {
      slot = free_state g new of (ap (λ (i : Image). block_at g i (kinds.Slot of)) is
          ∙ block_at-written g old (kinds.Slot of) (slot_bytes slots.Free) below valid.long);
      journal = journal_kept g old new (kinds.Slot of) of only below (λ e. cc) ∙ unneeded.empty;
      unheld = λ r has held. unneeded.unheld r has (subst (λ (x : ℕ). IsHeldBy g old r x) (sym key)
          (IsHeldBy_kept g new old (kinds.Slot of) r dead (λ other there ne. sym (only other there ne)) has (λ e. cc) held));
    }

pub by_told : (old new : Option Told) (R : Image → Image → Type 0) (C : Type 0) (Q : Told → Type 0) → BothTold old new R
    → IfSome old (λ t. C) → (C → IfSome new Q) → IfSome new Q
by_told None None R C Q both some f = tt
by_told None (Some u) R C Q both some f = absurd both
by_told (Some t) None R C Q both some f = absurd both
by_told (Some t) (Some u) R C Q both some f = f some

pub behind_told : (old new : Option Told) (Q : Image → Type 0) → BothTold old new (λ i j. Q j) → IfSome new (λ t. Q t.image)
behind_told None None Q both = tt
behind_told None (Some u) Q both = absurd both
behind_told (Some t) None Q both = tt
behind_told (Some t) (Some u) Q both = both

module _ (v w : WorldView) (h of dead : ℕ) (watch : List (Option Look)) (c : Consistent v.locks) (later : Consistent w.locks)
    (is : IsRecovering v h of watch) (swept : IsSwept v h of dead (locks_of v.locks.geometry))
    (others : locks'.Others h v.locks w.locks) (standing : w.standing ≡ v.standing) (done : Unit)
    (did : FreesSlot v.locks h of (Ok done) w.locks) (freed : IsFreed v.locks h of (Ok done) w.locks) where
  pub claimed : claim_of (host_at v.locks h) of ≢ 0
  claimed none = swept.claimed.some.0 (sym swept.claimed.claim ∙ none)

  pub has_freed : HasFreed h of v w
  has_freed = subst (λ (x : WorldView). HasFreed h of v x) (locks_else v w standing)
      (slot_freed_law v h w.locks c others of is.below claimed did freed)

  -- the image behind the call, where it is told
  pub freed_now : IfSome (told_of w.locks) (λ t. IsFreedImage v.locks.geometry of dead t.image)
  freed_now =
      let g = v.locks.geometry in
      let sure = sure_and v.locks h _ _ (swept_unneeded v h of dead swept) (λ here. found v.locks h c here) in
      by_told (told_of v.locks) (told_of w.locks) _ (ClearsSlot v.locks h of (Ok Claimed) w.locks) _ has_freed.passes.images freed
      (λ cleared. behind_told (told_of v.locks) (told_of w.locks) (IsFreedImage g of dead)
      (both_with (told_of v.locks) (told_of w.locks) _ (λ i j. j ≡ written g i (kinds.Slot of) (slot_bytes slots.Free)) _
      (sure cleared.acts.admitted) (both_written v.locks.disk.state w.locks.disk.state _ _ cleared.acts.changes.1)
      (λ i j both same. freed_image g (counter_of v.locks) of dead i j is.below both.1.agrees.valid both.0
      (claim_found v.locks h i of both.1 is.below claimed ∙ swept.claimed.claim) same)))

  pub free_ready : IsReady w h
  free_ready =
      ready_on v w h has_freed.passes.geometry (by_memory has_freed.memory).0 (by_memory has_freed.memory).1
      (has_freed.facts (RecordIs []) (λ e. cc) is.ready.empty) is.ready
    where
      by_memory : (host_at w.locks h ≡ with_claim of 0 (host_at v.locks h)) ⊎ ((told_of v.locks ≡ None) × (host_at w.locks h ≡ host_at v.locks h))
          → ((host_at w.locks h).joined ≡ true) × ((r : Resource) → holds (host_at w.locks h) r ≡ holds (host_at v.locks h) r)
      by_memory (inl free) = (ap (λ (m : HostState). m.joined) free ∙ is.ready.joined, λ r. ap (λ (m : HostState). holds m r) free)
      by_memory (inr same) = (ap (λ (m : HostState). m.joined) same.1 ∙ is.ready.joined, λ r. ap (λ (m : HostState). holds m r) same.1)
