-- Each call that frees a slot keeps all consistent, and leaves to others what is theirs.
use Rattle.std.proofs.Common.{◌≡◌, ◌≢◌, ◌<◌, ◌≤◌, ◌/◌, ◌%◌, ◌^◌, ◌==◌, ◌||◌, ℕ, Bool, cond, true, false, refl, sym, ap, ap₂, ◌∙◌, subst, arith, inl, inr}
use Rattle.std.specs.Prelude.{Contains, IfSome, Result}
use Rattle.std.proofs.lemmas.Bool.{cases_Bool, eqb-true}
use Rattle.std.proofs.lemmas.List.{get_or-set_same, get_or-set_other, length-replicate, length-set}
use Rattle.std.proofs.lemmas.List.Elements.{All-nil}
use Rattle.vol_layout.specs.declared.kind.Kind.TheVariants as kinds
use Rattle.vol_layout.specs.declared.kind.Resource.{Resource}
use Rattle.vol_layout.specs.Ranges.{HasResource}
use Rattle.slot_lock_blocks.specs.declared.slot.Slot.TheVariants.{Free, Live, Recovering}
use Rattle.slot_lock_blocks.specs.Keys.{IsKey}
use Rattle.slot_lock_blocks.specs.Slots.{slot_bytes, slot_key}
use Rattle.image_view.specs.Images.{block_at}
use Rattle.image_view.specs.Spelled.{IsSlotOf}
use Rattle.lock_store.specs.declared.answers.Claim.{Claim}
use Rattle.lock_store.specs.declared.answers.StepNo.{StepNo}
use Rattle.lock_store.specs.declared.purpose.SlotUse.TheVariants as uses
use Rattle.lock_store.specs.Devices.{IsDevice}
use Rattle.lock_store.specs.Memories.{claim_of, holds, left, with_claim}
use Rattle.lock_store.specs.SlotTries.{TriesSlot}
use Rattle.lock_store.specs.Views.{LocksView, counter_of, host_at, key_at, keys_of, told_of}
use Rattle.disk_locks.specs.Agreement.{shown_in}
use Rattle.disk_locks.specs.Calls.{ClearsSlot, key}
use Rattle.disk_locks.specs.Consistent.{Consistent}
use Rattle.disk_locks.specs.Freeing.{IsUnneeded, MayFreeSlot}
use Rattle.disk_locks.specs.Others.{Others}
use Rattle.disk_locks.specs.Sure.{Sure}
use Rattle.disk_locks.proofs.Called.{left_holds, left_reads, moves_same, stays_in, told_map}
use Rattle.disk_locks.specs.laws.GivenLaws.{slot_places}
use Rattle.disk_locks.proofs.Holds.{clash}
use Rattle.disk_locks.proofs.LockCalls.{own_word}
use Rattle.disk_locks.proofs.SlotFrames.{frame_slots, reads_alike, second_small, shown_is}
use Rattle.disk_locks.proofs.SlotCalls.{OwesSlot, tried_slot_law}

free_slot_of : (counter y : ℕ) → IsSlotOf counter y (slot_bytes Free)
free_slot_of counter y = record { slot = Free; spelled = (tt, refl); host = λ some. absurd (some refl); given = All-nil (λ k. k / 16 ≤ counter) }

pub not_zero : (n : ℕ) → n ≢ 0 → (n == 0) ≡ false
not_zero n some = elim (cases_Bool (n == 0)) [ inl y ↦ absurd (some (eqb-true n 0 y)) | inr no_zero ↦ no_zero ]

pub zero_is : (n : ℕ) → n ≡ 0 → (n == 0) ≡ true
zero_is n none = rw none refl

module _ (v : LocksView) (h : ℕ) (is : Consistent v) (below : h < v.geometry.hosts) (some : key_at v h ≢ 0) (w : LocksView) (device : IsDevice w.disk.state) where
  own_host : key_at v h % 16 ≡ h
  own_host = ((is.memories h).named some).1

  own_key : IsKey (key_at v h)
  own_key = own_word v h is below some

  -- a claimed slot is freed
  pub free_claimed_law : (y : ℕ) (result : Result Claim StepNo) → y < v.geometry.hosts → claim_of (host_at v h) y ≢ 0 → (y ≡ h → (host_at v h).joined ≡ false)
      → Sure v h (λ image. IsUnneeded v.geometry image y)
      → TriesSlot v h y uses.Clear (Recovering (key (claim_of (host_at v h) y)) (key (key_at v h))) Free (with_claim y 0 (host_at v h)) result w → Consistent w × Others h v w
  free_claimed_law y result has named own_out unneeded did =
      let dead = claim_of (host_at v h) y in
      let m = with_claim y 0 (host_at v h) in
      let was = is.memories h in
      let from = Recovering (key dead) (key (key_at v h)) in
      let small : y < 16 = omega (arith, has, is.geometry.hosts.1) in
      let unclaimed : claim_of m y ≡ 0 = get_or-set_same (host_at v h).claims y 0 0 (omega (arith, small, was.claims)) in
      let now = slot_places (slot_bytes Free) Free (tt, refl) in
      tried_slot_law v h y uses.Clear from Free m result w is has some did device (record {
        held = was.held;
        reading = was.reading;
        claims = length-set (host_at v h).claims y 0 ∙ was.claims;
        named = was.named;
        none = was.none;
        keyless = was.keyless;
        unclaimed = λ e. absurd (some e);
        out = λ e r. ap₂ ◌||◌ refl (reads_alike (host_at v h) m refl r) ∙ was.out e r;
        own = λ joined. get_or-set_other (host_at v h).claims y h 0 0 (λ e. clash (host_at v h).joined joined (own_out (sym e)))
            ∙ was.own joined;
        gone = was.gone;
      }) (moves_same (counter_of v) (host_at v h) m refl (stays_in (host_at v h)) (λ e. e))
      (λ here. told_map (told_of v) (λ t. IsUnneeded v.geometry t.image y) (λ t. OwesSlot v h m y from Free t.image) (unneeded here) (λ t un ground stands.
      let block = block_at v.geometry t.image (kinds.Slot y) in
      let l = ground.agrees.valid.slots y has in
      let old = ground.agrees.agree h some (kinds.Slot y) has in
      let shown : shown_in block ≡ dead = (old.by here named).1 in
      let its : slot_key l.slot ≡ dead = sym (slot_places block l.slot l.spelled).shown ∙ shown in
      let dead_is : IsKey dead = subst IsKey its (shown_is l.slot l.spelled.0 (λ none. named (sym its ∙ none))) in
      record {
        slot = (dead_is, own_key);
        of = free_slot_of (counter_of v) y;
        to_slot = tt;
        shown = inl refl;
        by = inl refl;
        by_before = inr (inl refl);
        shown_before = inr (λ present. old.dead here named (subst (λ k. Contains (keys_of v) k) (sym shown) present));
        stays_free = λ other free. refl;
        needed = inr un;
        own = record {
          mine = λ e. absurd (some (sym e ∙ now.shown));
          by_mine = λ e. absurd (some (sym e ∙ now.by));
          live = λ k joined e. absurd (clash (host_at v h).joined joined (own_out e));
          by = λ k claimed. absurd (claimed unclaimed);
          dead = λ k claimed. absurd (claimed unclaimed);
        };
        frame = frame_slots v.geometry (counter_of v) (keys_of v) h y (host_at v h) m t.image ground.agrees.valid some own_host (record {
          key = refl;
          here = inr (refl, refl);
          claims_same = λ z ne. get_or-set_other (host_at v h).claims y z 0 0 ne;
          holds_same = λ q has'. refl;
          reads_same = λ q. inl (reads_alike (host_at v h) m refl q);
          freed = λ e. e;
        });
      }))

  -- the own slot is freed: the host leaves
  pub leave_law : (result : Result Claim StepNo) → (host_at v h).joined ≡ true
      → ((r : Resource) → HasResource v.geometry r → holds (host_at v h) r ≡ false) → claim_of (host_at v h) h ≡ 0
      → Sure v h (λ image. IsUnneeded v.geometry image h)
      → TriesSlot v h h uses.Clear (Live (key (key_at v h)) (host_at v h).beat) Free (left (host_at v h)) result w → Consistent w × Others h v w
  leave_law result joined none_held unclaimed unneeded did =
      let m = left (host_at v h) in
      let was = is.memories h in
      let from = Live (key (key_at v h)) (host_at v h).beat in
      let now = slot_places (slot_bytes Free) Free (tt, refl) in
      tried_slot_law v h h uses.Clear from Free m result w is below some did device (record {
        held = length-replicate {A = Bool} 144 false;
        reading = length-replicate {A = Bool} 64 false;
        claims = was.claims;
        named = was.named;
        none = λ e. absurd (some e);
        keyless = λ e. refl;
        unclaimed = was.unclaimed;
        out = λ e r. rw (left_holds (host_at v h) r, left_reads (host_at v h) r) refl;
        own = λ e. unclaimed;
        gone = λ e. refl;
      }) (moves_same (counter_of v) (host_at v h) m refl (λ e. inr refl) (λ e. refl))
      (λ here. told_map (told_of v) (λ t. IsUnneeded v.geometry t.image h) (λ t. OwesSlot v h m h from Free t.image) (unneeded here) (λ t un ground stands.
      let block = block_at v.geometry t.image (kinds.Slot h) in
      let l = ground.agrees.valid.slots h below in
      let old = ground.agrees.agree h some (kinds.Slot h) below in
      let n = slot_places block l.slot l.spelled in
      let beat_is : (host_at v h).beat < 2 ^ 64 = subst (λ b. b < 2 ^ 64) (sym n.second ∙ (old.live here joined refl).1) (second_small l.slot l.spelled.0) in
      record {
        slot = (own_key, beat_is);
        of = free_slot_of (counter_of v) h;
        to_slot = tt;
        shown = inl refl;
        by = inl refl;
        by_before = inl refl;
        shown_before = inl refl;
        stays_free = λ other free. refl;
        needed = inr un;
        own = record {
          mine = λ e. absurd (some (sym e ∙ now.shown));
          by_mine = λ e. absurd (some (sym e ∙ now.by));
          live = λ k j e. absurd (let bad : ⊥ = cc in bad);
          by = λ k claimed. absurd (claimed unclaimed);
          dead = λ k claimed. absurd (claimed unclaimed);
        };
        frame = frame_slots v.geometry (counter_of v) (keys_of v) h h (host_at v h) m t.image ground.agrees.valid some own_host (record {
          key = refl;
          here = inl refl;
          claims_same = λ z ne. refl;
          holds_same = λ q has. left_holds (host_at v h) q ∙ sym (none_held q has);
          reads_same = λ q. inr (refl, left_reads (host_at v h) q);
          freed = λ e. refl;
        });
      }))

  -- a slot is freed
  pub free_law : (y : ℕ) (result : Result Claim StepNo) → y < v.geometry.hosts → MayFreeSlot v.geometry y h (host_at v h)
      → Sure v h (λ image. IsUnneeded v.geometry image y) → ClearsSlot v h y result w → Consistent w × Others h v w
  free_law y result has (inl claimed) unneeded did =
      let other : (claim_of (host_at v h) y == 0) ≡ false = not_zero (claim_of (host_at v h) y) claimed.0 in
      free_claimed_law y result has claimed.0 claimed.1 unneeded
      (subst (λ b. TriesSlot v h y uses.Clear (cond b (Live (key (key_at v h)) (host_at v h).beat) (Recovering (key (claim_of (host_at v h) y)) (key (key_at v h)))) Free
      (cond b (left (host_at v h)) (with_claim y 0 (host_at v h))) result w) other did)
  free_law y result has (inr own) unneeded did =
      let none : (claim_of (host_at v h) y == 0) ≡ true = zero_is (claim_of (host_at v h) y) own.3 in
      let there = subst (λ b. TriesSlot v h y uses.Clear (cond b (Live (key (key_at v h)) (host_at v h).beat) (Recovering (key (claim_of (host_at v h) y)) (key (key_at v h)))) Free
      (cond b (left (host_at v h)) (with_claim y 0 (host_at v h))) result w) none did in
      leave_law result own.1 own.2 (ap (claim_of (host_at v h)) (sym own.0) ∙ own.3)
      (λ here. subst (λ x. IfSome (told_of v) (λ t. IsUnneeded v.geometry t.image x)) own.0 (unneeded here))
      (subst (λ x. TriesSlot v h x uses.Clear (Live (key (key_at v h)) (host_at v h).beat) Free (left (host_at v h)) result w) own.0 there)
