-- What a beat, a fence and a claim leave to the host that makes the call: one law an answer.
use Rattle.std.proofs.Common.{◌≡◌, ◌≢◌, ◌<◌, ◌≤◌, ◌/◌, ◌∙◌, ℕ, Option, true, refl, sym, ap, subst, arith, inl, inr}
use Rattle.std.specs.Prelude.{Contains, IfSome, Ok}
use Rattle.std.proofs.lemmas.Bool.{cases_eq}
use Rattle.vol_base.specs.declared.block.Key.{Key}
use Rattle.vol_layout.specs.declared.geometry.Geometry.{Geometry}
use Rattle.vol_layout.specs.declared.kind.Kind.TheVariants as kinds
use Rattle.shared_disk.specs.Events.{Done, Fences}
use Rattle.shared_disk.specs.State.{State, Told}
use Rattle.slot_lock_blocks.specs.declared.slot.Slot.{Slot}
use Rattle.slot_lock_blocks.specs.declared.slot.Slot.TheVariants as slots
use Rattle.slot_lock_blocks.specs.Keys.{IsKey}
use Rattle.slot_lock_blocks.specs.Slots.{IsSlot, slot_bytes, slot_key}
use Rattle.image_view.specs.HostKeys.{slot_key_at}
use Rattle.image_view.specs.Images.{Image, block_at, written}
use Rattle.image_view.specs.laws.FrameLaws.{block_at-written}
use Rattle.lock_store.specs.declared.answers.Claim.TheVariants.{Claimed, Found}
use Rattle.lock_store.specs.declared.host.HostState.{HostState}
use Rattle.lock_store.specs.Calls.{FencesKey}
use Rattle.lock_store.specs.Memories.{claim_of, key_of, with_beat, with_claim}
use Rattle.lock_store.specs.Views.{LocksView, counter_of, host_at, key_at, keys_of, told_of}
use Rattle.disk_locks.specs.Calls.{Beats, ClaimsSlot, key, next_beat}
use Rattle.disk_locks.specs.Consistent.{Consistent}
use Rattle.disk_locks.specs.Keys.{IsOff}
use Rattle.disk_locks.specs.Others as locks'
use Rattle.disk_locks.specs.laws.SureLaws.{fenced_off}
use Rattle.host_facts.specs.Facts.{AreUnheld}
use Rattle.host_facts.specs.Finds.{Finds}
use Rattle.host_facts.specs.SlotResults.{HasBeaten, HasClaimed, HasFenced, HasSeen}
use Rattle.host_facts.specs.Views.{WorldView, record_at, with_locks}
use Rattle.host_facts.specs.laws.FindsLaws.{found, registered_some, shown_by, stands_sure}
use Rattle.host_facts.specs.laws.FoundLaws.{joined_unclaimed}
use Rattle.host_facts.specs.laws.ToldLaws.{both_same, both_with, map_told, sure_all, sure_and}
use Rattle.host_facts.specs.laws.GuardLaws.{beat_all, claim_all, claim_else, claim_is, guard_more}
use Rattle.host_facts.specs.laws.LockFacts.{slot_seen}
use Rattle.host_facts.specs.laws.LockWrites.{ShowsAgain, fact_stays, image_written, other_shown, shows_law, tested, wrote}
use Rattle.host_facts.specs.laws.PassLaws.{passes_law}

-- the key of a slot that is not free
key_fits : (slot : Slot) → IsSlot slot → slot_key slot ≢ 0 → IsKey (slot_key slot)
key_fits slots.Free fits some = absurd (some refl)
key_fits (slots.Live key beat) fits some = fits.0
key_fits (slots.Recovering key by) fits some = fits.0

module _ (v : WorldView) (h : ℕ) (l : LocksView) (is : Consistent v.locks) (others : locks'.Others h v.locks l) where
  pub beaten_law : (host_at v.locks h).joined ≡ true → Beats v.locks h (Ok tt) l → HasBeaten h v (with_locks v l)
  beaten_law joined did =
      let g = v.locks.geometry in
      let m = host_at v.locks h in
      let beat = next_beat m.beat in
      let block = slot_bytes (slots.Live (key (key_at v.locks h)) beat) in
      let below = ((is.memories h).named (registered_some v.locks h is did.acts.admitted)).0 in
      let step = wrote v h l is others (kinds.Slot h) block (with_beat beat m) below tt refl did in
      let unclaimed = λ (claim : claim_of m h ≢ 0).
      both_with (told_of v.locks) (told_of l) (λ i. Finds v.locks h i) (λ i j. j ≡ written g i (kinds.Slot h) block)
      (λ i j. slot_key_at g j h ≡ slot_key_at g i h) (found v.locks h is step.registered)
      (image_written v h l is others (kinds.Slot h) block step)
      (λ i j finds now. absurd (joined_unclaimed v.locks h i finds joined claim)) in
      record {
        memory = did.mine;
        registered = step.registered;
        keys = step.keys;
        passes = step.passes;
        facts = λ a. fact_stays v h l is others step.passes (with_beat beat m) did.mine refl a
            (guard_more g m (with_beat beat m) (record_at v h) a (beat_all g beat m) (λ y of claim. claim))
            (λ y of below' was now. elim (cases_eq y h) [
              | inl e ↦ subst (λ x. ShowsAgain x v (with_locks v l)) (sym e) (unclaimed (λ none. was (ap (claim_of m) e ∙ none)))
              | inr ne ↦ other_shown v h l is others h block y step below' ne
            ]);
      }

  pub fenced_law : (target : Key) → FencesKey v.locks h target (Ok tt) l → HasFenced h target.0 v (with_locks v l)
  fenced_law target did =
      let m = host_at v.locks h in
      let passes = passes_law v h (Fences target.0) Done m l is others did refl tt in
      let told : told_of l ≡ told_of v.locks = ap (λ (s : State). s.told) did.acts.changes in
      record {
        memory = did.mine;
        registered = did.acts.admitted;
        told = told;
        passes = passes;
        facts = λ a. fact_stays v h l is others passes m did.mine refl a (λ guard. guard)
            (λ y of below was now. both_same (told_of v.locks) (told_of l)
            (λ i j. slot_key_at v.locks.geometry j y ≡ slot_key_at v.locks.geometry i y) told (λ i. refl));
        off = λ some known. record {
          guard = λ none. known.guard (sym (ap key_of did.mine) ∙ none);
          sure = λ here.
              let given = known.sure (passes.registered (subst (λ k. Contains (keys_of l) k) passes.key here)) in
              subst (λ (o : Option Told). IfSome o (λ t. IsOff l.disk.state target.0)) (sym told)
              (map_told (told_of v.locks) (λ t. target.0 / 16 ≤ counter_of v.locks) (λ t. IsOff l.disk.state target.0) given
              (λ t is_given. fenced_off v.locks h target l some is_given did));
        };
      }

  pub claimed_law : (y : ℕ) (from : Slot) → y < v.locks.geometry.hosts → IsSlot from → slot_key from ≢ 0
      → ClaimsSlot v.locks h y from (Ok Claimed) l → HasClaimed h y (slot_key from) v (with_locks v l)
  claimed_law y from has slot some did =
      let g = v.locks.geometry in
      let m = host_at v.locks h in
      let n = with_claim y (slot_key from) m in
      let to = slots.Recovering (key (slot_key from)) (key (key_at v.locks h)) in
      let own = registered_some v.locks h is did.acts.admitted in
      let given = ((is.memories h).named own).2 in
      let to_fits : IsSlot to = (key_fits from slot some, (own, omega (arith, given, is.device.fits))) in
      let step = tested v h l is others (kinds.Slot y) (slot_bytes from) (slot_bytes to) n has tt refl did in
      let claim = claim_is y (slot_key from) m (omega (arith, has, is.geometry.hosts.1)) (is.memories h).claims in
      let claimed : claim_of (host_at l h) y ≡ slot_key from = ap (λ (k : HostState). claim_of k y) did.mine ∙ claim in
      let shown = both_with (told_of v.locks) (told_of l) (λ i. Finds v.locks h i × (block_at g i (kinds.Slot y) ≡ slot_bytes from))
      (λ i j. j ≡ written g i (kinds.Slot y) (slot_bytes to)) (λ i j. slot_key_at g j y ≡ slot_key_at g i y)
      (sure_and v.locks h (λ i. Finds v.locks h i) (λ i. block_at g i (kinds.Slot y) ≡ slot_bytes from) (found v.locks h is)
      (stands_sure v.locks h (kinds.Slot y) (slot_bytes from) did.acts.changes.0) step.registered)
      (image_written v h l is others (kinds.Slot y) (slot_bytes to) step)
      (λ i j was now.
      ap (λ (k : Image). slot_key_at g k y) now
      ∙ shown_by g (written g i (kinds.Slot y) (slot_bytes to)) y to to_fits
      (block_at-written g i (kinds.Slot y) (slot_bytes to) has was.0.agrees.valid.long)
      ∙ sym (shown_by g i y from slot was.1)) in
      record {
        memory = did.mine;
        claim = claimed;
        registered = step.registered;
        keys = step.keys;
        passes = step.passes;
        facts = λ a. fact_stays v h l is others step.passes n did.mine refl a
            (guard_more g m n (record_at v h) a (claim_all g y (slot_key from) m)
            (λ z of claims. elim (cases_eq z y) [
              | inl e ↦ λ none. some (sym (ap (claim_of n) e ∙ claim) ∙ none)
              | inr ne ↦ λ none. claims (sym (claim_else y (slot_key from) z m ne) ∙ none)
            ]))
            (λ z of below was now. elim (cases_eq z y) [
              | inl e ↦ subst (λ x. ShowsAgain x v (with_locks v l)) (sym e) shown
              | inr ne ↦ other_shown v h l is others y (slot_bytes to) z step below ne
            ]);
        sweeps = record {
          guard = (subst (λ (k : Geometry). y < k.hosts) (sym did.geometry) has, λ none. some (sym claimed ∙ none));
          sure = sure_all l h (λ i. AreUnheld l.geometry i 0 (slot_key_at l.geometry i y)) (λ i r has' lt. absurd (omega (arith, lt)));
        };
      }

  pub claim_found_law : (y : ℕ) (from slot : Slot) → y < v.locks.geometry.hosts → ClaimsSlot v.locks h y from (Ok (Found slot)) l
      → HasSeen h slot v (with_locks v l)
  claim_found_law y from slot has did =
      slot_seen v h l is others y slot has did.1 did.0.acts.changes.0 (shows_law v h l is others _ _ did.0)
