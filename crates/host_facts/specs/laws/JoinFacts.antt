-- What the entering of the own slot leaves to the host that makes the call: one law an answer.
use Rattle.std.proofs.Common.{◌≡◌, ◌≢◌, ◌⊎◌, ◌<◌, ◌∙◌, ◌∷◌, ℕ, List, [], true, refl, sym, ap, subst, inl, inr}
use Rattle.std.specs.Prelude.{Ok}
use Rattle.std.proofs.lemmas.Bool.{cases_eq}
use Rattle.vol_layout.specs.declared.geometry.Geometry.{Geometry}
use Rattle.vol_layout.specs.declared.kind.Kind.TheVariants as kinds
use Rattle.vol_layout.specs.Places.{place_of}
use Rattle.shared_disk.specs.State.{Stands}
use Rattle.slot_lock_blocks.specs.declared.slot.Slot.{Slot}
use Rattle.slot_lock_blocks.specs.declared.slot.Slot.TheVariants as slots
use Rattle.slot_lock_blocks.specs.Slots.{IsSlot, slot_bytes, slot_key}
use Rattle.image_view.specs.HostKeys.{slot_key_at}
use Rattle.image_view.specs.Images.{Image, block_at, written}
use Rattle.image_view.specs.Numbers.{journal}
use Rattle.image_view.specs.Valid.{IsValid}
use Rattle.image_view.specs.laws.FrameLaws.{journal_kept, write_only}
use Rattle.lock_store.specs.declared.answers.Claim.TheVariants.{Claimed, Found}
use Rattle.lock_store.specs.declared.host.HostState.{HostState}
use Rattle.lock_store.specs.Memories.{entered}
use Rattle.lock_store.specs.Views.{LocksView, counter_of, host_at, key_at}
use Rattle.disk_locks.specs.Calls.{EntersSlot, key}
use Rattle.disk_locks.specs.Consistent.{Consistent}
use Rattle.disk_locks.specs.Others as locks'
use Rattle.disk_locks.specs.Sure.{Sure}
use Rattle.host_facts.specs.Facts.Fact.{DeadRecord}
use Rattle.host_facts.specs.Knows.{Knows}
use Rattle.host_facts.specs.SlotResults.{HasJoined, HasSeen}
use Rattle.host_facts.specs.Views.{WorldView, record_at, with_locks}
use Rattle.host_facts.specs.laws.FindsLaws.{registered_some, shown_by, stands_sure, sure_found, sure_later}
use Rattle.host_facts.specs.laws.FoundLaws.{host_found}
use Rattle.host_facts.specs.laws.GuardLaws.{claim_apart, claim_else, entered_all, guard_unclaimed}
use Rattle.host_facts.specs.laws.LockFacts.{slot_seen}
use Rattle.host_facts.specs.laws.LockWrites.{fact_stays, image_written, other_shown, shows_law, tested}

-- the host of a slot that is free has no record
free_empty : (g : Geometry) (counter : ℕ) (i : Image) (h : ℕ) → IsValid g counter i → h < g.hosts → slot_key_at g i h ≡ 0
    → journal g i h ≡ []
free_empty g counter i h valid below none = elim (nil_or (journal g i h)) [
  | inl e ↦ e
  | inr some ↦ absurd ((valid.held.records h below some).0 none)
]
  where
    nil_or : {A : Type 0} (xs : List A) → (xs ≡ []) ⊎ (xs ≢ [])
    nil_or [] = inl refl
    nil_or (x ∷ xs) = inr (λ e. cc)

module _ (v : WorldView) (h : ℕ) (l : LocksView) (is : Consistent v.locks) (others : locks'.Others h v.locks l) where
  -- the own journal is empty, where the slot is free or the host knows it
  empty_from : (from : Slot) → IsSlot from → Stands v.locks.disk.state (place_of v.locks.geometry (kinds.Slot h)) (slot_bytes from)
      → (slot_key from ≢ 0 → Knows v h (DeadRecord h [])) → Sure v.locks h (λ i. journal v.locks.geometry i h ≡ [])
  empty_from from slot stands knows =
      let g = v.locks.geometry in
      elim (cases_eq (slot_key from) 0) [
        | inl free ↦ sure_found v.locks h (λ i. block_at g i (kinds.Slot h) ≡ slot_bytes from) (λ i. journal g i h ≡ []) is
            (λ i finds shows.
            free_empty g (counter_of v.locks) i h finds.agrees.valid (host_found v.locks h i finds) (shown_by g i h from slot shows ∙ free))
            (stands_sure v.locks h (kinds.Slot h) (slot_bytes from) stands)
        | inr some ↦ (knows some).sure
      ]

  pub entered_law : (from : Slot) → IsSlot from → EntersSlot v.locks h from (Ok Claimed) l → HasJoined h from v (with_locks v l)
  entered_law from slot did =
      let g = v.locks.geometry in
      let m = host_at v.locks h in
      let to = slot_bytes (slots.Live (key (key_at v.locks h)) 0) in
      let below = ((is.memories h).named (registered_some v.locks h is did.acts.admitted)).0 in
      let step = tested v h l is others (kinds.Slot h) (slot_bytes from) to (entered h m) below tt refl did in
      let joined : (host_at l h).joined ≡ true = ap (λ (n : HostState). n.joined) did.mine in
      record {
        memory = did.mine;
        joined = joined;
        registered = step.registered;
        keys = step.keys;
        passes = step.passes;
        facts = λ a other. fact_stays v h l is others step.passes (entered h m) did.mine refl a
            (guard_unclaimed g h m (entered h m) (record_at v h) a (entered_all g h m) (λ z ne. claim_else h 0 z m ne) other)
            (λ z of below' was now. other_shown v h l is others h to z step below' (claim_apart a h z other of));
        empty = λ knows. record {
          guard = (joined, tt);
          sure = sure_later v.locks l h (λ i j. j ≡ written g i (kinds.Slot h) to) (λ i. journal g i h ≡ [])
              (λ j. journal l.geometry j h ≡ []) is step.passes.key step.passes.registered
              (image_written v h l is others (kinds.Slot h) to step)
              (λ i j finds now none.
              subst (λ (k : Geometry). journal k j h ≡ []) (sym did.geometry)
              (ap (λ (x : Image). journal g x h) now
              ∙ journal_kept g i (written g i (kinds.Slot h) to) (kinds.Slot h) h (write_only g i (kinds.Slot h) to below) below (λ e. cc)
              ∙ none))
              (empty_from from slot did.acts.changes.0 knows);
        };
      }

  pub enter_found_law : (from slot : Slot) → EntersSlot v.locks h from (Ok (Found slot)) l → HasSeen h slot v (with_locks v l)
  enter_found_law from slot did =
      let below = ((is.memories h).named (registered_some v.locks h is did.0.acts.admitted)).0 in
      slot_seen v h l is others h slot below did.1 did.0.acts.changes.0 (shows_law v h l is others _ _ did.0)
