-- Each call that enters, claims or beats a slot keeps all consistent, and leaves to others what is theirs.
use Rattle.std.proofs.Common.{◌≡◌, ◌≢◌, ◌⊎◌, ◌<◌, ◌≤◌, ◌/◌, ◌%◌, ◌^◌, ◌==◌, ◌||◌, ℕ, List, [], ◌∷◌, Some, true, false, refl, sym, ap, ap₂, ◌∙◌, subst, arith, inl, inr}
use Rattle.std.specs.Prelude.{Contains, Err, IfSome, Ok, Result, slice_get}
use Rattle.std.proofs.lemmas.Bool.{cases_Bool, eqb-false, eqb-true}
use Rattle.std.proofs.lemmas.List.{get_or-set_same, get_or-set_other, length-set}
use Rattle.std.proofs.lemmas.List.Elements.{All-cons, All-nil}
use Rattle.vol_base.specs.declared.block.Key.{Key}
use Rattle.vol_layout.specs.declared.kind.Kind.TheVariants as kinds
use Rattle.vol_layout.specs.Places.{place_of}
use Rattle.shared_disk.specs.State.{Stands}
use Rattle.slot_lock_blocks.specs.declared.slot.Slot.{Slot}
use Rattle.slot_lock_blocks.specs.declared.slot.Slot.TheVariants.{Free, Live, Recovering}
use Rattle.slot_lock_blocks.specs.Keys.{IsKey}
use Rattle.slot_lock_blocks.specs.Slots.{IsSlot, slot_bytes, slot_key}
use Rattle.image_view.specs.HostKeys.{slot_key_at}
use Rattle.image_view.specs.Images.{Image, block_at, written}
use Rattle.image_view.specs.Spelled.{IsSlotOf}
use Rattle.lock_store.specs.declared.answers.Claim.{Claim}
use Rattle.lock_store.specs.declared.answers.Claim.TheVariants as claim
use Rattle.lock_store.specs.declared.answers.StepNo.{StepNo}
use Rattle.lock_store.specs.declared.host.HostState.{HostState}
use Rattle.lock_store.specs.declared.purpose.SlotUse.{SlotUse}
use Rattle.lock_store.specs.declared.purpose.SlotUse.TheVariants as uses
use Rattle.lock_store.specs.Calls.{AnyBlock}
use Rattle.lock_store.specs.Devices.{IsDevice}
use Rattle.lock_store.specs.Memories.{claim_of, entered, with_beat, with_claim}
use Rattle.lock_store.specs.SlotTries.{FitsSlot, TriesSlot, slot_by}
use Rattle.lock_store.specs.Views.{LocksView, counter_of, host_at, key_at, keys_of, told_of}
use Rattle.disk_locks.specs.Agreement.{shown_in}
use Rattle.disk_locks.specs.Calls.{Beats, ClaimsSlot, EntersSlot, entry_use, key, next_beat}
use Rattle.disk_locks.specs.Consistent.{Consistent}
use Rattle.disk_locks.specs.Freeing.{IsOut, IsUnneeded, MayEnterFrom}
use Rattle.disk_locks.specs.Memories.{IsMemory}
use Rattle.disk_locks.specs.Others.{Others}
use Rattle.disk_locks.specs.Sure.{Sure}
use Rattle.disk_locks.proofs.Called.{grounded, moves_same, refusal_law, shows_law, stands_block, stays_in, told_map, told_with, write_law}
use Rattle.disk_locks.specs.laws.GivenLaws.{slot_given, slot_places}
use Rattle.disk_locks.proofs.Ground.{Ground, live_shown}
use Rattle.disk_locks.proofs.Holds.{clash}
use Rattle.disk_locks.proofs.LockCalls.{own_word}
use Rattle.disk_locks.proofs.SlotFrames.{frame_slots, free_keyless, free_unneeded, live_alone, reads_alike, shown_host, shown_is}
use Rattle.disk_locks.proofs.SlotSteps.{SlotMoves, slot_step}
use Rattle.disk_locks.proofs.Steps.{Moves, StepImage}

-- what a try of a slot owes of the image
abbrev pub OwesSlot : LocksView → ℕ → HostState → ℕ → Slot → Slot → Image → Type 0
OwesSlot v h m y from to image = Ground v h image → block_at v.geometry image (kinds.Slot y) ≡ slot_bytes from → SlotMoves v h m y from to image

slot_image : (v : LocksView) (h : ℕ) (m : HostState) (y : ℕ) (from to : Slot) → Consistent v → y < v.geometry.hosts → key_at v h ≢ 0
    → Contains (keys_of v) (key_at v h) → Stands v.disk.state (place_of v.geometry (kinds.Slot y)) (slot_bytes from)
    → IfSome (told_of v) (λ t. OwesSlot v h m y from to t.image)
    → IfSome (told_of v) (λ t. StepImage v.geometry v.disk.state (counter_of v) (keys_of v) v.hosts h m t.image (written v.geometry t.image (kinds.Slot y) (slot_bytes to)))
slot_image v h m y from to is has some here stands owes =
    told_with (told_of v) (λ t. Ground v h t.image × (block_at v.geometry t.image (kinds.Slot y) ≡ slot_bytes from)) (λ t. OwesSlot v h m y from to t.image) _
    (told_with (told_of v) (λ t. Ground v h t.image) (λ t. slice_get t.image (place_of v.geometry (kinds.Slot y)) ≡ Some (slot_bytes from)) _ (grounded v h is here some) stands
    (λ t ground at_place. (ground, stands_block v.geometry t.image (kinds.Slot y) (slot_bytes from) at_place)))
    owes
    (λ t known owe. slot_step v h m y from to t.image known.0 has known.1 (owe known.0 known.1))

pub tried_slot_law : (v : LocksView) (h y : ℕ) (seen : SlotUse) (from to : Slot) (m : HostState) (result : Result Claim StepNo) (w : LocksView)
    → Consistent v → y < v.geometry.hosts → key_at v h ≢ 0 → TriesSlot v h y seen from to m result w → IsDevice w.disk.state
    → IsMemory v.geometry.hosts (counter_of v) h m → Moves (counter_of v) (host_at v h) m
    → Sure v h (OwesSlot v h m y from to) → Consistent w × Others h v w
tried_slot_law v h y seen from to m (Ok claim.Claimed) w is has some did device memory moves owes =
    write_law v h _ _ m w (kinds.Slot y) (slot_bytes to) is did device did.acts.changes.1 memory moves
    (slot_image v h m y from to is has some did.acts.admitted did.acts.changes.0 (owes did.acts.admitted))
tried_slot_law v h y seen from to m (Ok (claim.Found slot)) w is has some did device memory moves owes = shows_law v h _ _ (host_at v h) w is some did.0 (inr refl)
tried_slot_law v h y seen from to m (Err why) w is has some did device memory moves owes =
    refusal_law v h _ (place_of v.geometry (kinds.Slot y)) (FitsSlot seen y (host_at v h)) why w is some did

-- a slot with these keys is one of its host
live_of : (counter h : ℕ) (own : Key) (beat : ℕ) → IsSlot (Live own beat) → own.0 % 16 ≡ h → own.0 / 16 ≤ counter → IsSlotOf counter h (slot_bytes (Live own beat))
live_of counter h own beat is host given = record {
  slot = Live own beat;
  spelled = (is, refl);
  host = λ some. host;
  given = All-cons (λ k. k / 16 ≤ counter) own.0 [] given (All-nil (λ k. k / 16 ≤ counter));
}

claimed_of : (counter y : ℕ) (dead own : Key) → IsSlot (Recovering dead own) → dead.0 % 16 ≡ y → dead.0 / 16 ≤ counter → own.0 / 16 ≤ counter
    → IsSlotOf counter y (slot_bytes (Recovering dead own))
claimed_of counter y dead own is host given by = record {
  slot = Recovering dead own;
  spelled = (is, refl);
  host = λ some. host;
  given = All-cons (λ k. k / 16 ≤ counter) dead.0 (own.0 ∷ []) given (All-cons (λ k. k / 16 ≤ counter) own.0 [] by (All-nil (λ k. k / 16 ≤ counter)));
}

out_shown : (keys : List ℕ) (slot : Slot) → IsOut keys slot → slot_key slot ≢ 0 → Contains keys (slot_key slot) → ⊥
out_shown keys Free out some = absurd (some refl)
out_shown keys (Live key beat) out some = out
out_shown keys (Recovering key by) out some = out.0

out_by : (keys : List ℕ) (own : ℕ) (slot : Slot) → IsOut keys slot → (slot_by slot ≡ 0) ⊎ ((slot_by slot ≡ own) ⊎ (Contains keys (slot_by slot) → ⊥))
out_by keys own Free out = inl refl
out_by keys own (Live key beat) out = inl refl
out_by keys own (Recovering key by) out = inr (inr out.1)

enter_by : (keys : List ℕ) (own dead : ℕ) (slot : Slot) → MayEnterFrom own dead slot → (slot_by slot ≡ 0) ⊎ ((slot_by slot ≡ own) ⊎ (Contains keys (slot_by slot) → ⊥))
enter_by keys own dead Free may = inl refl
enter_by keys own dead (Live key beat) may = absurd may
enter_by keys own dead (Recovering key by) may = inr (inl may.0)

module _ (v : LocksView) (h : ℕ) (is : Consistent v) (below : h < v.geometry.hosts) (some : key_at v h ≢ 0) (w : LocksView) (device : IsDevice w.disk.state) where
  own_given : key_at v h / 16 ≤ counter_of v
  own_given = ((is.memories h).named some).2

  own_host : key_at v h % 16 ≡ h
  own_host = ((is.memories h).named some).1

  own_key : IsKey (key_at v h)
  own_key = own_word v h is below some

  -- what the numbers of a slot's block are, where it stands
  was_shown : (image : Image) (y : ℕ) (from : Slot) → IsSlot from → block_at v.geometry image (kinds.Slot y) ≡ slot_bytes from → shown_in (block_at v.geometry image (kinds.Slot y)) ≡ slot_key from
  was_shown image y from slot stands = ap shown_in stands ∙ (slot_places (slot_bytes from) from (slot, refl)).shown

  shown_key : (image : Image) (y : ℕ) (from : Slot) → IsSlot from → block_at v.geometry image (kinds.Slot y) ≡ slot_bytes from → slot_key_at v.geometry image y ≡ slot_key from
  unfolding slot_key_at
  shown_key image y from slot stands = was_shown image y from slot stands

  unneeded_from : (image : Image) (from : Slot) → IsSlot from → Ground v h image → block_at v.geometry image (kinds.Slot h) ≡ slot_bytes from
      → (slot_key from ≢ 0 → IsUnneeded v.geometry image h) → IsUnneeded v.geometry image h
  unneeded_from image from slot ground stands un =
      elim (cases_Bool (slot_key from == 0)) [
        | inl y ↦ free_unneeded v.geometry (counter_of v) image h ground.agrees.valid below (shown_key image h from slot stands ∙ eqb-true (slot_key from) 0 y)
        | inr n ↦ un (eqb-false (slot_key from) 0 n)
      ]

  -- the own slot is entered
  pub enter_law : (from : Slot) (result : Result Claim StepNo) → (host_at v h).joined ≡ false → (host_at v h).freed ≡ false → IsSlot from
      → MayEnterFrom (key_at v h) (claim_of (host_at v h) h) from → Sure v h (λ image. slot_key from ≢ 0 → IsUnneeded v.geometry image h)
      → EntersSlot v h from result w → Consistent w × Others h v w
  enter_law from result out stays slot may unneeded did =
      let m = entered h (host_at v h) in
      let was = is.memories h in
      let to = Live (key (key_at v h)) 0 in
      let small : h < 16 = omega (arith, below, is.geometry.hosts.1) in
      let unclaimed : claim_of m h ≡ 0 = get_or-set_same (host_at v h).claims h 0 0 (omega (arith, small, was.claims)) in
      let to_is : IsSlot to = (own_key, omega arith) in
      let now = slot_places (slot_bytes to) to (to_is, refl) in
      tried_slot_law v h h (entry_use from) from to m result w is below some did device (record {
        held = was.held;
        reading = was.reading;
        claims = length-set (host_at v h).claims h 0 ∙ was.claims;
        named = was.named;
        none = λ e. absurd (some e);
        keyless = λ e. absurd (some e);
        unclaimed = λ e. absurd (some e);
        out = λ e. absurd (let bad : ⊥ = cc in bad);
        own = λ e. unclaimed;
        gone = λ e. absurd (clash (host_at v h).freed e stays);
      }) (moves_same (counter_of v) (host_at v h) m refl (λ e. inl refl) (λ e. e))
      (λ here. told_map (told_of v) (λ t. slot_key from ≢ 0 → IsUnneeded v.geometry t.image h) (λ t. OwesSlot v h m h from to t.image) (unneeded here) (λ t un ground stands. record {
        slot = slot;
        of = live_of (counter_of v) h (key (key_at v h)) 0 to_is own_host own_given;
        to_slot = to_is;
        shown = inr (inl refl);
        by = inl refl;
        by_before = enter_by (keys_of v) (key_at v h) (claim_of (host_at v h) h) from may;
        shown_before = inl refl;
        stays_free = λ other. absurd (other refl);
        needed = inr (unneeded_from t.image from slot ground stands un);
        own = record {
          mine = λ e. refl;
          by_mine = λ e. absurd (some (sym e ∙ now.by));
          live = λ k j e. (now.live, now.second);
          by = λ k claimed. absurd (claimed unclaimed);
          dead = λ k claimed. absurd (claimed unclaimed);
        };
        frame = frame_slots v.geometry (counter_of v) (keys_of v) h h (host_at v h) m t.image ground.agrees.valid some own_host (record {
          key = refl;
          here = inl refl;
          claims_same = λ z ne. get_or-set_other (host_at v h).claims h z 0 0 ne;
          holds_same = λ q has'. refl;
          reads_same = λ q. inl (reads_alike (host_at v h) m refl q);
          freed = λ e. e;
        });
      }))

  -- a slot is claimed
  pub claim_law : (y : ℕ) (from : Slot) (result : Result Claim StepNo) → y < v.geometry.hosts → (y ≡ h → (host_at v h).joined ≡ false) → IsSlot from → slot_key from ≢ 0
      → Sure v h (λ image. IsOut (keys_of v) from) → ClaimsSlot v h y from result w → Consistent w × Others h v w
  claim_law y from result has own_out slot named fenced did =
      let m = with_claim y (slot_key from) (host_at v h) in
      let was = is.memories h in
      let to = Recovering (key (slot_key from)) (key (key_at v h)) in
      let small : y < 16 = omega (arith, has, is.geometry.hosts.1) in
      let claimed : claim_of m y ≡ slot_key from = get_or-set_same (host_at v h).claims y (slot_key from) 0 (omega (arith, small, was.claims)) in
      let to_is : IsSlot to = (shown_is from slot named, own_key) in
      let now = slot_places (slot_bytes to) to (to_is, refl) in
      tried_slot_law v h y uses.Take from to m result w is has some did device (record {
        held = was.held;
        reading = was.reading;
        claims = length-set (host_at v h).claims y (slot_key from) ∙ was.claims;
        named = was.named;
        none = was.none;
        keyless = was.keyless;
        unclaimed = λ e. absurd (some e);
        out = λ e r. ap₂ ◌||◌ refl (reads_alike (host_at v h) m refl r) ∙ was.out e r;
        own = λ joined. get_or-set_other (host_at v h).claims y h (slot_key from) 0 (λ e. clash (host_at v h).joined joined (own_out (sym e)))
            ∙ was.own joined;
        gone = was.gone;
      }) (moves_same (counter_of v) (host_at v h) m refl (stays_in (host_at v h)) (λ e. e))
      (λ here. told_map (told_of v) (λ t. IsOut (keys_of v) from) (λ t. OwesSlot v h m y from to t.image) (fenced here) (λ t out ground stands.
      let off = out_shown (keys_of v) from out named in
      let shown = was_shown t.image y from slot stands in
      let given = slot_given (counter_of v) y (block_at v.geometry t.image (kinds.Slot y)) (ground.agrees.valid.slots y has) in
      record {
        slot = slot;
        of = claimed_of (counter_of v) y (key (slot_key from)) (key (key_at v h)) to_is
            (shown_host v.geometry (counter_of v) t.image y (slot_key from) ground.agrees.valid has named shown) (subst (λ k. k / 16 ≤ counter_of v) shown given.0) own_given;
        to_slot = to_is;
        shown = inr (inr refl);
        by = inr refl;
        by_before = out_by (keys_of v) (key_at v h) from out;
        shown_before = inr off;
        stays_free = λ other free. absurd (named (free_keyless from free));
        needed = inl refl;
        own = record {
          mine = λ e. absurd (off (subst (λ k. Contains (keys_of v) k) (sym e ∙ now.shown) here));
          by_mine = λ e none. named (sym claimed ∙ none);
          live = λ k joined e. absurd (clash (host_at v h).joined joined (own_out e));
          by = λ k c. (now.by, now.shown ∙ sym claimed);
          dead = λ k c present. off (subst (λ n. Contains (keys_of v) n) now.shown present);
        };
        frame = frame_slots v.geometry (counter_of v) (keys_of v) h y (host_at v h) m t.image ground.agrees.valid some own_host (record {
          key = refl;
          here = inr (refl, refl);
          claims_same = λ z ne. get_or-set_other (host_at v h).claims y z (slot_key from) 0 ne;
          holds_same = λ q has'. refl;
          reads_same = λ q. inl (reads_alike (host_at v h) m refl q);
          freed = λ e. e;
        });
      }))

  -- the own slot shows the next beat
  pub beat_law : (result : Result Unit StepNo) → (host_at v h).joined ≡ true → Beats v h result w → Consistent w × Others h v w
  beat_law (Err why) joined did = refusal_law v h _ (place_of v.geometry (kinds.Slot h)) AnyBlock why w is some did
  beat_law (Ok done) joined did =
      let beat = next_beat (host_at v h).beat in
      let m = with_beat beat (host_at v h) in
      let was = is.memories h in
      let to = Live (key (key_at v h)) beat in
      let to_is : IsSlot to = (own_key, small_beat (host_at v h).beat) in
      let now = slot_places (slot_bytes to) to (to_is, refl) in
      let here = did.acts.admitted in
      write_law v h _ _ m w (kinds.Slot h) (slot_bytes to) is did device did.acts.changes (record {
        held = was.held;
        reading = was.reading;
        claims = was.claims;
        named = was.named;
        none = was.none;
        keyless = was.keyless;
        unclaimed = was.unclaimed;
        out = λ e. absurd (clash (host_at v h).joined joined e);
        own = was.own;
        gone = was.gone;
      }) (moves_same (counter_of v) (host_at v h) m refl (stays_in (host_at v h)) (λ e. e))
      (told_map (told_of v) (λ t. Ground v h t.image) _ (grounded v h is here some) (λ t ground.
      let block = block_at v.geometry t.image (kinds.Slot h) in
      let l = ground.agrees.valid.slots h below in
      let old = ground.agrees.agree h some (kinds.Slot h) below in
      let n = slot_places block l.slot l.spelled in
      let live = (old.live here joined refl).0 in
      let alone = live_alone l.slot (λ none. some (sym live ∙ n.live ∙ none)) in
      let its : slot_key l.slot ≡ key_at v h = sym n.shown ∙ live_shown block (key_at v h) some live in
      let unclaimed : claim_of (host_at v h) h ≢ 0 → ⊥ = λ claimed. some (sym (old.by here claimed).0 ∙ n.by ∙ alone) in
      slot_step v h m h l.slot to t.image ground below l.spelled.1 (record {
        slot = l.spelled.0;
        of = live_of (counter_of v) h (key (key_at v h)) beat to_is own_host own_given;
        to_slot = to_is;
        shown = inr (inl refl);
        by = inl refl;
        by_before = inl alone;
        shown_before = inl refl;
        stays_free = λ other. absurd (other refl);
        needed = inl (sym its);
        own = record {
          mine = λ e. joined;
          by_mine = λ e. absurd (some (sym e ∙ now.by));
          live = λ k j e. (now.live, now.second);
          by = λ k claimed. absurd (unclaimed claimed);
          dead = λ k claimed. absurd (unclaimed claimed);
        };
        frame = frame_slots v.geometry (counter_of v) (keys_of v) h h (host_at v h) m t.image ground.agrees.valid some own_host (record {
          key = refl;
          here = inl refl;
          claims_same = λ z ne. refl;
          holds_same = λ q has'. refl;
          reads_same = λ q. inl (reads_alike (host_at v h) m refl q);
          freed = λ e. e;
        });
      })))
    where
      small_beat : (beat : ℕ) → next_beat beat < 2 ^ 64
      small_beat beat = omega arith
