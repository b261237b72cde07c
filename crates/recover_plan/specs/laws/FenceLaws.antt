-- The steps by which the keys of a slot are taken off, and the slot is claimed.
use Rattle.std.proofs.Common.{◌≡◌, ◌≢◌, ◌+◌, ◌<◌, ◌∙◌, ℕ, List, [], None, Option, Some, refl, ap, sym, subst, arith, inl, inr}
use Rattle.std.specs.Prelude.{◌⊎◌, Err, Ok, false}
use Rattle.vol_base.specs.declared.block.Key.{Key}
use Rattle.vol_base.specs.declared.command.Command.{Command}
use Rattle.vol_base.specs.declared.command.Command.TheVariants.{Join, Recover}
use Rattle.vol_layout.specs.declared.kind.Kind.TheVariants as kinds
use Rattle.vol_layout.specs.Places.{place_of}
use Rattle.shared_disk.specs.Events.{Done, Fences, Reply, Shows, Tests, event}
use Rattle.slot_lock_blocks.specs.declared.slot.Slot.{Slot}
use Rattle.slot_lock_blocks.specs.declared.slot.Slot.TheVariants as slots
use Rattle.slot_lock_blocks.specs.Keys.{IsKey}
use Rattle.slot_lock_blocks.specs.Slots.{IsSlot, slot_bytes, slot_key}
use Rattle.image_view.specs.Images.{Image}
use Rattle.lock_store.specs.declared.answers.Claim.{Claim}
use Rattle.lock_store.specs.declared.answers.Claim.TheVariants as claims
use Rattle.lock_store.specs.declared.answers.StepNo.{StepNo}
use Rattle.lock_store.specs.declared.answers.StepNo.TheVariants as steps
use Rattle.lock_store.specs.declared.host.HostState.{HostState}
use Rattle.lock_store.specs.declared.purpose.SlotUse.TheVariants.{Take}
use Rattle.lock_store.specs.Calls.{AnyBlock, FencesKey}
use Rattle.lock_store.specs.Memories.{claim_of, holds, key_of, with_claim}
use Rattle.lock_store.specs.SlotTries.{FitsSlot, MayShow, slot_by}
use Rattle.lock_store.specs.Views.{host_at, key_at, keys_of, told_of}
use Rattle.disk_locks.specs.Calls.{ClaimsSlot, IsSound, key}
use Rattle.disk_locks.specs.Consistent.{Consistent}
use Rattle.disk_locks.specs.Freeing.{IsOut}
use Rattle.disk_locks.specs.Keys.{IsOff}
use Rattle.disk_locks.specs.Sure.{Sure}
use Rattle.watch.specs.declared.watch.Look.{Look}
use Rattle.host_runs.specs.CallRights.{MayFence}
use Rattle.host_runs.specs.NotedCalls.{SwapsKind}
use Rattle.host_runs.specs.Notes.{Notes}
use Rattle.host_runs.specs.Tries.{Tries, join_shows, no_tries, not_own, recover_shows, with_slot}
use Rattle.host_runs.specs.Words.{key_in, state_in}
use Rattle.host_facts.specs.Facts.Fact.{Given, Off, RecordIs, TableIs}
use Rattle.host_facts.specs.Knows.{Knows}
use Rattle.host_facts.specs.Others.{Others}
use Rattle.host_facts.specs.SlotResults.{HasClaimed, HasFenced, HasSeen}
use Rattle.host_facts.specs.Views.{WorldView}
use Rattle.host_facts.specs.laws.SlotFacts.{claim_found_law, claimed_law, fenced_law}
use Rattle.host_facts.specs.laws.ToldLaws.{both_same, join_told, map_told}
use Rattle.std.specs.Option.{option_or}
use Rattle.host_facts.specs.Looks.{Looks}
use Rattle.host_facts.specs.Wrote.{FilesStay}
use Rattle.call_effects.specs.Places.{KeepsFiles}
use Rattle.shared_disk.specs.State.{State}
use Rattle.host_runs.specs.Notes.{with_call}
use Rattle.recover_plan.specs.Stages.{steps_left}
use Rattle.host_notes.specs.Asked.{claim_call}
use Rattle.host_notes.specs.lemmas.Words.{one_is_no_two, slot_says, slot_shows}
use Rattle.host_notes.specs.laws.KeyMemories.{remembered_fences}
use Rattle.host_notes.specs.laws.NotedLaws.{no_claim_noted}
use Rattle.host_notes.specs.laws.OtherRights.{allowed_fence}
use Rattle.host_notes.specs.laws.SlotMemories.{remembered_claim, remembered_claim_found}
use Rattle.host_notes.specs.laws.SlotRights.{allowed_claim}
use Rattle.host_notes.specs.laws.TryLaws.{BySwap, tried_slot, tried_slot_found}
use Rattle.plan_parts.specs.QuietCalls.{Allows, QuietCall}
use Rattle.plan_parts.specs.laws.CutCallLaws.{cut_of}
use Rattle.plan_parts.specs.laws.QuietCallLaws.{quiet_call, valid_now}
use Rattle.recover_plan.specs.RecoverNotes.{FoundNoted, MayTakeOff, Recovers, StageNoted, dead_of, key_found}
use Rattle.recover_plan.specs.Replays.{IsCutAt, IsThere, SeesSlot, Went}
use Rattle.image_view.specs.Images.{block_at}
use Rattle.host_facts.specs.laws.FindsLaws.{stands_sure}
use Rattle.recover_plan.specs.laws.StepLaws.{none_told, slots_same, slots_written}
use Rattle.recover_plan.specs.Stages.{AreOff, IsSeen, Stands, behind_fence}
use Rattle.recover_plan.specs.declared.replay.Going.TheVariants as goings
use Rattle.recover_plan.specs.declared.replay.Replay.{Replay}
use Rattle.recover_plan.specs.declared.replay.Replay.TheVariants as stages
use Rattle.recover_plan.specs.laws.NoteLaws.{claimed_noting, fenced_noting, under_way_on}
use Rattle.recover_plan.specs.laws.StageLaws.{base_on, ready_on, ready_still, recoverer_on, seen_on}
use Rattle.recover_plan.specs.laws.StepLaws.{locks_else, there_on}
use Rattle.shared_disk.specs.laws.CalledLaws.{key_called}
use Rattle.std.specs.Prelude.{Contains}
use Rattle.recover_plan.specs.Replays.{HasKey, IsMet}
use Rattle.recover_plan.specs.laws.StepLaws.{counter_kept, key_kept, key_looked, locks_by, locks_same, shut_out}

-- the key of a slot that is not free is one
pub key_fits : (slot : Slot) → IsSlot slot → slot_key slot ≢ 0 → IsKey (slot_key slot)
key_fits slots.Free fits some = absurd (some refl)
key_fits (slots.Live key beat) fits some = fits.0
key_fits (slots.Recovering key by) fits some = fits.0

-- a slot may be claimed whose keys are known to be off
pub off_out : (v : WorldView) (h : ℕ) (slot : Slot) → IsSlot slot → AreOff v h slot
    → Sure v.locks h (λ (image : Image). IsOut (keys_of v.locks) slot)
off_out v h slots.Free fits off here =
    map_told (told_of v.locks) (λ t. IsOff v.locks.disk.state 0) (λ t. Unit {0}) (off.shown.sure here) (λ t is. tt)
off_out v h (slots.Live key beat) fits off here =
    map_told (told_of v.locks) (λ t. IsOff v.locks.disk.state key.0) (λ t. IsOut (keys_of v.locks) (slots.Live key beat))
    (off.shown.sure here)
    (λ t is. is.off)
off_out v h (slots.Recovering key by) fits off here =
    join_told (told_of v.locks) (λ t. IsOff v.locks.disk.state key.0) (λ t. IsOff v.locks.disk.state by.0)
    (λ t. IsOut (keys_of v.locks) (slots.Recovering key by)) (off.shown.sure here)
    ((off.by fits.1.0).sure here) (λ t is other. (is.off, other.off))

-- what may be taken off yet
may_key : (command : Command) (h own : ℕ) (watch : List (Option Look)) (slot : Slot) → slot_key slot ≢ 0
    → MayTakeOff command h own watch (stages.Fence slot) → MayFence command h own (slot_key slot) watch
may_key command h own watch slots.Free some may = absurd (some refl)
may_key command h own watch (slots.Live key beat) some may = may key.0 (0, omega arith, refl)
may_key command h own watch (slots.Recovering key by) some may = may key.0 (0, omega arith, refl)

may_next : (command : Command) (h own : ℕ) (watch : List (Option Look)) (slot : Slot)
    → MayTakeOff command h own watch (stages.Fence slot) → MayTakeOff command h own watch (behind_fence slot)
may_next command h own watch slots.Free may = tt
may_next command h own watch (slots.Live key beat) may = tt
may_next command h own watch (slots.Recovering key by) may = may by.0 (1, omega arith, refl)

none_next : (slot : Slot) → dead_of (behind_fence slot) ≡ None
none_next slots.Free = refl
none_next (slots.Live key beat) = refl
none_next (slots.Recovering key by) = refl

one_target : (a b : ℕ) → Fences a ≡ Fences b → a ≡ b
one_target a b is = cc

-- what a slot that was found makes of the tries
pub shown_by : (command : Command) (h own k : ℕ) (slot : List ℕ) (tries : Tries) → tries.shown ≡ None → tries.count ≡ k
    → (with_slot command h own slot tries).shown ≡ (with_slot command h own slot (record no_tries { count = k })).shown
shown_by Join h own k slot tries none count =
    ap (λ o. option_or o (not_own own (join_shows h tries slot))) none
    ∙ ap (λ c. not_own own (join_shows h (record no_tries { count = c }) slot)) count
shown_by (Recover of) h own k slot tries none count = ap (λ o. option_or o (not_own own (recover_shows slot))) none
shown_by command h own k slot tries none count = none

counts : (command : Command) (h of own : ℕ) (slot : List ℕ) (tries : Tries) → Recovers command h of
    → (with_slot command h own slot tries).count ≡ tries.count + 1
counts command h of own slot tries (inl joins) = ap (λ (c : Command). (with_slot c h own slot tries).count) joins.0
counts command h of own slot tries (inr recovers) = ap (λ (c : Command). (with_slot c h own slot tries).count) recovers

module _ (v w : WorldView) (h of : ℕ) (is : Consistent v.locks) (later : Consistent w.locks) (others : Others h v w)
    (same : w.standing ≡ v.standing) where
  -- a key is off
  module _ (target : Key) (did : FencesKey v.locks h target (Ok tt) w.locks) where
    fenced : HasFenced h target.0 v w
    fenced = subst (λ (x : WorldView). HasFenced h target.0 v x) (locks_else v w same) (fenced_law v h w.locks is others.locks target did)

    still : (slot : Slot) → IsThere v h of slot → IsThere w h of slot
    still slot = there_on v w h of slot did.geometry (ap key_of did.mine) fenced.registered fenced.told

    still_met : (slot : Slot) → IsMet v h of slot → IsMet w h of slot
    still_met slot met = record { there = still slot met.there; other = λ own. met.other (own ∙ ap key_of did.mine) }

    -- the own key is registered still, where it was another one
    own_kept : target.0 ≢ key_at v.locks h → HasKey w h
    own_kept other =
        subst (λ k. Contains (keys_of w.locks) k) (sym (ap key_of did.mine))
        (elim (key_called (Fences target.0) Done v.locks.disk.state w.locks.disk.state (key_at v.locks h) did.acts.changes fenced.registered) [
          | inl kept ↦ kept
          | inr same ↦ absurd (other (one_target target.0 (key_at v.locks h) same))
        ])

    no_test : (old new : List ℕ)
        → SwapsKind v.locks.geometry (kinds.Slot of) old new (Some (event (key_at v.locks h) (Fences target.0) Done)) → ⊥
    no_test old new swaps = let no : Fences target.0 ≡ Tests swaps.0 old new = swaps.2.0 in absurd cc

    fence_quiet : (command : Command) (watch : List (Option Look)) (k : ℕ) (stage next : Replay) → dead_of stage ≡ None
        → dead_of next ≡ None
        → (MayTakeOff command h (key_at v.locks h) watch stage → MayFence command h (key_at v.locks h) target.0 watch)
        → (MayTakeOff command h (key_at v.locks h) watch stage → MayTakeOff command h (key_at v.locks h) watch next)
        → QuietCall command h v w (event (key_at v.locks h) (Fences target.0) Done) (StageNoted command h of watch k v stage)
        (StageNoted command h of watch k w next)
    fence_quiet command watch k stage next none last fences more =
        quiet_call command v w h (Fences target.0) Done (host_at v.locks h) _ _ did tt others (valid_now w later) fenced.passes.files
        (λ m turn run before. allowed_fence v.locks h m turn target.0 Done
        (subst (λ (c : Command). MayFence c h (key_at v.locks h) target.0 m.old.watch) (sym run)
        (subst (λ (looks : List (Option Look)). MayFence command h (key_at v.locks h) target.0 looks) (sym before.under_way.watch_is)
        (fences before.may))))
        (fenced_noting command v w h of watch (Fences target.0) Done did.geometry
        (λ memory remembers. remembered_fences v.locks w.locks h memory remembers target tt did) k stage next none last
        (λ may. subst (λ own. MayTakeOff command h own watch next) (sym (ap key_of did.mine)) (more may)) (λ claims tries. refl)
        (λ old new swaps two. absurd (no_test old new swaps)))

    pub fence_went : (slot : Slot) (next : Replay) → IsSeen v h of slot → target.0 ≡ slot_key slot → next ≡ behind_fence slot
        → Went h of v w (stages.Fence slot) (goings.More next)
    fence_went slot next seen is_key is_next = record {
      event = event (key_at v.locks h) (Fences target.0) Done;
      shown = tt;
      stands = subst (λ (s : Replay). Stands w h of s) (sym is_next) (stands slot seen is_key);
      fewer = subst (λ (s : Replay). steps_left v.locks.geometry s < steps_left v.locks.geometry (stages.Fence slot)) (sym is_next)
          (fewer slot);
      unshown = λ taken none block shows. absurd cc;
      no_entry = λ old key swaps. no_test old (slot_bytes (slots.Live key 0)) swaps;
      key = ap key_of did.mine;
      counter = counter_kept _ _ _ did.acts tt;
      given = λ key. fenced.facts (Given key);
      tables = λ t p. fenced.facts (TableIs t p);
      slots = slots_same v w of fenced.told;
      sees = λ met. subst (λ (r : Replay). SeesSlot w h of r) (sym is_next) (sees slot (still_met slot met));
      registered = λ met. own_kept (λ own. seen.other (sym is_key ∙ own));
      locks = locks_same v w h did.mine;
      ready = ready_still v w h of did.geometry did.mine fenced.facts;
      quiet = λ command watch k recovers.
          subst (λ (s : Replay). QuietCall command h v w (event (key_at v.locks h) (Fences target.0) Done)
          (StageNoted command h of watch k v (stages.Fence slot)) (StageNoted command h of watch k w s)) (sym is_next)
          (fence_quiet command watch k (stages.Fence slot) (behind_fence slot) refl (none_next slot)
          (λ may. subst (λ x. MayFence command h (key_at v.locks h) x watch) (sym is_key)
          (may_key command h (key_at v.locks h) watch slot seen.some may))
          (may_next command h (key_at v.locks h) watch slot));
    }
      where
        off : (slot : Slot) → IsSeen v h of slot → target.0 ≡ slot_key slot → Knows w h (Off (slot_key slot))
        off slot seen is_key =
            subst (λ x. Knows w h (Off x)) is_key
            (fenced.off (λ none. seen.some (sym is_key ∙ none)) (subst (λ x. Knows v h (Given x)) (sym is_key) seen.shown))

        stands : (slot : Slot) → IsSeen v h of slot → target.0 ≡ slot_key slot → Stands w h of (behind_fence slot)
        stands slots.Free seen is_key = absurd (seen.some refl)
        stands (slots.Live key beat) seen is_key = (
          seen_on v w h of did.geometry did.mine fenced.facts (slots.Live key beat) seen,
          record { shown = off (slots.Live key beat) seen is_key; by = λ some. absurd (some refl) },
        )
        stands (slots.Recovering key by) seen is_key = (
          seen_on v w h of did.geometry did.mine fenced.facts (slots.Recovering key by) seen,
          seen.spelled.1.0,
          off (slots.Recovering key by) seen is_key,
        )

        sees : (slot : Slot) → IsMet w h of slot → SeesSlot w h of (behind_fence slot)
        sees slots.Free met = met.there
        sees (slots.Live key beat) met = met.there
        sees (slots.Recovering key by) met = met

        fewer : (slot : Slot) → steps_left v.locks.geometry (behind_fence slot) < steps_left v.locks.geometry (stages.Fence slot)
        fewer slots.Free = omega arith
        fewer (slots.Live key beat) = omega arith
        fewer (slots.Recovering key by) = omega arith

    pub fence_by_went : (slot : Slot) → IsSeen v h of slot → slot_by slot ≢ 0 → Knows v h (Off (slot_key slot)) → target.0 ≡ slot_by slot
        → Went h of v w (stages.FenceBy slot) (goings.More (stages.Claim slot))
    fence_by_went slot seen some off is_key = record {
      event = event (key_at v.locks h) (Fences target.0) Done;
      shown = tt;
      stands = (
        seen_on v w h of did.geometry did.mine fenced.facts slot seen,
        record {
          shown = fenced.facts (Off (slot_key slot)) off;
          by = λ other.
              subst (λ x. Knows w h (Off x)) is_key
              (fenced.off (λ none. some (sym is_key ∙ none)) (subst (λ x. Knows v h (Given x)) (sym is_key) seen.by));
        },
      );
      fewer = omega arith;
      unshown = λ taken none block shows. absurd cc;
      no_entry = λ old key swaps. no_test old (slot_bytes (slots.Live key 0)) swaps;
      key = ap key_of did.mine;
      counter = counter_kept _ _ _ did.acts tt;
      given = λ key. fenced.facts (Given key);
      tables = λ t p. fenced.facts (TableIs t p);
      slots = slots_same v w of fenced.told;
      sees = λ met. still slot met.there;
      registered = λ met. own_kept (λ own. met.other (sym is_key ∙ own));
      locks = locks_same v w h did.mine;
      ready = ready_still v w h of did.geometry did.mine fenced.facts;
      quiet = λ command watch k recovers.
          fence_quiet command watch k (stages.FenceBy slot) (stages.Claim slot) refl refl
          (λ may. subst (λ x. MayFence command h (key_at v.locks h) x watch) (sym is_key) may) (λ may. tt);
    }

  -- the slot is claimed
  module _ (from : Slot) (seen : IsSeen v h of from) where
    out : of ≡ h → (host_at v.locks h).joined ≡ false
    out own = (seen.base.apart own).0

    claim_right : (command : Command) → Recovers command h of → (reply : Reply) (Before : Notes → Type 0)
        → Allows command h v (event (key_at v.locks h) (claim_call v.locks h of from) reply) Before
    claim_right command recovers reply Before m turn run before =
        allowed_claim v.locks h m turn is of from reply seen.base.below seen.base.key seen.spelled seen.some seen.other
        (which recovers)
      where
        which : Recovers command h of → (of ≡ h) ⊎ (m.command ≡ Recover of)
        which (inl joins) = inl joins.1
        which (inr recovers) = inr (run ∙ recovers)

    pub claim_went : (dead : Key) → dead.0 ≡ slot_key from → ClaimsSlot v.locks h of from (Ok claims.Claimed) w.locks
        → Went h of v w (stages.Claim from) (goings.More (stages.Journal dead))
    claim_went dead is_key did = record {
      event = event (key_at v.locks h) (claim_call v.locks h of from) Done;
      shown = tt;
      stands = record {
        base = recoverer_on v w h of did.geometry (ap key_of did.mine) (ap (λ (m : HostState). m.joined) did.mine)
            (ap (λ (m : HostState). m.freed) did.mine) seen.base;
        some = subst IsKey (sym is_key) fits;
        claim = claimed.claim ∙ sym is_key;
      };
      fewer = omega arith;
      unshown = λ taken none block shows. absurd cc;
      no_entry = λ old live swaps.
          let written = new_block swaps.0 old (slot_bytes (slots.Live live 0)) swaps.2.0 in
          one_is_no_two (slot_says (slots.Live live 0)) (sym (ap state_in written) ∙ slot_says to);
      key = ap key_of did.mine;
      counter = counter_kept _ _ _ did.acts tt;
      given = λ x. claimed.facts (Given x);
      tables = λ t p. claimed.facts (TableIs t p);
      slots = slots_written v w of (kinds.Slot of) (slot_bytes to) seen.base.below (λ y ne same. ne (let one : y ≡ of = cc in one))
          did.acts.changes.1;
      sees = λ there. tt;
      registered = λ there. key_kept v w h (ap key_of did.mine) claimed.keys claimed.registered;
      locks = locks_by v w h (ap (λ (m : HostState). m.held) did.mine) (ap (λ (m : HostState). m.reading) did.mine);
      ready = ready_on v w h of did.geometry (ap (λ (m : HostState). m.joined) did.mine)
          (λ r. ap (λ (m : HostState). holds m r) did.mine) (claimed.facts (RecordIs []));
      quiet = λ command watch k recovers.
          quiet_call command v w h (claim_call v.locks h of from) Done (with_claim of (slot_key from) (host_at v.locks h)) _ _ did tt others
          (valid_now w later) claimed.passes.files (claim_right command recovers Done _)
          (claimed_noting command v w h of watch (claim_call v.locks h of from) Done did.geometry
          (λ memory remembers. remembered_claim v.locks w.locks h memory remembers of from is seen.base.below seen.base.key out seen.spelled
          seen.some did)
          k dead.0 (stages.Claim from) (goings.More (stages.Journal dead)) (λ x none. absurd cc) refl
          (λ held tries. ap (λ (t : Tries). t.shown)
          (tried_slot v.locks.geometry h command held (key_at v.locks h) tries of (BySwap (slot_bytes from) (slot_bytes to))
          seen.base.below))
          (λ old new swaps two. ap (λ x. Some x) (is_key ∙ sym shown ∙ ap key_in (new_block swaps.0 old new swaps.2.0))));
    }
      where
        claimed : HasClaimed h of (slot_key from) v w
        claimed =
            subst (λ (x : WorldView). HasClaimed h of (slot_key from) v x) (locks_else v w same)
            (claimed_law v h w.locks is others.locks of from seen.base.below seen.spelled seen.some did)

        fits : IsKey (slot_key from)
        fits = key_fits from seen.spelled seen.some

        to : Slot
        to = slots.Recovering (key (slot_key from)) (key (key_at v.locks h))

        shown : key_in (slot_bytes to) ≡ slot_key from
        shown =
            let given = ((is.memories h).named seen.base.key).2 in
            slot_shows to (fits, (seen.base.key, omega (arith, given, is.device.fits)))

        new_block : (place : ℕ) (old new : List ℕ) → claim_call v.locks h of from ≡ Tests place old new → slot_bytes to ≡ new
        new_block place old new calls = cc

    pub claim_found_went : (found : Slot) → AreOff v h from → ClaimsSlot v.locks h of from (Ok (claims.Found found)) w.locks
        → Went h of v w (stages.Claim from) (goings.Found from found)
    claim_found_went found off did = record {
      event = event (key_at v.locks h) (claim_call v.locks h of from) (Shows (slot_bytes found));
      shown = refl;
      stands = record {
        base = base_on v w h of looks.geometry looks.memory looks.facts seen.base;
        unclaimed = ap (λ (m : HostState). claim_of m of) looks.memory ∙ seen.unclaimed;
        source = seen.spelled;
        spelled = did.1;
        of_host = did.2;
        may = subst (λ (m : HostState). MayShow Take of m found) (sym looks.memory) did.3;
        shown = sees.shown;
        by = sees.by;
        some = seen.some;
        other = λ own. seen.other (own ∙ ap key_of looks.memory);
        off = looks.facts (Off (slot_key from)) off.shown;
      };
      fewer = tt;
      unshown = λ taken. absurd taken;
      no_entry = λ old live swaps. let no : Shows (slot_bytes found) ≡ Done = swaps.2.1 in absurd cc;
      key = ap key_of looks.memory;
      counter = counter_kept _ _ _ did.0.acts tt;
      given = λ x. looks.facts (Given x);
      tables = λ t p. looks.facts (TableIs t p);
      slots = slots_same v w of (ap (λ (s : State). s.told) looks.state);
      sees = λ there.
          let told = ap (λ (s : State). s.told) looks.state in
          let stands = stands_sure v.locks h (kinds.Slot of) (slot_bytes found) did.0.acts.changes.0 in (
            there_on v w h of found looks.geometry (ap key_of looks.memory) looks.registered told stands,
            told ∙ none_told (told_of v.locks) (join_told (told_of v.locks)
                (λ t. block_at v.locks.geometry t.image (kinds.Slot of) ≡ slot_bytes from)
                (λ t. block_at v.locks.geometry t.image (kinds.Slot of) ≡ slot_bytes found) (λ t. ⊥) (there looks.registered)
                (stands looks.registered) (λ t was now. did.0.acts.changes.1 (sym now ∙ was))),
          );
      registered = λ there. key_looked v w h looks;
      locks = locks_same v w h looks.memory;
      ready = ready_still v w h of looks.geometry looks.memory looks.facts;
      quiet = λ command watch k recovers.
          quiet_call command v w h (claim_call v.locks h of from) (Shows (slot_bytes found)) (host_at v.locks h) _ _ did.0 tt others
          (valid_now w later) (still looks.state) (claim_right command recovers (Shows (slot_bytes found)) _)
          (λ n was. noted command watch k recovers n was);
    }
      where
        sees : HasSeen h found v w
        sees =
            subst (λ (x : WorldView). HasSeen h found v x) (locks_else v w same)
            (claim_found_law v h w.locks is others.locks of from found seen.base.below did)

        looks : Looks h v w
        looks = sees.looks

        still : w.locks.disk.state ≡ v.locks.disk.state → FilesStay v w
        still state = both_same (told_of v.locks) (told_of w.locks) KeepsFiles (ap (λ (s : State). s.told) state) (λ image f. refl)

        noted : (command : Command) (watch : List (Option Look)) (k : ℕ) → Recovers command h of → (n : Notes)
            → StageNoted command h of watch k v (stages.Claim from) n
            → FoundNoted command h of watch k w found
            (with_call v.locks.geometry h command v.locks.disk.state
            (Some (event (key_at v.locks h) (claim_call v.locks h of from) (Shows (slot_bytes found)))) n)
        noted command watch k recovers n was =
            let own = key_at v.locks h in
            let unclaimed = no_claim_noted v.locks.geometry n.memory (host_at v.locks h) was.under_way.remembered of seen.base.below
            seen.unclaimed in
            let to = slots.Recovering (key (slot_key from)) (key own) in
            let tried_is = tried_slot_found v.locks.geometry h command n.memory.claims own n.tries of (slot_bytes from) (slot_bytes to)
            (slot_bytes found) seen.base.below unclaimed in record {
              under_way = under_way_on command v w h of watch (claim_call v.locks h of from) (Shows (slot_bytes found)) did.0.geometry
                  (λ memory remembers. remembered_claim_found v.locks w.locks h memory remembers of from found did) None None None
                  (key_found command h (key_at w.locks h) k found) n
                  (ap (λ (t : Tries). t.shown) tried_is
                  ∙ shown_by command h own k (slot_bytes found) n.tries was.under_way.shown_is (was.count refl)
                  ∙ ap (λ x. key_found command h x k found) (sym (ap key_of looks.memory)))
                  (λ x none. none)
                  (λ old new swaps two. let no : Shows (slot_bytes found) ≡ Done = swaps.2.1 in absurd cc) was.under_way;
              count = ap (λ (t : Tries). t.count) tried_is
                  ∙ counts command h of own (slot_bytes found) n.tries recovers ∙ ap (λ x. x + 1) (was.count refl);
            }

  -- a refused step cuts the command
  pub fence_cut : (target : Key) (stage : Replay) (why : StepNo) → FencesKey v.locks h target (Err why) w.locks
      → ((command : Command) (watch : List (Option Look)) → MayTakeOff command h (key_at v.locks h) watch stage
      → MayFence command h (key_at v.locks h) target.0 watch)
      → IsCutAt h of v w stage why
  fence_cut target stage why refused may = record {
    cuts = λ command watch k recovers.
        cut_of command v w h (Fences target.0) 0 tt others _
        (λ reply m turn run before. allowed_fence v.locks h m turn target.0 reply
        (subst (λ (c : Command). MayFence c h (key_at v.locks h) target.0 m.old.watch) (sym run)
        (subst (λ (looks : List (Option Look)). MayFence command h (key_at v.locks h) target.0 looks) (sym before.under_way.watch_is)
        (may command watch before.may))))
        AnyBlock why refused (never why refused);
    shut = shut_out v w h (Fences target.0) 0 AnyBlock why refused;
  }
    where
      never : (why : StepNo) → FencesKey v.locks h target (Err why) w.locks → (at : ℕ) → why ≡ steps.Bad at → told_of v.locks ≡ None
      never (steps.Bad there) refused at bad = absurd refused.1.1.acts.changes
      never other refused at bad = absurd cc

  pub fence_key_cut : (target : Key) (slot : Slot) (why : StepNo) → IsSeen v h of slot → target.0 ≡ slot_key slot
      → FencesKey v.locks h target (Err why) w.locks → IsCutAt h of v w (stages.Fence slot) why
  fence_key_cut target slot why seen is_key refused =
      fence_cut target (stages.Fence slot) why refused (λ command watch may.
      subst (λ x. MayFence command h (key_at v.locks h) x watch) (sym is_key)
      (may_key command h (key_at v.locks h) watch slot seen.some may))

  pub fence_by_cut : (target : Key) (slot : Slot) (why : StepNo) → target.0 ≡ slot_by slot
      → FencesKey v.locks h target (Err why) w.locks → IsCutAt h of v w (stages.FenceBy slot) why
  fence_by_cut target slot why is_key refused =
      fence_cut target (stages.FenceBy slot) why refused (λ command watch may.
      subst (λ x. MayFence command h (key_at v.locks h) x watch) (sym is_key) may)

  pub claim_cut : (from : Slot) (why : StepNo) → IsSeen v h of from → ClaimsSlot v.locks h of from (Err why) w.locks
      → IsSound {T = Claim} (Err why) v.locks → IsCutAt h of v w (stages.Claim from) why
  claim_cut from why seen refused sound = record {
    cuts = λ command watch k recovers.
        cut_of command v w h (claim_call v.locks h of from) (place_of v.locks.geometry (kinds.Slot of)) refl others _
        (λ reply. claim_right from seen command recovers reply _) (FitsSlot Take of (host_at v.locks h)) why refused
        (λ at bad. sound at (ap Err bad));
    shut = shut_out v w h (claim_call v.locks h of from) (place_of v.locks.geometry (kinds.Slot of)) (FitsSlot Take of (host_at v.locks h)) why
        refused;
  }
