-- The first steps of the plans of a lone host: a key is asked for, the own slot is entered, and the slot of another host is read.
use Rattle.std.proofs.Common.{◌≡◌, ◌≢◌, ◌+◌, ◌*◌, ◌%◌, ◌<◌, ◌≤◌, ◌^◌, ◌∙◌, ℕ, [], Bool, true, false, Option, refl, ap, sym, subst, arith}
use Rattle.std.specs.Prelude.{Contains, Err, Ok}
use Rattle.vol_base.specs.declared.block.Key.{Key}
use Rattle.vol_layout.specs.declared.geometry.Geometry.{Geometry}
use Rattle.vol_layout.specs.declared.kind.Kind.TheVariants as kinds
use Rattle.shared_disk.specs.Events.{Refuses, Registers, event}
use Rattle.shared_disk.specs.State.{State}
use Rattle.shared_disk.specs.declared.answers.DiskNo.{DiskNo}
use Rattle.shared_disk.specs.declared.answers.DiskNo.TheVariants as refusals
use Rattle.slot_lock_blocks.specs.declared.slot.Slot.{Slot}
use Rattle.slot_lock_blocks.specs.declared.slot.Slot.TheVariants as slots
use Rattle.slot_lock_blocks.specs.Slots.{IsSlot, slot_bytes, slot_key}
use Rattle.call_effects.specs.Places.{KeepsFiles}
use Rattle.lock_store.specs.declared.answers.Claim.TheVariants.{Claimed, Found}
use Rattle.lock_store.specs.declared.answers.StepNo.{StepNo}
use Rattle.lock_store.specs.declared.host.HostState.{HostState}
use Rattle.lock_store.specs.Calls.{RegistersHost}
use Rattle.lock_store.specs.Memories.{claim_of, key_of}
use Rattle.lock_store.specs.SlotTries.{ReadsSlot}
use Rattle.lock_store.specs.Views.{counter_of, host_at, key_at, keys_of, told_of}
use Rattle.disk_locks.specs.Calls.{EntersSlot, key}
use Rattle.disk_locks.specs.Consistent.{Consistent}
use Rattle.disk_locks.specs.Others as locks'
use Rattle.watch.specs.Looks.{nothing}
use Rattle.host_facts.specs.Facts.{locks_of}
use Rattle.host_facts.specs.Facts.Fact.{DeadRecord, RecordIs}
use Rattle.host_facts.specs.Knows.{Knows}
use Rattle.host_facts.specs.Looks.{Looks}
use Rattle.host_facts.specs.SlotResults.{HasSeen}
use Rattle.host_facts.specs.Views.{WorldView}
use Rattle.host_facts.specs.laws.FindsLaws.{stands_sure}
use Rattle.host_facts.specs.laws.LockFacts.{slot_read_law}
use Rattle.host_facts.specs.laws.ToldLaws.{both_same, map_told}
use Rattle.host_notes.specs.laws.TurnLaws.{refused_same}
use Rattle.plan_parts.specs.Cuts.{IsCauseOf, IsCutBy}
use Rattle.plan_parts.specs.Steps.{IsReady}
use Rattle.plan_parts.specs.laws.QuietCallLaws.{valid_now}
use Rattle.host_runs.specs.Notes.{Notes}
use Rattle.vol_base.specs.declared.command.Command.{Command}
use Rattle.recover_plan.specs.LoneSteps.{IsRefused, IsSlotFree, LoneCame, LoneStepped}
use Rattle.recover_plan.specs.Lones.{IsOnWay, LoneAt, entry_by, found_other, found_own, keys_left, lone_left}
use Rattle.recover_plan.specs.Plans.{PlanStands}
use Rattle.recover_plan.specs.Replaying.{IsRecoverer}
use Rattle.recover_plan.specs.Replays.{IsThere, SlotsStay}
use Rattle.recover_plan.specs.declared.lone.Came.TheVariants.{End, More}
use Rattle.recover_plan.specs.declared.lone.Lone.{Lone}
use Rattle.recover_plan.specs.declared.lone.Lone.TheVariants as lones
use Rattle.recover_plan.specs.declared.lone.LoneEnd.{LoneEnd}
use Rattle.recover_plan.specs.declared.lone.LoneEnd.TheVariants as ends
use Rattle.recover_plan.specs.declared.plan.Doing.TheVariants as doings
use Rattle.recover_plan.specs.declared.replay.Replay.TheVariants.{Fence, Journal}
use Rattle.recover_plan.specs.laws.FreeLaws.{free_state}
use Rattle.recover_plan.specs.laws.JoinEntries as entries
use Rattle.recover_plan.specs.laws.JoinSteps as tries
use Rattle.recover_plan.specs.laws.RegisterLaws.{entering, nothing_watched}
use Rattle.recover_plan.specs.laws.SlotEndings.{taken_key}
use Rattle.recover_plan.specs.laws.StageLaws.{base_on}
use Rattle.recover_plan.specs.laws.StepLaws.{locks_else, ready_key, ready_same, there_on, slots_same, slots_written}
use Rattle.recover_plan.specs.Replays.{IsShut}
use Rattle.recover_plan.specs.laws.StepLaws.{counter_kept, key_kept, key_looked, locks_by, locks_same}
use Rattle.lock_store.specs.declared.answers.StepNo.TheVariants as steps
use Rattle.shared_disk.specs.Calls.{after_register, next_key}
use Rattle.std.specs.Prelude.{List, ◌++◌, ◌∷◌}
use Rattle.std.proofs.lemmas.List.Elements.{Contains-append_right}

-- what cuts a command refuses the step
pub refused_by : (command : Command) (h : ℕ) (v w : WorldView) (why : StepNo) (Before : Notes → Type 0) → key_at v.locks h ≢ 0
    → IsShut v h why → IsCutBy command h v w why Before → IsRefused h v w why
refused_by command h v w why Before some shut (e, cut) = record {
  event = e;
  acts = cut.acts;
  cause = cut.cause;
  shut = λ fenced. (some, shut fenced);
  state = cut.state;
  geometry = cut.geometry;
  memory = cut.memory;
  same = cut.same;
}

-- a free slot that stands there is free
pub free_there : (w : WorldView) (h of : ℕ) → Contains (keys_of w.locks) (key_at w.locks h) → IsThere w h of slots.Free → IsSlotFree w of
free_there w h of here there =
    map_told (told_of w.locks) _ _ (there here) (λ t is. free_state w.locks.geometry t.image of is)

-- a key that was given is registered
given_key : (keys : List ℕ) (key : ℕ) → Contains (keys ++ key ∷ []) key
given_key keys key = Contains-append_right keys (key ∷ []) key (0, omega arith, refl)

-- a step that asks for no key leaves none to ask for
pub keys_kept : (v w : WorldView) (stage later : Lone) → counter_of w.locks ≡ counter_of v.locks → keys_left later ≡ 0
    → counter_of w.locks + keys_left later ≤ counter_of v.locks + keys_left stage
keys_kept v w stage later same none = omega (arith, same, none)

-- a key was asked for
module _ (v w : WorldView) (h of : ℕ) (c : Consistent v.locks) (later : Consistent w.locks) (others : locks'.Others h v.locks w.locks)
    (standing : w.standing ≡ v.standing) (at : LoneAt v h of lones.Register) where
  registers : PlanStands v h nothing doings.Register
  registers = record { host = at.1; at = at.2; watched = nothing_watched v h }

  pub asked_came : (key : Key) → RegistersHost v.locks h (Ok key) w.locks → LoneCame h of v w lones.Register (More lones.Enter)
  asked_came key did = record {
    files = both_same _ _ _ (ap (λ (s : State). s.told) did.acts.changes.1) (λ image f. refl);
    valid = valid_now w later;
    slots = slots_same v w of (ap (λ (s : State). s.told) did.acts.changes.1);
    locks = locks_by v w h (ap (λ (m : HostState). m.held) did.mine ∙ ap (λ (m : HostState). m.held) (sym at.2))
        (ap (λ (m : HostState). m.reading) did.mine ∙ ap (λ (m : HostState). m.reading) (sym at.2));
    registered = subst (λ k. Contains (keys_of w.locks) k) (sym (ap key_of did.mine))
        (subst (λ (s : State). Contains s.keys key.0) (sym did.acts.changes.1)
        (subst (λ k. Contains (after_register h v.locks.disk.state).keys k) (sym did.acts.changes.0)
        (given_key v.locks.disk.state.keys (next_key h v.locks.disk.state))));
    event = _;
    acts = did.acts;
    keys = let e = ap (λ (s : State). s.counter) did.acts.changes.1 in omega (arith, e);
    stands = (at.0, entering v w h nothing key c later others standing did registers);
    fewer = subst (λ (g : Geometry). 2 * locks_of g + 42 < 2 * locks_of v.locks.geometry + 43) (sym did.geometry) (omega arith);
  }

  pub spent_came : RegistersHost v.locks h (Err refusals.NoKeys) w.locks → LoneCame h of v w lones.Register (End ends.NoKeys)
  spent_came did =
      let state = refused_same _ v.locks.disk w.locks.disk refusals.NoKeys did.acts refl in record {
        files = both_same _ _ _ (ap (λ (s : State). s.told) state) (λ image f. refl);
        valid = valid_now w later;
        slots = slots_same v w of (ap (λ (s : State). s.told) state);
        locks = locks_same v w h did.mine;
        registered = tt;
        event = _;
        acts = did.acts;
        keys = let e = ap (λ (s : State). s.counter) state in omega (arith, e);
        stands = (did.mine ∙ at.2, ap (λ (s : State). s.counter) state ∙ did.acts.no_keys.0 refl);
        fewer = omega arith;
      }

  pub ask_refused : (cause_is : DiskNo) (why : StepNo) → why ≢ steps.Fenced
      → IsCauseOf why (event (key_at v.locks h) (Registers h) (Refuses cause_is)) v
      → RegistersHost v.locks h (Err cause_is) w.locks → IsRefused h v w why
  ask_refused cause_is why other cause did = record {
    event = event (key_at v.locks h) (Registers h) (Refuses cause_is);
    acts = did.acts;
    cause = cause;
    shut = λ fenced. absurd (other fenced);
    state = refused_same _ v.locks.disk w.locks.disk cause_is did.acts refl;
    geometry = did.geometry;
    memory = λ other. did.mine ∙ at.2;
    same = λ none. did.mine;
  }

-- the own slot was entered
pub entered_came : (v w : WorldView) (h of : ℕ) (from : Slot) (own : Key) (stage : Lone) → Consistent v.locks → Consistent w.locks
    → locks'.Others h v.locks w.locks → w.standing ≡ v.standing → IsRecoverer v h h → IsSlot from → own.0 ≡ key_at v.locks h
    → (slot_key from ≢ 0 → Knows v h (DeadRecord h [])) → EntersSlot v.locks h from (Ok Claimed) w.locks
    → of ≡ h → 0 < lone_left v.locks.geometry stage → LoneCame h of v w stage (End (ends.Joined own))
entered_came v w h of from own stage c later others standing base spelled is_key empty did own_is some =
    let joins = entries.has_joined v w h nothing from own c later others standing base spelled is_key empty did in record {
      files = joins.passes.files;
      valid = valid_now w later;
      slots = subst (λ y. SlotsStay v w y) (sym own_is) (slots_written v w h (kinds.Slot h) _ base.below
          (λ y ne same. ne (let one : y ≡ h = cc in one)) did.acts.changes.1);
      locks = locks_by v w h (ap (λ (m : HostState). m.held) did.mine) (ap (λ (m : HostState). m.reading) did.mine);
      registered = key_kept v w h (ap key_of did.mine) joins.keys joins.registered;
      event = _;
      acts = did.acts;
      keys = keys_kept v w stage lones.Ended (counter_kept _ _ _ did.acts tt) refl;
      stands = (
        entries.joined_ready v w h nothing from own c later others standing base spelled is_key empty did,
        is_key ∙ sym (ap key_of did.mine),
        own_is,
      );
      fewer = some;
    }

-- a try of the own free slot found another one
module _ (v u : WorldView) (h of : ℕ) (found : Slot) (c : Consistent v.locks) (later : Consistent u.locks)
    (others : locks'.Others h v.locks u.locks) (standing : u.standing ≡ v.standing)
    (did : EntersSlot v.locks h slots.Free (Ok (Found found)) u.locks) where
  first_stands : LoneAt v h of lones.Enter → PlanStands v h nothing doings.Enter
  first_stands at = record { host = at.1.base.host; at = at.1; watched = nothing_watched v h }

  first_found : LoneAt v h of lones.Enter → LoneCame h of v u lones.Enter (found_own false found)
  first_found at =
      let stands = first_stands at in
      let seen = tries.sees v u u h nothing nothing false found c later stands at.1.base.host others standing did in
      let is = tries.finds v u u h nothing nothing false found c later stands at.1.base.host others standing did in
      let free = tries.taken v u u h nothing nothing false found c later stands at.1.base.host others standing did in
      let on : IsOnWay u h h (Fence found) = record {
        lone = record { base = is.base; ready = λ other. absurd (other refl) };
        stands = record {
          base = is.base;
          unclaimed = is.unclaimed;
          spelled = is.spelled;
          some = taken_key found is.spelled free;
          other = λ own. let both : true ≡ false = sym (is.may.1 own) ∙ (is.base.apart refl).0 in absurd (let bad : ⊥ = cc in bad);
          shown = is.shown;
          by = is.by;
        };
        sees = record {
          there = there_on v u h h found seen.looks.geometry (ap key_of seen.looks.memory) seen.looks.registered
              (ap (λ (s : State). s.told) seen.looks.state)
              (stands_sure v.locks h (kinds.Slot h) (slot_bytes found) did.0.acts.changes.0);
          other = λ own. is.may.0 own is.unclaimed;
        };
      } in record {
        files = tries.still v u u h nothing nothing false found c later stands at.1.base.host others standing did did.0.acts.changes.2;
        valid = valid_now u later;
        slots = slots_same v u of (ap (λ (s : State). s.told) did.0.acts.changes.2);
        locks = locks_same v u h seen.looks.memory;
        registered = key_looked v u h seen.looks;
        event = _;
        acts = did.0.acts;
        keys = keys_kept v u lones.Enter (lones.First (Fence found)) (counter_kept _ _ _ did.0.acts tt) refl;
        stands = subst (λ y. IsOnWay u h y (Fence found)) (sym at.0) on;
        fewer = subst (λ (g : Geometry). locks_of g + 21 + locks_of g + 20 < 2 * locks_of v.locks.geometry + 42) (sym did.0.geometry)
            (omega arith);
      }

  again_found : LoneAt v h of lones.EnterAgain → LoneCame h of v u lones.EnterAgain (found_own true found)
  again_found at =
      let told = ap (λ (s : State). s.told) did.0.acts.changes.2 in record {
        files = both_same (told_of v.locks) (told_of u.locks) KeepsFiles told (λ image f. refl);
        valid = valid_now u later;
        slots = slots_same v u of told;
        locks = locks_same v u h did.0.mine;
        registered = key_kept v u h (ap key_of did.0.mine) (ap (λ (s : State). s.keys) did.0.acts.changes.2) did.0.acts.admitted;
        event = _;
        acts = did.0.acts;
        keys = keys_kept v u lones.EnterAgain lones.Ended (counter_kept _ _ _ did.0.acts tt) refl;
        stands = told ∙ at.2;
        fewer = omega arith;
      }

  pub found_came : (again : Bool) → LoneAt v h of (entry_by again) → LoneCame h of v u (entry_by again) (found_own again found)
  found_came false at = first_found at
  found_came true at = again_found at

-- what an entry stands on
pub entry_base : (v : WorldView) (h of : ℕ) (again : Bool) → LoneAt v h of (entry_by again) → IsRecoverer v h h × (claim_of (host_at v.locks h) h ≡ 0)
entry_base v h of false at = (at.1.base, at.1.unclaimed)
entry_base v h of true at = (at.1.base, at.1.unclaimed)

pub entry_own : (v : WorldView) (h of : ℕ) (again : Bool) → LoneAt v h of (entry_by again) → of ≡ h
entry_own v h of false at = at.0
entry_own v h of true at = at.0

pub entry_some : (g : Geometry) (again : Bool) → 0 < lone_left g (entry_by again)
entry_some g false = omega arith
entry_some g true = omega arith

-- the slot of another host
module _ (v : WorldView) (h of : ℕ) (c : Consistent v.locks) (at : LoneAt v h of lones.Find) where
  other_base : IsRecoverer v h of
  other_base = record { host = at.1; below = at.2; key = ready_key v h c at.3; apart = λ own. absurd (at.0 own) }

  -- it was claimed before
  pub claimed_on : (dead : ℕ) → claim_of (host_at v.locks h) of ≡ dead → dead ≢ 0 → dead < 2 ^ 64 → IsOnWay v h of (Journal (key dead))
  claimed_on dead is some small = record {
    lone = record { base = other_base; ready = λ other. at.3 };
    stands = record { base = other_base; some = (some, small); claim = is };
    sees = tt;
  }

  -- it was read
  module _ (w : WorldView) (slot : Slot) (later : Consistent w.locks) (others : locks'.Others h v.locks w.locks)
      (standing : w.standing ≡ v.standing) (unclaimed : claim_of (host_at v.locks h) of ≡ 0) (did : ReadsSlot v.locks h of (Ok slot) w.locks)
    where
      seen : HasSeen h slot v w
      seen = subst (λ (x : WorldView). HasSeen h slot v x) (locks_else v w standing) (slot_read_law v h w.locks c others of slot at.2 did)

      looks : Looks h v w
      looks = seen.looks

      ready : IsReady w h
      ready = ready_same v w h did.0.geometry did.0.mine (looks.facts (RecordIs [])) at.3

      there : IsThere w h of slot
      there = there_on v w h of slot looks.geometry (ap key_of looks.memory) looks.registered (ap (λ (s : State). s.told) looks.state)
          (stands_sure v.locks h (kinds.Slot of) (slot_bytes slot) did.0.acts.changes.0)

      registered : Contains (keys_of w.locks) (key_at w.locks h)
      registered =
          subst (λ k. Contains (keys_of w.locks) k) (sym (ap key_of looks.memory))
          (subst (λ (s : State). Contains s.keys (key_at v.locks h)) (sym looks.state) looks.registered)

      on : slot ≢ slots.Free → IsOnWay w h of (Fence slot)
      on taken =
          let base = base_on v w h of looks.geometry looks.memory looks.facts other_base in
          let some = taken_key slot did.1 taken in record {
            lone = record { base = base; ready = λ other. ready };
            stands = record {
              base = base;
              unclaimed = ap (λ (m : HostState). claim_of m of) looks.memory ∙ unclaimed;
              spelled = did.1;
              some = some;
              other = λ own. at.0 (sym (did.2 some) ∙ ap (λ (x : ℕ). x % 16) (own ∙ ap key_of looks.memory)
                  ∙ ((c.memories h).named other_base.key).1);
              shown = seen.shown;
              by = seen.by;
            };
            sees = record { there = there; other = λ own. did.3 (own ∙ ap key_of looks.memory) unclaimed };
          }

      more : slot ≢ slots.Free → LoneCame h of v w lones.Find (More (lones.First (Fence slot)))
      more taken = record {
        files = both_same (told_of v.locks) (told_of w.locks) KeepsFiles (ap (λ (s : State). s.told) looks.state) (λ image f. refl);
        valid = valid_now w later;
        slots = slots_same v w of (ap (λ (s : State). s.told) looks.state);
        locks = locks_same v w h looks.memory;
        registered = key_looked v w h looks;
        event = _;
        acts = did.0.acts;
        keys = keys_kept v w lones.Find (lones.First (Fence slot)) (counter_kept _ _ _ did.0.acts tt) refl;
        stands = on taken;
        fewer = subst (λ (g : Geometry). locks_of g + 21 + locks_of g + 20 < 2 * locks_of v.locks.geometry + 42) (sym looks.geometry)
            (omega arith);
      }

      pub read_came : LoneCame h of v w lones.Find (found_other slot)
      read_came = by_slot slot refl
        where
          by_slot : (s : Slot) → slot ≡ s → LoneCame h of v w lones.Find (found_other s)
          by_slot slots.Free is = record {
            files = both_same (told_of v.locks) (told_of w.locks) KeepsFiles (ap (λ (s : State). s.told) looks.state) (λ image f. refl);
            valid = valid_now w later;
            slots = slots_same v w of (ap (λ (s : State). s.told) looks.state);
            locks = locks_same v w h looks.memory;
            registered = key_looked v w h looks;
            event = _;
            acts = did.0.acts;
            keys = keys_kept v w lones.Find lones.Ended (counter_kept _ _ _ did.0.acts tt) refl;
            stands = (ready, free_there w h of registered (subst (λ (s : Slot). IsThere w h of s) is there));
            fewer = omega arith;
          }
          by_slot (slots.Live key beat) is =
              subst (λ (s : Slot). LoneCame h of v w lones.Find (More (lones.First (Fence s)))) is (more (λ free. let bad = sym is ∙ free in cc))
          by_slot (slots.Recovering key by) is =
              subst (λ (s : Slot). LoneCame h of v w lones.Find (More (lones.First (Fence s)))) is (more (λ free. let bad = sym is ∙ free in cc))

-- a recovery that goes on with a claim is one from its first step
pub goes_came : (v w : WorldView) (h of : ℕ) (dead : Key) (next : Lone) (end : Option LoneEnd)
    → LoneStepped h of v w (lones.First (Journal dead)) next end → LoneStepped h of v w lones.Find next end
goes_came v w h of dead next end is = record {
  files = is.files;
  valid = is.valid;
  slots = is.slots;
  locks = is.locks;
  registered = is.registered;
  event = is.event;
  acts = is.acts;
  keys = is.keys;
  stands = is.stands;
  fewer = let less = is.fewer in omega (arith, less);
}
