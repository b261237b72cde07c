-- The further steps of the plans of a lone host: the recovery of the slot, and its end.
use Rattle.std.proofs.Common.{◌≡◌, ◌≢◌, ◌≤◌, ◌+◌, ◌<◌, ℕ, List, Bool, true, false, None, Option, refl, sym, subst, arith, inr, replicate, inl, ap}
use Rattle.std.specs.Prelude.{IfSome, Ok}
use Rattle.std.proofs.lemmas.List.{get_or-replicate}
use Rattle.vol_base.specs.declared.block.Key.{Key}
use Rattle.vol_base.specs.declared.command.Command.TheVariants as commands
use Rattle.vol_layout.specs.declared.geometry.Geometry.{Geometry}
use Rattle.shared_disk.specs.Events.{Acts, Event}
use Rattle.shared_disk.specs.State.{Told}
use Rattle.slot_lock_blocks.specs.declared.slot.Slot.{Slot}
use Rattle.slot_lock_blocks.specs.declared.slot.Slot.TheVariants as slots
use Rattle.image_view.specs.HostKeys.{slot_state_at}
use Rattle.lock_store.specs.declared.answers.StepNo.{StepNo}
use Rattle.lock_store.specs.Views.{host_at, told_of}
use Rattle.disk_locks.specs.Calls.{FreesSlot, IsFreed}
use Rattle.disk_locks.specs.Consistent.{Consistent}
use Rattle.disk_locks.specs.Others as locks'
use Rattle.watch.specs.declared.watch.Look.{Look}
use Rattle.watch.specs.Looks.{count_of, look_at, nothing, seen}
use Rattle.host_facts.specs.Facts.{locks_of}
use Rattle.host_facts.specs.Others.{Others}
use Rattle.host_facts.specs.Views.{WorldView}
use Rattle.host_facts.specs.laws.ToldLaws.{map_told}
use Rattle.recover_plan.specs.LoneSteps.{IsRefused, IsSlotFree, LoneCame}
use Rattle.recover_plan.specs.Lones.{IsLone, IsOnWay, LoneAt, found_by, has_key, keys_left, lone_left, on_by}
use Rattle.recover_plan.specs.Plans.{IsRecovering, PlanStands}
use Rattle.recover_plan.specs.Recoveries.{IsSameLive}
use Rattle.recover_plan.specs.Replays.{IsCutAt, Went}
use Rattle.recover_plan.specs.Stages.{steps_left}
use Rattle.recover_plan.specs.declared.lone.Came.{Came}
use Rattle.recover_plan.specs.declared.lone.Came.TheVariants.{End, More}
use Rattle.recover_plan.specs.declared.lone.Lone.TheVariants as lones
use Rattle.recover_plan.specs.declared.lone.LoneEnd.TheVariants as ends
use Rattle.recover_plan.specs.declared.plan.Doing.TheVariants as doings
use Rattle.recover_plan.specs.declared.replay.Going.TheVariants as goings
use Rattle.recover_plan.specs.declared.replay.Replay.{Replay}
use Rattle.recover_plan.specs.declared.replay.Replay.TheVariants.{Claim}
use Rattle.host_runs.specs.DeviceCalls.{OnImage}
use Rattle.lock_store.specs.Memories.{claim_of}
use Rattle.plan_parts.specs.laws.QuietCallLaws.{valid_now}
use Rattle.recover_plan.specs.LoneSteps.{end_of, later_of}
use Rattle.recover_plan.specs.LoneSteps.{StandsBehind}
use Rattle.recover_plan.specs.Plans.{IsEntering}
use Rattle.recover_plan.specs.Replaying.{IsRecoverer}
use Rattle.recover_plan.specs.declared.replay.Going.{Going}
use Rattle.recover_plan.specs.laws.StepLaws.{slots_same, slots_written}
use Rattle.shared_disk.specs.State.{State}
use Rattle.slot_lock_blocks.specs.Slots.{slot_bytes}
use Rattle.vol_layout.specs.declared.kind.Kind.TheVariants as kinds
use Rattle.recover_plan.specs.laws.StageLaws.{again_seen}
use Rattle.recover_plan.specs.laws.CallsLeftLaws.{some_left}
use Rattle.recover_plan.specs.laws.FreeLaws as freed
use Rattle.recover_plan.specs.laws.LoneLaws.{keys_kept, refused_by}
use Rattle.recover_plan.specs.laws.RegisterLaws.{nothing_watched}
use Rattle.recover_plan.specs.laws.StageLaws.{base_of}
use Rattle.recover_plan.specs.LoneSteps.{HasKeyBehind}
use Rattle.recover_plan.specs.Replays.{HasKey}
use Rattle.recover_plan.specs.laws.StepLaws.{AsksNoKey, counter_kept, key_kept, locks_by, locks_same}
use Rattle.lock_store.specs.declared.host.HostState.{HostState}

-- at most so many steps are left behind a claim
abbrev pub claims_left : Geometry → Bool → ℕ
claims_left g false = locks_of g + 20
claims_left g true = 1

on_left : (g : Geometry) (again : Bool) (stage : Replay) → lone_left g (on_by again stage) ≡ steps_left g stage + claims_left g again
on_left g false stage = omega arith
on_left g true stage = refl

none_left : (again : Bool) (stage : Replay) → keys_left (on_by again stage) ≡ 0
none_left false stage = refl
none_left true stage = refl

on_at : (v : WorldView) (h of : ℕ) (again : Bool) (stage : Replay) → IsOnWay v h of stage → LoneAt v h of (on_by again stage)
on_at v h of false stage is = is
on_at v h of true stage is = is

module _ (v w : WorldView) (h of : ℕ) (again : Bool) (stage : Replay) (is : IsOnWay v h of stage) (others : Others h v w) where
  some : 0 < steps_left v.locks.geometry stage
  some = some_left v h of stage is.stands

  lone : (going : Going) → Went h of v w stage going → IsLone w h of
  lone going went = record { base = base_of w h of going went.stands; ready = λ other. went.ready (is.lone.ready other) }

  -- a step made one call: no file changed, and the image is valid
  stepped : (came : Came) (going : Going) → Went h of v w stage going → (HasKey w h → HasKeyBehind w h (end_of came))
      → keys_left (later_of came) ≡ 0 → StandsBehind w h of (later_of came) (end_of came)
      → lone_left w.locks.geometry (later_of came) < lone_left v.locks.geometry (on_by again stage) → LoneCame h of v w (on_by again stage) came
  stepped came going went behind none stands fewer =
      let quiet = went.quiet (commands.Recover of) nothing 0 (inr refl) in record {
        files = quiet.files;
        valid = quiet.valid;
        slots = went.slots;
        locks = went.locks;
        registered = behind (went.registered is.sees);
        event = went.event;
        acts = quiet.acts;
        keys = keys_kept v w (on_by again stage) (later_of came) went.counter none;
        stands = stands;
        fewer = fewer;
      }

  end_nearer : 0 < lone_left v.locks.geometry (on_by again stage)
  end_nearer = rw (on_left v.locks.geometry again stage) (omega (arith, some))

  last_nearer : (b : Bool) → again ≡ b → 1 < lone_left v.locks.geometry (on_by b stage)
  last_nearer false first = omega (arith, some)
  last_nearer true second = omega (arith, some)

  last_near : 1 < lone_left v.locks.geometry (on_by again stage)
  last_near = last_nearer again refl

  pub more_came : (next : Replay) → Went h of v w stage (goings.More next) → LoneCame h of v w (on_by again stage) (More (on_by again next))
  more_came next went =
      stepped (More (on_by again next)) (goings.More next) went (λ here. here) (none_left again next)
      (on_at w h of again next (record { lone = lone (goings.More next) went; stands = went.stands; sees = went.sees is.sees }))
      (rw (on_left w.locks.geometry again next, on_left v.locks.geometry again stage)
      (subst (λ (g : Geometry). steps_left g next + claims_left g again < steps_left v.locks.geometry stage + claims_left v.locks.geometry again)
      (sym others.locks.lasts.geometry) (let less = went.fewer in omega (arith, less))))

  pub ready_came : (dead : Key) → Went h of v w stage (goings.Ready dead) → LoneCame h of v w (on_by again stage) (More (lones.Last dead))
  ready_came dead went =
      stepped (More (lones.Last dead)) (goings.Ready dead) went (λ here. here) refl (lone (goings.Ready dead) went, went.stands) last_near

  -- a claim found another slot: the device tells nothing
  module _ (from found : Slot) (went : Went h of v w stage (goings.Found from found)) where
    untold : told_of w.locks ≡ None
    untold = (went.sees is.sees).1

    busy : LoneCame h of v w (on_by again stage) (End (ends.Busy (has_key found)))
    busy = stepped (End (ends.Busy (has_key found))) (goings.Found from found) went (λ here. here) refl untold end_nearer

    free_now : IsSlotFree w of
    free_now = subst (λ (o : Option Told). IfSome o (λ t. slot_state_at w.locks.geometry t.image of ≡ 0)) (sym untold) tt

    enters : (of ≡ h) → LoneCame h of v w (on_by again stage) (More lones.EnterAgain)
    enters own =
        stepped (More lones.EnterAgain) (goings.Found from found) went (λ here. here) refl (
          own,
          subst (λ y. IsEntering w y) own (record {
            base = subst (λ y. IsRecoverer w y of) (sym own) went.stands.base;
            unclaimed = subst (λ y. claim_of (host_at w.locks y) of ≡ 0) (sym own) went.stands.unclaimed;
          }),
          untold,
        ) last_near

    frees : (of ≢ h) → LoneCame h of v w (on_by again stage) (End ends.Free)
    frees other = stepped (End ends.Free) (goings.Found from found) went (λ here. here) refl ((lone (goings.Found from found) went).ready other, free_now) end_nearer

    claims : again ≡ false → IsSameLive from found → LoneCame h of v w (on_by again stage) (More (lones.Again (Claim found)))
    claims first same =
        stepped (More (lones.Again (Claim found))) (goings.Found from found) went (λ here. here) refl (record {
          lone = lone (goings.Found from found) went;
          stands = again_seen w h of from found went.stands same;
          sees = (went.sees is.sees).0;
        })
        (rw first (subst (λ (g : Geometry). steps_left g (Claim found) + 1 < steps_left v.locks.geometry stage + locks_of v.locks.geometry + 20)
        (sym others.locks.lasts.geometry) (omega (arith, some))))

    -- whose slot it is, and whether it shows the key that the claim was made from
    pub slot_came : (own same : Bool) → (own ≡ true → of ≡ h) → (own ≡ false → of ≢ h) → (same ≡ true → IsSameLive from found)
        → LoneCame h of v w (on_by again stage) (found_by own again same found)
    slot_came own same mine other live = by_slot own again same found refl refl refl refl
      where
        by_slot : (o a s : Bool) (f : Slot) → own ≡ o → again ≡ a → same ≡ s → found ≡ f
            → LoneCame h of v w (on_by again stage) (found_by o a s f)
        by_slot true a s slots.Free is_own is_again is_same is_found = enters (mine is_own)
        by_slot false a s slots.Free is_own is_again is_same is_found = frees (other is_own)
        by_slot true a s (slots.Live key beat) is_own is_again is_same is_found =
            subst (λ (x : Slot). LoneCame h of v w (on_by again stage) (End (ends.Busy (has_key x)))) is_found busy
        by_slot false true s (slots.Live key beat) is_own is_again is_same is_found =
            subst (λ (x : Slot). LoneCame h of v w (on_by again stage) (End (ends.Busy (has_key x)))) is_found busy
        by_slot false false false (slots.Live key beat) is_own is_again is_same is_found =
            subst (λ (x : Slot). LoneCame h of v w (on_by again stage) (End (ends.Busy (has_key x)))) is_found busy
        by_slot false false true (slots.Live key beat) is_own is_again is_same is_found =
            subst (λ (x : Slot). LoneCame h of v w (on_by again stage) (More (lones.Again (Claim x)))) is_found (claims is_again (live is_same))
        by_slot true a s (slots.Recovering key by) is_own is_again is_same is_found =
            subst (λ (x : Slot). LoneCame h of v w (on_by again stage) (End (ends.Busy (has_key x)))) is_found busy
        by_slot false true s (slots.Recovering key by) is_own is_again is_same is_found =
            subst (λ (x : Slot). LoneCame h of v w (on_by again stage) (End (ends.Busy (has_key x)))) is_found busy
        by_slot false false false (slots.Recovering key by) is_own is_again is_same is_found =
            subst (λ (x : Slot). LoneCame h of v w (on_by again stage) (End (ends.Busy (has_key x)))) is_found busy
        by_slot false false true (slots.Recovering key by) is_own is_again is_same is_found =
            subst (λ (x : Slot). LoneCame h of v w (on_by again stage) (End (ends.Busy (has_key x)))) is_found busy

  -- a refused step
  pub step_refused : (why : StepNo) → IsCutAt h of v w stage why → IsRefused h v w why
  step_refused why cut =
      refused_by (commands.Recover of) h v w why _ is.lone.base.key cut.shut (cut.cuts (commands.Recover of) nothing 0 (inr refl))

-- a watch by which each host was seen three times
pub thrice : List (Option Look)
thrice = replicate 16 (seen slots.Free 3)

thrice_at : (of : ℕ) → of < 16 → 3 ≤ count_of (look_at thrice of)
unfolding thrice
thrice_at of below = rw (get_or-replicate 16 of (seen slots.Free 3) None below) (omega arith)

-- the slot of another host was freed
module _ (v w : WorldView) (h of : ℕ) (dead : Key) (c : Consistent v.locks) (at : LoneAt v h of (lones.Last dead)) (other : of ≢ h) where
  pub recovers : IsRecovering v h of thrice
  recovers = record {
    ready = at.0.ready other;
    below = at.0.base.below;
    other = other;
    thrice = let few = c.geometry.hosts.1 in thrice_at of (let below = at.0.base.below in omega (arith, below, few));
  }

  pub freed_came : (done : Unit) → Consistent w.locks → locks'.Others h v.locks w.locks → w.standing ≡ v.standing
      → FreesSlot v.locks h of (Ok done) w.locks → IsFreed v.locks h of (Ok done) w.locks
      → LoneCame h of v w (lones.Last dead) (End ends.Recovered)
  freed_came done later others standing did is_freed =
      elim did [ inl cleared ↦ made _ cleared.acts tt | inr found ↦ made _ found.1.0.acts tt ]
    where
      made : (e : Event) → Acts e v.locks.disk w.locks.disk → AsksNoKey e.call → LoneCame h of v w (lones.Last dead) (End ends.Recovered)
      made e acts none =
          let has = freed.has_freed v w h of dead.0 thrice c later recovers at.1 others standing done did is_freed in
          let passes = has.passes in record {
            files = passes.files;
            valid = valid_now w later;
            slots = elim did [
              | inl cleared ↦ slots_written v w of (kinds.Slot of) (slot_bytes slots.Free) at.0.base.below
                  (λ y ne same. ne (let one : y ≡ of = cc in one)) cleared.acts.changes.1
              | inr found ↦ slots_same v w of (ap (λ (s : State). s.told) found.1.0.acts.changes.2)
            ];
            locks = elim has.memory [
              | inl free ↦ locks_by v w h (ap (λ (m : HostState). m.held) free) (ap (λ (m : HostState). m.reading) free)
              | inr same ↦ locks_same v w h same.1
            ];
            registered = key_kept v w h passes.key has.keys has.registered;
            event = e;
            acts = acts;
            keys = keys_kept v w (lones.Last dead) lones.Ended (counter_kept e v.locks.disk w.locks.disk acts none) refl;
            stands = (
              freed.free_ready v w h of dead.0 thrice c later recovers at.1 others standing done did is_freed,
              subst (λ (g : Geometry). OnImage w.locks.disk.state (λ image. slot_state_at g image of ≡ 0)) (sym passes.geometry)
                  (map_told (told_of w.locks) _ _ (freed.freed_now v w h of dead.0 thrice c later recovers at.1 others standing done did is_freed)
                  (λ t image. image.slot)),
            );
            fewer = omega arith;
          }

-- the own slot is entered from the claim
pub retakes : (v : WorldView) (h : ℕ) (dead : Key) → LoneAt v h h (lones.Last dead) → PlanStands v h nothing (doings.Retake dead)
retakes v h dead at = record { host = at.0.base.host; at = at.1; watched = nothing_watched v h }
