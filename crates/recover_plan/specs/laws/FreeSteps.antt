-- The step in which a `recover` is done.
use Rattle.std.proofs.Common.{◌≡◌, ◌≢◌, ◌<◌, ◌≤◌, ℕ, List, None, Option, Some, refl, ap, sym, subst, ◌∙◌, inl, inr, arith}
use Rattle.std.specs.Prelude.{Err, Ok, length, slice_set}
use Rattle.std.proofs.lemmas.Bool.{cases_eq, cases_lt}
use Rattle.std.proofs.lemmas.List.{get_or-set_other, get_or-set_same, get_or_past, length-set}
use Rattle.std.proofs.lemmas.List.Elements.{Contains-push_cases}
use Rattle.vol_base.specs.declared.answer.Answer.TheVariants as answers
use Rattle.vol_base.specs.declared.command.Command.TheVariants as commands
use Rattle.vol_layout.specs.declared.geometry.Geometry.{Geometry}
use Rattle.vol_layout.specs.declared.kind.Kind.TheVariants as kinds
use Rattle.shared_disk.specs.Events.{Done, Event, Refuses, Reply, Shows, event}
use Rattle.shared_disk.specs.declared.answers.DiskNo.TheVariants as refusals
use Rattle.slot_lock_blocks.specs.declared.slot.Slot.TheVariants as slots
use Rattle.slot_lock_blocks.specs.Slots.{slot_bytes, slot_key}
use Rattle.image_view.specs.HostKeys.{IsHeldBy}
use Rattle.lock_store.specs.declared.host.HostState.{HostState}
use Rattle.lock_store.specs.declared.answers.StepNo.{StepNo}
use Rattle.lock_store.specs.declared.answers.StepNo.TheVariants.{Bad}
use Rattle.lock_store.specs.Events.{Did}
use Rattle.vol_layout.specs.Places.{place_of}
use Rattle.host_facts.specs.Others.{Others}
use Rattle.host_runs.specs.lemmas.TidyDisk.{none_some}
use Rattle.plan_parts.specs.Cuts.{IsCutBy}
use Rattle.plan_parts.specs.laws.CutCallLaws.{cut_of}
use Rattle.lock_store.specs.SlotTries.{slot_by}
use Rattle.lock_store.specs.Views.{host_at, key_at, told_of}
use Rattle.disk_locks.specs.Calls.{FreesSlot, IsFreed, key, slot_of}
use Rattle.disk_locks.specs.Consistent.{Consistent}
use Rattle.disk_locks.specs.Others as locks'
use Rattle.watch.specs.declared.watch.Look.{Look}
use Rattle.watch.specs.Looks.{count_of, look_at}
use Rattle.host_facts.specs.Facts.{locks_of}
use Rattle.host_facts.specs.Facts.Fact.{Given, TableIs}
use Rattle.host_facts.specs.Views.{WorldView}
use Rattle.host_facts.specs.laws.ToldLaws.{map_told}
use Rattle.host_runs.specs.DeviceCalls.{OnImage}
use Rattle.host_runs.specs.NotedCalls.{SomeCall, SwapsKind}
use Rattle.host_runs.specs.Notes.{NotedCall, Notes}
use Rattle.host_runs.specs.SlotCauses.{IsRecovered}
use Rattle.host_runs.specs.Tries.{Tries, tried}
use Rattle.host_runs.specs.Words.{key_in, state_in}
use Rattle.host_runs.specs.lemmas.OrderlyPlaced.{some_same}
use Rattle.host_notes.specs.Asked.{free_call}
use Rattle.host_notes.specs.FileTurns.{IsGiven}
use Rattle.host_notes.specs.Owes.{Owes}
use Rattle.host_notes.specs.Remembered.{RemembersCall}
use Rattle.host_notes.specs.laws.NotedLaws.{claim_noted}
use Rattle.host_notes.specs.laws.SlotMemories.{remembered_free_claimed, remembered_free_found}
use Rattle.host_notes.specs.laws.SlotRights.{allowed_free_claimed}
use Rattle.host_notes.specs.laws.TryLaws.{BySwap, tried_slot, tried_slot_claimed}
use Rattle.host_notes.specs.lemmas.Words.{slot_says}
use Rattle.plan_parts.specs.laws.QuietCallLaws.{valid_now}
use Rattle.plan_parts.specs.laws.TakenLaws.{others_locks}
use Rattle.recover_plan.specs.PlanSteps.{AreWatched, RestsWith}
use Rattle.recover_plan.specs.Plans.{Came, IsRecovering}
use Rattle.recover_plan.specs.RecoverNotes.{IsUnderWay}
use Rattle.recover_plan.specs.Replaying.{IsSwept}
use Rattle.recover_plan.specs.SlotTurns.{at_look}
use Rattle.recover_plan.specs.declared.plan.Come.TheVariants.{Answered}
use Rattle.recover_plan.specs.declared.plan.Doing.TheVariants.{Free}
use Rattle.recover_plan.specs.laws.FreeLaws.{claimed, free_ready, freed_now, has_freed}
use Rattle.recover_plan.specs.laws.SlotOwes.{owes_recovered}
use Rattle.recover_plan.specs.laws.StepLaws.{at_rest_ready, moment, ready_key, ready_rests, slot_turn, turn_of, wants_none}

module _ (v w : WorldView) (h of : ℕ) (dead : ℕ) (watch after : List (Option Look)) (c : Consistent v.locks) (later : Consistent w.locks)
    (is : IsRecovering v h of watch) (swept : IsSwept v h of dead (locks_of v.locks.geometry))
    (others : locks'.Others h v.locks w.locks) (standing : w.standing ≡ v.standing) (done : Unit)
    (did : FreesSlot v.locks h of (Ok done) w.locks) (freed : IsFreed v.locks h of (Ok done) w.locks)
    (kept : (y : ℕ) → y ≢ of → look_at after y ≡ look_at watch y) (forgotten : look_at after of ≡ None) where
  -- the calls set the slot to a recovering one from the dead key alone
  from_dead : (reply : Reply) (n : Notes) → IsUnderWay h of v watch (Some dead) None n → (old new : List ℕ)
      → SomeCall (SwapsKind v.locks.geometry (kinds.Slot of) old new) (moment (commands.Recover of) v w h (free_call v.locks h of) reply n).now.calls
      → state_in new ≡ 2 → dead ≡ key_in new
  from_dead reply n noted old new call two =
      elim (Contains-push_cases n.calls (record { event = event (key_at v.locks h) (free_call v.locks h of) reply; before = v.locks.disk.state })
      call.0 call.1) [
        | inl before ↦ some_same dead (key_in new) (noted.from old new (call.0, before, call.2) two)
        | inr last ↦
            let here = subst (λ (x : NotedCall). SwapsKind v.locks.geometry (kinds.Slot of) old new (Some x.event)) (sym last) call.2 in
            let same : slot_bytes slots.Free ≡ new = let asked = here.2.0 in cc in
            let says : state_in new ≡ 0 = ap state_in (sym same) ∙ slot_says slots.Free in
            absurd (omega (arith, says, two))
      ]

  recovered : (reply : Reply) (n : Notes) → IsUnderWay h of v watch (Some dead) None n
      → OnImage w.locks.disk.state (IsRecovered (moment (commands.Recover of) v w h (free_call v.locks h of) reply n) of)
  recovered reply n noted =
      map_told (told_of w.locks) _ _ (freed_now v w h of dead watch c later is swept others standing done did freed)
      (λ t image. record {
        slot = image.slot;
        journal = image.journal;
        locks = λ old new r call two has held. image.unheld r has
            (subst (λ (k : ℕ). IsHeldBy v.locks.geometry t.image r k) (sym (from_dead reply n noted old new call two)) held);
      })

  owed : (reply : Reply) (m : HostState) → Did v.locks h (free_call v.locks h of) reply m w.locks → IsGiven reply
      → reply ≢ Refuses refusals.NoMemory → (n : Notes) → IsUnderWay h of v watch (Some dead) None n
      → RemembersCall v.locks h n.memory (free_call v.locks h of) reply w.locks
      → (tried v.locks.geometry h (commands.Recover of) n.memory.claims (event (key_at v.locks h) (free_call v.locks h of) reply) n.tries) ≡ n.tries
      → (rest : Notes) × Owes v.locks.geometry h (commands.Recover of) v.locks.disk w.locks.disk
      (Some (event (key_at v.locks h) (free_call v.locks h of) reply)) None (Some answers.Recovered) n rest × RestsWith h w after rest
  owed reply m done' given heard n noted memory tries =
      let t = moment (commands.Recover of) v w h (free_call v.locks h of) reply n in
      let turn = turn_of (commands.Recover of) v w h (free_call v.locks h of) reply n tt noted.remembered (ready_key v h c is.ready) in
      let some = claimed v w h of dead watch c later is swept others standing done did freed in
      let passes = (has_freed v w h of dead watch c later is swept others standing done did freed).passes in
      let ready = free_ready v w h of dead watch c later is swept others standing done did freed in
      let rests = ready_rests w h v.locks.geometry t.now.memory later passes.geometry ready memory in (
        at_look t after,
        owes_recovered v.locks.geometry h v.locks.disk w.locks.disk t.event n of
            (subst (λ (l : List (Option Look)). 3 ≤ count_of (look_at l of)) (sym noted.watch_is) is.thrice) after
            (slot_turn (commands.Recover of) v w h (free_call v.locks h of) reply n m tt noted.placed_is done' heard passes.files
            (valid_now w later) (allowed_free_claimed v.locks h t turn c of reply is.below some (inr refl)))
            given ((noted.remembered.claims of is.below).1 some) (recovered reply n noted)
            (ap (λ (x : Tries). x.shown) tries ∙ noted.shown_is) (record { locks = rests.0; stays = rests.1 })
            (λ y ne. kept y ne ∙ ap (λ (l : List (Option Look)). look_at l y) (sym noted.watch_is)) forgotten,
        record {
          rests = at_rest_ready w h v.locks.geometry (at_look t after) passes.geometry ready memory refl;
          watch_is = refl;
        },
      )

  other_swap : (reply : Reply) (n : Notes) (slot : List ℕ) → IsUnderWay h of v watch (Some dead) None n → reply ≡ Shows slot
      → tried v.locks.geometry h (commands.Recover of) n.memory.claims (event (key_at v.locks h) (free_call v.locks h of) reply) n.tries
      ≡ n.tries
  other_swap reply n slot noted is' =
      let some = claimed v w h of dead watch c later is swept others standing done did freed in
      ap (λ (r : Reply). tried v.locks.geometry h (commands.Recover of) n.memory.claims (event (key_at v.locks h) (free_call v.locks h of) r) n.tries)
      is'
      ∙ tried_slot_claimed v.locks.geometry h (commands.Recover of) n.memory.claims (key_at v.locks h) n.tries of
      (slot_bytes (slot_of (host_at v.locks h) of)) (slot_bytes slots.Free) slot is.below
      (claim_noted v.locks.geometry n.memory (host_at v.locks h) noted.remembered of is.below some)

  abbrev freeing : Reply → Event
  freeing reply = event (key_at v.locks h) (free_call v.locks h of) reply

  watched_behind : AreWatched v h watch → AreWatched w h after
  watched_behind are y look below there =
      let facts = (has_freed v w h of dead watch c later is swept others standing done did freed).facts in
      elim (cases_eq y of) [
        | inl same ↦ absurd (none_some (ap (look_at after) (sym same) ∙ there) forgotten)
        | inr other ↦
            let was = are y look (subst (λ (x : Geometry). y < x.hosts) others.lasts.geometry below) (sym (kept y other) ∙ there) in record {
              spelled = was.spelled;
              some = was.some;
              of_host = was.of_host;
              shown = facts (Given (slot_key look.slot)) (λ e. cc) was.shown;
              by = facts (Given (slot_by look.slot)) (λ e. cc) was.by;
            }
      ]

  came : (reply : Reply) → AreWatched v h watch
      → ((n : Notes) → IsUnderWay h of v watch (Some dead) None n
      → (rest : Notes) × Owes v.locks.geometry h (commands.Recover of) v.locks.disk w.locks.disk (Some (freeing reply)) None
      (Some answers.Recovered) n rest × RestsWith h w after rest)
      → Came h v w watch after (Free of (key dead)) (Answered answers.Recovered)
  came reply watched owes = record {
    owes = record {
      made = Some (freeing reply);
      called = refl;
      others = others_locks v w h c others standing;
      quiet = λ n noted. wants_none v.locks.geometry (commands.Recover of) n.calls n.digests n.asks tt noted.asks;
      owes = owes;
    };
    stands = watched_behind watched;
    tables = λ keeps uncut t p.
        (has_freed v w h of dead watch c later is swept others standing done did freed).facts (TableIs t p) (λ e. cc);
    volume = λ leaves uncut. absurd leaves;
    fewer = omega arith;
  }

  pub free_came : AreWatched v h watch → Came h v w watch after (Free of (key dead)) (Answered answers.Recovered)
  free_came watched =
      let some = claimed v w h of dead watch c later is swept others standing done did freed in
      elim did [
        | inl cleared ↦ came Done watched (λ n noted. owed Done _ cleared tt (λ e. cc) n noted
            (remembered_free_claimed v.locks w.locks h n.memory noted.remembered of c is.below is.other some cleared)
            (tried_slot v.locks.geometry h (commands.Recover of) n.memory.claims (key_at v.locks h) n.tries of
            (BySwap (slot_bytes (slot_of (host_at v.locks h) of)) (slot_bytes slots.Free)) is.below))
        | inr other ↦ came (Shows (slot_bytes other.0)) watched (λ n noted. owed (Shows (slot_bytes other.0)) _ other.1.0 tt (λ e. cc) n noted
            (remembered_free_found v.locks w.locks h n.memory noted.remembered of other.0 other.1)
            (other_swap (Shows (slot_bytes other.0)) n (slot_bytes other.0) noted refl))
      ]

-- it was refused
pub free_cut : (v w : WorldView) (h of dead : ℕ) (watch : List (Option Look)) (why : StepNo) → Consistent v.locks
    → IsRecovering v h of watch → IsSwept v h of dead (locks_of v.locks.geometry) → Others h v w
    → FreesSlot v.locks h of (Err why) w.locks → ((at : ℕ) → why ≡ Bad at → told_of v.locks ≡ None) → (Before : Notes → Type 0)
    → IsCutBy (commands.Recover of) h v w why Before
free_cut v w h of dead watch why c is swept others refused sound Before =
    cut_of (commands.Recover of) v w h (free_call v.locks h of) (place_of v.locks.geometry (kinds.Slot of)) refl others Before
    (λ reply t turn before before'. allowed_free_claimed v.locks h t turn c of reply is.below
    (λ none. swept.claimed.some.0 (sym swept.claimed.claim ∙ none)) (inr before)) _ why refused sound

-- a host that was forgotten is not remembered, and the others are as before
pub forgets_kept : (watch after : List (Option Look)) (of : ℕ) → after ≡ slice_set watch of None → (y : ℕ) → y ≢ of
    → look_at after y ≡ look_at watch y
forgets_kept watch after of is y other =
    ap (λ (l : List (Option Look)). look_at l y) is ∙ get_or-set_other watch of y None None other

pub forgets_one : (watch after : List (Option Look)) (of : ℕ) → after ≡ slice_set watch of None → look_at after of ≡ None
forgets_one watch after of is =
    ap (λ (l : List (Option Look)). look_at l of) is
    ∙ elim (cases_lt of (length watch)) [
      | inl below ↦ get_or-set_same watch of None None below
      | inr past ↦ get_or_past (slice_set watch of None) of None (let long = length-set watch of None in omega (arith, past, long))
    ]
