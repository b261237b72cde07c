-- A `join` enters the own slot, and its host is in.
use Rattle.std.proofs.Common.{◌≡◌, ◌≢◌, ◌∙◌, ℕ, List, [], None, Option, Some, true, false, refl, ap, sym, subst}
use Rattle.std.specs.Prelude.{Ok}
use Rattle.vol_base.specs.declared.answer.Answer.TheVariants as answers
use Rattle.vol_base.specs.declared.answer.Next.TheVariants.{Answered}
use Rattle.vol_base.specs.declared.block.Key.{Key}
use Rattle.vol_base.specs.declared.command.Command.TheVariants.{Join}
use Rattle.vol_layout.specs.declared.kind.Kind.TheVariants as kinds
use Rattle.vol_layout.specs.declared.kind.Resource.{Resource}
use Rattle.vol_layout.specs.Places.{place_of}
use Rattle.vol_layout.specs.laws.PlaceLaws.{kind_at-place}
use Rattle.shared_disk.specs.Events.{Done, Event, event}
use Rattle.slot_lock_blocks.specs.declared.slot.Slot.{Slot}
use Rattle.slot_lock_blocks.specs.declared.slot.Slot.TheVariants as slots
use Rattle.slot_lock_blocks.specs.Slots.{IsSlot, slot_bytes, slot_key}
use Rattle.lock_store.specs.declared.answers.Claim.TheVariants.{Claimed}
use Rattle.lock_store.specs.declared.host.HostState.{HostState}
use Rattle.lock_store.specs.Memories.{entered, holds, key_of, may_read}
use Rattle.lock_store.specs.Views.{host_at, key_at}
use Rattle.disk_locks.specs.Calls as calls
use Rattle.disk_locks.specs.Calls.{EntersSlot}
use Rattle.disk_locks.specs.Consistent.{Consistent}
use Rattle.disk_locks.specs.Others as locks'
use Rattle.watch.specs.declared.watch.Look.{Look}
use Rattle.watch.specs.Looks.{nothing}
use Rattle.host_facts.specs.Facts.Fact.{DeadRecord}
use Rattle.host_facts.specs.Knows.{Knows}
use Rattle.host_facts.specs.SlotResults.{HasJoined}
use Rattle.host_facts.specs.Views.{WorldView}
use Rattle.host_facts.specs.laws.JoinFacts.{entered_law}
use Rattle.host_runs.specs.NotedCalls.{SwapsKind}
use Rattle.host_runs.specs.Notes.{Notes, at_rest}
use Rattle.host_runs.specs.Tries.{Tries}
use Rattle.host_runs.specs.laws.EnterLaws.{same_key}
use Rattle.host_notes.specs.Asked.{enter_call}
use Rattle.host_notes.specs.Owes.{Owes}
use Rattle.host_notes.specs.laws.NotedLaws.{key_noted}
use Rattle.host_notes.specs.laws.SlotMemories.{remembered_enter}
use Rattle.host_notes.specs.laws.SlotRights.{allowed_enter}
use Rattle.host_notes.specs.laws.TryLaws.{BySwap, tried_slot}
use Rattle.plan_parts.specs.Steps.{IsReady, OwesStep}
use Rattle.plan_parts.specs.laws.QuietCallLaws.{valid_now}
use Rattle.plan_parts.specs.laws.TakenLaws.{locks_else, others_locks}
use Rattle.recover_plan.specs.PlanSteps.{RestsWith, called_step}
use Rattle.recover_plan.specs.RecoverNotes.{IsUnderWay}
use Rattle.recover_plan.specs.Replaying.{IsRecoverer}
use Rattle.recover_plan.specs.laws.SlotOwes.{owes_joined}
use Rattle.recover_plan.specs.laws.StepLaws.{at_rest_ready, moment, ready_rests, slot_turn, turn_of, wants_none}

-- a host that holds a resource may read it
may_by_hold : (m : HostState) (r : Resource) → holds m r ≡ true → may_read m r ≡ true
may_by_hold m r held = rw held refl

module _ (v w : WorldView) (h : ℕ) (watch : List (Option Look)) (from : Slot) (key : Key) (c : Consistent v.locks)
    (later : Consistent w.locks) (others : locks'.Others h v.locks w.locks) (standing : w.standing ≡ v.standing) (base : IsRecoverer v h h)
    (spelled : IsSlot from) (is_key : key.0 ≡ key_at v.locks h) (empty : slot_key from ≢ 0 → Knows v h (DeadRecord h []))
    (did : EntersSlot v.locks h from (Ok Claimed) w.locks) where
  pub has_joined : HasJoined h from v w
  has_joined =
      subst (λ (x : WorldView). HasJoined h from v x) (sym (locks_else v w standing)) (entered_law v h w.locks c others from spelled did)

  -- the host held nothing, and its journal is empty
  pub joined_ready : IsReady w h
  joined_ready = record {
    joined = has_joined.joined;
    empty = has_joined.empty empty;
    taking = record {
      each = tt;
      only = λ r has shared held.
          let was : holds (host_at v.locks h) r ≡ true = sym (ap (λ (m : HostState). holds m r) has_joined.memory) ∙ held in
          let both : true ≡ false = sym (may_by_hold (host_at v.locks h) r was) ∙ (c.memories h).out (base.apart refl).0 r in
          absurd (let bad : ⊥ = cc in bad);
    };
  }

  abbrev entry : Event
  entry = event (key_at v.locks h) (enter_call v.locks h from) Done

  enters : SwapsKind v.locks.geometry (kinds.Slot h) (slot_bytes from) (slot_bytes (slots.Live key 0)) (Some entry)
  enters =
      subst (λ (k : Key). SwapsKind v.locks.geometry (kinds.Slot h) (slot_bytes from) (slot_bytes (slots.Live k 0)) (Some entry))
      (sym (same_key key (calls.key (key_at v.locks h)) is_key))
      (place_of v.locks.geometry (kinds.Slot h), kind_at-place v.locks.geometry (kinds.Slot h) base.below, (refl, refl))

  joined_owed : (dead : Option ℕ) (n : Notes) → IsUnderWay h h v watch dead None n
      → (rest : Notes) × Owes v.locks.geometry h Join v.locks.disk w.locks.disk (Some entry) None (Some (answers.Joined key)) n rest
      × RestsWith h w nothing rest
  joined_owed dead n under =
      let call = enter_call v.locks h from in
      let t = moment Join v w h call Done n in
      let turn = turn_of Join v w h call Done n tt under.remembered base.key in
      let memory = remembered_enter v.locks w.locks h n.memory under.remembered from c base.host base.key did in
      let rests = ready_rests w h v.locks.geometry t.now.memory later did.geometry joined_ready memory in
      let tries = tried_slot v.locks.geometry h Join n.memory.claims (key_at v.locks h) n.tries h
      (BySwap (slot_bytes from) (slot_bytes (slots.Live (calls.key (key_at v.locks h)) 0))) base.below in
      let same : key_of (host_at w.locks h) ≡ key_at v.locks h = ap key_of did.mine in (
        at_rest t.now.memory t.now.dying [] nothing,
        owes_joined v.locks.geometry h v.locks.disk w.locks.disk (Some entry) n key
            (slot_turn Join v w h call Done n (entered h (host_at v.locks h)) tt under.placed_is did (λ e. cc) has_joined.passes.files
            (valid_now w later) (allowed_enter v.locks h t turn c from Done base.host base.key))
            tt
            (record {
              registered = key_noted v.locks.geometry t.now.memory (host_at w.locks h) memory (λ none. base.key (sym same ∙ none))
                  ∙ ap (λ (x : ℕ). Some x) (same ∙ sym is_key);
              old = slot_bytes from;
              entered = enters;
            })
            (ap (λ (x : Tries). x.shown) tries ∙ under.shown_is) (record { locks = rests.0; stays = rests.1 }),
        record {
          rests = at_rest_ready w h v.locks.geometry (at_rest t.now.memory t.now.dying [] nothing) did.geometry joined_ready memory refl;
          watch_is = refl;
        },
      )

  -- the host is in, whatever its notes said of a claim
  pub joined_owes : (Before : Notes → Type 0) (dead : Option ℕ) → ((n : Notes) → Before n → IsUnderWay h h v watch dead None n)
      → OwesStep Join h v w (called_step (Answered (answers.Joined key))) Before (RestsWith h w nothing)
  joined_owes Before dead says = record {
    made = Some entry;
    called = refl;
    others = others_locks v w h c others standing;
    quiet = λ n before. wants_none v.locks.geometry Join n.calls n.digests n.asks tt (says n before).asks;
    owes = λ n before. joined_owed dead n (says n before);
  }
