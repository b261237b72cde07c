-- The recovery of a dead host by hand, from its claimed slot on, and the whole run of thirteen turns, over a device that tells
-- nothing of its content. What the workload is, and what the hosts do, is told at the head of the death.
use Rattle.std.proofs.Common.{◌≡◌, ◌∷◌, ◌++◌, ℕ, true, false, List, [], Option, Some, None, refl, sym, inl, inr, arith, get_or-set_other}
use Rattle.std.specs.Prelude.{IfSome}
use Rattle.vol_base.specs.declared.answer.Answer.{Answer}
use Rattle.vol_base.specs.declared.answer.Answer.TheVariants as answers
use Rattle.vol_base.specs.declared.answer.CutBy.TheVariants as cuts
use Rattle.vol_base.specs.declared.answer.Turn.TheVariants as turns
use Rattle.vol_base.specs.declared.command.Command.TheVariants as commands
use Rattle.slot_lock_blocks.specs.LockWords.{lock_bytes}
use Rattle.slot_lock_blocks.specs.Slots.{slot_bytes}
use Rattle.slot_lock_blocks.specs.declared.lock.LockWord.TheVariants as words
use Rattle.slot_lock_blocks.specs.declared.slot.Slot.TheVariants as slots
use Rattle.shared_disk.specs.Calls.{after_fence, after_write}
use Rattle.shared_disk.specs.Events.{Done, Event, Fences, Tests, Writes, event}
use Rattle.shared_disk.specs.State.{State}
use Rattle.watch.specs.Looks.{look_at, nothing, seen}
use Rattle.histories.specs.Joined.{is_joined, standing_death}
use Rattle.host_runs.specs.Awaited.{awaited}
use Rattle.host_runs.specs.Memories.{AreFileLocks, memory_after, no_memory}
use Rattle.host_runs.specs.Moments.{Moment}
use Rattle.host_runs.specs.Causes.{IsCause}
use Rattle.host_runs.specs.DeviceCalls.{HasShown}
use Rattle.host_runs.specs.Steps.{IsEnding}
use Rattle.host_runs.specs.NextLines.{next_line}
use Rattle.host_runs.specs.Notes.{NotedCall, Notes, at_rest}
use Rattle.host_runs.specs.RunStates.{Answered, RunState}
use Rattle.host_runs.specs.Runs.{IsTurn, Run, Turns}
use Rattle.host_runs.specs.laws.DeathLookLaws.{live_slot, looked_1, looked_1_turn, looked_2, looked_2_turn, looked_3, looked_3_turn, slot_at}
use Rattle.host_runs.specs.laws.DeathRunLaws.{claim_turn, claimed_calls, claimed_numbers, claimed_slot, claimed_state, claimer, dead_state, death_turn, free_numbers, noted, recovering_notes, thrice, thrice_at}
use Rattle.host_runs.specs.laws.DeathStartLaws.{death_start, death_work, doomed, doomed_turn, joined_0, joined_0_turn, joined_1, joined_1_turn, keyed_0, keyed_0_turn, keyed_1, keyed_1_turn}
use Rattle.host_runs.specs.laws.EnterLaws.{keyed, none_in}
use Rattle.host_runs.specs.laws.OneFileLaws.{free_state, lock_at}
use Rattle.host_runs.specs.laws.RecoverLaws.{recover_ending}
use Rattle.host_runs.specs.laws.TurnLaws.{Grants, at_turn, granted, granted_turn, turned}
use Rattle.host_runs.specs.laws.TwoHostsLaws.{key_0, key_1, line_of, volume}
use Rattle.host_runs.specs.lemmas.TidyDisk.{none_some}

-- it takes the key of host 0 off, which it saw three times
abbrev pub fencing : Event
fencing = event 49 (Fences 32) Done

abbrev pub fenced_calls : List NotedCall
fenced_calls = claimed_calls ++ noted fencing claimed_state.device.state ∷ []

abbrev pub fenced_state : RunState
fenced_state =
    turned claimed_state 1 7 (after_fence 32 claimed_state.device.state) None None (recovering_notes fenced_calls claimer 7)

-- host 1 may go on with its `recover` by a call that shows nothing
module _ (s : RunState) (e : Event) (state : State) (later : Notes) where
  abbrev pub at_recover : Moment
  at_recover = at_turn death_work s 1 7 (line_of 9 1 (commands.Recover 0)) e state None None later

  pub recovers : (ended : Option Answer) → at_recover.joined ≡ true → Grants e
      → ((place : ℕ) (block : List ℕ) → HasShown place block (Some e) → ⊥)
      → (s.notes 1).watch ≡ thrice
      → at_recover.now.tries.shown ≡ None
      → IfSome ended (IsCause at_recover)
      → IfSome ended (λ answer. AreFileLocks volume (memory_after answer (commands.Recover 0) at_recover.now.memory).holds)
      → IfSome ended (λ answer. (memory_after answer (commands.Recover 0) at_recover.now.memory).left ≡ false)
      → IsEnding at_recover ended
  recovers ended joined grants shows watch shown cause rests stays =
      recover_ending at_recover 0 ended
      (record {
        command = refl;
        joined = joined;
        grants = grants;
        shows = shows;
        thrice = rw (watch, thrice_at) (omega arith);
        untried = λ key some. none_some some shown;
      })
      cause rests stays

pub fence_turn : IsTurn death_work 1 turns.Moved claimed_state fenced_state
unfolding next_line awaited is_joined standing_death
fence_turn =
    granted_turn death_work claimed_state 1 7 (line_of 9 1 (commands.Recover 0)) fencing (after_fence 32 claimed_state.device.state) None None
    (recovering_notes fenced_calls claimer 7)
    (record {
      at = record { next = refl; is = refl };
      quiet = refl;
      acts = granted fencing claimed_state.device (after_fence 32 claimed_state.device.state) (λ cause e. cc) tt refl
          (1, omega arith, refl) (λ out. out (1, omega arith, refl)) (λ spent. spent);
      untold = refl;
      still = refl;
      may = (refl, inl refl, rw thrice_at (omega arith, (0, omega arith, refl)));
      marks = tt;
      placing = record { file = λ e. absurd cc; once = λ e. absurd cc; plain = λ reply e. absurd cc; none = tt; own = tt };
      died = λ death. absurd (let e = death.1 in cc);
      ending = λ living. recovers claimed_state fencing _ (recovering_notes fenced_calls claimer 7) None refl (λ cause e. cc) (λ place block shown. absurd cc) refl refl tt tt tt;
      noted = (tt, refl);
    })

-- it frees the lock that host 0 left held
abbrev pub freeing : Event
freeing = event 49 (Writes 5 (lock_bytes words.Free)) Done

abbrev pub freed_calls : List NotedCall
freed_calls = fenced_calls ++ noted freeing fenced_state.device.state ∷ []

abbrev pub freed_state : RunState
freed_state =
    turned fenced_state 1 7 (after_write 5 (lock_bytes words.Free) fenced_state.device.state) None None (recovering_notes freed_calls claimer 8)

pub free_turn : IsTurn death_work 1 turns.Moved fenced_state freed_state
unfolding next_line awaited is_joined standing_death
free_turn =
    granted_turn death_work fenced_state 1 7 (line_of 9 1 (commands.Recover 0)) freeing
    (after_write 5 (lock_bytes words.Free) fenced_state.device.state) None None (recovering_notes freed_calls claimer 8)
    (record {
      at = record { next = refl; is = refl };
      quiet = refl;
      acts = granted freeing fenced_state.device (after_write 5 (lock_bytes words.Free) fenced_state.device.state) (λ cause e. cc) (omega arith) refl
          (0, omega arith, refl) (λ out. out (0, omega arith, refl)) (λ spent. spent);
      untold = refl;
      still = refl;
      may = (refl, inl refl);
      marks = rw lock_at free_state;
      placing = record { file = λ e. absurd cc; once = λ e. absurd cc; plain = λ reply e. absurd cc; none = tt; own = tt };
      died = λ death. absurd (let e = death.1 in cc);
      ending = λ living. recovers fenced_state freeing _ (recovering_notes freed_calls claimer 8) None refl (λ cause e. cc) (λ place block shown. absurd cc) refl (rw lock_at refl) tt tt tt;
      noted = (tt, rw (lock_at, free_state) refl);
    })

-- it frees the slot, forgets it, and is answered
abbrev pub leaving : Event
leaving = event 49 (Tests 1 (slot_bytes claimed_slot) (slot_bytes slots.Free)) Done

abbrev pub recovered_state : RunState
recovered_state =
    turned freed_state 1 7 (after_write 1 (slot_bytes slots.Free) freed_state.device.state) None (Some answers.Recovered) (at_rest (keyed 49) 9 [] nothing)

forgotten : look_at nothing 0 ≡ None
unfolding nothing
forgotten = refl

pub recovered_turn : IsTurn death_work 1 (turns.Answered answers.Recovered) freed_state recovered_state
unfolding next_line awaited is_joined standing_death
recovered_turn =
    granted_turn death_work freed_state 1 7 (line_of 9 1 (commands.Recover 0)) leaving
    (after_write 1 (slot_bytes slots.Free) freed_state.device.state) None (Some answers.Recovered) (at_rest (keyed 49) 9 [] nothing)
    (record {
      at = record { next = refl; is = refl };
      quiet = refl;
      acts = granted leaving freed_state.device (after_write 1 (slot_bytes slots.Free) freed_state.device.state) (λ cause e. cc) (omega arith) (tt, refl)
          (0, omega arith, refl) (λ out. out (0, omega arith, refl)) (λ spent. spent);
      untold = refl;
      still = refl;
      may = (refl, inl refl);
      marks = rw slot_at (inr refl, inr (inr (free_numbers.state, inr claimed_numbers.state)));
      placing = record { file = λ e. absurd cc; once = λ e. absurd cc; plain = λ reply e. absurd cc; none = λ placeless. refl; own = tt };
      died = λ death. absurd (let e = death.1 in cc);
      ending = λ living. recovers freed_state leaving _ (at_rest (keyed 49) 9 [] nothing) (Some answers.Recovered) refl (λ cause e. cc) (λ place block shown. absurd cc) refl
          (rw slot_at refl) tt (rw slot_at (λ p has. absurd (none_in p has))) (rw slot_at refl);
      noted = record {
        pending = refl;
        watch = (λ k other. sym (get_or-set_other nothing 0 k (seen live_slot 3) None other), forgotten);
        rest = rw (slot_at, free_numbers.state) refl;
      };
    })

-- the whole run
pub recovery_run
    : Run death_work death_start
    (Turns 0 turns.Moved ∷ Turns 0 (turns.Answered (answers.Joined key_0)) ∷ Turns 1 turns.Moved ∷ Turns 1 (turns.Answered (answers.Joined key_1))
    ∷ Turns 0 (turns.Answered answers.Fine)
    ∷ Turns 1 (turns.Answered (answers.Seen 1)) ∷ Turns 1 (turns.Answered (answers.Seen 2)) ∷ Turns 1 (turns.Answered (answers.Seen 3))
    ∷ Turns 0 (turns.Answered (answers.Cut cuts.Died)) ∷ Turns 1 turns.Moved ∷ Turns 1 turns.Moved ∷ Turns 1 turns.Moved
    ∷ Turns 1 (turns.Answered answers.Recovered) ∷ [])
    recovered_state
recovery_run = (
  keyed_0,
  keyed_0_turn,
  (
    joined_0,
    joined_0_turn,
    (
      keyed_1,
      keyed_1_turn,
      (
        joined_1,
        joined_1_turn,
        (
          doomed,
          doomed_turn,
          (
            looked_1,
            looked_1_turn,
            (
              looked_2,
              looked_2_turn,
              (
                looked_3,
                looked_3_turn,
                (dead_state, death_turn, (claimed_state, claim_turn, (fenced_state, fence_turn, (freed_state, free_turn, (recovered_state, recovered_turn, refl))))),
              ),
            ),
          ),
        ),
      ),
    ),
  ),
)

-- at its end the key of host 0 is off, neither host holds anything, and host 0 has no key in memory
pub record IsRecoveredEnd (s : RunState) : Type 0 where
  pub answers_are : s.answers
      ≡ Some (answers.Joined key_0) ∷ Some (answers.Joined key_1) ∷ Some answers.Fine
      ∷ Some (answers.Seen 1) ∷ Some (answers.Seen 2) ∷ Some (answers.Seen 3)
      ∷ Some (answers.Cut cuts.Died) ∷ Some answers.Recovered ∷ []
  pub history_is : s.history ≡ []
  pub events_are : s.events
      ≡ Answered 0 (answers.Joined key_0) ∷ Answered 1 (answers.Joined key_1) ∷ Answered 2 answers.Fine
      ∷ Answered 3 (answers.Seen 1) ∷ Answered 4 (answers.Seen 2) ∷ Answered 5 (answers.Seen 3)
      ∷ Answered 6 (answers.Cut cuts.Died) ∷ Answered 7 answers.Recovered ∷ []
  pub keys : s.device.state.keys ≡ 49 ∷ []
  pub calls : s.device.calls ≡ 12
  pub memory_0 : (s.notes 0).memory ≡ no_memory
  pub memory_1 : (s.notes 1).memory ≡ keyed 49

pub recovered_end : IsRecoveredEnd recovered_state
recovered_end = record { answers_are = refl; history_is = refl; events_are = refl; keys = refl; calls = refl; memory_0 = refl; memory_1 = refl }
