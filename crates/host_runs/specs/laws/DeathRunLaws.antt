-- A run by hand: a host dies with a lock in its hold, and another one recovers it, over a device that tells nothing of its content.
-- The workload is `0 join`, `1 join`, `0 die 1`, `1 look 0` three times, `0 create 0`, `1 recover 0`, positions 0 to 7. Both hosts
-- join, host 0 is told to die at its next call, and host 1 sees its slot unchanged three times. Host 0 takes the lock of file 0,
-- which is the call at which it dies, and is answered `cut`; host 1 claims its slot, takes its key off, frees the lock that it left,
-- frees its slot, and is answered `recovered`. Shown are all thirteen turns, with the state behind each, and the run of them; here
-- stand the death and the claim, the turns before it in the files on the start and the looks, those behind it in that on the recovery.
use Rattle.std.proofs.Common.{◌≡◌, ◌∷◌, ℕ, false, List, [], Option, Some, None, refl, inl, inr, arith}
use Rattle.vol_base.specs.declared.answer.Answer.TheVariants as answers
use Rattle.vol_base.specs.declared.answer.CutBy.TheVariants as cuts
use Rattle.vol_base.specs.declared.answer.Turn.TheVariants as turns
use Rattle.vol_base.specs.declared.command.Command.TheVariants as commands
use Rattle.slot_lock_blocks.specs.Slots.{slot_bytes}
use Rattle.slot_lock_blocks.specs.declared.slot.Slot.{Slot}
use Rattle.slot_lock_blocks.specs.declared.slot.Slot.TheVariants as slots
use Rattle.slot_lock_blocks.specs.laws.SlotLaws.{SlotNumbers, slot_numbers}
use Rattle.shared_disk.specs.Calls.{after_write}
use Rattle.shared_disk.specs.Events.{Done, Event, Tests, event}
use Rattle.shared_disk.specs.State.{State}
use Rattle.watch.specs.Looks.{look_at, nothing, seen}
use Rattle.watch.specs.declared.watch.Look.{Look}
use Rattle.histories.specs.Joined.{is_joined, standing_death}
use Rattle.host_runs.specs.Awaited.{awaited}
use Rattle.host_runs.specs.Memories.{Memory, no_memory}
use Rattle.host_runs.specs.NextLines.{next_line}
use Rattle.host_runs.specs.Notes.{NotedCall, Notes, at_rest}
use Rattle.host_runs.specs.RunStates.{RunState}
use Rattle.host_runs.specs.Runs.{IsTurn}
use Rattle.host_runs.specs.Tries.{no_tries}
use Rattle.host_runs.specs.laws.DeathLookLaws.{live_slot, looked_3, looks_at, looks_of, slot_at}
use Rattle.host_runs.specs.laws.DeathStartLaws.{death_work}
use Rattle.host_runs.specs.laws.OneFileLaws.{file_same, held, held_key, held_state, lock_at, taking}
use Rattle.host_runs.specs.laws.RecoverLaws.{recover_ending}
use Rattle.host_runs.specs.laws.TurnLaws.{granted, granted_turn, turned}
use Rattle.host_runs.specs.laws.TwoHostsLaws.{key_0, key_1, line_of}
use Rattle.host_runs.specs.lemmas.TidyDisk.{none_some}

-- the slot of host 0 while host 1 recovers it
abbrev pub claimed_slot : Slot
claimed_slot = slots.Recovering key_0 key_1

pub live_numbers : SlotNumbers (slot_bytes live_slot) live_slot
live_numbers = slot_numbers (slot_bytes live_slot) live_slot (((λ e. omega (arith, e), omega arith), omega arith), refl)

pub claimed_numbers : SlotNumbers (slot_bytes claimed_slot) claimed_slot
claimed_numbers = slot_numbers (slot_bytes claimed_slot) claimed_slot (((λ e. omega (arith, e), omega arith), (λ e. omega (arith, e), omega arith)), refl)

pub free_numbers : SlotNumbers (slot_bytes slots.Free) slots.Free
free_numbers = slot_numbers (slot_bytes slots.Free) slots.Free (tt, refl)

-- the looks of host 1, which saw the live slot three times
abbrev pub thrice : List (Option Look)
thrice = looks_of 3

pub thrice_at : look_at thrice 0 ≡ seen live_slot 3
thrice_at = looks_at 3

-- the state behind the looks
abbrev pub before_death : RunState
before_death = looked_3

-- host 0 takes the lock, and dies: it keeps nothing in memory
abbrev pub dead_state : RunState
dead_state =
    turned before_death 0 6 (after_write 5 held before_death.device.state) None (Some (answers.Cut cuts.Died)) (at_rest no_memory 1 [] nothing)

is_to_die : standing_death death_work.lines before_death.answers 0 ≡ Some 1
unfolding standing_death
is_to_die = refl

pub death_turn : IsTurn death_work 0 (turns.Answered (answers.Cut cuts.Died)) before_death dead_state
unfolding next_line awaited is_joined
death_turn =
    granted_turn death_work before_death 0 6 (line_of 8 0 (commands.Create 0)) taking (after_write 5 held before_death.device.state) None
    (Some (answers.Cut cuts.Died)) (at_rest no_memory 1 [] nothing)
    (record {
      at = record { next = refl; is = refl };
      quiet = refl;
      acts = granted taking before_death.device (after_write 5 held before_death.device.state) (λ cause e. cc) (omega arith) (tt, refl)
          (0, omega arith, refl) (λ out. out (0, omega arith, refl)) (λ spent. spent);
      untold = refl;
      still = refl;
      may = (refl, inl refl);
      marks = rw lock_at (
        record {
          held = λ one. (held_key, refl);
          read = λ two. absurd (omega (arith, two, held_state));
          again = λ f is some. (file_same 0 f is, tt);
        },
        λ two. absurd (omega (arith, two, held_state)),
      );
      placing = record { file = λ e. absurd cc; once = λ e. absurd cc; plain = λ reply e. absurd cc; none = λ placeless. absurd placeless; own = tt };
      died = λ death. refl;
      ending = λ living. absurd (living (refl, is_to_die));
      noted = record { pending = refl; watch = refl; rest = refl };
    })

-- the notes of host 1 between the calls of its `recover`
abbrev pub recovering_notes : List NotedCall → Memory → ℕ → Notes
recovering_notes calls memory dying =
    record { calls = calls; digests = []; asks = None; tries = no_tries; placed = None; memory = memory; dying = dying; pending = []; watch = thrice }

abbrev pub noted : Event → State → NotedCall
noted e before = record { event = e; before = before }

-- it claims the slot from the key that it saw
abbrev pub claiming : Event
claiming = event 49 (Tests 1 (slot_bytes live_slot) (slot_bytes claimed_slot)) Done

abbrev pub claimer : Memory
claimer = record { key = Some 49; holds = []; reads = []; claims = 0 ∷ []; left = false }

abbrev pub claimed_calls : List NotedCall
claimed_calls = noted claiming dead_state.device.state ∷ []

abbrev pub claimed_state : RunState
claimed_state =
    turned dead_state 1 7 (after_write 1 (slot_bytes claimed_slot) dead_state.device.state) None None (recovering_notes claimed_calls claimer 6)

living_1 : standing_death death_work.lines dead_state.answers 1 ≡ None
unfolding standing_death
living_1 = refl

pub claim_turn : IsTurn death_work 1 turns.Moved dead_state claimed_state
unfolding next_line awaited is_joined
claim_turn =
    granted_turn death_work dead_state 1 7 (line_of 9 1 (commands.Recover 0)) claiming
    (after_write 1 (slot_bytes claimed_slot) dead_state.device.state) None None (recovering_notes claimed_calls claimer 6)
    (record {
      at = record { next = refl; is = refl };
      quiet = refl;
      acts = granted claiming dead_state.device (after_write 1 (slot_bytes claimed_slot) dead_state.device.state) (λ cause e. cc) (omega arith) (tt, refl)
          (1, omega arith, refl) (λ out. out (1, omega arith, refl)) (λ spent. spent);
      untold = refl;
      still = refl;
      may = (refl, inl refl);
      marks = rw slot_at (
        inr refl,
        inr (inl (claimed_numbers.state, λ e. omega (arith, e, live_numbers.state), λ e. omega (arith, e, live_numbers.key))),
      );
      placing = record { file = λ e. absurd cc; once = λ e. absurd cc; plain = λ reply e. absurd cc; none = tt; own = tt };
      died = λ death. absurd (none_some death.1 living_1);
      ending = λ living. recover_ending _ 0 None
          (record {
            command = refl;
            joined = refl;
            grants = λ cause refused. absurd cc;
            shows = λ place block shown. absurd cc;
            thrice = rw thrice_at (omega arith);
            untried = λ key shown. absurd (let e = rw slot_at at shown in cc);
          })
          tt tt tt;
      noted = (tt, rw (slot_at, claimed_numbers.state) refl);
    })
