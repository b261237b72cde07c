-- The first turns of a run in which a host dies: both hosts join, and host 0 is told to die at its next call. What the whole run is
-- is told at the head of the death.
use Rattle.std.proofs.Common.{◌∷◌, [], Some, None, refl, arith, ◌++◌}
use Rattle.vol_base.specs.declared.answer.Answer.TheVariants as answers
use Rattle.vol_base.specs.declared.answer.Turn.TheVariants as turns
use Rattle.vol_base.specs.declared.command.Command.TheVariants as commands
use Rattle.vol_layout.specs.Places.{kind_at}
use Rattle.vol_layout.specs.Regions.{regions}
use Rattle.workload.specs.declared.line.Workload.{Workload}
use Rattle.shared_disk.specs.Seen.{disk_seen}
use Rattle.watch.specs.Looks.{nothing}
use Rattle.histories.specs.Joined.{is_joined, standing_death}
use Rattle.host_runs.specs.laws.ExampleLaws.{register_turn, registered_state}
use Rattle.host_runs.specs.Awaited.{awaited}
use Rattle.host_runs.specs.NextLines.{next_line}
use Rattle.host_runs.specs.Notes.{at_rest, noting}
use Rattle.host_runs.specs.RunStates.{RunState, answered, entry_at, events_at, opening}
use Rattle.host_runs.specs.Runs.{IsTurn}
use Rattle.host_runs.specs.laws.EnterLaws.{keyed, enter_turn, entered_state, none_in}
use Rattle.host_runs.specs.laws.TwoHostsLaws.{key_0, key_1, line_of, volume}

abbrev pub death_work : Workload
death_work =
    record {
      geometry = volume;
      lines = line_of 2 0 commands.Join ∷ line_of 3 1 commands.Join ∷ line_of 4 0 (commands.Die 1)
          ∷ line_of 5 1 (commands.Look 0) ∷ line_of 6 1 (commands.Look 0) ∷ line_of 7 1 (commands.Look 0)
          ∷ line_of 8 0 (commands.Create 0) ∷ line_of 9 1 (commands.Recover 0) ∷ [];
      phases = 1;
    }

-- both hosts join
abbrev pub death_start : RunState
death_start = opening death_work (disk_seen (record { blocks = 2000; keys = []; counter = 1; told = None }) 0 100 0)

abbrev pub keyed_0 : RunState
keyed_0 = registered_state death_work death_start 0

abbrev pub joined_0 : RunState
joined_0 = entered_state keyed_0 0 0 1 key_0

abbrev pub keyed_1 : RunState
keyed_1 = registered_state death_work joined_0 1

abbrev pub joined_1 : RunState
joined_1 = entered_state keyed_1 1 1 2 key_1

pub keyed_0_turn : IsTurn death_work 0 turns.Moved death_start keyed_0
unfolding next_line is_joined standing_death
keyed_0_turn =
    register_turn death_work death_start 0
    (record {
      position = 0;
      line = line_of 2 0 commands.Join;
      at = record { next = refl; is = refl };
      join = refl;
      out = refl;
      keyless = refl;
      untold = refl;
      left = λ e. omega (arith, e);
      small = omega arith;
      alive = refl;
    })

pub joined_0_turn : IsTurn death_work 0 (turns.Answered (answers.Joined key_0)) keyed_0 joined_0
unfolding next_line is_joined standing_death kind_at regions
joined_0_turn =
    enter_turn death_work keyed_0 0 0 1 (line_of 2 0 commands.Join) key_0
    (record {
      at = record { next = refl; is = refl };
      join = refl;
      out = refl;
      alive = refl;
      memory = refl;
      shown = refl;
      placed = refl;
      slot = refl;
      small = omega arith;
      registered = (0, omega arith, refl);
      is_key = (λ e. omega (arith, e), omega arith);
      untold = refl;
    })

pub keyed_1_turn : IsTurn death_work 1 turns.Moved joined_0 keyed_1
unfolding next_line is_joined standing_death
keyed_1_turn =
    register_turn death_work joined_0 1
    (record {
      position = 1;
      line = line_of 3 1 commands.Join;
      at = record { next = refl; is = refl };
      join = refl;
      out = refl;
      keyless = refl;
      untold = refl;
      left = λ e. omega (arith, e);
      small = omega arith;
      alive = refl;
    })

pub joined_1_turn : IsTurn death_work 1 (turns.Answered (answers.Joined key_1)) keyed_1 joined_1
unfolding next_line is_joined standing_death kind_at regions
joined_1_turn =
    enter_turn death_work keyed_1 1 1 2 (line_of 3 1 commands.Join) key_1
    (record {
      at = record { next = refl; is = refl };
      join = refl;
      out = refl;
      alive = refl;
      memory = refl;
      shown = refl;
      placed = refl;
      slot = refl;
      small = omega arith;
      registered = (1, omega arith, refl);
      is_key = (λ e. omega (arith, e), omega arith);
      untold = refl;
    })

-- host 0 is to die at its next call: a turn without a call
abbrev pub doomed : RunState
doomed =
    record {
      device = joined_1.device;
      phase = joined_1.phase;
      answers = answered 2 (Some answers.Fine) joined_1.answers;
      history = joined_1.history ++ entry_at 2 None;
      events = joined_1.events ++ events_at 2 None (Some answers.Fine);
      notes = noting 0 (at_rest (keyed 32) 0 [] nothing) joined_1.notes;
    }

pub doomed_turn : IsTurn death_work 0 (turns.Answered answers.Fine) joined_1 doomed
unfolding next_line awaited is_joined
doomed_turn = record {
  position = 2;
  line = line_of 4 0 (commands.Die 1);
  made = None;
  placed = None;
  later = at_rest (keyed 32) 0 [] nothing;
  at = record { next = refl; is = refl };
  quiet = refl;
  acts = refl;
  moves = λ none. absurd cc;
  may = tt;
  marks = tt;
  files = tt;
  valid = tt;
  placing = record { file = λ e. absurd cc; once = λ e. absurd cc; plain = λ reply e. absurd cc; none = λ placeless. refl; own = tt };
  died = λ death. let e = death.0 in absurd cc;
  ending = λ living. record {
    cause = refl;
    at_once = record {
      fenced = λ r. absurd r;
      failed = λ r. absurd r;
      no_keys = λ r. absurd r;
      up = λ is joined. absurd cc;
      down = λ other out. absurd cc;
      refused = λ place n seen is joined none. absurd cc;
    };
    at_end = record { busy = λ key shown none. absurd cc; full = λ f i n is met. absurd cc };
    by_slot = record {
      joined = λ key is entered. absurd cc;
      unseen = λ of is shown. absurd cc;
      seen = λ of n is shown. absurd cc;
      few = λ of is joined count. absurd cc;
      live = λ of is found. absurd cc;
      free = λ of is found. absurd cc;
    };
    by_log = record { nothing = λ is joined none. absurd cc; full = λ is full. absurd cc };
    facts = record { rests = λ p has. absurd (none_in p has); stays = refl; last = λ own is done. absurd cc; left = λ is e. absurd cc };
  };
  noted = record { pending = refl; watch = refl; rest = refl };
  phase_is = refl;
  answers_are = refl;
  history_is = refl;
  events_are = refl;
  notes_are = refl;
}
