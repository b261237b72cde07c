-- Two hosts join, by hand: the workload of the run that the next file shows whole, the states behind its first four turns, and these
-- turns, over a device that tells nothing of its content.
use Rattle.std.proofs.Common.{◌∷◌, ℕ, [], None, refl, arith}
use Rattle.vol_base.specs.declared.answer.Answer.TheVariants as answers
use Rattle.vol_base.specs.declared.answer.Turn.TheVariants as turns
use Rattle.vol_base.specs.declared.block.Key.{Key}
use Rattle.vol_base.specs.declared.command.Command.{Command}
use Rattle.vol_base.specs.declared.command.Command.TheVariants as commands
use Rattle.vol_layout.specs.declared.geometry.Geometry.{Geometry}
use Rattle.vol_layout.specs.Places.{kind_at}
use Rattle.vol_layout.specs.Regions.{regions}
use Rattle.workload.specs.declared.line.Line.{Line}
use Rattle.workload.specs.declared.line.Workload.{Workload}
use Rattle.shared_disk.specs.Seen.{disk_seen}
use Rattle.histories.specs.Joined.{is_joined, standing_death}
use Rattle.host_runs.specs.NextLines.{next_line}
use Rattle.host_runs.specs.RunStates.{RunState, opening}
use Rattle.host_runs.specs.Runs.{IsTurn}
use Rattle.host_runs.specs.laws.EnterLaws.{enter_turn, entered_state}
use Rattle.host_runs.specs.laws.ExampleLaws.{register_turn, registered_state}

-- two hosts and four files: the slots stand at 1 and 2, the lock of file 0 at 5, its table at 11
abbrev pub volume : Geometry
volume = record { hosts = 2; files = 4; groups = 1; parts = 1; shards = 4; logs = 1; tables = 1 }

abbrev pub line_of : ℕ → ℕ → Command → Line
line_of at host command = record { at = at; phase = 0; host = host; command = command }

abbrev pub work : Workload
work =
    record {
      geometry = volume;
      lines = line_of 2 0 commands.Join ∷ line_of 3 1 commands.Join ∷ line_of 4 0 (commands.Create 0) ∷ line_of 5 1 (commands.Read 0 0) ∷ [];
      phases = 1;
    }

-- the keys that the hosts get from a counter of 1
abbrev pub key_0 : Key
key_0 = record { 0 = 32 }

abbrev pub key_1 : Key
key_1 = record { 0 = 49 }

abbrev pub start : RunState
start = opening work (disk_seen (record { blocks = 2000; keys = []; counter = 1; told = None }) 0 100 0)

-- both hosts join
abbrev pub state_1 : RunState
state_1 = registered_state work start 0

abbrev pub state_2 : RunState
state_2 = entered_state state_1 0 0 1 key_0

abbrev pub state_3 : RunState
state_3 = registered_state work state_2 1

abbrev pub state_4 : RunState
state_4 = entered_state state_3 1 1 2 key_1

pub turn_1 : IsTurn work 0 turns.Moved start state_1
unfolding next_line is_joined standing_death
turn_1 =
    register_turn work start 0
    (record {
      position = 0;
      line = line_of 2 0 commands.Join;
      at = record { next = refl; is = refl };
      join = refl;
      out = refl;
      keyless = refl;
      untold = refl;
      left = λ e. omega (arith, e);
      small = omega arith;
      alive = refl;
    })

pub turn_2 : IsTurn work 0 (turns.Answered (answers.Joined key_0)) state_1 state_2
unfolding next_line is_joined standing_death kind_at regions
turn_2 =
    enter_turn work state_1 0 0 1 (line_of 2 0 commands.Join) key_0
    (record {
      at = record { next = refl; is = refl };
      join = refl;
      out = refl;
      alive = refl;
      memory = refl;
      shown = refl;
      placed = refl;
      slot = refl;
      small = omega arith;
      registered = (0, omega arith, refl);
      is_key = (λ e. omega (arith, e), omega arith);
      untold = refl;
    })

pub turn_3 : IsTurn work 1 turns.Moved state_2 state_3
unfolding next_line is_joined standing_death
turn_3 =
    register_turn work state_2 1
    (record {
      position = 1;
      line = line_of 3 1 commands.Join;
      at = record { next = refl; is = refl };
      join = refl;
      out = refl;
      keyless = refl;
      untold = refl;
      left = λ e. omega (arith, e);
      small = omega arith;
      alive = refl;
    })

pub turn_4 : IsTurn work 1 (turns.Answered (answers.Joined key_1)) state_3 state_4
unfolding next_line is_joined standing_death kind_at regions
turn_4 =
    enter_turn work state_3 1 1 2 (line_of 3 1 commands.Join) key_1
    (record {
      at = record { next = refl; is = refl };
      join = refl;
      out = refl;
      alive = refl;
      memory = refl;
      shown = refl;
      placed = refl;
      slot = refl;
      small = omega arith;
      registered = (1, omega arith, refl);
      is_key = (λ e. omega (arith, e), omega arith);
      untold = refl;
    })
