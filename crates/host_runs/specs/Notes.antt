-- The notes of a host: what its present command did so far, and what it keeps from one command to the next.
use Rattle.std.specs.Prelude.{◌+◌, ◌++◌, ◌∷◌, ◌==◌, ℕ, List, [], Option, Some, None, if◌then◌else◌}
use Rattle.std.specs.Option.{option_or}
use Rattle.vol_base.specs.declared.block.Block.{Block}
use Rattle.vol_base.specs.declared.block.Digest.{Digest}
use Rattle.vol_base.specs.declared.command.Command.{Command}
use Rattle.vol_base.specs.declared.plain.PlainReply.{PlainReply}
use Rattle.vol_layout.specs.declared.geometry.Geometry.{Geometry}
use Rattle.shared_disk.specs.Events.{Event}
use Rattle.shared_disk.specs.State.{State}
use Rattle.hint_blocks.specs.declared.entry.LogEntry.{LogEntry}
use Rattle.watch.specs.declared.watch.Look.{Look}
use Rattle.watch.specs.Looks.{nothing}
use Rattle.host_runs.specs.Memories.{Memory, no_memory, remembered}
use Rattle.host_runs.specs.Tries.{Tries, no_tries, tried}

-- a device call of a command, and the device as it was at that call
pub record NotedCall : Type 0 where
  pub event : Event
  pub before : State

-- the notes of a host. Of its present command: its calls, the digests handed in, the block whose digest it asks for, what its
-- tries showed, and the reply that has its place in the history. Beyond it: the host's memory, the number of its calls since its
-- standing death, its pending hints, and its looks at other slots.
pub record Notes : Type 0 where
  pub calls : List NotedCall
  pub digests : List Digest
  pub asks : Option Block
  pub tries : Tries
  pub placed : Option PlainReply
  pub memory : Memory
  pub dying : ℕ
  pub pending : List LogEntry
  pub watch : List (Option Look)

-- a host that has no command under way
abbrev pub at_rest : Memory → ℕ → List LogEntry → List (Option Look) → Notes
at_rest memory dying pending watch =
    record {
      calls = [];
      digests = [];
      asks = None;
      tries = no_tries;
      placed = None;
      memory = memory;
      dying = dying;
      pending = pending;
      watch = watch;
    }

-- before its first command
abbrev pub no_notes : Notes
no_notes = at_rest no_memory 0 [] nothing

-- after one more call
abbrev pub with_call : Geometry → ℕ → Command → State → Option Event → Notes → Notes
with_call g host command before None notes = notes
with_call g host command before (Some e) notes =
    record notes {
      calls = notes.calls ++ record { event = e; before = before } ∷ [];
      tries = tried g host command notes.memory.claims e notes.tries;
      memory = remembered g host e notes.memory;
      dying = notes.dying + 1;
    }

-- after a reply that got its place in the history
abbrev pub with_place : Option PlainReply → Notes → Notes
with_place placed notes = record notes { placed = option_or notes.placed placed }

-- after a digest that was handed in
abbrev pub with_digest : Digest → Notes → Notes
with_digest digest notes = record notes { digests = notes.digests ++ digest ∷ []; asks = None }

-- the notes of all hosts, where those of one are new
abbrev pub noting : ℕ → Notes → (ℕ → Notes) → ℕ → Notes
noting host now notes h = if h == host then now else notes h
