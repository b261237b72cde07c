-- The block whose digest a host waits for.
use Rattle.std.specs.Prelude.{◌≡◌, ℕ, Bool, true, false, List, [], ◌∷◌, Option, Some, None, if◌then◌else◌}
use Rattle.vol_base.specs.declared.block.Block.{Block}
use Rattle.vol_base.specs.declared.block.Digest.{Digest}
use Rattle.vol_base.specs.declared.command.Command.{Command}
use Rattle.vol_base.specs.declared.command.Command.TheVariants as commands
use Rattle.vol_base.specs.NumberBlock.{number_block}
use Rattle.vol_layout.specs.declared.geometry.Geometry.{Geometry}
use Rattle.vol_layout.specs.declared.kind.Kind.TheVariants as kinds
use Rattle.vol_layout.specs.Places.{kind_at}
use Rattle.workload.specs.declared.line.Line.{Line}
use Rattle.workload.specs.declared.line.Workload.{Workload}
use Rattle.shared_disk.specs.Events.{Event}
use Rattle.histories.specs.Joined.{is_joined}
use Rattle.host_runs.specs.DeviceCalls.{HasShown}
use Rattle.host_runs.specs.FileUses.{is_hint_place}
use Rattle.host_runs.specs.NextLines.{line_at, next_line}
use Rattle.host_runs.specs.Notes.{NotedCall, Notes}
use Rattle.host_runs.specs.RunStates.{RunState}

-- the block that a command waits for before its first call: that of a `write`, and that of a `scribble` of a block of hints
abbrev pub first_block : Geometry → Command → Option Block
first_block g (commands.Write f i n) = Some (number_block n)
first_block g (commands.Scribble place n seen) = if is_hint_place g place then Some (number_block n) else None
first_block g command = None

-- the block that a command of a joined host waits for, by its calls and the digests handed in
abbrev pub wanted : Geometry → Command → List NotedCall → List Digest → Option Block → Option Block
wanted g command [] [] asks = first_block g command
wanted g command [] (digest ∷ digests) asks = asks
wanted g command (call ∷ calls) digests asks = asks

abbrev pub wanted_at : Geometry → Bool → Notes → Option Line → Option Block
wanted_at g joined notes None = None
wanted_at g false notes (Some line) = None
wanted_at g true notes (Some line) = wanted g line.command notes.calls notes.digests notes.asks

-- the block that a host waits for in a state
unfoldable pub awaited : Workload → RunState → ℕ → Option Block
awaited w s host =
    wanted_at w.geometry (is_joined w.lines s.answers host) (s.notes host) (line_at w.lines (next_line w.lines s.answers s.phase host))

-- only these commands ask for the digest of a block that they read
abbrev pub AsksBehindCalls : Command → Type 0
AsksBehindCalls (commands.Scan f i) = Unit {0}
AsksBehindCalls commands.Merge = Unit {0}
AsksBehindCalls command = ⊥

-- what a command may ask for behind a call: nothing, or the digest of the data block that the call read
abbrev pub MayAskFor : Geometry → Command → Option Event → Option Block → Type 0
MayAskFor g command made None = Unit {0}
MayAskFor g command made (Some block) =
    AsksBehindCalls command × (d : ℕ) × (place : ℕ) × (kind_at g place ≡ Some (kinds.Number d)) × HasShown place block.0 made
