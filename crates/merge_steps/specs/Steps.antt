-- A device call of a merge on a hint block, and what the notes of its host agree with.
use Rattle.std.specs.Prelude.{◌≡◌, ◌++◌, ◌∷◌, ◌<◌, ℕ, Bool, List, [], None, Some, true}
use Rattle.vol_base.specs.declared.block.Block.{Block}
use Rattle.vol_base.specs.declared.command.Command.TheVariants.{Merge}
use Rattle.vol_layout.specs.declared.kind.Kind.{Kind}
use Rattle.vol_layout.specs.declared.kind.Kind.TheVariants as kinds
use Rattle.shared_disk.specs.Events.{Call, Done, Reply, event}
use Rattle.hint_blocks.specs.declared.entry.LogEntry.{LogEntry}
use Rattle.lock_store.specs.Views.{host_at, key_at}
use Rattle.host_facts.specs.Facts.{Fact}
use Rattle.host_facts.specs.Knows.{Knows}
use Rattle.host_facts.specs.Views.{WorldView}
use Rattle.host_runs.specs.Notes.{NotedCall, Notes}
use Rattle.plan_parts.specs.QuietCalls.{Noted, QuietCall}
use Rattle.plan_parts.specs.declared.outcome.Outcome.{Outcome}
use Rattle.plan_parts.specs.declared.outcome.Outcome.TheVariants.{Open}
use Rattle.plan_parts.specs.Steps.{IsReady}
use Rattle.merge_steps.specs.Logs.{AreLogs, LogsRead}

-- a host of the volume that is ready
pub record IsMerging (v : WorldView) (h : ℕ) : Type 0 where
  pub host : h < v.locks.geometry.hosts
  pub ready : IsReady v h

-- the notes of a merge under way, by what it has come to: these hints are pending, and its calls did this with the own log blocks
pub record MergeCame (h : ℕ) (v : WorldView) (outcome : Outcome) (pending : List LogEntry) (r : LogsRead) (n : Notes) : Type 0 where
  pub noted : Noted Merge h v outcome n
  pub pending_is : n.pending ≡ pending
  pub logs : AreLogs v.locks.geometry h r n.calls

-- where it has come to nothing yet
abbrev pub MergeNoted : ℕ → WorldView → List LogEntry → LogsRead → Notes → Type 0
MergeNoted h v pending r n = MergeCame h v Open pending r n

-- and the digest of this block is waited for, which the last call showed
pub record MergeAsking (h : ℕ) (v : WorldView) (pending : List LogEntry) (r : LogsRead) (block : Block) (n : Notes) : Type 0 where
  pub noted : MergeNoted h v pending r (record n { asks = None })
  pub asks : n.asks ≡ Some block
  pub earlier : List NotedCall
  pub last : NotedCall
  pub calls_are : n.calls ≡ earlier ++ last ∷ []

-- a shard block, or one of requests
abbrev pub IsIndex : Kind → Type 0
IsIndex (kinds.Shard s) = Unit {0}
IsIndex (kinds.Request f) = Unit {0}
IsIndex kind = ⊥

-- a step made this call, got this reply, and changed no file: its turn may make it in a merge, and the notes agree behind it with what was
-- then done with the own log blocks; what the host has and knows stays
pub record Went (h : ℕ) (v w : WorldView) (call : Call) (reply : Reply) (before after : LogsRead) : Type 0 where
  pub quiet : (pending : List LogEntry)
      → QuietCall Merge h v w (event (key_at v.locks h) call reply) (MergeNoted h v pending before) (MergeNoted h w pending after)
  pub geometry : w.locks.geometry ≡ v.locks.geometry
  pub memory : host_at w.locks h ≡ host_at v.locks h
  pub facts : (a : Fact) → Knows v h a → Knows w h a

-- the reply to a test-and-set, by whether the block that was tested stood there
abbrev pub IsSwapReply : Bool → Reply → Type 0
IsSwapReply swapped reply = swapped ≡ true → reply ≡ Done
