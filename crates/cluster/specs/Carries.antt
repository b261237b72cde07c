-- What a host keeps beside its plan, and what a step makes of it.
use Rattle.std.specs.Prelude.{◌≡◌, ◌∷◌, Bool, true, ℕ, List, [], None, Option, Some, if◌then◌else◌}
use Rattle.vol_base.specs.declared.answer.Answer.{Answer}
use Rattle.vol_base.specs.declared.answer.Answer.TheVariants.{Cut, Joined, Plain}
use Rattle.vol_base.specs.declared.answer.Next.{Next}
use Rattle.vol_base.specs.declared.answer.Next.TheVariants.{Answered}
use Rattle.vol_base.specs.declared.block.Digest.{Digest}
use Rattle.vol_base.specs.declared.command.Command.{Command}
use Rattle.vol_base.specs.declared.command.Command.TheVariants.{Write}
use Rattle.vol_base.specs.declared.plain.PlainReply.TheVariants.{Done}
use Rattle.vol_layout.specs.declared.geometry.Geometry.{Geometry}
use Rattle.hint_blocks.specs.declared.entry.LogEntry.{LogEntry}
use Rattle.hint_blocks.specs.Entries.{IsPlace}
use Rattle.hint_blocks.specs.HintLists.{HintList}
use Rattle.host_facts.specs.Views.{WorldView}
use Rattle.host_runs.specs.Memories.{drops}
use Rattle.host_runs.specs.Notes.{Notes}
use Rattle.host_runs.specs.Rests.{hint_pushed}
use Rattle.recover_plan.specs.PlanSteps.{AreWatched}
use Rattle.watch.specs.Looks.{nothing}
use Rattle.watch.specs.declared.watch.Look.{Look}
use Rattle.cluster.specs.declared.carried.Carried.{Carried}

-- of a host that has not begun; the room of its merges may have anything
pub record IsFresh (g : Geometry) (carried : Carried) : Type 0 where
  pub watch : carried.watch ≡ nothing
  pub pending : carried.pending ≡ record { geometry = g; entries = [] }
  pub digest : carried.digest ≡ None

-- what is remembered of slots is right, and the pending hints are of the volume
pub record IsCarried (v : WorldView) (h : ℕ) (carried : Carried) : Type 0 where
  pub watched : AreWatched v h carried.watch
  pub volume : carried.pending.geometry ≡ v.locks.geometry

-- no pending hints, and those with the one of a `write` that is done
abbrev pub emptied : HintList LogEntry → HintList LogEntry
emptied pending = record pending { entries = [] }

abbrev pub written : Command → Option Digest → HintList LogEntry → HintList LogEntry
written (Write f i n) (Some digest) pending = record pending { entries = hint_pushed f pending.entries (digest, i) }
written command digest pending = pending

-- whether a host loses its pending hints: where it is dropped, or has joined
abbrev pub loses : Answer → Command → Bool
loses (Joined key) command = true
loses answer command = drops answer command

-- the pending hints behind a step of a command that is none on hints
abbrev pub hints_behind : Command → Next → Option Digest → HintList LogEntry → HintList LogEntry
hints_behind command (Answered (Plain Done)) digest pending = written command digest pending
hints_behind command (Answered answer) digest pending = if loses answer command then emptied pending else pending
hints_behind command next digest pending = pending

-- a host that was cut remembers no slot
abbrev pub looks_behind : Next → List (Option Look) → List (Option Look)
looks_behind (Answered (Cut by)) watch = nothing
looks_behind next watch = watch

-- both, behind such a step
abbrev pub carried_behind : Command → Next → Carried → Carried
carried_behind command next carried =
    record carried { watch = looks_behind next carried.watch; pending = hints_behind command next carried.digest carried.pending }

-- the place of a `write`, of which a hint may be made
abbrev pub IsPlaceOf : Geometry → Command → Type 0
IsPlaceOf g (Write f i n) = IsPlace g f i
IsPlaceOf g command = Unit {0}

-- the hint of a `write` that is done may be made
abbrev pub MayNote : Geometry → Command → Next → Type 0
MayNote g command (Answered (Plain Done)) = IsPlaceOf g command
MayNote g command next = Unit {0}

-- the digest of a `write` under way is the one that was handed in
abbrev pub HasDigest : Command → Option Digest → List Digest → Type 0
HasDigest (Write f i n) digest digests = (d : Digest) × (digest ≡ Some d) × (digests ≡ d ∷ [])
HasDigest command digest digests = Unit {0}

-- and it has its place with `done` only where a hint may be made of it
pub record IsWriteNoted (g : Geometry) (command : Command) (digest : Option Digest) (n : Notes) : Type 0 where
  pub handed : HasDigest command digest n.digests
  pub range : n.placed ≡ Some Done → IsPlaceOf g command
