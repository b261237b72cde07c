-- One device call of a plan that changes no file.
use Rattle.std.specs.Prelude.{◌≡◌, ℕ, List, None, Option, Some}
use Rattle.vol_base.specs.declared.command.Command.{Command}
use Rattle.vol_base.specs.declared.plain.PlainReply.{PlainReply}
use Rattle.shared_disk.specs.Events.{Acts, Event}
use Rattle.lock_store.specs.Views.{host_at}
use Rattle.host_runs.specs.Moments.{Moment}
use Rattle.host_runs.specs.Awaited.{wanted}
use Rattle.host_runs.specs.FullCauses.{HasMetFull}
use Rattle.host_runs.specs.Notes.{NotedCall, Notes, with_call}
use Rattle.host_notes.specs.Allowed.{IsAllowed, IsTurnOf}
use Rattle.host_notes.specs.FileTurns.{IsAnswered, MeetsNoFull}
use Rattle.host_notes.specs.Remembered.{IsRemembered}
use Rattle.host_facts.specs.Others.{Others}
use Rattle.host_facts.specs.Views.{WorldView}
use Rattle.host_facts.specs.Wrote.{FilesStay, HasValidImage}
use Rattle.vol_layout.specs.declared.geometry.Geometry.{Geometry}
use Rattle.plan_parts.specs.declared.outcome.Outcome.{Outcome}
use Rattle.plan_parts.specs.declared.outcome.Outcome.TheVariants.{Busy, Full, Placed}

-- the reply that has its place, and the key that was shown, by what the command has come to
abbrev pub placed_of : Outcome → Option PlainReply
placed_of (Placed reply) = Some reply
placed_of outcome = None

abbrev pub shown_of : Outcome → Option ℕ
shown_of (Busy key) = Some key.0
shown_of outcome = None

-- one of the calls met the volume full where the command has to say so, and none did elsewhere
abbrev pub IsFullNoted : Geometry → Command → Outcome → List NotedCall → Type 0
IsFullNoted g command Full calls = HasMetFull g calls
IsFullNoted g command outcome calls = MeetsNoFull g command calls

-- the notes of a command under way agree with the host's memory, and with what the command has come to; no digest is waited for
pub record Noted (command : Command) (h : ℕ) (v : WorldView) (outcome : Outcome) (n : Notes) : Type 0 where
  pub remembered : IsRemembered v.locks.geometry n.memory (host_at v.locks h)
  pub placed_is : n.placed ≡ placed_of outcome
  pub shown_is : n.tries.shown ≡ shown_of outcome
  pub full : IsFullNoted v.locks.geometry command outcome n.calls
  pub asks : n.asks ≡ None
  pub wants : wanted v.locks.geometry command n.calls n.digests n.asks ≡ None

-- notes that agreed before the call agree with it behind it
abbrev pub Noting : Command → ℕ → WorldView → Event → (Notes → Type 0) → (Notes → Type 0) → Type 0
Noting command h v e Before After = (n : Notes) → Before n → After (with_call v.locks.geometry h command v.locks.disk.state (Some e) n)

-- a turn of the command, with notes that agree, may make the call
abbrev pub Allows : Command → ℕ → WorldView → Event → (Notes → Type 0) → Type 0
Allows command h v e Before = (m : Moment) → IsTurnOf v.locks h m → m.command ≡ command → Before m.old → IsAllowed m e

-- the call was answered, its turn may make it, and the files stay; notes that agree before it agree behind it
pub record QuietCall (command : Command) (h : ℕ) (v w : WorldView) (e : Event) (Before After : Notes → Type 0) : Type 0 where
  pub acts : Acts e v.locks.disk w.locks.disk
  pub answered : IsAnswered (Some e)
  pub geometry : w.locks.geometry ≡ v.locks.geometry
  pub others : Others h v w
  pub valid : HasValidImage w
  pub files : FilesStay v w
  pub allowed : Allows command h v e Before
  pub noted : Noting command h v e Before After

-- the same of any command, where the notes say no more than what it has come to, and that stays
abbrev pub Quiet : ℕ → WorldView → WorldView → Event → Type 0
Quiet h v w e =
    (command : Command) (outcome : Outcome)
    → QuietCall command h v w e (Noted command h v outcome) (Noted command h w outcome)
