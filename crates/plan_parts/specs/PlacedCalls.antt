-- One device call of a plan by which a plain call may get its place in the history.
use Rattle.std.specs.Prelude.{◌≡◌, ℕ, IsSome, Option, Some}
use Rattle.vol_base.specs.declared.command.Command.{Command}
use Rattle.vol_base.specs.declared.plain.PlainReply.{PlainReply}
use Rattle.vol_base.specs.PlainCalls.{plain_call_of}
use Rattle.shared_disk.specs.Events.{Acts, Event}
use Rattle.shared_disk.specs.State.{OnImages}
use Rattle.call_effects.specs.Places.{Places}
use Rattle.lock_store.specs.Views.{told_of}
use Rattle.host_notes.specs.FileTurns.{IsAnswered}
use Rattle.host_facts.specs.Others.{Others}
use Rattle.host_facts.specs.Views.{WorldView}
use Rattle.host_facts.specs.Wrote.{HasValidImage}
use Rattle.host_runs.specs.Notes.{Notes}
use Rattle.plan_parts.specs.QuietCalls.{Allows, Noting}

-- as a quiet call; but where a reply is placed, the call is the step in which the files become as the plain call leaves them
pub record PlacedCall (command : Command) (h : ℕ) (v w : WorldView) (e : Event) (placed : Option PlainReply) (Before After : Notes → Type 0)
    : Type 0 where
  pub acts : Acts e v.locks.disk w.locks.disk
  pub answered : IsAnswered (Some e)
  pub geometry : w.locks.geometry ≡ v.locks.geometry
  pub others : Others h v w
  pub valid : HasValidImage w
  pub files : OnImages (Places v.locks.geometry (plain_call_of command) placed) (told_of v.locks) (told_of w.locks)
  pub file : IsSome placed → IsSome (plain_call_of command)
  pub allowed : Allows command h v e Before
  pub noted : Noting command h v e Before After
