-- What a turn of one host is, whatever its line and the lists of the run.
use Rattle.std.specs.Prelude.{◌≡◌, ℕ, Bool, true, Option, None, Some, IfSome, IsSome}
use Rattle.vol_base.specs.declared.answer.Answer.{Answer}
use Rattle.vol_base.specs.declared.answer.Answer.TheVariants.{Cut, Plain}
use Rattle.vol_base.specs.declared.answer.CutBy.TheVariants.{Died}
use Rattle.vol_base.specs.declared.command.Command.{Command}
use Rattle.vol_base.specs.declared.plain.PlainReply.{PlainReply}
use Rattle.vol_base.specs.PlainCalls.{plain_call_of}
use Rattle.vol_layout.specs.declared.geometry.Geometry.{Geometry}
use Rattle.shared_disk.specs.Events.{Event}
use Rattle.shared_disk.specs.Seen.{DiskSeen}
use Rattle.shared_disk.specs.State.{OnImages}
use Rattle.image_view.specs.Valid.{IsValid}
use Rattle.call_effects.specs.Places.{Places}
use Rattle.histories.specs.Answers.{MayGet}
use Rattle.histories.specs.Fit.{IsPlaceless}
use Rattle.host_runs.specs.Awaited.{wanted}
use Rattle.host_runs.specs.CallRights.{MayCall}
use Rattle.host_runs.specs.DeviceCalls.{ActsOnce, OnImage}
use Rattle.host_runs.specs.Moments.{Moment}
use Rattle.host_runs.specs.Notes.{Notes}
use Rattle.host_runs.specs.Rests.{IsNotedAfter}
use Rattle.host_runs.specs.Steps.{IsDeath, IsEnding, notes_now}
use Rattle.host_runs.specs.TurnFacts.{Marks}

-- the turn as its answer's cause sees it
abbrev pub turn_moment : Geometry → ℕ → Bool → Command → DiskSeen → DiskSeen → Option Event → Option PlainReply → Notes → Moment
turn_moment g h joined command old new made placed n =
    record {
      geometry = g;
      host = h;
      command = command;
      joined = joined;
      event = made;
      before = old.state;
      after = new.state;
      old = n;
      now = notes_now g h command old.state made placed n;
    }

-- a turn of a host that is joined or not, and has this standing death
pub record IsHostTurn (g : Geometry) (h : ℕ) (joined : Bool) (death : Option ℕ) (command : Command) (old new : DiskSeen) (made : Option Event)
    (placed : Option PlainReply) (ended : Option Answer) (n later : Notes) : Type 0 where
  pub quiet : joined ≡ true → wanted g command n.calls n.digests n.asks ≡ None
  pub acts : ActsOnce made old new
  pub moves : ended ≡ None → IsSome made
  pub may : MayCall (turn_moment g h joined command old new made placed n) made
  pub marks : Marks (turn_moment g h joined command old new made placed n)
  pub files : OnImages (Places g (plain_call_of command) placed) old.state.told new.state.told
  pub valid : OnImage new.state (IsValid g new.state.counter)
  pub file : IsSome placed → IsSome (plain_call_of command)
  pub once : IsSome placed → n.placed ≡ None
  pub plain : (reply : PlainReply) → ended ≡ Some (Plain reply) → (turn_moment g h joined command old new made placed n).now.placed ≡ Some reply
  pub none : IfSome ended (λ answer. IsPlaceless answer → (turn_moment g h joined command old new made placed n).now.placed ≡ None)
  pub own : IfSome ended (MayGet command)
  pub died : IsDeath death made (turn_moment g h joined command old new made placed n).now → ended ≡ Some (Cut Died)
  pub ending : (IsDeath death made (turn_moment g h joined command old new made placed n).now → ⊥)
      → IsEnding (turn_moment g h joined command old new made placed n) ended
  pub noted : IsNotedAfter (turn_moment g h joined command old new made placed n) ended later
