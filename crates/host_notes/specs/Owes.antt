-- What a plan answers for in a turn of its host: all of the turn but its line, the history, and death.
use Rattle.std.specs.Prelude.{◌≡◌, ℕ, Bool, true, false, Option, Some, None, IfSome, IsSome}
use Rattle.vol_base.specs.declared.answer.Answer.{Answer}
use Rattle.vol_base.specs.declared.answer.Answer.TheVariants.{Plain}
use Rattle.vol_base.specs.declared.command.Command.{Command}
use Rattle.vol_base.specs.declared.command.Command.TheVariants.{Join}
use Rattle.vol_base.specs.declared.plain.PlainReply.{PlainReply}
use Rattle.vol_base.specs.PlainCalls.{plain_call_of}
use Rattle.vol_layout.specs.declared.geometry.Geometry.{Geometry}
use Rattle.shared_disk.specs.Events.{Event}
use Rattle.shared_disk.specs.Seen.{DiskSeen}
use Rattle.shared_disk.specs.State.{OnImages}
use Rattle.image_view.specs.Valid.{IsValid}
use Rattle.call_effects.specs.Places.{Places}
use Rattle.histories.specs.Answers.{MayGet}
use Rattle.histories.specs.Fit.{IsPlaceless}
use Rattle.host_runs.specs.CallRights.{MayCall}
use Rattle.host_runs.specs.DeviceCalls.{ActsOnce, OnImage}
use Rattle.host_runs.specs.Moments.{Moment}
use Rattle.host_runs.specs.Notes.{Notes}
use Rattle.host_runs.specs.Rests.{IsNotedAfter}
use Rattle.host_runs.specs.Steps.{IsEnding, notes_now}
use Rattle.host_runs.specs.TurnFacts.{Marks}

-- a plan runs for a host that is joined, and a `join` for one that is not
abbrev pub joined_in : Command → Bool
joined_in Join = false
joined_in command = true

-- the turn as its answer's cause sees it
abbrev pub plan_moment : Geometry → ℕ → Command → DiskSeen → DiskSeen → Option Event → Option PlainReply → Notes → Moment
plan_moment g h command old new made placed n =
    record {
      geometry = g;
      host = h;
      command = command;
      joined = joined_in command;
      event = made;
      before = old.state;
      after = new.state;
      old = n;
      now = notes_now g h command old.state made placed n;
    }

pub record Owes (g : Geometry) (h : ℕ) (command : Command) (old new : DiskSeen) (made : Option Event) (placed : Option PlainReply)
    (ended : Option Answer) (n later : Notes) : Type 0 where
  pub acts : ActsOnce made old new
  pub moves : ended ≡ None → IsSome made
  pub may : MayCall (plan_moment g h command old new made placed n) made
  pub marks : Marks (plan_moment g h command old new made placed n)
  pub files : OnImages (Places g (plain_call_of command) placed) old.state.told new.state.told
  pub valid : OnImage new.state (IsValid g new.state.counter)
  pub file : IsSome placed → IsSome (plain_call_of command)
  pub once : IsSome placed → n.placed ≡ None
  pub plain : (reply : PlainReply) → ended ≡ Some (Plain reply) → (plan_moment g h command old new made placed n).now.placed ≡ Some reply
  pub none : IfSome ended (λ answer. IsPlaceless answer → (plan_moment g h command old new made placed n).now.placed ≡ None)
  pub own : IfSome ended (MayGet command)
  pub ending : IsEnding (plan_moment g h command old new made placed n) ended
  pub noted : IsNotedAfter (plan_moment g h command old new made placed n) ended later
