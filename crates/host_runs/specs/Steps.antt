-- Turns in which a host moves: at most one device call, at most one entry, and at most one answer.
use Rattle.std.specs.Prelude.{◌≡◌, ◌++◌, ℕ, List, Option, Some, None, IfSome, IsSome}
use Rattle.vol_base.specs.PlainCalls.{plain_call_of}
use Rattle.vol_base.specs.declared.answer.Answer.{Answer}
use Rattle.vol_base.specs.declared.answer.Answer.TheVariants.{Cut, Plain}
use Rattle.vol_base.specs.declared.answer.CutBy.TheVariants.{Died}
use Rattle.vol_base.specs.declared.command.Command.{Command}
use Rattle.vol_base.specs.declared.plain.PlainReply.{PlainReply}
use Rattle.vol_layout.specs.declared.geometry.Geometry.{Geometry}
use Rattle.workload.specs.declared.line.Line.{Line}
use Rattle.workload.specs.declared.line.Workload.{Workload}
use Rattle.shared_disk.specs.Events.{Event}
use Rattle.shared_disk.specs.State.{OnImages, State}
use Rattle.image_view.specs.Valid.{IsValid}
use Rattle.call_effects.specs.Places.{Places}
use Rattle.histories.specs.Answers.{MayGet}
use Rattle.histories.specs.Fit.{IsPlaceless}
use Rattle.histories.specs.Joined.{is_joined, standing_death}
use Rattle.histories.specs.Lines.{IsFileLine, IsLine}
use Rattle.host_runs.specs.Awaited.{awaited}
use Rattle.host_runs.specs.CallRights.{MayCall}
use Rattle.host_runs.specs.Causes.{IsCause}
use Rattle.host_runs.specs.DeviceCalls.{ActsOnce, OnImage}
use Rattle.host_runs.specs.Moments.{Moment}
use Rattle.host_runs.specs.NextLines.{next_line}
use Rattle.host_runs.specs.Notes.{Notes, noting, with_call, with_place}
use Rattle.host_runs.specs.Owed.{OwesAtEnd, OwesAtOnce, OwesByLog, OwesBySlot}
use Rattle.host_runs.specs.Rests.{IsNotedAfter}
use Rattle.host_runs.specs.RunStates.{RunState, answered, entry_at, events_at}
use Rattle.host_runs.specs.TurnFacts.{AreAtEnd, Marks}

-- the host is at this line
pub record IsAtLine (lines : List Line) (s : RunState) (host position : ℕ) (line : Line) : Type 0 where
  pub next : next_line lines s.answers s.phase host ≡ Some position
  pub is : IsLine lines position line

-- the notes with the call and the place of a turn
abbrev pub notes_now : Geometry → ℕ → Command → State → Option Event → Option PlainReply → Notes → Notes
notes_now g host command before made placed notes = with_place placed (with_call g host command before made notes)

-- a turn of a run as a moment
abbrev pub moment_of : Workload → ℕ → Command → Option Event → Option PlainReply → RunState → State → Moment
moment_of w host command made placed s after =
    record {
      geometry = w.geometry;
      host = host;
      command = command;
      joined = is_joined w.lines s.answers host;
      event = made;
      before = s.device.state;
      after = after;
      old = s.notes host;
      now = notes_now w.geometry host command s.device.state made placed (s.notes host);
    }

-- the entry of a turn: of a file command, which had none before; a plain reply is answered only with its place, and any other
-- answer but a cut only without; and each answer is one that its command can get
pub record IsPlacing (line : Line) (before placed now : Option PlainReply) (ended : Option Answer) : Type 0 where
  pub file : IsSome placed → IsFileLine line
  pub once : IsSome placed → before ≡ None
  pub plain : (reply : PlainReply) → ended ≡ Some (Plain reply) → now ≡ Some reply
  pub none : IfSome ended (λ answer. IsPlaceless answer → now ≡ None)
  pub own : IfSome ended (MayGet line.command)

-- the call of the turn is the one at which the host was to die
abbrev pub IsDeath : Option ℕ → Option Event → Notes → Type 0
IsDeath death made now = IsSome made × (death ≡ Some now.dying)

-- the answer has its cause, the answer that has to come is given, and what holds behind an answer
pub record IsEnding (m : Moment) (ended : Option Answer) : Type 0 where
  pub cause : IfSome ended (IsCause m)
  pub at_once : OwesAtOnce m ended
  pub at_end : OwesAtEnd m ended
  pub by_slot : OwesBySlot m ended
  pub by_log : OwesByLog m ended
  pub facts : AreAtEnd m ended

-- a turn of a host in which its command goes on, or is answered
pub record IsStep (w : Workload) (host : ℕ) (ended : Option Answer) (s t : RunState) : Type 0 where
  pub position : ℕ
  pub line : Line
  pub made : Option Event
  pub placed : Option PlainReply
  pub later : Notes
  pub at : IsAtLine w.lines s host position line
  pub quiet : awaited w s host ≡ None
  pub acts : ActsOnce made s.device t.device
  pub moves : ended ≡ None → IsSome made
  pub may : MayCall (moment_of w host line.command made placed s t.device.state) made
  pub marks : Marks (moment_of w host line.command made placed s t.device.state)
  pub files : OnImages (Places w.geometry (plain_call_of line.command) placed) s.device.state.told t.device.state.told
  pub valid : OnImage t.device.state (IsValid w.geometry t.device.state.counter)
  pub placing : IsPlacing line (s.notes host).placed placed (moment_of w host line.command made placed s t.device.state).now.placed ended
  pub died : IsDeath (standing_death w.lines s.answers host) made (moment_of w host line.command made placed s t.device.state).now
      → ended ≡ Some (Cut Died)
  pub ending : (IsDeath (standing_death w.lines s.answers host) made (moment_of w host line.command made placed s t.device.state).now → ⊥)
      → IsEnding (moment_of w host line.command made placed s t.device.state) ended
  pub noted : IsNotedAfter (moment_of w host line.command made placed s t.device.state) ended later
  pub phase_is : t.phase ≡ s.phase
  pub answers_are : t.answers ≡ answered position ended s.answers
  pub history_is : t.history ≡ s.history ++ entry_at position placed
  pub events_are : t.events ≡ s.events ++ events_at position placed ended
  pub notes_are : t.notes ≡ noting host later s.notes
