-- Turns by hand: a turn in which a device call is granted, from the few facts that are its own. The device tells nothing of its
-- content, so what a turn owes of images has nothing to show.
use Rattle.std.proofs.Common.{◌≡◌, ◌≢◌, ◌++◌, ℕ, true, false, true≢false, Option, Some, None, refl, sym, ◌∙◌, subst, arith}
use Rattle.std.specs.Prelude.{IfSome, IsSome}
use Rattle.vol_base.specs.PlainCalls.{plain_call_of}
use Rattle.vol_base.specs.declared.answer.Answer.{Answer}
use Rattle.vol_base.specs.declared.answer.Answer.TheVariants.{Cut}
use Rattle.vol_base.specs.declared.answer.CutBy.TheVariants.{Died}
use Rattle.vol_base.specs.declared.command.Command.{Command}
use Rattle.vol_base.specs.declared.command.Command.TheVariants as commands
use Rattle.vol_base.specs.declared.plain.PlainReply.{PlainReply}
use Rattle.workload.specs.declared.line.Line.{Line}
use Rattle.workload.specs.declared.line.Workload.{Workload}
use Rattle.shared_disk.specs.Calls.{next_count}
use Rattle.shared_disk.specs.Events.{Changes, Event, IsAdmitted, IsShutOut, IsSpent, MayAsk, Refuses}
use Rattle.shared_disk.specs.Seen.{DiskSeen, disk_seen}
use Rattle.shared_disk.specs.State.{State}
use Rattle.shared_disk.specs.declared.answers.DiskNo.{DiskNo}
use Rattle.histories.specs.Joined.{standing_death}
use Rattle.host_runs.specs.Awaited.{awaited}
use Rattle.host_runs.specs.CallRights.{MayMake}
use Rattle.host_runs.specs.Causes.{IsCause}
use Rattle.host_runs.specs.DeviceCalls.{ActsOnce, IsRefused}
use Rattle.host_runs.specs.Memories.{AreFileLocks, memory_after}
use Rattle.host_runs.specs.Moments.{Moment}
use Rattle.host_runs.specs.Notes.{Notes, noting}
use Rattle.host_runs.specs.Owed.{OwesAtEnd}
use Rattle.host_runs.specs.Rests.{IsNotedAfter}
use Rattle.host_runs.specs.RunStates.{RunState, answered, entry_at, events_at}
use Rattle.host_runs.specs.Steps.{IsAtLine, IsDeath, IsEnding, IsPlacing, IsStep, moment_of, notes_now}
use Rattle.host_runs.specs.TurnFacts.{MayMark}

-- the device behind a call that was granted
abbrev pub device_after : State → DiskSeen → DiskSeen
device_after state d = disk_seen state d.faults d.room (next_count d.calls)

-- the state behind a turn
abbrev pub turned : RunState → ℕ → ℕ → State → Option PlainReply → Option Answer → Notes → RunState
turned s host position state placed ended later =
    record {
      device = device_after state s.device;
      phase = s.phase;
      answers = answered position ended s.answers;
      history = s.history ++ entry_at position placed;
      events = s.events ++ events_at position placed ended;
      notes = noting host later s.notes;
    }

-- no call is refused by this reply
abbrev pub Grants : Event → Type 0
Grants e = (cause : DiskNo) → e.reply ≢ Refuses cause

-- a call that is granted, as the device's clauses tell it
pub granted : (e : Event) (d : DiskSeen) (state : State) → Grants e → MayAsk e.call d.state → Changes e.call e.reply d.state state
    → IsAdmitted e.key e.call e.reply d.state
    → (IsShutOut e.key e.call d.state → ⊥)
    → (IsSpent e.call d.state → ⊥)
    → ActsOnce (Some e) d (device_after state d)
granted e d state grants asked changes admitted inside left = (
  record {
    asked = asked;
    changes = changes;
    fenced = (λ r. absurd (grants _ r), λ out. absurd (inside out));
    admitted = admitted;
    no_keys = (λ r. absurd (grants _ r), λ spent. absurd (left spent));
    failed = λ r. absurd (grants _ r);
    later = omega arith;
    memory = λ r. absurd (grants _ r);
    spends = omega arith;
    counted = refl;
  },
  grants _,
)

-- what a turn of a line has of its own: its call with the state that it leaves, its place, its answer and the notes behind it
module _ (w : Workload) (s : RunState) (host position : ℕ) (line : Line) (e : Event) (state : State) (placed : Option PlainReply) (ended : Option Answer) (later : Notes) where
  abbrev pub at_turn : Moment
  at_turn = moment_of w host line.command (Some e) placed s state

  abbrev pub Dies : Type 0
  Dies = IsDeath (standing_death w.lines s.answers host) (Some e) (notes_now w.geometry host line.command s.device.state (Some e) placed (s.notes host))

  pub record IsGranted : Type 0 where
    pub at : IsAtLine w.lines s host position line
    pub quiet : awaited w s host ≡ None
    pub acts : ActsOnce (Some e) s.device (device_after state s.device)
    pub untold : s.device.state.told ≡ None
    pub still : state.told ≡ None
    pub may : MayMake at_turn e.key e.call
    pub marks : MayMark at_turn e.key e.call e.reply
    pub placing : IsPlacing line (s.notes host).placed placed (notes_now w.geometry host line.command s.device.state (Some e) placed (s.notes host)).placed ended
    pub died : Dies → ended ≡ Some (Cut Died)
    pub ending : (Dies → ⊥) → IsEnding at_turn ended
    pub noted : IsNotedAfter at_turn ended later

  -- such a turn is one of a run
  pub granted_turn : IsGranted → IsStep w host ended s (turned s host position state placed ended later)
  granted_turn is = record {
    position = position;
    line = line;
    made = Some e;
    placed = placed;
    later = later;
    at = is.at;
    quiet = is.quiet;
    acts = is.acts;
    moves = λ none. refl;
    may = is.may;
    marks = is.marks;
    files = rw (is.untold, is.still) tt;
    valid = rw is.still tt;
    placing = is.placing;
    died = is.died;
    ending = is.ending;
    noted = is.noted;
    phase_is = refl;
    answers_are = refl;
    history_is = refl;
    events_are = refl;
    notes_are = refl;
  }

-- a file command of a joined host, whose call is granted
pub record IsOfFile (m : Moment) : Type 0 where
  pub file : IsSome (plain_call_of m.command)
  pub joined : m.joined ≡ true
  pub grants : (cause : DiskNo) → IsRefused cause m.event → ⊥

no_file : (command : Command) → plain_call_of command ≡ None → (m : Moment) → IsOfFile m → m.command ≡ command → ⊥
no_file command none m of is = let e : IsSome (plain_call_of command) = subst (λ (c : Command). IsSome (plain_call_of c)) is of.file in let e2 = rw none at e in absurd cc

-- it owes nothing at once, and nothing by a slot or a log
pub file_ending : (m : Moment) (ended : Option Answer) → IsOfFile m → IfSome ended (IsCause m) → OwesAtEnd m ended
    → IfSome ended (λ answer. AreFileLocks m.geometry (memory_after answer m.command m.now.memory).holds)
    → IfSome ended (λ answer. (memory_after answer m.command m.now.memory).left ≡ false)
    → IsEnding m ended
file_ending m ended of cause at_end rests stays = record {
  cause = cause;
  at_once = record {
    fenced = λ r. absurd (of.grants _ r);
    failed = λ r. absurd (of.grants _ r);
    no_keys = λ r. absurd (of.grants _ r);
    up = λ is joined. absurd (no_file commands.Join refl m of is);
    down = λ other out. absurd (true≢false (sym of.joined ∙ out));
    refused = λ place n seen is joined none. absurd (no_file (commands.Scribble place n seen) refl m of is);
  };
  at_end = at_end;
  by_slot = record {
    joined = λ key is entered. absurd (no_file commands.Join refl m of is);
    unseen = λ host is shown. absurd (no_file (commands.Look host) refl m of is);
    seen = λ host n is shown. absurd (no_file (commands.Look host) refl m of is);
    few = λ host is joined count. absurd (no_file (commands.Recover host) refl m of is);
    live = λ host is found. absurd (no_file (commands.Recover host) refl m of is);
    free = λ host is found. absurd (no_file (commands.Recover host) refl m of is);
  };
  by_log = record {
    nothing = λ is joined none. absurd (no_file commands.Log refl m of is);
    full = λ is full. absurd (no_file commands.Log refl m of is);
  };
  facts = record {
    rests = rests;
    stays = stays;
    last = λ own is done. absurd (no_file commands.Leave refl m of is);
    left = λ is e. absurd (no_file commands.Leave refl m of is);
  };
}
