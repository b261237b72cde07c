-- How a command on hints ends: with what its host then has pending; without a call; or cut.
use Rattle.std.proofs.Common.{◌≡◌, ◌∙◌, ℕ, List, [], None, Option, Some, refl, sym}
use Rattle.vol_base.specs.declared.answer.Answer.{Answer}
use Rattle.vol_base.specs.declared.answer.Answer.TheVariants as answers
use Rattle.vol_base.specs.declared.answer.CutBy.{CutBy}
use Rattle.vol_base.specs.declared.answer.Next.TheVariants.{Answered}
use Rattle.vol_base.specs.declared.command.Command.{Command}
use Rattle.vol_base.specs.declared.command.Command.TheVariants as commands
use Rattle.vol_base.specs.PlainCalls.{plain_call_of}
use Rattle.hint_blocks.specs.declared.entry.LogEntry.{LogEntry}
use Rattle.call_effects.specs.Places.{KeepsFiles}
use Rattle.lock_store.specs.Views.{told_of}
use Rattle.disk_locks.specs.Consistent.{Consistent}
use Rattle.host_facts.specs.Views.{WorldView}
use Rattle.host_facts.specs.laws.ToldLaws.{both_same}
use Rattle.host_notes.specs.VolumeTurns.{IsOnVolume, OwesOther, VolumeTurn}
use Rattle.host_runs.specs.HintCauses.{AreLogsFull}
use Rattle.host_runs.specs.Moments.{Moment}
use Rattle.host_runs.specs.Notes.{Notes}
use Rattle.host_runs.specs.Owed.{Gets}
use Rattle.host_runs.specs.Rests.{HasPending}
use Rattle.plan_parts.specs.Steps.{IsAtRest, OwesStep}
use Rattle.plan_parts.specs.laws.QuietCallLaws.{valid_now}
use Rattle.plan_parts.specs.laws.TurnLaws.{no_places}
use Rattle.hint_plans.specs.Plans.{RestsWith, called_step}

-- what an answer says of the pending hints
pub ended_rests : (command : Command) (h : ℕ) (v w : WorldView) (answer : Answer) (Before : Notes → Type 0) (pending : List LogEntry)
    → ((n : Notes) (m : Moment) (later : List LogEntry) → Before n → m.old ≡ n → m.command ≡ command → HasPending answer m later
    → later ≡ pending)
    → OwesStep command h v w (called_step (Answered answer)) Before (IsAtRest w h)
    → OwesStep command h v w (called_step (Answered answer)) Before (RestsWith h w pending)
ended_rests command h v w answer Before pending says step = record {
  made = step.made;
  called = step.called;
  others = step.others;
  quiet = step.quiet;
  owes = λ n before.
      let (later, owed, rests) = step.owes n before in (
        later,
        owed,
        record { rests = rests; pending_is = says n _ later.pending before refl refl owed.noted.pending },
      );
}

-- a host that was cut has none
pub cut_pending : (command : Command) (by : CutBy) (m : Moment) (later : List LogEntry) → HasPending (answers.Cut by) m later → later ≡ []
cut_pending command by m later is = is

-- a turn without a call
pub uncalled_turn : (command : Command) (h : ℕ) (v : WorldView) (n : Notes) → Consistent v.locks → IsOnVolume command → n.placed ≡ None
    → VolumeTurn v.locks.geometry h command v.locks.disk v.locks.disk None n
uncalled_turn command h v n c on unplaced = record {
  on = on;
  acts = refl;
  answered = tt;
  may = tt;
  marks = tt;
  files = no_places v.locks.geometry (plain_call_of command) (told_of v.locks) (told_of v.locks)
      (both_same (told_of v.locks) (told_of v.locks) KeepsFiles refl (λ image f. refl));
  valid = valid_now v c;
  unplaced = unplaced;
}

-- what a `log` owes by its hints, and by the blocks that it read
pub log_owes : (m : Moment) (ended : Option Answer) → m.command ≡ commands.Log → (m.old.pending ≡ [] → ended ≡ Some (answers.Logged 0))
    → (AreLogsFull m.geometry m.host m.now.calls → Gets (answers.Logged 0) ended) → OwesOther m ended
log_owes m ended log nothing full = record {
  refused = λ place k seen is. let both : commands.Log ≡ commands.Scribble place k seen = sym log ∙ is in absurd cc;
  by_log = record { nothing = λ is here none. nothing none; full = λ is all. full all };
}
