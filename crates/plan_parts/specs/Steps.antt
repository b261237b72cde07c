-- What a step of a plan owes to a run, and what stands between two commands of a host.
use Rattle.std.specs.Prelude.{◌≡◌, ◌⊎◌, ℕ, true, [], None, Option, Some, is_some}
use Rattle.vol_base.specs.declared.answer.Answer.{Answer}
use Rattle.vol_base.specs.declared.answer.Answer.TheVariants as answers
use Rattle.vol_base.specs.declared.answer.Answer.TheVariants.{Fine, Plain}
use Rattle.vol_base.specs.declared.answer.Next.{Next}
use Rattle.vol_base.specs.declared.answer.Next.TheVariants.{Answered, More, Work}
use Rattle.vol_base.specs.declared.answer.Step.{Step}
use Rattle.vol_base.specs.declared.command.Command.{Command}
use Rattle.shared_disk.specs.Events.{Event}
use Rattle.lock_store.specs.Memories.{dropped}
use Rattle.lock_store.specs.Views.{host_at}
use Rattle.host_facts.specs.Facts.Fact.{RecordIs}
use Rattle.host_facts.specs.Knows.{Knows}
use Rattle.host_facts.specs.Others.{Others}
use Rattle.host_facts.specs.Views.{WorldView}
use Rattle.host_notes.specs.Owes.{Owes}
use Rattle.host_notes.specs.Remembered.{IsRemembered}
use Rattle.host_runs.specs.Awaited.{wanted}
use Rattle.host_runs.specs.Notes.{Notes, at_rest}
use Rattle.plan_parts.specs.TakenLocks.{IsTaking}
use Rattle.plan_parts.specs.declared.outcome.Outcome.{Outcome}
use Rattle.plan_parts.specs.declared.outcome.Outcome.TheVariants as outcomes
use Rattle.plan_parts.specs.declared.outcome.Outcome.TheVariants.{Busy, Open, Placed}

-- the answer of a step, if it has one
abbrev pub ended_of : Next → Option Answer
ended_of More = None
ended_of (Work block) = None
ended_of (Answered answer) = Some answer

-- the answer of a command by what it has come to; one that has come to nothing is fine
abbrev pub answer_of : Outcome → Answer
answer_of Open = Fine
answer_of (Placed reply) = Plain reply
answer_of (Busy key) = answers.Busy key
answer_of outcomes.Full = answers.Full

-- what a step did of what a run asks of a turn: whatever the notes were that agreed with the plan, no digest is waited for, the turn is
-- one of the run, and the notes behind it agree
pub record OwesStep (command : Command) (h : ℕ) (v w : WorldView) (step : Step) (Before After : Notes → Type 0) : Type 0 where
  pub made : Option Event
  pub called : step.called ≡ is_some made
  pub others : Others h v w
  pub quiet : (n : Notes) → Before n → wanted v.locks.geometry command n.calls n.digests n.asks ≡ None
  pub owes : (n : Notes) → Before n
      → (later : Notes) × Owes v.locks.geometry h command v.locks.disk w.locks.disk made step.placed (ended_of step.next) n later × After later

-- a host that is joined, has no record that stands, and holds no part and no group
pub record IsReady (v : WorldView) (h : ℕ) : Type 0 where
  pub joined : (host_at v.locks h).joined ≡ true
  pub empty : Knows v h (RecordIs [])
  pub taking : IsTaking v h []

-- a host between two commands: it is ready, or was dropped, and its notes agree with its memory
pub record IsAtRest (v : WorldView) (h : ℕ) (n : Notes) : Type 0 where
  pub remembered : IsRemembered v.locks.geometry n.memory (host_at v.locks h)
  pub rests : IsReady v h ⊎ (host_at v.locks h ≡ dropped)
  pub between : n ≡ at_rest n.memory n.dying n.pending n.watch
