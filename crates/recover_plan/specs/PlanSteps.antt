-- What each step of the plan of a command on slots says: what its host's notes agree with before it, and behind it.
use Rattle.std.specs.Prelude.{◌≡◌, ◌≢◌, ◌<◌, ℕ, List, None, Option, Some, true}
use Rattle.vol_base.specs.declared.answer.Answer.{Answer}
use Rattle.vol_base.specs.declared.answer.Next.{Next}
use Rattle.vol_base.specs.declared.answer.Next.TheVariants.{Answered}
use Rattle.vol_base.specs.declared.answer.Step.{Step}
use Rattle.vol_base.specs.declared.command.Command.{Command}
use Rattle.slot_lock_blocks.specs.declared.slot.Slot.{Slot}
use Rattle.slot_lock_blocks.specs.Slots.{IsSlot, slot_key}
use Rattle.lock_store.specs.SlotTries.{IsOfHost, slot_by}
use Rattle.watch.specs.declared.watch.Look.{Look}
use Rattle.watch.specs.Looks.{look_at}
use Rattle.host_facts.specs.Facts.Fact.{Given}
use Rattle.host_facts.specs.Knows.{Knows}
use Rattle.host_facts.specs.Views.{WorldView}
use Rattle.host_runs.specs.Notes.{Notes}
use Rattle.plan_parts.specs.QuietCalls.{Noted}
use Rattle.plan_parts.specs.Steps.{IsAtRest, OwesStep}
use Rattle.plan_parts.specs.declared.outcome.Outcome.TheVariants.{Open}

-- a step with its one call
abbrev pub called_step : Next → Step
called_step next = record { placed = None; called = true; next = next }

-- the notes of a command that was shown no key, with these looks
pub record OpenNoted (command : Command) (h : ℕ) (v : WorldView) (watch : List (Option Look)) (n : Notes) : Type 0 where
  pub noted : Noted command h v Open n
  pub watch_is : n.watch ≡ watch

-- the notes of a host between two commands, with these looks
pub record RestsWith (h : ℕ) (v : WorldView) (watch : List (Option Look)) (n : Notes) : Type 0 where
  pub rests : IsAtRest v h n
  pub watch_is : n.watch ≡ watch

-- a slot of a host that was seen: it is spelled and not free, of its host, and the device gave its keys
pub record IsWatched (v : WorldView) (h of : ℕ) (slot : Slot) : Type 0 where
  pub spelled : IsSlot slot
  pub some : slot_key slot ≢ 0
  pub of_host : IsOfHost of slot
  pub shown : Knows v h (Given (slot_key slot))
  pub by : Knows v h (Given (slot_by slot))

-- so is each slot that is remembered
abbrev pub AreWatched : WorldView → ℕ → List (Option Look) → Type 0
AreWatched v h watch = (of : ℕ) (look : Look) → of < v.locks.geometry.hosts → look_at watch of ≡ Some look → IsWatched v h of look.slot

-- the command is answered in this step
abbrev pub OwesAnswer : Command → ℕ → WorldView → WorldView → Answer → (Notes → Type 0) → (Notes → Type 0) → Type 0
OwesAnswer command h v w answer Before After = OwesStep command h v w (called_step (Answered answer)) Before After
