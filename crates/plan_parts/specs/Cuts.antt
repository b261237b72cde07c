-- A call that cuts its command.
use Rattle.std.specs.Prelude.{◌≡◌, ◌≢◌, ℕ, List, None, Option, Some}
use Rattle.shared_disk.specs.Events.{Acts, Event}
use Rattle.shared_disk.specs.Events.Reply.{Refuses}
use Rattle.shared_disk.specs.declared.answers.DiskNo.TheVariants as refusals
use Rattle.lock_store.specs.declared.answers.StepNo.{StepNo}
use Rattle.lock_store.specs.declared.answers.StepNo.TheVariants.{Bad, Failed, Fenced, NoMemory}
use Rattle.lock_store.specs.Memories.{dropped}
use Rattle.lock_store.specs.Views.{host_at, told_of}
use Rattle.host_runs.specs.DeviceCalls.{shown_at}
use Rattle.host_runs.specs.Notes.{Notes}
use Rattle.host_facts.specs.Others.{Others}
use Rattle.host_facts.specs.Views.{WorldView}
use Rattle.plan_parts.specs.QuietCalls.{Allows}
use Rattle.vol_base.specs.declared.answer.CutBy.{CutBy}
use Rattle.vol_base.specs.declared.answer.CutBy.TheVariants as cuts
use Rattle.vol_base.specs.declared.command.Command.{Command}

-- the event is what the step was refused for: the device's refusal, or a block that is not of its kind, which no told image shows
abbrev pub IsCauseOf : StepNo → Event → WorldView → Type 0
IsCauseOf Fenced e v = e.reply ≡ Refuses refusals.Fenced
IsCauseOf Failed e v = e.reply ≡ Refuses refusals.Failed
IsCauseOf NoMemory e v = e.reply ≡ Refuses refusals.NoMemory
IsCauseOf (Bad place) e v = (told_of v.locks ≡ None) × (block : List ℕ) × (shown_at e.call e.reply ≡ Some (place, block))

-- the device is as before; the host is dropped, but where memory was refused, and then it has all that it had
pub record CutCall (command : Command) (h : ℕ) (v w : WorldView) (e : Event) (why : StepNo) (Before : Notes → Type 0) : Type 0 where
  pub acts : Acts e v.locks.disk w.locks.disk
  pub cause : IsCauseOf why e v
  pub state : w.locks.disk.state ≡ v.locks.disk.state
  pub geometry : w.locks.geometry ≡ v.locks.geometry
  pub others : Others h v w
  pub memory : why ≢ NoMemory → host_at w.locks h ≡ dropped
  pub same : why ≡ NoMemory → host_at w.locks h ≡ host_at v.locks h
  pub allowed : Allows command h v e Before

-- a step was refused, and cuts the command
abbrev pub IsCutBy : Command → ℕ → WorldView → WorldView → StepNo → (Notes → Type 0) → Type 0
IsCutBy command h v w why Before = (e : Event) × CutCall command h v w e why Before

-- the same of any command, whatever its notes say
abbrev pub IsCut : ℕ → WorldView → WorldView → StepNo → Type 0
IsCut h v w why = (command : Command) → IsCutBy command h v w why (λ n. Unit {0})

-- what cuts a command, by what refused the step; where memory was refused nothing is cut, and the run ends
abbrev pub cut_by : StepNo → Option CutBy
cut_by Fenced = Some cuts.Fenced
cut_by Failed = Some cuts.Fault
cut_by NoMemory = None
cut_by (Bad place) = Some (cuts.Bad place)

-- nothing was done for want of memory, of which the device had none left
pub record IsUntouched (h : ℕ) (v w : WorldView) : Type 0 where
  pub state : w.locks.disk.state ≡ v.locks.disk.state
  pub geometry : w.locks.geometry ≡ v.locks.geometry
  pub memory : host_at w.locks h ≡ host_at v.locks h
  pub room : v.locks.disk.room ≡ 0
