-- What a `leave` does to the volume whose host leaves.
use Rattle.std.specs.Prelude.{◌≢◌, [], None}
use Rattle.vol_base.specs.declared.answer.Answer.TheVariants.{Cut}
use Rattle.vol_base.specs.declared.answer.CutBy.{CutBy}
use Rattle.vol_base.specs.declared.answer.Next.TheVariants.{Answered}
use Rattle.vol_base.specs.declared.answer.Step.{Step}
use Rattle.vol_base.specs.declared.command.Command.{Command}
use Rattle.vol_base.specs.declared.command.Command.TheVariants.{Leave}
use Rattle.call_effects.specs.Changes.{Changes}
use Rattle.lock_store.specs.Views.{told_of}
use Rattle.disk_locks.specs.Sure.{BothTold}
use Rattle.host_facts.specs.Views.{WorldView}

-- no logical number and no data block changes
abbrev pub KeepsVolume : WorldView → WorldView → Type 0
KeepsVolume v w = BothTold (told_of v.locks) (told_of w.locks) (Changes v.locks.geometry [] None)

abbrev pub IsLeave : Command → Type 0
IsLeave Leave = Unit {0}
IsLeave command = ⊥

-- so it is over each step of a `leave`, but one that cuts it
abbrev pub VolumeStays : WorldView → WorldView → Command → Step → Type 0
VolumeStays v w command step = IsLeave command → ((by : CutBy) → step.next ≢ Answered (Cut by)) → KeepsVolume v w
