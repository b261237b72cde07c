-- What a turn of a command on the volume as a whole shows: of a `log`, a `merge`, a `serve`, a `collect` and a `scribble`.
use Rattle.std.specs.Prelude.{◌≡◌, ℕ, false, true, None, Option, Some}
use Rattle.vol_base.specs.declared.answer.Answer.{Answer}
use Rattle.vol_base.specs.declared.answer.Answer.TheVariants.{Refused}
use Rattle.vol_base.specs.declared.command.Command.{Command}
use Rattle.vol_base.specs.declared.command.Command.TheVariants.{Collect, Log, Merge, Scribble, Serve}
use Rattle.vol_base.specs.PlainCalls.{plain_call_of}
use Rattle.vol_layout.specs.declared.geometry.Geometry.{Geometry}
use Rattle.shared_disk.specs.Events.{Event}
use Rattle.shared_disk.specs.Seen.{DiskSeen}
use Rattle.shared_disk.specs.State.{OnImages}
use Rattle.image_view.specs.Valid.{IsValid}
use Rattle.call_effects.specs.Places.{Places}
use Rattle.host_runs.specs.CallRights.{MayCall}
use Rattle.host_runs.specs.DeviceCalls.{ActsOnce, OnImage}
use Rattle.host_runs.specs.FileUses.{is_hint_place}
use Rattle.host_runs.specs.Moments.{Moment}
use Rattle.host_runs.specs.Notes.{Notes}
use Rattle.host_runs.specs.Owed.{OwesByLog}
use Rattle.host_runs.specs.TurnFacts.{Marks}
use Rattle.host_notes.specs.FileTurns.{IsAnswered}
use Rattle.host_notes.specs.Owes.{plan_moment}

-- a command on the volume as a whole, which is on no file and on no slot
abbrev pub IsOnVolume : Command → Type 0
IsOnVolume Log = Unit {0}
IsOnVolume Merge = Unit {0}
IsOnVolume Serve = Unit {0}
IsOnVolume (Collect p) = Unit {0}
IsOnVolume (Scribble place k seen) = Unit {0}
IsOnVolume command = ⊥

-- one of them that owes no answer but by its tries
abbrev pub OwesNoOther : Command → Type 0
OwesNoOther Merge = Unit {0}
OwesNoOther Serve = Unit {0}
OwesNoOther (Collect p) = Unit {0}
OwesNoOther command = ⊥

-- a turn of a command on the volume whose call was not refused, whether the command goes on or is answered: no reply has its place
pub record VolumeTurn (g : Geometry) (h : ℕ) (command : Command) (old new : DiskSeen) (made : Option Event) (n : Notes) : Type 0 where
  pub on : IsOnVolume command
  pub acts : ActsOnce made old new
  pub answered : IsAnswered made
  pub may : MayCall (plan_moment g h command old new made None n) made
  pub marks : Marks (plan_moment g h command old new made None n)
  pub files : OnImages (Places g (plain_call_of command) None) old.state.told new.state.told
  pub valid : OnImage new.state (IsValid g new.state.counter)
  pub unplaced : n.placed ≡ None

-- the answers that a `scribble` and a `log` owe by their place and their hints
pub record OwesOther (m : Moment) (ended : Option Answer) : Type 0 where
  pub refused : (place k seen : ℕ) → m.command ≡ Scribble place k seen → m.joined ≡ true → is_hint_place m.geometry place ≡ false
      → ended ≡ Some Refused
  pub by_log : OwesByLog m ended
