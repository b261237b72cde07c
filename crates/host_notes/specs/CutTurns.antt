-- What a turn shows in which a command is cut, and the notes behind it.
use Rattle.std.specs.Prelude.{◌≡◌, ◌≢◌, ◌≤◌, ℕ, true, [], None, Some}
use Rattle.vol_base.specs.declared.answer.CutBy.{CutBy}
use Rattle.vol_base.specs.declared.command.Command.{Command}
use Rattle.vol_base.specs.declared.command.Command.TheVariants.{Die, Log, Recover, Scribble}
use Rattle.vol_layout.specs.declared.geometry.Geometry.{Geometry}
use Rattle.shared_disk.specs.Events.{Event}
use Rattle.shared_disk.specs.Seen.{DiskSeen}
use Rattle.image_view.specs.Valid.{IsValid}
use Rattle.watch.specs.Looks.{count_of, look_at, nothing}
use Rattle.host_runs.specs.CallRights.{MayCall}
use Rattle.host_runs.specs.Causes.{IsCutBy}
use Rattle.host_runs.specs.DeviceCalls.{ActsOnce, OnImage}
use Rattle.host_runs.specs.FileUses.{is_hint_place}
use Rattle.host_runs.specs.Memories.{no_memory}
use Rattle.host_runs.specs.Moments.{Moment}
use Rattle.host_runs.specs.Notes.{Notes, at_rest}
use Rattle.host_runs.specs.TurnFacts.{Marks}
use Rattle.host_notes.specs.Owes.{plan_moment}

-- the command comes to a call: it is no `die`, and has no answer that comes without one. A `scribble` is at a place of hints, a `recover`
-- of a host that was seen unchanged three times, and a `log` has hints
abbrev pub ComesToCall : Geometry → Command → Notes → Type 0
ComesToCall g (Scribble place k seen) n = is_hint_place g place ≡ true
ComesToCall g (Recover of) n = 3 ≤ count_of (look_at n.watch of)
ComesToCall g Log n = n.pending ≢ []
ComesToCall g (Die calls) n = ⊥
ComesToCall g command n = Unit {0}

-- the turn's call cuts the command: it was refused, or showed a block where the device tells nothing. So the device's state is as
-- before, and all that is asked of its image is that it was valid
pub record CutTurn (g : Geometry) (h : ℕ) (command : Command) (old new : DiskSeen) (e : Event) (n : Notes) (by : CutBy) : Type 0 where
  pub comes : ComesToCall g command n
  pub cut : IsCutBy (plan_moment g h command old new (Some e) None n) by
  pub acts : ActsOnce (Some e) old new
  pub may : MayCall (plan_moment g h command old new (Some e) None n) (Some e)
  pub marks : Marks (plan_moment g h command old new (Some e) None n)
  pub valid : OnImage old.state (IsValid g old.state.counter)

-- the notes of a host that was dropped
abbrev pub dropped_at : Moment → Notes
dropped_at m = at_rest no_memory m.now.dying [] nothing
