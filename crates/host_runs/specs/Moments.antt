-- A turn as the cause of its answer sees it.
use Rattle.std.specs.Prelude.{ℕ, Bool, Option}
use Rattle.vol_base.specs.declared.command.Command.{Command}
use Rattle.vol_layout.specs.declared.geometry.Geometry.{Geometry}
use Rattle.shared_disk.specs.Events.{Event}
use Rattle.shared_disk.specs.State.{State}
use Rattle.host_runs.specs.Notes.{Notes}

-- the command under way and whether its host is joined; the device call of the turn, and the device before and after it; the
-- host's notes before the turn, and with its call and its place
pub record Moment : Type 0 where
  pub geometry : Geometry
  pub host : ℕ
  pub command : Command
  pub joined : Bool
  pub event : Option Event
  pub before : State
  pub after : State
  pub old : Notes
  pub now : Notes
