-- Which turns may make which calls.
use Rattle.std.specs.Prelude.{◌≡◌, ◌⊎◌, ℕ, true, Some}
use Rattle.vol_base.specs.declared.command.Command.TheVariants.{Join}
use Rattle.shared_disk.specs.Events.{Event}
use Rattle.lock_store.specs.Views.{LocksView, key_at}
use Rattle.host_runs.specs.CallRights.{MayMake}
use Rattle.host_runs.specs.Moments.{Moment}
use Rattle.host_runs.specs.TurnFacts.{MayMark}

-- a turn of the host, which has its key in its notes, and is joined or in a `join`
pub record IsTurnOf (v : LocksView) (h : ℕ) (m : Moment) : Type 0 where
  pub geometry : m.geometry ≡ v.geometry
  pub host : m.host ≡ h
  pub key : m.old.memory.key ≡ Some (key_at v h)
  pub seat : (m.joined ≡ true) ⊎ (m.command ≡ Join)

-- a turn may make this call, and what the call writes into slots and locks
pub record IsAllowed (m : Moment) (e : Event) : Type 0 where
  pub made : MayMake m e.key e.call
  pub marks : MayMark m e.key e.call e.reply
