-- What a device shows.
use Rattle.std.specs.Prelude.{ℕ}
use Rattle.shared_disk.specs.State.{State}
use Rattle.shared_disk.specs.declared.device.Device.{Ghosts}

-- a device at one time: what its calls change, how often it failed, its room, and how many of its calls were answered
pub record DiskSeen : Type 0 where
  pub state : State
  pub faults : ℕ
  pub room : ℕ
  pub calls : ℕ

abbrev pub disk_seen : State → ℕ → ℕ → ℕ → DiskSeen
disk_seen state faults room calls = record { state = state; faults = faults; room = room; calls = calls }

-- a device of a type, by what the type says of it
abbrev pub seen_by : {Self : Type 0} → Ghosts Self → Self → DiskSeen
seen_by device d = disk_seen (device.state d) (device.faults d) (device.room d) (device.answered d)
