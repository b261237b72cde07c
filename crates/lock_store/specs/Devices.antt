-- What every device keeps, said of its state.
use Rattle.std.specs.Prelude.{◌≤◌, ◌<◌, ◌/◌, ◌^◌, All}
use Rattle.shared_disk.specs.State.{HasWholeImage, State}

-- a told image is as long as the device, no registered key is 0 or past the counter, and the counter fits its width
pub record IsDevice (s : State) : Type 0 where
  pub whole : HasWholeImage s
  pub reached : All (λ key. key / 16 ≤ s.counter) s.keys
  pub named : All (λ key. 0 < key) s.keys
  pub fits : s.counter < 2 ^ 59
