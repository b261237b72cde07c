-- What a job leaves of the device's keys that registers one for host 0 and fences it at its end.
use Rattle.std.specs.Prelude.{◌≡◌, ◌+◌, ◌⊎◌}
use Rattle.shared_disk.specs.Calls.{after_register}
use Rattle.shared_disk.specs.State.{State}

-- the counter has risen by one, and all else is as before
abbrev pub after_visit : State → State
after_visit s = record s { counter = s.counter + 1 }

-- a visit that may have been broken off: no key was given, or one that is still registered, or one that was fenced
abbrev pub IsVisiting : State → State → Type 0
IsVisiting before after = (after ≡ before) ⊎ ((after ≡ after_register 0 before) ⊎ (after ≡ after_visit before))
