use Rattle.std.specs.Prelude.{◌≡◌, ◌<◌, ℕ}
use Rattle.vol_base.specs.declared.answer.Turn.{Turn}
use Rattle.vol_base.specs.declared.answer.Turn.TheVariants.{Moved, Work, Answered, Idle}

-- a turn that moved or answered a command lowered the number of steps left
abbrev pub Lowers : Turn → ℕ → ℕ → Type 0
Lowers Moved old new = new < old
Lowers (Answered answer) old new = new < old
Lowers (Work block) old new = Unit {0}
Lowers Idle old new = Unit {0}

-- a turn that waits for a digest, or has nothing to do, changes nothing
abbrev pub Stays : {S : Type 0} → Turn → S → S → Type 0
Stays Moved old new = Unit {0}
Stays (Answered answer) old new = Unit {0}
Stays (Work block) old new = new ≡ old
Stays Idle old new = new ≡ old
