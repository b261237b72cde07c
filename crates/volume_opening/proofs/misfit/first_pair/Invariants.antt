use Rattle.std.proofs.Common.{◌≡◌, ◌==◌, drop}
use Rattle.std.specs.Prelude.{find, not}
use Rattle.std.specs.List.{zip}
use Rattle.volume_opening.proofs.misfit.first_pair.Given as goal

-- the pair is among those that are left
abbrev pub invariant-loop-i : goal.invariant-loop-i
invariant-loop-i l =
    find (λ pair. not (pair.0 == pair.1)) (zip l.given l.found)
    ≡ find (λ pair. not (pair.0 == pair.1)) (zip (drop l.i l.given) (drop l.i l.found))
