-- One entry more was handled.
use Rattle.std.proofs.Common.{◌≡◌, ◌-◌, ◌≤◌, ℕ, suc, List, arith, subst}
use Rattle.host_facts.specs.Views.{WorldView}
use Rattle.merge_shelves.specs.declared.room.Noted.{Noted}
use Rattle.merge_steps.specs.declared.sweep.Sweep.{Sweep}
use Rattle.merge_steps.specs.Sweeps.{ArePassed, IsOne}

pub one_passed : (v : WorldView) (h : ℕ) (room : List Noted) (number : ℕ) (begin before now : Sweep) → begin.at ≤ before.at
    → ArePassed v h room number begin (before.at - begin.at) before → IsOne v h room number before now
    → ArePassed v h room number begin (now.at - begin.at) now
one_passed v h room number begin before now le are one =
    let more : suc (before.at - begin.at) ≡ now.at - begin.at = let at = one.at in omega (arith, le, at) in
    subst (λ (n : ℕ). ArePassed v h room number begin n now) more (before, are, one)

pub one_on : (v : WorldView) (h : ℕ) (room : List Noted) (number first : ℕ) (before now : Sweep) → IsOne v h room number before now
    → first ≤ before.at → first ≤ now.at
one_on v h room number first before now one le = let at = one.at in omega (arith, le, at)
