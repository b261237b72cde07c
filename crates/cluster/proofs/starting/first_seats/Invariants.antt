use Rattle.std.proofs.Common.{◌≡◌, ◌≤◌, All, length, vec_capacity}
use Rattle.cluster.specs.Views.{IsFirstSeat}
use Rattle.cluster.proofs.starting.first_seats.Given as goal

abbrev pub invariant-loop : goal.invariant-loop
invariant-loop l =
    All (IsFirstSeat l.geometry) l.seats.items × (length l.seats.items ≡ l.counter) × (l.hosts ≤ vec_capacity l.seats)
