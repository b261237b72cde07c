use Rattle.std.proofs.Common.{◌≡◌, ◌*◌, ◌++◌, ◌≤◌, length, take}
use Rattle.std.specs.Prelude.{vec_capacity}
use Rattle.merge_shelves.specs.Rooms.{noted_from}
use Rattle.merge_shelves.proofs.room.LogRoom.note.Given as goal

abbrev pub invariant-loop-k : goal.invariant-loop-k
invariant-loop-k l =
    (l.self-inside.noted.items ≡ l.fn.self ++ noted_from (126 * l.log) (take l.k l.hints.entries))
    × (2016 ≤ vec_capacity l.self-inside.noted) × (l.k ≤ length l.hints.entries)
