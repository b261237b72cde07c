use Rattle.std.specs.Prelude.{◌≡◌, ℕ, Bool, false, List, Some, slice_get}
use Rattle.atomic_table.specs.Seated.{TableId}

-- a lock as its callers see it: which one it is, the value that it was opened with, and its number of seats
pub record LockView (T : Type 0) : Type 0 where
  pub id : TableId
  pub first : T
  pub seats : ℕ

-- a seat as its callers see it: its lock, its number, whether it has the lock, and the value that it saw last
pub record SeatView (T : Type 0) : Type 0 where
  pub lock : TableId
  pub number : ℕ
  pub has : Bool
  pub seen : T

-- the seat is one of the lock's
pub record IsSeatOf {T O : Type 0} (began : T → O) (lock : LockView T) (seat : SeatView T) : Type 0 where
  pub same : seat.lock ≡ lock.id
  pub start : began seat.seen ≡ began lock.first

-- a seat that nobody has used: it is free, and has seen the first value
abbrev pub new_seat : {T : Type 0} → TableId → T → ℕ → SeatView T
new_seat lock first number = record { lock = lock; number = number; has = false; seen = first }

-- seat k of the list is the new seat with the number k
pub record AreNew {T : Type 0} (lock : TableId) (first : T) (seats : List (SeatView T)) : Type 0 where
  pub each : (k : ℕ) (seat : SeatView T) → slice_get seats k ≡ Some seat → seat ≡ new_seat lock first k
