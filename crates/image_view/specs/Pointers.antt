-- The numbers of pointers and slots, and what they name.
use Rattle.std.specs.Prelude.{◌+◌, ◌-◌, ◌%◌, ◌^◌, ◌<◌, ◌==◌, ℕ, Bool, Option, Some, None, if◌then◌else◌}
use Rattle.image_view.specs.declared.pointer.Number.{Number}
use Rattle.image_view.specs.declared.pointer.Number.TheVariants.{Hole, At}

-- the data number that a pointer or slot names: its low 31 bits less 1; none where they are 0
abbrev pub named : ℕ → Option ℕ
named n = if n % 2 ^ 31 == 0 then None else Some (n % 2 ^ 31 - 1)

-- a pointer to a data block whose top bit, the mark of a shared block, is not set
abbrev pub IsUnmarked : ℕ → Type 0
IsUnmarked n = (0 < n) × (n < 2 ^ 31)

-- the mark of a shared block, as a part of a pointer
abbrev pub mark_of : Bool → ℕ
mark_of shared = if shared then 2 ^ 31 else 0

-- a pointer as a number
abbrev pub pointer_number : Number → ℕ
pointer_number Hole = 0
pointer_number (At d shared) = d + 1 + mark_of shared

-- a pointer that a number of 32 bits can say: its data number leaves room for the mark
abbrev pub IsNumber : Number → Type 0
IsNumber Hole = Unit {0}
IsNumber (At d shared) = d + 1 < 2 ^ 31
