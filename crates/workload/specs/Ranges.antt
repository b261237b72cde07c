-- Which numbers a geometry and a command may have.
use Rattle.std.specs.Prelude.{◌==◌, ◌&&◌, ◌^◌, ℕ, Bool, true, false, nat_le, nat_lt}
use Rattle.vol_base.specs.declared.command.Command.{Command}
use Rattle.vol_base.specs.declared.command.Command.TheVariants.{Create, Size, Write, Read, Punch, Remove, Close, Scan, Collect, Look, Recover, Die, Scribble}
use Rattle.vol_layout.specs.declared.geometry.Geometry.{Geometry}

-- the number is from low to high
abbrev pub is_between : ℕ → ℕ → ℕ → Bool
is_between low high n = nat_le low n && nat_le n high

-- the number has at most 32 bits
abbrev pub is_narrow : ℕ → Bool
is_narrow n = nat_lt n (2 ^ 32)

-- each argument of the command is in its range
abbrev pub is_in_range : Geometry → Command → Bool
is_in_range g (Create file) = nat_lt file g.files
is_in_range g (Remove file) = nat_lt file g.files
is_in_range g (Close file) = nat_lt file g.files
is_in_range g (Size file blocks) = nat_lt file g.files && is_narrow blocks
is_in_range g (Write file index n) = nat_lt file g.files && is_narrow index
is_in_range g (Read file index) = nat_lt file g.files && is_narrow index
is_in_range g (Punch file index) = nat_lt file g.files && is_narrow index
is_in_range g (Scan file index) = nat_lt file g.files && is_narrow index
is_in_range g (Collect part) = nat_lt part g.parts
is_in_range g (Look host) = nat_lt host g.hosts
is_in_range g (Recover host) = nat_lt host g.hosts
is_in_range g (Die calls) = is_narrow calls
is_in_range g (Scribble place n seen) = is_narrow seen
is_in_range g _ = true

-- the command looks at its own host or recovers it
abbrev pub is_own : ℕ → Command → Bool
is_own host (Look other) = host == other
is_own host (Recover other) = host == other
is_own host _ = false
