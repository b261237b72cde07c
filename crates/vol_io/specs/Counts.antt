use Rattle.std.specs.Prelude.{◌+◌, ◌-◌, ◌^◌, ℕ, Bool, min, if◌then◌else◌}

-- one more, but a count stands still at its type's end
abbrev pub risen : ℕ → ℕ
risen n = min (n + 1) (2 ^ 64 - 1)

-- a count of faults after a call, which failed or not
abbrev pub counted : Bool → ℕ → ℕ
counted failed n = if failed then risen n else n
