use Rattle.std.specs.Prelude.{◌≡◌, ◌++◌, List}

-- a list that begins with an older one
abbrev pub BeginsWith : {E : Type 0} → List E → List E → Type 0
BeginsWith {E} old new = (more : List E) × (new ≡ old ++ more)
