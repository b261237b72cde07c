use Rattle.std.proofs.Common.{◌≡◌, ◌∷◌, ◌++◌, map, take, string_bytes}
use Rattle.std.specs.Prelude.{decimal}
use Rattle.std.specs.List.{flat_map}
use Rattle.report.specs.Reports.{line_number}
use Rattle.report.proofs.lines.write_positions.Given as goal

abbrev pub invariant-loop-entry : goal.invariant-loop-entry
invariant-loop-entry l =
    string_bytes l.text ≡ string_bytes l.initial.text ++ flat_map (λ n. 32 ∷ decimal n) (map (λ entry. line_number l.lines entry.line) (take l.entry-index l.history))
