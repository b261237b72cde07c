-- The text of a generated workload, rule by rule.
use Rattle.std.specs.Prelude.{◌≡◌, ◌+◌, ◌*◌, ◌/◌, ◌%◌, ◌==◌, ℕ, List, [], ◌∷◌, ◌++◌, codes, decimal, if◌then◌else◌, String, string_bytes}
use Rattle.std.specs.declared.alloc.Global.{Global}
use Rattle.std.specs.List.{flat_map, range_with_len}
use Rattle.workload.specs.Printed.{ended, with_numbers}

-- the lines that a rule gives for each number below a bound, one number after the other
unfoldable pub each_below : ℕ → (ℕ → List (List ℕ)) → List (List ℕ)
each_below bound lines = flat_map lines (range_with_len 0 bound)

-- the line of a host's command
abbrev pub command_line : ℕ → List ℕ → List ℕ → List ℕ
command_line host name numbers = decimal host ++ 32 ∷ with_numbers name numbers

-- a host makes the file with three blocks for each round
abbrev pub file_lines : ℕ → ℕ → ℕ → List (List ℕ)
file_lines rounds host file =
    command_line host (codes "create") (file ∷ []) ∷ command_line host (codes "size") (file ∷ (3 * rounds) ∷ []) ∷ []

-- a host joins, and makes the four files whose number modulo 4 is its own
unfoldable pub start_lines : ℕ → ℕ → List (List ℕ)
start_lines rounds host = command_line host (codes "join") [] ∷ each_below 4 (λ q. file_lines rounds host (4 * q + host))

-- write k of a host in a round: the files take turns, and three indexes of each file belong to the round
abbrev pub write_line : ℕ → ℕ → ℕ → List ℕ
write_line round host k =
    command_line host (codes "write") ((4 * (k % 4) + host) ∷ (3 * round + k / 4) ∷ (1 + (10 * round + k) * (host + 1) % 101) ∷ [])

-- a host logs its hints in each tenth round
abbrev pub log_lines : ℕ → ℕ → List (List ℕ)
log_lines round host = if round % 10 == 9 then command_line host (codes "log") [] ∷ [] else []

-- what a host does in a round: ten writes, a read, and maybe a log
unfoldable pub host_lines : ℕ → ℕ → List (List ℕ)
host_lines round host =
    each_below 10 (λ k. write_line round host k ∷ [])
    ++ command_line host (codes "read") (host ∷ (3 * round) ∷ [])
    ∷ log_lines round host

-- a round is a phase of its own
unfoldable pub round_lines : ℕ → List (List ℕ)
round_lines round = codes "barrier" ∷ each_below 4 (host_lines round)

-- a phase in which each host has one command without arguments
unfoldable pub ending_lines : List ℕ → List (List ℕ)
ending_lines name = codes "barrier" ∷ each_below 4 (λ host. command_line host name [] ∷ [])

-- all lines: the volume, the start of each host, the rounds, a merge, a serve
unfoldable pub generated_lines : ℕ → List (List ℕ)
generated_lines rounds =
    codes "volume 4 16 4 4 8 4"
    ∷ (each_below 4 (start_lines rounds) ++ (each_below rounds round_lines ++ (ending_lines (codes "merge") ++ ending_lines (codes "serve"))))

-- the text of a generated workload of so many rounds
abbrev pub generated : ℕ → List ℕ
generated rounds = ended (generated_lines rounds)

-- a text gained these lines, each ended by LF
pub record Gains (before after : String Global) (lines : List (List ℕ)) : Type 0 where
  pub text : string_bytes after ≡ string_bytes before ++ ended lines
