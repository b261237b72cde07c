-- The words of the command line.
use Rattle.std.specs.Prelude.{◌==◌, ◌&&◌, ◌+◌, ◌-◌, ◌*◌, ◌≤◌, ℕ, Bool, false, List, [], ◌∷◌, Option, Some, None, codes, drop, filter_map, is_some, length, nat_le, not, if◌then◌else◌}
use Rattle.std.specs.List.{list_all}
use Rattle.std.specs.Option.{option_map}
use Rattle.std.specs.Str.{bytes_eq}
use Rattle.words.specs.declared.forms.Job.{Job}
use Rattle.words.specs.declared.forms.Job.TheVariants.{Sim, Run, Check, Settle, Gen}

-- a word is not empty, and does not begin with `-`
abbrev pub is_plain : List ℕ → Bool
is_plain [] = false
is_plain (byte ∷ bytes) = not (byte == 45)

-- the number that a digit of at most this value makes of the tens before it
abbrev pub digit_of : ℕ → ℕ → ℕ → Option ℕ
digit_of tens most digit = if nat_le 48 digit && nat_le digit (48 + most) then Some (tens + (digit - 48)) else None

-- the host that a word names: a number from 0 to 15
abbrev pub host_of : List ℕ → Option ℕ
host_of [] = None
host_of (digit ∷ []) = digit_of 0 9 digit
host_of (one ∷ digit ∷ []) = if one == 49 then digit_of 10 5 digit else None
host_of (a ∷ b ∷ c ∷ rest) = None

-- words that each name a host, and at most 65,536 of them
abbrev pub is_schedule : List (List ℕ) → Bool
is_schedule words = nat_le (length words) 65536 && list_all (λ word. is_some (host_of word)) words

-- the rounds that a word names: a number from 1 to 100
abbrev pub rounds_of : List ℕ → Option ℕ
rounds_of [] = None
rounds_of (ones ∷ []) = if nat_le 49 ones && nat_le ones 57 then Some (ones - 48) else None
rounds_of (tens ∷ ones ∷ []) =
    if nat_le 49 tens && nat_le tens 57 && nat_le 48 ones && nat_le ones 57 then Some (10 * (tens - 48) + (ones - 48)) else None
rounds_of (a ∷ b ∷ c ∷ []) = if a == 49 then (if b == 48 then (if c == 48 then Some 100 else None) else None) else None
rounds_of (a ∷ b ∷ c ∷ d ∷ rest) = None

-- a generation of so many rounds, which one word names
abbrev pub generation_of : List (List ℕ) → Option Job
generation_of [] = None
generation_of (word ∷ []) = option_map (λ rounds. Gen rounds) (rounds_of word)
generation_of (a ∷ b ∷ rest) = None

-- the rounds of a generation are in range
abbrev pub HasRounds : Job → Type 0
HasRounds (Gen rounds) = (1 ≤ rounds) × (rounds ≤ 100)
HasRounds job = Unit {0}

-- the job of a name and of the words behind it
abbrev pub job_named : List ℕ → List (List ℕ) → Option Job
job_named word rest =
    if bytes_eq word (codes "sim") && is_schedule rest then Some Sim
    else (if bytes_eq word (codes "run") && length rest == 0 then Some Run
    else (if bytes_eq word (codes "check") && length rest == 0 then Some Check
    else (if bytes_eq word (codes "settle") && length rest == 0 then Some Settle
    else (if bytes_eq word (codes "gen") then generation_of rest else None))))

-- the job of the words behind the program's name: a volume, the name of a job, and the words of a schedule or of a number
abbrev pub job_of : List (List ℕ) → Option Job
job_of [] = None
job_of (volume ∷ []) = None
job_of (volume ∷ name ∷ rest) = if is_plain volume then job_named name rest else None

-- the hosts of a schedule, in the order of their words
abbrev pub hosts_of : List (List ℕ) → List ℕ
hosts_of words = filter_map host_of (drop 2 words)
