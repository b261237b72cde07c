-- A line behind the first: the end of a phase, or a command of a host.
use Rattle.std.specs.Prelude.{◌==◌, ◌&&◌, ℕ, List, [], ◌∷◌, Result, Ok, Err, codes, length, nat_lt, not, slice_index, if◌then◌else◌}
use Rattle.std.specs.Option.{ok_or}
use Rattle.std.specs.Str.{bytes_eq}
use Rattle.vol_base.specs.declared.command.Command.{Command}
use Rattle.vol_layout.specs.declared.geometry.Geometry.{Geometry}
use Rattle.workload.specs.declared.cause.WorkloadNo.{WorkloadNo}
use Rattle.workload.specs.declared.cause.WorkloadNo.TheVariants.{Shape, Word, Count, Number, Range, Own, Many}
use Rattle.workload.specs.declared.entry.Entry.{Entry}
use Rattle.workload.specs.declared.entry.Entry.TheVariants.{Barrier, Order}
use Rattle.workload.specs.declared.verb.Verb.{Verb}
use Rattle.workload.specs.Checks.{◌>>=◌, checked}
use Rattle.workload.specs.Numerals.{number_of, numbers_of}
use Rattle.workload.specs.Ranges.{is_in_range, is_own}
use Rattle.workload.specs.Texts.{is_shaped, words_of}
use Rattle.workload.specs.Verbs.{arity, command_of, verb_of}

-- a text has at most so many commands
unfoldable pub most_commands : ℕ
most_commands = 16384

-- a command of a host behind `before` others, or the first cause why it is none
unfoldable pub order : Geometry → ℕ → ℕ → Command → Result Entry WorkloadNo
order g before host command =
    checked (nat_lt host g.hosts && is_in_range g command) Range
    (checked (not (is_own host command)) Own
    (checked (nat_lt before most_commands) Many (Ok (Order host command))))

-- a command and its arguments
unfoldable pub order_of_arguments : Geometry → ℕ → ℕ → Verb → List (List ℕ) → Result Entry WorkloadNo
order_of_arguments g before host verb args =
    checked (length args == arity verb) Count
    (ok_or (numbers_of args) Number
    >>= λ ns. order g before host (command_of verb (slice_index ns 0) (slice_index ns 1) (slice_index ns 2)))

-- the words behind the host
unfoldable pub order_of_words : Geometry → ℕ → ℕ → List (List ℕ) → Result Entry WorkloadNo
order_of_words g before host [] = Err Word
order_of_words g before host (name ∷ args) = ok_or (verb_of name) Word >>= λ verb. order_of_arguments g before host verb args

-- `barrier` stands alone
abbrev pub barrier_of : List (List ℕ) → Result Entry WorkloadNo
barrier_of [] = Ok Barrier
barrier_of (word ∷ words) = Err Count

-- the words of a line
unfoldable pub entry_of_words : Geometry → ℕ → List (List ℕ) → Result Entry WorkloadNo
entry_of_words g before [] = Err Number
entry_of_words g before (first ∷ rest) =
    if bytes_eq first (codes "barrier")
    then barrier_of rest
    else (ok_or (number_of first) Number >>= λ host. order_of_words g before host rest)

-- what a line says behind `before` commands, or the first cause why it says nothing
unfoldable pub entry_of : Geometry → ℕ → List ℕ → Result Entry WorkloadNo
entry_of g before line = checked (is_shaped line) Shape (entry_of_words g before (words_of line))
