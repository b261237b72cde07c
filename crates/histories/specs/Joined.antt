-- What a host's answers say of it: whether it is joined, and when it is to die.
use Rattle.std.specs.Prelude.{◌==◌, ℕ, zero, suc, List, [], ◌∷◌, Option, Some, None, Bool, true, false, if◌then◌else◌}
use Rattle.vol_base.specs.declared.answer.Answer.{Answer}
use Rattle.vol_base.specs.declared.answer.Answer.TheVariants.{Fine, Joined, Cut}
use Rattle.vol_base.specs.declared.command.Command.{Command}
use Rattle.vol_base.specs.declared.command.Command.TheVariants as commands
use Rattle.workload.specs.declared.line.Line.{Line}

-- whether a host is joined after an answer to its command, where it was so before
abbrev pub joined_after : Command → Answer → Bool → Bool
joined_after command (Joined key) before = true
joined_after command (Cut by) before = false
joined_after commands.Leave Fine before = false
joined_after (commands.Die zero) Fine before = false
joined_after command answer before = before

-- the number of device calls after which the host is to die, where a death stands: that of its last
-- `die` that was answered `ok` and has a number above 0, unless a cut came since
abbrev pub death_after : Command → Answer → Option ℕ → Option ℕ
death_after command (Cut by) before = None
death_after (commands.Die zero) Fine before = None
death_after (commands.Die (suc calls)) Fine before = Some (suc calls)
death_after command answer before = before

-- what a host's answers make of a value, in the order of its lines
abbrev pub of_answers : {A : Type 0} → (Command → Answer → A → A) → List Line → List (Option Answer) → ℕ → A → A
of_answers step [] answers host before = before
of_answers step (line ∷ lines) [] host before = before
of_answers step (line ∷ lines) (None ∷ answers) host before = of_answers step lines answers host before
of_answers step (line ∷ lines) (Some answer ∷ answers) host before =
    of_answers step lines answers host (if line.host == host then step line.command answer before else before)

-- whether a host is joined: the last of its answers that is `joined`, a cut, the `ok` of a `leave` or of
-- a `die 0` is `joined`
unfoldable pub is_joined : List Line → List (Option Answer) → ℕ → Bool
is_joined lines answers host = of_answers joined_after lines answers host false

-- a host's standing death
unfoldable pub standing_death : List Line → List (Option Answer) → ℕ → Option ℕ
standing_death lines answers host = of_answers death_after lines answers host None
