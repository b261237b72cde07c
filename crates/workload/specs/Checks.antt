-- Rules that are asked one after the other, the first of which that does not hold is the cause.
use Rattle.std.specs.Prelude.{Bool, true, false, Result, Ok, Err}
use Rattle.workload.specs.declared.cause.WorkloadNo.{WorkloadNo}

-- what stands under a rule: the rule's cause comes first
abbrev pub checked : {A : Type 0} → Bool → WorkloadNo → Result A WorkloadNo → Result A WorkloadNo
checked true cause rest = rest
checked false cause rest = Err cause

infixl 10 ◌>>=◌
-- what is said of a value that was read
abbrev pub ◌>>=◌ : {A B E : Type 0} → Result A E → (A → Result B E) → Result B E
(Ok value) >>= rest = rest value
(Err cause) >>= rest = Err cause
