-- Whether a host of a cluster has a command left in the phase, what it waits for, and what a turn tells of both.
use Rattle.std.specs.Prelude.{◌≡◌, ℕ, Bool, IsSome, None, Option, Some, if◌then◌else◌, is_some}
use Rattle.vol_base.specs.declared.answer.Turn.{Turn}
use Rattle.vol_base.specs.declared.answer.Turn.TheVariants.{Answered, Idle, Moved, Work}
use Rattle.vol_base.specs.declared.block.Block.{Block}
use Rattle.host_runs.specs.NextLines.{next_line}
use Rattle.cluster.specs.Parts.{asked_of}
use Rattle.cluster.specs.Views.{ClusterView, PartsView}

abbrev pub line_now : PartsView → ℕ → Option ℕ
line_now v h = next_line v.workload.lines v.ledger.answers v.phase h

abbrev pub has_line : PartsView → ℕ → Bool
has_line v h = is_some (line_now v h)

-- the block whose digest a host waits for; none once memory was refused
abbrev pub waited_for : ClusterView → ℕ → Option Block
waited_for v h = if v.spent then None else asked_of v.parts h

-- the host is at a line, and waits for nothing
pub record IsAtWork (v : PartsView) (h : ℕ) : Type 0 where
  pub at : IsSome (line_now v h)
  pub asks : asked_of v h ≡ None

-- by what the turn was
abbrev pub Tells : PartsView → ℕ → Turn → Type 0
Tells v h Moved = IsAtWork v h
Tells v h (Answered answer) = IsAtWork v h
Tells v h (Work block) = asked_of v h ≡ Some block
Tells v h Idle = line_now v h ≡ None
