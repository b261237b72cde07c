-- The order of a schedule: words first, each the turn of a host, and then rounds over all hosts. Whenever all hosts are idle the next phase begins.
use Rattle.std.specs.Prelude.{◌≡◌, ◌+◌, ◌<◌, ◌≤◌, ◌==◌, ◌⊎◌, ℕ, List, [], ◌∷◌, drop, false, length, if◌then◌else◌}
use Rattle.vol_base.specs.declared.answer.Turn.{Turn}
use Rattle.vol_base.specs.declared.answer.Turn.TheVariants.{Answered, Idle, Moved, Work}
use Rattle.workload.specs.declared.line.Workload.{Workload}
use Rattle.fingerprint.specs.DigestOf.{digest_of}
use Rattle.host_runs.specs.Notes.{Notes}
use Rattle.host_runs.specs.RunStates.{RunState}
use Rattle.host_runs.specs.Runs.{AreIdle, BeginsPhase, Run, RunCall, Supplies, Turns}
use Rattle.cluster.specs.Agreements.{Agree}
use Rattle.cluster.specs.Runs.{IsIdle, IsStill}
use Rattle.cluster.specs.Views.{ClusterView, PartsView, disk_of, state_of}
use Rattle.cluster.specs.Waits.{has_line}

-- where a schedule stands: the words that are left, and the host whose turn is next in a round
pub record Place : Type 0 where
  pub words : List ℕ
  pub next : ℕ

-- the host whose turn comes
abbrev pub named : Place → ℕ
named p = first p.words
  where
    first : List ℕ → ℕ
    first [] = p.next
    first (word ∷ words) = word

-- behind the last host comes the first one
abbrev pub wrapped : ℕ → ℕ → ℕ
wrapped hosts next = if next == hosts then 0 else next

-- behind a turn, of so many hosts
abbrev pub turned : ℕ → List ℕ → ℕ → Place
turned hosts [] next = record { words = []; next = wrapped hosts (next + 1) }
turned hosts (word ∷ words) next = record { words = words; next = next }

-- a phase begins, or a host makes its turn
pub data Move : Type 0 where
  Begins : Move
  Makes : ℕ → Turn → Move

abbrev pub place_behind : ℕ → Place → Move → Place
place_behind hosts p Begins = record p { next = 0 }
place_behind hosts p (Makes h turn) = turned hosts p.words p.next

-- a host that waits for a digest gets that of its block at once
abbrev pub calls_by : ℕ → Turn → List RunCall
calls_by h (Work block) = Turns h (Work block) ∷ Supplies h (digest_of block) ∷ []
calls_by h Moved = Turns h Moved ∷ []
calls_by h (Answered answer) = Turns h (Answered answer) ∷ []
calls_by h Idle = Turns h Idle ∷ []

-- a turn is made while not all hosts are idle, by the host that is named
pub record IsMade (w : Workload) (h : ℕ) (turn : Turn) (s t : RunState) : Type 0 where
  pub busy : AreIdle w s → ⊥
  pub run : Run w s (calls_by h turn) t

abbrev pub IsMove : Workload → Place → RunState → Move → RunState → Type 0
IsMove w p s Begins t = BeginsPhase w s t
IsMove w p s (Makes h turn) t = (h ≡ named p) × IsMade w h turn s t

-- from one state to another by these moves
abbrev pub IsPlayed : Workload → Place → RunState → List Move → Place → RunState → Type 0
IsPlayed w p s [] q t = (q ≡ p) × (t ≡ s)
IsPlayed w p s (move ∷ moves) q t =
    (middle : RunState) × IsMove w p s move middle × IsPlayed w (place_behind w.geometry.hosts p move) middle moves q t

-- from all notes that agree, some moves lead to some that agree
abbrev pub Plays : PartsView → Place → PartsView → Place → Type 0
Plays v p u q =
    (notes : ℕ → Notes) → Agree v notes
    → (moves : List Move) × (later : ℕ → Notes) × IsPlayed v.workload p (state_of v notes) moves q (state_of u later) × Agree u later

-- the same of one turn of a host
abbrev pub Made : PartsView → ℕ → PartsView → Type 0
Made v h u =
    (notes : ℕ → Notes) → Agree v notes
    → (turn : Turn) × (later : ℕ → Notes) × IsMade v.workload h turn (state_of v notes) (state_of u later) × Agree u later

-- a turn was refused memory, of which the device had no room left, and all that a run sees is as before
pub record IsRefused (v u : PartsView) : Type 0 where
  pub room : (disk_of v).room ≡ 0
  pub still : IsStill v u

-- some moves led from a place to a turn that was refused so
pub record IsStopped (p : Place) (v u : PartsView) : Type 0 where
  pub at : PartsView
  pub end : Place
  pub plays : Plays v p at end
  pub refused : IsRefused at u

-- a schedule of these words was played to its end
pub record HasPlayed (words : List ℕ) (v u : PartsView) : Type 0 where
  pub end : Place
  pub plays : Plays v (record { words = words; next = 0 }) u end
  pub idle : IsIdle u
  pub last : u.workload.phases ≤ u.phase + 1

-- a turn of a host was made: fewer turns are left, or it has no command and nothing changed
pub record IsGone (h : ℕ) (v u : ClusterView) : Type 0 where
  pub made : Made v.parts h u.parts
  pub live : u.spent ≡ false
  pub phase : u.parts.phase ≡ v.parts.phase
  pub lowers : (u.budget.left < v.budget.left) ⊎ ((u ≡ v) × (has_line v.parts h ≡ false))

-- a place behind all words, and the host whose turn is next
abbrev pub in_round : ℕ → Place
in_round next = record { words = []; next = next }

-- the turns of a round, of the hosts before this one: fewer turns are left, or none of them has a command and nothing changed
pub record PlaysUpTo (hosts : ℕ) (v u : ClusterView) (next : ℕ) : Type 0 where
  pub plays : Plays v.parts (in_round 0) u.parts (in_round (wrapped hosts next))
  pub live : u.spent ≡ false
  pub phase : u.parts.phase ≡ v.parts.phase
  pub lowers : (u.budget.left < v.budget.left) ⊎ ((u ≡ v) × ((h : ℕ) → h < next → has_line v.parts h ≡ false))

-- rounds: they begin anew, or all hosts are idle
pub record PlaysRoundsTo (v u : ClusterView) : Type 0 where
  pub next : ℕ
  pub plays : Plays v.parts (in_round 0) u.parts (in_round next)
  pub live : u.spent ≡ false
  pub phase : u.parts.phase ≡ v.parts.phase
  pub ends : (next ≡ 0) ⊎ IsIdle u.parts

-- a round: the same, and fewer turns are left
pub record PlaysRound (v u : ClusterView) : Type 0 where
  pub to : PlaysRoundsTo v u
  pub lowers : (IsIdle v.parts → ⊥) → u.budget.left < v.budget.left

-- behind which all hosts are idle
pub record PlaysRounds (v u : ClusterView) : Type 0 where
  pub to : PlaysRoundsTo v u
  pub idle : IsIdle u.parts

-- a place in the words
abbrev pub at_word : List ℕ → ℕ → Place
at_word words at = record { words = drop at words; next = 0 }

-- words from one position to another were played
pub record PlaysUpToWord (words : List ℕ) (from : ℕ) (v u : ClusterView) (at : ℕ) : Type 0 where
  pub plays : Plays v.parts (at_word words from) u.parts (at_word words at)
  pub within : at ≤ length words
  pub live : u.spent ≡ false

-- all of them, or all hosts are idle
pub record PlaysWords (words : List ℕ) (from : ℕ) (v u : ClusterView) (at : ℕ) : Type 0 where
  pub up_to : PlaysUpToWord words from v u at
  pub ends : at < length words → IsIdle u.parts
  pub phase : u.parts.phase ≡ v.parts.phase

-- a phase to its end
pub record PlaysPhase (words : List ℕ) (from : ℕ) (v u : ClusterView) (at : ℕ) : Type 0 where
  pub next : ℕ
  pub plays : Plays v.parts (at_word words from) u.parts (record { words = drop at words; next = next })
  pub within : at ≤ length words
  pub live : u.spent ≡ false
  pub phase : u.parts.phase ≡ v.parts.phase
  pub idle : IsIdle u.parts
