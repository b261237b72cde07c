-- How answers, history and the replies that hosts have noted go together at each state of a run.
use Rattle.std.specs.Prelude.{◌≡◌, ◌⊎◌, ◌<◌, ◌≤◌, ℕ, List, Option, Some, None, Contains, length}
use Rattle.vol_base.specs.declared.answer.Answer.{Answer}
use Rattle.vol_base.specs.declared.plain.PlainReply.{PlainReply}
use Rattle.plain_files.specs.declared.history.Placed.{Placed}
use Rattle.workload.specs.declared.line.Line.{Line}
use Rattle.workload.specs.declared.line.Workload.{Workload}
use Rattle.histories.specs.Fit.{Fits}
use Rattle.histories.specs.Lines.{IsAnswered, IsLine}
use Rattle.host_runs.specs.NextLines.{next_line}
use Rattle.host_runs.specs.RunStates.{RunState}

-- the position has an answer
abbrev pub HasAnswer : List (Option Answer) → ℕ → Type 0
HasAnswer answers p = (answer : Answer) × IsAnswered answers p answer

-- the entry of a reply at a position
abbrev pub entry_of : ℕ → PlainReply → Placed
entry_of position reply = record { line = position; reply = reply }

-- the entry is that of the command that its host is at, which has noted the reply
pub record IsPlacedNow (lines : List Line) (phase : ℕ) (answers : List (Option Answer)) (placed : ℕ → Option PlainReply) (entry : Placed) : Type 0 where
  pub line : Line
  pub is : IsLine lines entry.line line
  pub next : next_line lines answers phase line.host ≡ Some entry.line
  pub reply : placed line.host ≡ Some entry.reply

-- each host's lines are answered in their order, and those of earlier phases all are; an entry is of an answered line or of the
-- command that its host is at, whose reply the host has noted; and answers and history fit
pub record IsOrderly (lines : List Line) (phase : ℕ) (answers : List (Option Answer)) (history : List Placed) (placed : ℕ → Option PlainReply) : Type 0 where
  pub long : length answers ≡ length lines
  pub past : (p : ℕ) (line : Line) → IsLine lines p line → line.phase < phase → HasAnswer answers p
  pub in_turn : (q p : ℕ) (l m : Line) → q < p → IsLine lines q l → IsLine lines p m → l.host ≡ m.host → HasAnswer answers p
      → HasAnswer answers q
  pub reached : (entry : Placed) (line : Line) → Contains history entry → IsLine lines entry.line line → line.phase ≤ phase
  pub behind : (entry : Placed) → Contains history entry → HasAnswer answers entry.line ⊎ IsPlacedNow lines phase answers placed entry
  pub stands : (host p : ℕ) (reply : PlainReply) → next_line lines answers phase host ≡ Some p → placed host ≡ Some reply
      → Contains history (entry_of p reply)
  pub idle : (host : ℕ) → next_line lines answers phase host ≡ None → placed host ≡ None
  pub fits : Fits lines answers history

-- a state of a run is so
abbrev pub IsOrderlyState : Workload → RunState → Type 0
IsOrderlyState w s = IsOrderly w.lines s.phase s.answers s.history (λ host. (s.notes host).placed)
