-- What the answers and the history of a run owe its workload.
use Rattle.std.specs.Prelude.{◌≡◌, ◌≢◌, ◌<◌, ◌≤◌, ◌^◌, ℕ, List, Option, Some, slice_get, Contains}
use Rattle.vol_base.specs.declared.answer.Answer.{Answer}
use Rattle.vol_base.specs.declared.answer.Answer.TheVariants.{Plain, Cut}
use Rattle.vol_base.specs.declared.plain.PlainReply.{PlainReply}
use Rattle.plain_files.specs.declared.history.Placed.{Placed}
use Rattle.workload.specs.declared.line.Line.{Line}
use Rattle.histories.specs.Answers.{MayGet}
use Rattle.histories.specs.Lines.{IsAnswered, IsFileLine, IsLine}

-- the entry with this number in the history is of this line
abbrev pub IsEntry : List Line → List Placed → ℕ → Placed → Line → Type 0
IsEntry lines history k entry line = (slice_get history k ≡ Some entry) × IsLine lines entry.line line

-- an answer that is neither a plain reply nor a cut: the position has no place in the history
abbrev pub IsPlaceless : Answer → Type 0
IsPlaceless (Plain reply) = ⊥
IsPlaceless (Cut by) = ⊥
IsPlaceless _ = Unit {0}

-- answers and a history that fit a workload. A position that was cut, or is not answered, may have an
-- entry or not.
pub record Fits (lines : List Line) (answers : List (Option Answer)) (history : List Placed) : Type 0 where
  -- each entry is of a file command
  pub commands : (k : ℕ) (entry : Placed) → slice_get history k ≡ Some entry
      → (line : Line) × IsLine lines entry.line line × IsFileLine line
  -- no position has two entries
  pub once : (j k : ℕ) (a b : Placed) → j < k → slice_get history j ≡ Some a → slice_get history k ≡ Some b → a.line ≢ b.line
  -- the entries of one host stand in the order of their positions
  pub order : (j k : ℕ) (a b : Placed) (l m : Line) → j < k → IsEntry lines history j a l → IsEntry lines history k b m → l.host ≡ m.host
      → a.line < b.line
  -- the entries of a phase stand before those of the next
  pub phases : (j k : ℕ) (a b : Placed) (l m : Line) → j < k → IsEntry lines history j a l → IsEntry lines history k b m → l.phase ≤ m.phase
  -- a plain reply that was answered stands in the history
  pub placed : (p : ℕ) (reply : PlainReply) → p < 2 ^ 32 → IsAnswered answers p (Plain reply)
      → Contains history (record { line = p; reply = reply })
  -- a position with an answer of another kind, but a cut, does not
  pub placeless : (p : ℕ) (answer : Answer) (entry : Placed) → IsAnswered answers p answer → IsPlaceless answer → Contains history entry
      → entry.line ≢ p
  -- each answer is one that its command can get
  pub own : (p : ℕ) (answer : Answer) (line : Line) → IsAnswered answers p answer → IsLine lines p line → MayGet line.command answer
