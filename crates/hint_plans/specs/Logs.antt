-- What a `log` has read so far, and what comes behind the read of a log block.
use Rattle.std.specs.Prelude.{◌≡◌, ◌≢◌, ◌+◌, ◌<◌, ◌≤◌, ℕ, List, [], ◌∷◌, Bool, false, nat_lt, true}
use Rattle.vol_base.specs.declared.answer.Answer.TheVariants.{Logged}
use Rattle.vol_layout.specs.declared.geometry.Geometry.{Geometry}
use Rattle.vol_layout.specs.declared.kind.Kind.TheVariants as kinds
use Rattle.hint_blocks.specs.declared.entry.LogEntry.{LogEntry}
use Rattle.host_runs.specs.HintCauses.{logged_hints}
use Rattle.host_runs.specs.Notes.{NotedCall}
use Rattle.host_runs.specs.NotedCalls.{ShowsKind, SomeCall}
use Rattle.hint_plans.specs.declared.plan.Come.{Come}
use Rattle.hint_plans.specs.declared.plan.Come.TheVariants.{Answered, More}
use Rattle.hint_plans.specs.declared.plan.Doing.TheVariants.{ReadsLog, WritesLog}

-- one of the calls showed this own log block
abbrev pub HasSeenLog : Geometry → ℕ → ℕ → List ℕ → List NotedCall → Type 0
HasSeenLog g h l block calls = SomeCall (ShowsKind g (kinds.Log h l) block) calls

-- the own log blocks before this one were read, and each has a hint; no later one was
pub record AreRead (g : Geometry) (h l : ℕ) (calls : List NotedCall) : Type 0 where
  pub full : (k : ℕ) → k < l → (block : List ℕ) × HasSeenLog g h k block calls × (logged_hints g block ≢ [])
  pub unread : (k : ℕ) (block : List ℕ) → l ≤ k → HasSeenLog g h k block calls → ⊥

-- wherever this own log block was read, it had no hint
abbrev pub IsSeenEmpty : Geometry → ℕ → ℕ → List NotedCall → Type 0
IsSeenEmpty g h l calls = (block : List ℕ) → HasSeenLog g h l block calls → logged_hints g block ≡ []

-- what comes behind the read of a log block that has a hint, by whether there is a next one
abbrev pub behind_full : ℕ → Bool → Come
behind_full l true = More (ReadsLog (l + 1))
behind_full l false = Answered (Logged 0)

-- what comes behind the read of a log block, by its hints: it is written where it has none; else the next one is read, while there is one
abbrev pub behind_log : Geometry → ℕ → List LogEntry → Come
behind_log g l [] = More (WritesLog l)
behind_log g l (hint ∷ hints) = behind_full l (nat_lt (l + 1) g.logs)
