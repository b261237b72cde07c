-- The files that a host holds for writing, one after another.
use Rattle.std.specs.Prelude.{◌≡◌, ◌<◌, ◌≤◌, ℕ, None, Option, Some, true}
use Rattle.vol_base.specs.declared.answer.Answer.TheVariants.{Served}
use Rattle.vol_base.specs.declared.answer.ServeCounts.{ServeCounts}
use Rattle.vol_layout.specs.declared.geometry.Geometry.{Geometry}
use Rattle.vol_layout.specs.declared.kind.Resource.TheVariants.{File}
use Rattle.lock_store.specs.Memories.{holds}
use Rattle.lock_store.specs.Views.{host_at}
use Rattle.host_facts.specs.Views.{WorldView}
use Rattle.serve_plan.specs.declared.plan.Come.{Come}
use Rattle.serve_plan.specs.declared.plan.Come.TheVariants.{Answered, More}
use Rattle.serve_plan.specs.declared.plan.Doing.TheVariants.{Reads}

-- the host holds the file for writing
abbrev pub IsHeld : WorldView → ℕ → ℕ → Type 0
IsHeld v h f = holds (host_at v.locks h) (File f) ≡ true

-- it holds no file from one on and before another one
abbrev pub HasNone : WorldView → ℕ → ℕ → ℕ → Type 0
HasNone v h first end = (k : ℕ) → first ≤ k → k < end → IsHeld v h k → ⊥

-- the first file from one on that it holds
pub record IsNext (v : WorldView) (h first f : ℕ) : Type 0 where
  pub after : first ≤ f
  pub below : f < v.locks.geometry.files
  pub held : IsHeld v h f
  pub none : HasNone v h first f

abbrev pub IsNextHeld : WorldView → ℕ → ℕ → Option ℕ → Type 0
IsNextHeld v h first None = HasNone v h first v.locks.geometry.files
IsNextHeld v h first (Some f) = IsNext v h first f

-- the file that comes next; behind the last one all files are done
abbrev pub next_file : Geometry → Option ℕ → ℕ
next_file g None = g.files
next_file g (Some f) = f

-- what comes next
abbrev pub behind_file : Option ℕ → ServeCounts → Come
behind_file None counts = Answered (Served counts)
behind_file (Some f) counts = More (Reads f)
