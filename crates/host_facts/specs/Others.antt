-- What a call of one host leaves to all others.
use Rattle.std.specs.Prelude.{◌≡◌, ◌≢◌, ℕ}
use Rattle.disk_locks.specs.Others as locks'
use Rattle.host_facts.specs.Facts.{Fact}
use Rattle.host_facts.specs.Knows.{Knows}
use Rattle.host_facts.specs.Views.{WorldView, standing_at}

-- their part of the locks, their records in memory, and every fact that they know
pub record Others (h : ℕ) (v w : WorldView) : Type 0 where
  pub locks : locks'.Others h v.locks w.locks
  pub standing : (x : ℕ) → x ≢ h → standing_at w x ≡ standing_at v x
  pub facts : (x : ℕ) (a : Fact) → x ≢ h → Knows v x a → Knows w x a
