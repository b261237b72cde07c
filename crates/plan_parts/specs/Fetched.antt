-- What a transaction does with a part or a group: its lock is taken, and its table is read.
use Rattle.std.specs.Prelude.{◌≡◌, ◌≢◌, ℕ, IsSomeAnd, List, None, Option, Some, ◌∷◌, false}
use Rattle.vol_base.specs.declared.block.Key.{Key}
use Rattle.vol_base.specs.declared.command.Command.{Command}
use Rattle.vol_base.specs.declared.command.Command.TheVariants.{Write}
use Rattle.vol_layout.specs.declared.kind.Resource.{Resource}
use Rattle.vol_layout.specs.declared.kind.Table.{Table}
use Rattle.vol_layout.specs.declared.kind.Table.TheVariants as tables
use Rattle.shared_disk.specs.Events.{Event}
use Rattle.lock_store.specs.Views.{key_at, told_of}
use Rattle.host_runs.specs.DeviceCalls.{OnImage}
use Rattle.host_runs.specs.FullCauses.{IsFullUnder}
use Rattle.host_runs.specs.Tries.{frees_locks}
use Rattle.host_facts.specs.LockResults.{Gains}
use Rattle.host_facts.specs.Looks.{Looks}
use Rattle.host_facts.specs.Views.{WorldView}
use Rattle.plan_parts.specs.KeptTables.{IsKept}
use Rattle.plan_parts.specs.QuietCalls.{Noted, Quiet, QuietCall}
use Rattle.plan_parts.specs.TakenLocks.{IsTaking}
use Rattle.plan_parts.specs.declared.kept.Kept.{Kept}
use Rattle.plan_parts.specs.declared.outcome.Outcome.{Outcome}
use Rattle.plan_parts.specs.declared.outcome.Outcome.TheVariants.{Busy, Full, Open}

-- the lock was taken: it is the last one now, and every fact stays
pub record LockTaken (h : ℕ) (v w : WorldView) (r : Resource) (taken after : List Resource) : Type 0 where
  pub pushed : after ≡ r ∷ taken
  pub gains : Gains h r v w
  pub taking : IsTaking w h after
  pub event : Event
  pub quiet : Quiet h v w event

-- another host holds it under this key: nothing changed, and a command that frees no dead host's locks has come to `busy`
pub record LockBusy (h : ℕ) (v w : WorldView) (taken after : List Resource) (key : Key) : Type 0 where
  pub same : after ≡ taken
  pub looks : Looks h v w
  pub taking : IsTaking w h after
  pub other : key.0 ≢ key_at v.locks h
  pub event : Event
  pub busy : (command : Command) → frees_locks command ≡ false
      → QuietCall command h v w event (Noted command h v Open) (Noted command h w (Busy key))

-- what a try of a lock did, by the key that it answers
abbrev pub Takes : ℕ → WorldView → WorldView → Resource → List Resource → List Resource → Option Key → Type 0
Takes h v w r taken after None = LockTaken h v w r taken after
Takes h v w r taken after (Some key) = LockBusy h v w taken after key

-- the device tells that the host's key has all groups locked, and that no data block is free
abbrev pub IsToldFull : WorldView → ℕ → Type 0
IsToldFull v h = IsSomeAnd (told_of v.locks) (λ t. IsFullUnder v.locks.geometry (key_at v.locks h) t.image)

-- where a `write` reads the table of a group, the volume is not so
abbrev pub SparesFull : Command → ℕ → WorldView → Table → Type 0
SparesFull command h v t = (f i n r : ℕ) → command ≡ Write f i n → t ≡ tables.Group r → IsToldFull v h → ⊥

-- the table of a held resource was read, and is known; the read is quiet, but where it has to be noted that the volume is full
pub record Fetched (h : ℕ) (v w : WorldView) (t : Table) (kept : Kept) : Type 0 where
  pub which : kept.which ≡ t
  pub looks : Looks h v w
  pub is_kept : IsKept w h kept
  pub event : Event
  pub quiet : (command : Command) (outcome : Outcome) → SparesFull command h v t
      → QuietCall command h v w event (Noted command h v outcome) (Noted command h w outcome)
  pub full : (command : Command) (r : ℕ) → t ≡ tables.Group r
      → OnImage v.locks.disk.state (IsFullUnder v.locks.geometry (key_at v.locks h))
      → QuietCall command h v w event (Noted command h v Open) (Noted command h w Full)
