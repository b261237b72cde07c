-- The end of a transaction: what stands between two of its steps, and what each step did.
use Rattle.std.specs.Prelude.{◌≡◌, ◌≢◌, ◌<◌, ◌+◌, ℕ, List, [], ◌∷◌, None, Option, Some, length}
use Rattle.vol_layout.specs.declared.kind.Resource.{Resource}
use Rattle.vol_layout.specs.declared.kind.Resource.TheVariants.{File}
use Rattle.shared_disk.specs.Events.{Event}
use Rattle.lock_store.specs.Memories.{holds, reads}
use Rattle.lock_store.specs.Views.{host_at, told_of}
use Rattle.disk_locks.specs.Sure.{BothTold}
use Rattle.call_effects.specs.Changes.{Changes}
use Rattle.host_facts.specs.Facts.Fact.{RecordIs}
use Rattle.host_facts.specs.Knows.{Knows}
use Rattle.host_facts.specs.Views.{WorldView}
use Rattle.plan_parts.specs.Applies.{IsApplying}
use Rattle.plan_parts.specs.QuietCalls.{Quiet}
use Rattle.plan_parts.specs.TakenLocks.{IsTaking}
use Rattle.share_plans.specs.HintSpares.{SparesHints}
use Rattle.share_plans.specs.declared.closing.Closing.{Closing}
use Rattle.share_plans.specs.declared.closing.Closing.TheVariants.{Applies, Frees}

-- what is left where no record stands: the locks that were taken are freed
abbrev pub rest_of : List Resource → Option Closing
rest_of [] = None
rest_of (r ∷ more) = Some Frees

-- what stands before a step
abbrev pub IsClosing : WorldView → ℕ → List Resource → Closing → Type 0
IsClosing v h taken (Applies a) = IsTaking v h taken × IsApplying v h a.entry.edits a.left
IsClosing v h taken Frees = IsTaking v h taken × Knows v h (RecordIs []) × (taken ≢ [])

-- what stands behind it: where nothing is left, no record stands and no part or group is held
abbrev pub StandsClosed : WorldView → ℕ → List Resource → Option Closing → Type 0
StandsClosed w h taken None = IsTaking w h taken × Knows w h (RecordIs []) × (taken ≡ [])
StandsClosed w h taken (Some closing) = IsClosing w h taken closing

-- how many steps are left
abbrev pub closing_left : List Resource → Option Closing → ℕ
closing_left taken None = 0
closing_left taken (Some Frees) = length taken
closing_left taken (Some (Applies a)) = length a.left + 1 + length taken

-- the host is joined as before, and has the files that it had
pub record KeepsHolds (h : ℕ) (v w : WorldView) : Type 0 where
  pub geometry : w.locks.geometry ≡ v.locks.geometry
  pub joined : (host_at w.locks h).joined ≡ (host_at v.locks h).joined
  pub held : (f : ℕ) → f < v.locks.geometry.files → holds (host_at w.locks h) (File f) ≡ holds (host_at v.locks h) (File f)
  pub read : (f : ℕ) → f < v.locks.geometry.files → reads (host_at w.locks h) (File f) ≡ reads (host_at v.locks h) (File f)

-- where the device tells its content, no logical number and no data block changed
abbrev pub ChangesNothing : WorldView → WorldView → Type 0
ChangesNothing v w = BothTold (told_of v.locks) (told_of w.locks) (Changes v.locks.geometry [] None)

-- what a step did: fewer are left, and nothing changed but tables, the journal and locks; its call is
-- at no block of hints
pub record Closes (h : ℕ) (v w : WorldView) (taken after : List Resource) (closing : Closing) (next : Option Closing) : Type 0 where
  pub keeps : KeepsHolds h v w
  pub stands : StandsClosed w h after next
  pub changes : ChangesNothing v w
  pub less : closing_left after next < closing_left taken (Some closing)
  pub event : Event
  pub spares : SparesHints v.locks.geometry event.call
  pub quiet : Quiet h v w event
