-- How many steps of a plan are left at most: a bound by the geometry, and in a `leave` by the files that the host holds. Each step makes
-- one device call at most.
use Rattle.std.specs.Prelude.{◌+◌, ◌*◌, ℕ, zero, suc, if◌then◌else◌}
use Rattle.vol_layout.specs.declared.geometry.Geometry.{Geometry}
use Rattle.vol_layout.specs.declared.kind.Resource.TheVariants.{File}
use Rattle.lock_store.specs.declared.host.HostState.{HostState}
use Rattle.lock_store.specs.Memories.{holds}
use Rattle.lock_store.specs.Views.{host_at}
use Rattle.host_facts.specs.Facts.{locks_of}
use Rattle.host_facts.specs.Views.{WorldView}
use Rattle.recover_plan.specs.Stages.{steps_left}
use Rattle.recover_plan.specs.declared.plan.Doing.{Doing}
use Rattle.recover_plan.specs.declared.plan.Doing.TheVariants as doings

-- how many of the first n files the host holds
unfoldable pub files_held : HostState → ℕ → ℕ
files_held m zero = 0
files_held m (suc n) = files_held m n + (if holds m (File n) then 1 else 0)

-- a `join` recovers its own slot once; a `recover` claims a second time at most; a `leave` frees its files, its slot and its key
abbrev pub calls_left : WorldView → ℕ → Doing → ℕ
calls_left v h doings.Register = locks_of v.locks.geometry + 24
calls_left v h doings.Enter = locks_of v.locks.geometry + 23
calls_left v h doings.EnterAgain = 1
calls_left v h (doings.Over stage) = steps_left v.locks.geometry stage + 1
calls_left v h (doings.Retake dead) = 1
calls_left v h doings.Unlock = files_held (host_at v.locks h) v.locks.geometry.files + 2
calls_left v h doings.Fence = 1
calls_left v h doings.Beat = 1
calls_left v h (doings.Look of) = 1
calls_left v h (doings.Begin of) = 2 * locks_of v.locks.geometry + 41
calls_left v h (doings.First of stage) = steps_left v.locks.geometry stage + locks_of v.locks.geometry + 20
calls_left v h (doings.Again of stage) = steps_left v.locks.geometry stage + 1
calls_left v h (doings.Free of dead) = 1
calls_left v h doings.Ended = 0

-- no plan makes more
abbrev pub most_calls : Geometry → ℕ
most_calls g = 2 * locks_of g + 41
