-- What the cluster keeps of its run, and what each call of it does.
use Rattle.std.specs.Prelude.{◌≡◌, ◌++◌, ◌∷◌, ℕ, List, [], None, false}
use Rattle.plain_files.specs.Plain.{Plain}
use Rattle.shared_disk.specs.Seen.{DiskSeen}
use Rattle.image_view.specs.Files.{HasFiles}
use Rattle.image_view.specs.Valid.{IsValid}
use Rattle.histories.specs.Fit.{Fits}
use Rattle.host_runs.specs.DeviceCalls.{OnImage}
use Rattle.host_runs.specs.NextLines.{next_line}
use Rattle.host_runs.specs.Notes.{Notes, no_notes}
use Rattle.host_runs.specs.RunStates.{RunState, opening}
use Rattle.host_runs.specs.Runs.{IsCall, Run, RunCall}
use Rattle.host_runs.specs.laws.EventLaws.{IsListed}
use Rattle.host_runs.specs.laws.FilesLaws.{IsLed, IsPlainOf}
use Rattle.cluster.specs.Agreements.{Agree, IsSound, IsStanding}
use Rattle.cluster.specs.Views.{ClusterView, PartsView, disk_of, state_of}

-- the parts over a device that is seen so
abbrev pub showing : DiskSeen → PartsView → PartsView
showing last v = record v { world = record v.world { locks = record v.world.locks { disk = last } } }

-- a run from the start to this state
abbrev pub LeadsTo : ClusterView → List RunCall → RunState → Type 0
LeadsTo v calls s = Run v.parts.workload (opening v.parts.workload v.began) calls s

-- these calls lead from the start to the present state, with notes that agree with the seats
abbrev pub Led : ClusterView → List RunCall → Type 0
Led v calls = (notes : ℕ → Notes) × LeadsTo v calls (state_of v.parts notes) × Agree v.parts notes

-- a call of a run, from all notes that agree to some that agree
abbrev pub Goes : PartsView → RunCall → PartsView → Type 0
Goes v call u =
    (notes : ℕ → Notes) → Agree v notes
    → (later : ℕ → Notes) × IsCall v.workload call (state_of v notes) (state_of u later) × Agree u later

-- there was a run from the start whose last state has the device's image, keys and counter, the phase, the answers, the history and
-- the events
pub record IsRun (v : ClusterView) : Type 0 where
  pub last : DiskSeen
  pub shown : last.state ≡ (disk_of v.parts).state
  pub calls : List RunCall
  pub notes : ℕ → Notes
  pub leads : LeadsTo v calls (state_of (showing last v.parts) notes)

-- what holds between any two calls: there was a run from the start. Until memory is refused its last state shows the device as it is,
-- and its notes agree with the seats
pub record Inv (v : ClusterView) : Type 0 where
  pub sound : IsSound v.parts
  pub valid : OnImage v.began.state (IsValid v.parts.workload.geometry v.began.state.counter)
  pub run : IsRun v
  pub live : v.spent ≡ false → (run.last ≡ disk_of v.parts) × Agree v.parts run.notes × IsStanding v.parts

-- a call leaves what the cluster was started from
pub record SameStart (v u : ClusterView) : Type 0 where
  pub began : u.began ≡ v.began
  pub workload : u.parts.workload ≡ v.parts.workload

-- whatever calls led to the state before, with one more they lead to that behind it
abbrev pub GoesOn : ClusterView → RunCall → ClusterView → Type 0
GoesOn v call u = (calls : List RunCall) → Led v calls → Led u (calls ++ call ∷ [])

-- a turn that is refused memory leaves all that a run sees
pub record IsStill (v u : PartsView) : Type 0 where
  pub workload : u.workload ≡ v.workload
  pub phase : u.phase ≡ v.phase
  pub ledger : u.ledger ≡ v.ledger
  pub state : (disk_of u).state ≡ (disk_of v).state

-- no host has a line left in the phase
abbrev pub IsIdle : PartsView → Type 0
IsIdle v = (host : ℕ) → next_line v.workload.lines v.ledger.answers v.phase host ≡ None

-- the present state, without the notes of hosts
abbrev pub present : PartsView → RunState
present v = state_of v (λ host. no_notes)

-- what holds at every time, whatever hosts died, whatever failed, and whatever memory was refused
pub record Facts (v : ClusterView) : Type 0 where
  pub run : IsRun v
  pub live : v.spent ≡ false → run.last ≡ disk_of v.parts
  pub fits : Fits v.parts.workload.lines v.parts.ledger.answers v.parts.ledger.history
  pub led : (p : Plain) → IsPlainOf v.parts.workload.geometry p → OnImage v.began.state (λ image. HasFiles image p)
      → IsLed v.parts.workload p v.began.state.told (present v.parts)
  pub listed : IsListed v.parts.workload (present v.parts)
