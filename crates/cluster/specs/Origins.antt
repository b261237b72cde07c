-- What a cluster was started from, and its events.
use Rattle.std.specs.Prelude.{ℕ}
use Rattle.workload.specs.declared.line.Workload.{Workload}
use Rattle.shared_disk.specs.Seen.{DiskSeen}
use Rattle.host_runs.specs.RunStates as runs
use Rattle.cluster.specs.Views.{ClusterView}
use Rattle.cluster.specs.declared.event.RunEvent.{RunEvent}
use Rattle.cluster.specs.declared.event.RunEvent.TheVariants.{Answered, Entered}

-- its workload and phase, and the device at the end of `start`
pub record OriginView : Type 0 where
  pub workload : Workload
  pub phase : ℕ
  pub began : DiskSeen

abbrev pub origin_of : ClusterView → OriginView
origin_of c = record { workload = c.parts.workload; phase = c.parts.phase; began = c.began }

-- an event of a run as the cluster keeps it
abbrev pub seen_event : runs.RunEvent → RunEvent
seen_event (runs.Entered entry) = Entered entry
seen_event (runs.Answered position answer) = Answered position answer
