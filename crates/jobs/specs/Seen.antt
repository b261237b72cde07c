-- What a job shows of its outside.
use Rattle.shared_disk.specs.Seen.{DiskSeen}
use Rattle.vol_io.specs.declared.reading.Source.{Ghosts as SourceGhosts}
use Rattle.vol_io.specs.declared.writing.Sink.{Ghosts as SinkGhosts}
use Rattle.jobs.specs.Endings.{SinkSeen}
use Rattle.jobs.specs.Sources.{SourceSeen}

-- a source at one time, by the ghost functions of its type
abbrev pub source_by : {S : Type 0} → SourceGhosts S → S → SourceSeen
source_by s source = record { left = s.left source; faults = s.faults source }

-- a sink at one time
abbrev pub sink_by : {K : Type 0} → SinkGhosts K → K → SinkSeen
sink_by k sink = record { taken = k.taken sink; faults = k.faults sink; refusals = k.refusals sink }

-- the source, the device and the sink at one time
pub record Seen : Type 0 where
  pub source : SourceSeen
  pub disk : DiskSeen
  pub sink : SinkSeen

abbrev pub seen : SourceSeen → DiskSeen → SinkSeen → Seen
seen source disk sink = record { source = source; disk = disk; sink = sink }
