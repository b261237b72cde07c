-- The statuses of the program.
use Rattle.std.specs.Prelude.{ℕ}
use Rattle.jobs.specs.declared.status.Status.{Status}
use Rattle.jobs.specs.declared.status.Status.TheVariants as statuses

-- the number with which the program ends
abbrev pub code_of : Status → ℕ
code_of statuses.Ok = 0
code_of statuses.Usage = 1
code_of statuses.Workload = 2
code_of statuses.Volume = 3
code_of statuses.DiskFault = 4
code_of statuses.ReadFault = 5
code_of statuses.WriteFault = 6
code_of statuses.Memory = 7
code_of statuses.Geometry = 8
