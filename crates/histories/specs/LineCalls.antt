-- The plain calls of a workload, by line.
use Rattle.std.specs.Prelude.{List, Option, map}
use Rattle.vol_base.specs.declared.plain.PlainCall.{PlainCall}
use Rattle.vol_base.specs.PlainCalls.{plain_call_of}
use Rattle.workload.specs.declared.line.Line.{Line}

-- the plain call of each line; none where the line is no file command
abbrev pub calls_of : List Line → List (Option PlainCall)
calls_of lines = map (λ line. plain_call_of line.command) lines
