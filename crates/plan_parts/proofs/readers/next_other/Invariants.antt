use Rattle.plan_parts.specs.OtherReaders.{HasNone}
use Rattle.plan_parts.proofs.readers.next_other.Given as goal

abbrev pub invariant-loop-host : goal.invariant-loop-host
invariant-loop-host l = HasNone l.own.0 l.readers l.from l.host
