use Rattle.std.proofs.Common.{subst}
use Rattle.disk_locks.specs.Consistent.{Consistent}
use Rattle.disk_locks.proofs.InMemory.{held_in_memory}
use Rattle.disk_locks.proofs.locks.Locks.geometry.Goals as goal

pub returns-clause-memory : goal.returns-clause-memory
returns-clause-memory g c = held_in_memory c.args.self.now (subst Consistent c.self.view_is c.self.invariant)
