use Rattle.disk_locks.proofs.Holds.{key_none, key_host}
use Rattle.disk_locks.proofs.locks.Locks.key_of.Goals as goal

pub returns-clause-none : goal.returns-clause-none
returns-clause-none g c = rw c.me.ensures.memory (key_none _ _ _ _ (c.me.ensures.consistent.memories c.args.host))

pub returns-clause-of_host : goal.returns-clause-of_host
returns-clause-of_host g c = rw c.me.ensures.memory (key_host _ _ _ _ (c.me.ensures.consistent.memories c.args.host))
