use Rattle.std.proofs.Common.{rules}
use Rattle.lock_store.specs.Calls.{FencesKey}
use Rattle.disk_locks.proofs.OtherCalls.{fence_law}
use Rattle.disk_locks.proofs.locks.Locks.fence.Goals as goal

pub invariant_of-self : goal.invariant_of-self
invariant_of-self g c =
    let did : FencesKey c.args.self.now c.args.host c.args.target c.fence-fenced.result c.fence-fenced.new.self = search rules in
    (fence_law c.args.self.now c.args.host c.args.target c.fence-fenced.result c.fence-fenced.new.self c.key-key.ensures.consistent c.requires.key c.known.ensures.device did).0

pub returns-clause-did : goal.returns-clause-did
returns-clause-did g c = let did : FencesKey c.args.self.now c.args.host c.args.target c.fence-fenced.result c.fence-fenced.new.self = search rules in did

pub returns-clause-others : goal.returns-clause-others
returns-clause-others g c =
    (fence_law c.args.self.now c.args.host c.args.target c.fence-fenced.result c.fence-fenced.new.self c.key-key.ensures.consistent c.requires.key c.known.ensures.device (returns-clause-did g c)).1
