use Rattle.std.proofs.Common.{rules}
use Rattle.disk_locks.specs.Calls.{Beats}
use Rattle.disk_locks.proofs.SlotCalls.{beat_law}
use Rattle.disk_locks.proofs.locks.Locks.beat.Goals as goal

pub invariant_of-self : goal.invariant_of-self
invariant_of-self g c =
    let did : Beats c.args.self.now c.args.host c.write-shown.result c.write-shown.new.self = search rules in
    (beat_law c.args.self.now c.args.host c.key-key.ensures.consistent c.requires.host (c.me.ensures.named c.requires.joined) c.write-shown.new.self c.known.ensures.device c.write-shown.result c.requires.joined did).0

pub returns-clause-did : goal.returns-clause-did
returns-clause-did g c = let did : Beats c.args.self.now c.args.host c.write-shown.result c.write-shown.new.self = search rules in did

pub returns-clause-others : goal.returns-clause-others
returns-clause-others g c =
    (beat_law c.args.self.now c.args.host c.key-key.ensures.consistent c.requires.host (c.me.ensures.named c.requires.joined) c.write-shown.new.self c.known.ensures.device c.write-shown.result c.requires.joined (returns-clause-did g c)).1
