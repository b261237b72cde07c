use Rattle.std.proofs.Common.{rules}
use Rattle.lock_store.specs.Calls.{WritesBlock}
use Rattle.lock_store.specs.Views.{host_at}
use Rattle.disk_locks.proofs.OtherCalls.{put_law}
use Rattle.disk_locks.proofs.locks.Locks.write_kind.Goals as goal

pub invariant_of-self : goal.invariant_of-self
invariant_of-self g c =
    let did : WritesBlock c.args.self.now c.args.host c.args.kind c.args.block.now.0 (host_at c.args.self.now c.args.host) c.write-done.result c.write-done.new.self = search rules in
    (put_law c.args.self.now c.args.host c.args.kind c.args.block.now.0 c.write-done.new.self c.key-key.ensures.consistent c.requires.key c.known.ensures.device c.requires.kind c.requires.valid c.requires.may c.write-done.result did).0

pub returns-clause-did : goal.returns-clause-did
returns-clause-did g c = let did : WritesBlock c.args.self.now c.args.host c.args.kind c.args.block.now.0 (host_at c.args.self.now c.args.host) c.write-done.result c.write-done.new.self = search rules in did

pub returns-clause-others : goal.returns-clause-others
returns-clause-others g c =
    (put_law c.args.self.now c.args.host c.args.kind c.args.block.now.0 c.write-done.new.self c.key-key.ensures.consistent c.requires.key c.known.ensures.device c.requires.kind c.requires.valid c.requires.may c.write-done.result (returns-clause-did g c)).1
