use Rattle.std.proofs.Common.{rules}
use Rattle.lock_store.specs.Calls.{SwapsBlock}
use Rattle.lock_store.specs.Views.{host_at}
use Rattle.disk_locks.proofs.OtherCalls.{exchange_law}
use Rattle.disk_locks.proofs.locks.Locks.swap_kind.Goals as goal

pub invariant_of-self : goal.invariant_of-self
invariant_of-self g c =
    let did : SwapsBlock c.args.self.now c.args.host c.args.kind c.args.old.now.0 c.args.new.now.0 (host_at c.args.self.now c.args.host) c.swap-swapped.result c.swap-swapped.new.self = search rules in
    (exchange_law c.args.self.now c.args.host c.args.kind c.args.new.now.0 c.swap-swapped.new.self c.key-key.ensures.consistent c.requires.key c.known.ensures.device c.requires.kind c.requires.valid c.requires.may c.args.old.now.0 c.swap-swapped.result did).0

pub returns-clause-did : goal.returns-clause-did
returns-clause-did g c = let did : SwapsBlock c.args.self.now c.args.host c.args.kind c.args.old.now.0 c.args.new.now.0 (host_at c.args.self.now c.args.host) c.swap-swapped.result c.swap-swapped.new.self = search rules in did

pub returns-clause-others : goal.returns-clause-others
returns-clause-others g c =
    (exchange_law c.args.self.now c.args.host c.args.kind c.args.new.now.0 c.swap-swapped.new.self c.key-key.ensures.consistent c.requires.key c.known.ensures.device c.requires.kind c.requires.valid c.requires.may c.args.old.now.0 c.swap-swapped.result (returns-clause-did g c)).1
