use Rattle.std.proofs.Common.{rules}
use Rattle.host_facts.specs.Calls.{FitsTable}
use Rattle.disk_locks.specs.laws.OthersLaws.{others_then}
use Rattle.meta_world.proofs.Bad.{bad_refusal, table_untold}
use Rattle.meta_world.proofs.world.MetaWorld.fetch.Goals as goal

pub returns-in-None-clause-did : goal.returns-in-None-clause-did
returns-in-None-clause-did g c =
    let unfit : FitsTable c.args.self.now.locks.geometry c.args.which c.in_ok-block.block.0 → ⊥ = search rules in
    bad_refusal _ _ c.in_ok-block.ensures.did c.bad.ensures.did c.bad.ensures.bad unfit

pub returns-in-None-clause-others : goal.returns-in-None-clause-others
returns-in-None-clause-others g c =
    others_then _ _ _ _ c.known.ensures.consistent c.in_ok-block.ensures.others c.bad.ensures.others

pub returns-in-None-clause-sound : goal.returns-in-None-clause-sound
returns-in-None-clause-sound g c place e =
    let unfit : FitsTable c.args.self.now.locks.geometry c.args.which c.in_ok-block.block.0 → ⊥ = search rules in
    table_untold c.known.ensures.consistent c.requires.table c.in_ok-block.ensures.did unfit
