use Rattle.std.proofs.Common.{subst}
use Rattle.vol_base.specs.Bytes.{IsBlock}
use Rattle.host_facts.specs.laws.WroteLaws.{dead_wrote}
use Rattle.meta_world.proofs.Puts.{may_put, others_kept, put_quiet, put_refused, put_wrote, same_record, then_ok}
use Rattle.meta_world.proofs.TableSures.{replay_sure}
use Rattle.meta_world.proofs.world.MetaWorld.replay_write.Goals as goal

pub put-done-requires-clause-key : goal.put-done-requires-clause-key
put-done-requires-clause-key g c = c.known.ensures.claims c.args.dead c.requires.claims.1

pub put-done-requires-clause-may : goal.put-done-requires-clause-may
put-done-requires-clause-may g c =
    may_put c.args.self.now.locks _ _ _ _ c.block_of.ensures.bytes
    (replay_sure c.args.self.now _ _ _ _ c.known.ensures.consistent c.requires.table c.requires.replay
    (subst IsBlock c.block_of.ensures.bytes c.block_of.ensures.block))

pub returns-clause-others : goal.returns-clause-others
returns-clause-others g c =
    others_kept c.known.ensures.consistent c.put-done.ensures.others c.put-done.ensures.standing

pub returns-clause-wrote : goal.returns-clause-wrote
returns-clause-wrote g c =
    put_wrote c.args.self.now c.put-done.new.self _ _ c.put-done.result c.known.ensures.consistent c.requires.table
    c.block_of.ensures.bytes c.put-done.ensures.did c.put-done.ensures.others
    (λ ne. same_record c.args.self.now c.put-done.new.self c.put-done.ensures.standing _)
    (replay_sure c.args.self.now _ _ _ _ c.known.ensures.consistent c.requires.table c.requires.replay
    (subst IsBlock c.block_of.ensures.bytes c.block_of.ensures.block))

pub returns-clause-files : goal.returns-clause-files
returns-clause-files g c =
    put_quiet c.args.self.now c.put-done.new.self _ _ _ c.put-done.result c.known.ensures.consistent
    (put_refused c.args.self.now c.put-done.new.self _ _ _ c.put-done.result c.put-done.ensures.did) (returns-clause-wrote g c)

pub returns-clause-table : goal.returns-clause-table
returns-clause-table g c =
    then_ok c.put-done.result (λ wrote. dead_wrote c.args.self.now c.put-done.new.self _ _ _ _ _ c.known.ensures.consistent wrote)
    (returns-clause-wrote g c)
