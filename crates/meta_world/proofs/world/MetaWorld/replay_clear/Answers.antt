use Rattle.std.proofs.Common.{inr}
use Rattle.host_facts.specs.laws.WroteLaws.{wrote_dead}
use Rattle.meta_world.proofs.Puts.{may_put, others_kept, put_quiet, put_refused, put_wrote, same_record, then_ok}
use Rattle.meta_world.proofs.Sures.{clear_sure}
use Rattle.meta_world.proofs.world.MetaWorld.replay_clear.Goals as goal

pub put-done-requires-clause-key : goal.put-done-requires-clause-key
put-done-requires-clause-key g c = c.known.ensures.claims c.args.dead c.requires.claims.1

pub put-done-requires-clause-may : goal.put-done-requires-clause-may
put-done-requires-clause-may g c =
    may_put c.args.self.now.locks _ _ _ _ c.write_journal.ensures.empty
    (clear_sure c.args.self.now.locks _ _ c.known.ensures.consistent c.requires.claims.0 (inr c.requires.claims.1) c.requires.applied)

pub returns-clause-others : goal.returns-clause-others
returns-clause-others g c =
    others_kept c.known.ensures.consistent c.put-done.ensures.others c.put-done.ensures.standing

pub returns-clause-wrote : goal.returns-clause-wrote
returns-clause-wrote g c =
    put_wrote c.args.self.now c.put-done.new.self _ _ c.put-done.result c.known.ensures.consistent c.requires.claims.0
    c.write_journal.ensures.empty c.put-done.ensures.did c.put-done.ensures.others
    (λ ne. same_record c.args.self.now c.put-done.new.self c.put-done.ensures.standing _)
    (clear_sure c.args.self.now.locks _ _ c.known.ensures.consistent c.requires.claims.0 (inr c.requires.claims.1) c.requires.applied)

pub returns-clause-files : goal.returns-clause-files
returns-clause-files g c =
    put_quiet c.args.self.now c.put-done.new.self _ _ _ c.put-done.result c.known.ensures.consistent
    (put_refused c.args.self.now c.put-done.new.self _ _ _ c.put-done.result c.put-done.ensures.did) (returns-clause-wrote g c)

pub returns-clause-empty : goal.returns-clause-empty
returns-clause-empty g c =
    then_ok c.put-done.result
    (λ wrote. wrote_dead c.args.self.now c.put-done.new.self _ _ c.known.ensures.consistent wrote c.requires.claims)
    (returns-clause-wrote g c)
