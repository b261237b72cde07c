use Rattle.std.proofs.Common.{refl}
use Rattle.meta_world.proofs.HintWrites.{hint_wrote, written_place, wrote_hint_files}
use Rattle.meta_world.proofs.Puts.{may_put, others_kept}
use Rattle.meta_world.proofs.Sures.{hint_sure}
use Rattle.meta_world.proofs.world.MetaWorld.write_hint.Goals as goal

pub put-done-requires-clause-may : goal.put-done-requires-clause-may
put-done-requires-clause-may g c =
    may_put c.args.self.now.locks _ _ _ _ refl
    (hint_sure c.args.self.now.locks _ _ _ c.known.ensures.consistent c.hint-kind.ensures.hint c.hint-kind.ensures.has)

pub returns-clause-did : goal.returns-clause-did
returns-clause-did g c =
    written_place c.args.self.now.locks c.put-done.new.self.locks _ _ _ _ c.put-done.result c.hint-kind.ensures.at c.put-done.ensures.did

pub returns-clause-others : goal.returns-clause-others
returns-clause-others g c =
    others_kept c.known.ensures.consistent c.put-done.ensures.others c.put-done.ensures.standing

pub returns-clause-wrote : goal.returns-clause-wrote
returns-clause-wrote g c =
    hint_wrote c.args.self.now c.put-done.new.self _ _ c.known.ensures.consistent c.put-done.ensures.others c.put-done.ensures.standing
    c.requires.place _ c.put-done.result
    (returns-clause-did g c)

pub returns-clause-files : goal.returns-clause-files
returns-clause-files g c =
    wrote_hint_files c.args.self.now c.put-done.new.self _ _ _ c.put-done.result c.known.ensures.consistent c.requires.place
    (returns-clause-did g c) (returns-clause-wrote g c)
