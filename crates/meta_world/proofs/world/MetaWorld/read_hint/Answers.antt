use Rattle.meta_world.proofs.Gets.{block_looks}
use Rattle.meta_world.proofs.Puts.{others_kept}
use Rattle.meta_world.proofs.world.MetaWorld.read_hint.Goals as goal

pub returns-clause-others : goal.returns-clause-others
returns-clause-others g c =
    others_kept c.known.ensures.consistent c.get.ensures.others c.get.ensures.standing

pub returns-clause-looked : goal.returns-clause-looked
returns-clause-looked g c =
    block_looks c.args.self.now c.get.new.self _ c.get.ensures.others c.get.ensures.standing _ c.get.result c.get.ensures.did
