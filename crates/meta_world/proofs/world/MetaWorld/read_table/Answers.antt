use Rattle.meta_world.proofs.Gets.{table_looks}
use Rattle.meta_world.proofs.KnownReads.{knows_table}
use Rattle.meta_world.proofs.Puts.{others_kept}
use Rattle.meta_world.proofs.world.MetaWorld.read_table.Goals as goal

pub returns-clause-others : goal.returns-clause-others
returns-clause-others g c =
    others_kept c.known.ensures.consistent c.fetch.ensures.others c.fetch.ensures.standing

pub returns-clause-looked : goal.returns-clause-looked
returns-clause-looked g c =
    table_looks c.args.self.now c.fetch.new.self _ c.fetch.ensures.others c.fetch.ensures.standing _ c.fetch.result c.fetch.ensures.did

pub returns-clause-table : goal.returns-clause-table
returns-clause-table g c =
    knows_table c.args.self.now c.fetch.new.self _ _ c.fetch.result c.fetch.ensures.did c.requires.table c.requires.may
