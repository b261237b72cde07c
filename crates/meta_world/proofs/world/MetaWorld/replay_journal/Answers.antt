use Rattle.meta_world.proofs.KnownReads.{knows_entry}
use Rattle.meta_world.proofs.Gets.{journal_looks}
use Rattle.meta_world.proofs.Puts.{others_kept}
use Rattle.meta_world.proofs.world.MetaWorld.replay_journal.Goals as goal

pub returns-clause-others : goal.returns-clause-others
returns-clause-others g c =
    others_kept c.known.ensures.consistent c.journal_of.ensures.others c.journal_of.ensures.standing

pub returns-clause-looked : goal.returns-clause-looked
returns-clause-looked g c =
    journal_looks c.args.self.now c.journal_of.new.self _ c.journal_of.ensures.others c.journal_of.ensures.standing _ c.journal_of.result
    c.journal_of.ensures.did

pub returns-clause-entry : goal.returns-clause-entry
returns-clause-entry g c =
    knows_entry c.args.self.now c.journal_of.new.self _ _ c.journal_of.result c.known.ensures.consistent c.journal_of.ensures.did
    c.requires.claims
