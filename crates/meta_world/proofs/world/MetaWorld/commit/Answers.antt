use Rattle.std.proofs.Common.{◌≡◌, None, OnOk, Some, refl, subst}
use Rattle.journal_block.specs.JournalRecord.{JournalRecord}
use Rattle.host_facts.specs.Views.{standing_at}
use Rattle.host_facts.specs.laws.KeptLaws.{others_of}
use Rattle.meta_world.proofs.Commits.{record_stands}
use Rattle.meta_world.proofs.Puts.{SureStep, may_put, put_refused, put_wrote}
use Rattle.meta_world.proofs.Sures.{commit_sure}
use Rattle.meta_world.proofs.world.MetaWorld.commit.Given.{Over}
use Rattle.meta_world.proofs.world.MetaWorld.commit.Goals as goal
use Rattle.vol_layout.specs.declared.kind.Kind.TheVariants as kinds
use Rattle.vol_layout.specs.Journal.{journal_bytes}

pub enter-done-requires-clause-key : goal.enter-done-requires-clause-key
enter-done-requires-clause-key g c = c.known.ensures.joined c.requires.empty.guard.0

pub enter-done-requires-clause-may : goal.enter-done-requires-clause-may
enter-done-requires-clause-may g c =
    may_put c.args.self.now.locks _ _ _ _ c.write_journal.ensures.bytes
    (commit_sure c.args.self.now _ _ c.known.ensures.consistent c.requires.key c.count-count.ensures.well_formed c.requires.empty
    c.requires.may)

step : (g : Over) (c : goal.After-known-2 g)
    → SureStep c.args.self.now.locks c.args.host (kinds.Journal c.args.host)
    (journal_bytes c.args.entry.now.key c.args.entry.now.edits) c.args.entry.now.edits None
step g c =
    commit_sure c.args.self.now _ _ c.known.ensures.consistent c.requires.key c.count-count.ensures.well_formed c.requires.empty
    c.requires.may

pub returns-clause-others : goal.returns-clause-others
returns-clause-others g c =
    others_of c.args.self.now c.enter-done.new.self _ c.known.ensures.consistent c.enter-done.ensures.others c.enter-done.ensures.apart

pub returns-clause-wrote : goal.returns-clause-wrote
returns-clause-wrote g c =
    put_wrote c.args.self.now c.enter-done.new.self _ _ c.enter-done.result c.known.ensures.consistent c.requires.host
    c.write_journal.ensures.bytes c.enter-done.ensures.did c.enter-done.ensures.others
    (λ ne. absurd (ne refl)) (step g c)

pub returns-clause-files : goal.returns-clause-files
returns-clause-files g c = put_refused c.args.self.now c.enter-done.new.self _ _ _ c.enter-done.result c.enter-done.ensures.did

pub returns-clause-standing : goal.returns-clause-standing
returns-clause-standing g c =
    subst (λ (r : JournalRecord). OnOk c.enter-done.result (standing_at c.enter-done.new.self c.args.host ≡ Some r)) c.copy.ensures
    c.enter-done.ensures.standing

pub returns-clause-stands : goal.returns-clause-stands
returns-clause-stands g c =
    record_stands c.args.self.now c.enter-done.new.self _ _ _ c.enter-done.result (step g c) c.requires.empty.guard.0 c.requires.key
    (returns-clause-standing g c) (returns-clause-wrote g c)
