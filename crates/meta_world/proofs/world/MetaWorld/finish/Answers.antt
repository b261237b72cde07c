use Rattle.std.proofs.Common.{[], None, inl, refl}
use Rattle.host_facts.specs.laws.KeptLaws.{others_of}
use Rattle.host_facts.specs.laws.WroteLaws.{wrote_empty}
use Rattle.meta_world.proofs.Puts.{SureStep, may_put, put_quiet, put_refused, put_wrote, then_ok}
use Rattle.meta_world.proofs.Sures.{clear_sure}
use Rattle.meta_world.proofs.world.MetaWorld.finish.Given.{Over}
use Rattle.meta_world.proofs.world.MetaWorld.finish.Goals as goal
use Rattle.vol_layout.specs.declared.kind.Kind.TheVariants as kinds
use Rattle.vol_layout.specs.Journal.{journal_bytes}

pub enter-done-requires-clause-key : goal.enter-done-requires-clause-key
enter-done-requires-clause-key g c = c.known.ensures.joined c.requires.joined

pub enter-done-requires-clause-may : goal.enter-done-requires-clause-may
enter-done-requires-clause-may g c =
    may_put c.args.self.now.locks _ _ _ _ c.write_journal.ensures.empty
    (clear_sure c.args.self.now.locks _ _ c.known.ensures.consistent c.requires.host (inl (refl, c.requires.joined)) c.requires.applied)

step : (g : Over) (c : goal.After-known-2 g)
    → SureStep c.args.self.now.locks c.args.host (kinds.Journal c.args.host) (journal_bytes 0 []) [] None
step g c =
    clear_sure c.args.self.now.locks _ _ c.known.ensures.consistent c.requires.host (inl (refl, c.requires.joined)) c.requires.applied

pub returns-clause-others : goal.returns-clause-others
returns-clause-others g c =
    others_of c.args.self.now c.enter-done.new.self _ c.known.ensures.consistent c.enter-done.ensures.others c.enter-done.ensures.apart

pub returns-clause-wrote : goal.returns-clause-wrote
returns-clause-wrote g c =
    put_wrote c.args.self.now c.enter-done.new.self _ _ c.enter-done.result c.known.ensures.consistent c.requires.host
    c.write_journal.ensures.empty c.enter-done.ensures.did c.enter-done.ensures.others
    (λ ne. absurd (ne refl)) (step g c)

pub returns-clause-files : goal.returns-clause-files
returns-clause-files g c =
    put_quiet c.args.self.now c.enter-done.new.self _ _ _ c.enter-done.result c.known.ensures.consistent
    (put_refused c.args.self.now c.enter-done.new.self _ _ _ c.enter-done.result c.enter-done.ensures.did) (returns-clause-wrote g c)

pub returns-clause-empty : goal.returns-clause-empty
returns-clause-empty g c =
    then_ok c.enter-done.result (λ wrote. wrote_empty c.args.self.now c.enter-done.new.self _ _ wrote (step g c) c.requires.joined)
    (returns-clause-wrote g c)
