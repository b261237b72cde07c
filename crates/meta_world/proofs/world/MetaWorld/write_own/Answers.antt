use Rattle.std.proofs.Common.{refl}
use Rattle.vol_layout.specs.declared.kind.Resource.TheVariants as resources
use Rattle.host_facts.specs.laws.WroteLaws.{wrote_own}
use Rattle.meta_world.proofs.OwnWrites.{own_placed}
use Rattle.meta_world.proofs.Puts.{may_put, others_kept, put_refused, put_wrote, same_record, then_ok}
use Rattle.meta_world.proofs.Sures.{own_sure}
use Rattle.meta_world.proofs.world.MetaWorld.write_own.Goals as goal

pub put-done-requires-clause-key : goal.put-done-requires-clause-key
put-done-requires-clause-key g c = c.known.ensures.holder (resources.File c.args.file) c.requires.held

pub put-done-requires-clause-may : goal.put-done-requires-clause-may
put-done-requires-clause-may g c =
    may_put c.args.self.now.locks _ _ _ _ refl
    (own_sure c.args.self.now.locks _ _ _ _ _ c.known.ensures.consistent c.requires.pointer c.requires.number c.requires.held
    c.requires.own)

pub returns-clause-others : goal.returns-clause-others
returns-clause-others g c =
    others_kept c.known.ensures.consistent c.put-done.ensures.others c.put-done.ensures.standing

pub returns-clause-wrote : goal.returns-clause-wrote
returns-clause-wrote g c =
    put_wrote c.args.self.now c.put-done.new.self _ _ c.put-done.result c.known.ensures.consistent c.requires.number refl
    c.put-done.ensures.did c.put-done.ensures.others
    (λ ne. same_record c.args.self.now c.put-done.new.self c.put-done.ensures.standing _)
    (own_sure c.args.self.now.locks _ _ _ _ _ c.known.ensures.consistent c.requires.pointer c.requires.number c.requires.held
    c.requires.own)

pub returns-clause-placed : goal.returns-clause-placed
returns-clause-placed g c =
    own_placed c.args.self.now c.put-done.new.self _ _ _ _ _ c.put-done.result c.known.ensures.consistent c.requires.pointer
    c.requires.number c.requires.own (returns-clause-wrote g c)

pub returns-clause-refused : goal.returns-clause-refused
returns-clause-refused g c = put_refused c.args.self.now c.put-done.new.self _ _ _ c.put-done.result c.put-done.ensures.did

pub returns-clause-shows : goal.returns-clause-shows
returns-clause-shows g c =
    then_ok c.put-done.result
    (λ wrote. wrote_own c.args.self.now c.put-done.new.self _ _ _ _ _ c.known.ensures.consistent wrote c.requires.pointer
    c.requires.number c.requires.held c.requires.own)
    (returns-clause-wrote g c)
