use Rattle.std.proofs.Common.{◌≡◌, refl}
use Rattle.vol_layout.specs.declared.field.Field.TheVariants.{Count}
use Rattle.vol_layout.specs.Fields.{resource_of}
use Rattle.image_view.specs.Numbers.{logical}
use Rattle.host_facts.specs.laws.FileStays.{fresh_files}
use Rattle.host_facts.specs.laws.WroteLaws.{wrote_fresh}
use Rattle.meta_world.proofs.Puts.{may_put, others_kept, put_files, put_refused, put_wrote, same_record, then_ok}
use Rattle.meta_world.proofs.Sures.{fresh_sure}
use Rattle.meta_world.proofs.world.MetaWorld.write_fresh.Goals as goal

pub put-done-requires-clause-key : goal.put-done-requires-clause-key
put-done-requires-clause-key g c = c.known.ensures.holder (resource_of (Count c.args.number)) c.requires.held

pub put-done-requires-clause-may : goal.put-done-requires-clause-may
put-done-requires-clause-may g c =
    may_put c.args.self.now.locks _ _ _ _ refl
    (fresh_sure c.args.self.now.locks _ _ _ c.known.ensures.consistent c.requires.number c.requires.held c.requires.free)

pub returns-clause-others : goal.returns-clause-others
returns-clause-others g c =
    others_kept c.known.ensures.consistent c.put-done.ensures.others c.put-done.ensures.standing

pub returns-clause-wrote : goal.returns-clause-wrote
returns-clause-wrote g c =
    put_wrote c.args.self.now c.put-done.new.self _ _ c.put-done.result c.known.ensures.consistent c.requires.number refl
    c.put-done.ensures.did c.put-done.ensures.others
    (λ ne. same_record c.args.self.now c.put-done.new.self c.put-done.ensures.standing _)
    (fresh_sure c.args.self.now.locks _ _ _ c.known.ensures.consistent c.requires.number c.requires.held c.requires.free)

pub returns-clause-files : goal.returns-clause-files
returns-clause-files g c =
    put_files c.args.self.now c.put-done.new.self c.put-done.result c.known.ensures.consistent
    (put_refused c.args.self.now c.put-done.new.self _ _ _ c.put-done.result c.put-done.ensures.did) (returns-clause-wrote g c)
    (λ image. logical c.args.self.now.locks.geometry image (Count c.args.number) ≡ 0) c.requires.free
    (λ old new finds free writing. fresh_files _ _ old new _ _ finds.agrees.valid c.requires.number free writing.changes)

pub returns-clause-fresh : goal.returns-clause-fresh
returns-clause-fresh g c =
    then_ok c.put-done.result
    (λ wrote. wrote_fresh c.args.self.now c.put-done.new.self _ _ _ wrote c.requires.number c.requires.held c.requires.free)
    (returns-clause-wrote g c)
