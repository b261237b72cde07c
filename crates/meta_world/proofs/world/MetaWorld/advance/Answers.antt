use Rattle.std.proofs.Common.{subst}
use Rattle.vol_base.specs.Bytes.{IsBlock}
use Rattle.disk_locks.specs.Keys.{owner}
use Rattle.lock_store.specs.Views.{host_at}
use Rattle.host_facts.specs.laws.FactLaws.{held_readable}
use Rattle.host_facts.specs.laws.WroteLaws.{wrote_table}
use Rattle.meta_world.proofs.Puts.{may_put, others_kept, put_quiet, put_refused, put_wrote, same_record, then_ok}
use Rattle.meta_world.proofs.TableSures.{advance_sure}
use Rattle.meta_world.proofs.world.MetaWorld.advance.Goals as goal

pub put-done-requires-clause-key : goal.put-done-requires-clause-key
put-done-requires-clause-key g c = c.known.ensures.holder (owner c.args.which) c.requires.held

pub put-done-requires-clause-may : goal.put-done-requires-clause-may
put-done-requires-clause-may g c =
    may_put c.args.self.now.locks _ _ _ _ c.edited-block.ensures.bytes
    (advance_sure c.args.self.now _ _ _ c.known.ensures.consistent c.requires.table c.requires.held c.requires.packing c.requires.known
    c.requires.record_is
    (subst IsBlock c.edited-block.ensures.bytes c.edited-block.ensures.block))

pub returns-clause-others : goal.returns-clause-others
returns-clause-others g c =
    others_kept c.known.ensures.consistent c.put-done.ensures.others c.put-done.ensures.standing

pub returns-clause-wrote : goal.returns-clause-wrote
returns-clause-wrote g c =
    put_wrote c.args.self.now c.put-done.new.self _ _ c.put-done.result c.known.ensures.consistent c.requires.table
    c.edited-block.ensures.bytes c.put-done.ensures.did c.put-done.ensures.others
    (λ ne. same_record c.args.self.now c.put-done.new.self c.put-done.ensures.standing _)
    (advance_sure c.args.self.now _ _ _ c.known.ensures.consistent c.requires.table c.requires.held c.requires.packing c.requires.known
    c.requires.record_is
    (subst IsBlock c.edited-block.ensures.bytes c.edited-block.ensures.block))

pub returns-clause-files : goal.returns-clause-files
returns-clause-files g c =
    put_quiet c.args.self.now c.put-done.new.self _ _ _ c.put-done.result c.known.ensures.consistent
    (put_refused c.args.self.now c.put-done.new.self _ _ _ c.put-done.result c.put-done.ensures.did) (returns-clause-wrote g c)

pub returns-clause-table : goal.returns-clause-table
returns-clause-table g c =
    then_ok c.put-done.result
    (λ wrote. wrote_table c.args.self.now c.put-done.new.self _ _ _ _ _ c.known.ensures.consistent wrote c.requires.table
    (held_readable (host_at c.args.self.now.locks c.args.host) (owner c.args.which) c.requires.held))
    (returns-clause-wrote g c)
