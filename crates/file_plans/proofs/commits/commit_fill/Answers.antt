use Rattle.std.proofs.Common.{arith, ap, subst, sym, ◌∙◌}
use Rattle.disk_locks.specs.Consistent.{Consistent}
use Rattle.held_cache.specs.Kept.{kept_at}
use Rattle.file_plans.specs.laws.FillLaws.{fill_committed, may_fill, old_long, short_block}
use Rattle.file_plans.specs.laws.PutLaws.{first_other, more_added, ok_of}
use Rattle.file_plans.proofs.commits.commit_fill.Goals as goal

pub overflow_add-pointer : goal.overflow_add-pointer
overflow_add-pointer g c =
    let short =
    short_block c.args.world.now.locks.geometry c.args.number c.args.group
    (subst Consistent c.locks.ensures c.geometry.ensures.consistent).geometry c.requires.group.table c.requires.which in
    omega (arith, short)

pub add_moved-requires-clause-other : goal.add_moved-requires-clause-other
add_moved-requires-clause-other g c = first_other _ c.args.file c.args.index _ c.first-entry.result c.first-entry.ensures

pub add_moved-requires-clause-longs : goal.add_moved-requires-clause-longs
add_moved-requires-clause-longs g c = old_long c.args.world.now c.args.host c.args.group c.args.old c.requires.left

pub put-requires-clause-may : goal.put-requires-clause-may
put-requires-clause-may g c =
    may_fill c.args.world.now c.args.cache.now c.args.host (subst Consistent c.locks.ensures c.geometry.ensures.consistent)
    c.requires.cached c.requires.empty c.args.file c.args.index c.args.number c.args.group c.requires.file c.requires.held c.requires.group
    c.requires.which c.requires.free c.args.old c.requires.left c.requires.block c.add_moved.new.entry c.kept.result c.tables-left.result
    (more_added _ _ _ c.first-entry.result c.add_moved.new.entry c.first-entry.ensures c.add_moved.ensures)
    (c.kept.ensures.which ∙ c.table_of-which.ensures.table)
    (ap (kept_at c.args.cache.now c.args.host) (sym c.table_of-which.ensures.table) ∙ c.kept.ensures.table)
    c.tables-left.ensures

pub returns-clause-went : goal.returns-clause-went
returns-clause-went g c block fresh =
    ok_of c.put.result _ _ c.put.ensures.went (λ a put.
    fill_committed c.args.world.now c.args.cache.now c.args.host (subst Consistent c.locks.ensures c.geometry.ensures.consistent)
    c.requires.cached c.requires.empty c.args.file c.args.index c.args.number c.args.group c.requires.file c.requires.held c.requires.group
    c.requires.which c.requires.free c.args.old c.requires.left c.requires.block c.put.new.world c.add_moved.new.entry c.tables-left.result
    a block fresh (more_added _ _ _ c.first-entry.result c.add_moved.new.entry c.first-entry.ensures c.add_moved.ensures) put)
