use Rattle.std.proofs.Common.{◌≡◌, false, ap, subst, sym, ◌∙◌}
use Rattle.vol_layout.specs.declared.field.Edit.{Edit}
use Rattle.vol_layout.specs.Edits.{touches}
use Rattle.disk_locks.specs.Consistent.{Consistent}
use Rattle.held_cache.specs.Kept.{kept_at}
use Rattle.file_plans.specs.laws.CommitLaws.{drop_committed, may_drop}
use Rattle.file_plans.specs.laws.PutLaws.{first_other, ok_of, second_added}
use Rattle.file_plans.proofs.commits.commit_drop.Goals as goal

pub add-requires-clause-other : goal.add-requires-clause-other
add-requires-clause-other g c =
    subst (λ (e : Edit). touches c.first-entry.result.edits e.field ≡ false) (sym c.lowered.ensures)
    (first_other _ c.args.file c.args.index 0 c.first-entry.result c.first-entry.ensures c.args.number)

pub put-requires-clause-may : goal.put-requires-clause-may
put-requires-clause-may g c =
    may_drop c.args.world.now c.args.cache.now c.args.host (subst Consistent c.locks.ensures c.geometry.ensures.consistent)
    c.requires.cached c.requires.empty c.args.file c.args.index c.args.number c.args.group c.requires.file c.requires.held c.requires.sight
    c.requires.group c.requires.which c.add.new.entry c.kept.result c.new-left.result
    (second_added _ _ _ c.lowered.result c.first-entry.result c.add.new.entry c.first-entry.ensures c.lowered.ensures c.add.ensures)
    (c.kept.ensures.which ∙ c.table_of-which.ensures.table)
    (ap (kept_at c.args.cache.now c.args.host) (sym c.table_of-which.ensures.table) ∙ c.kept.ensures.table) c.new-left.ensures

pub returns-clause-went : goal.returns-clause-went
returns-clause-went g c =
    ok_of c.put.result _ _ c.put.ensures.went (λ a put.
    drop_committed c.args.world.now c.args.cache.now c.args.host (subst Consistent c.locks.ensures c.geometry.ensures.consistent)
    c.requires.cached c.requires.empty c.args.file c.args.index c.args.number c.args.group c.requires.file c.requires.held c.requires.sight
    c.requires.group c.requires.which c.put.new.world c.add.new.entry c.new-left.result a
    (second_added _ _ _ c.lowered.result c.first-entry.result c.add.new.entry c.first-entry.ensures c.lowered.ensures c.add.ensures) put)
