use Rattle.std.proofs.Common.{◌∙◌, subst, sym}
use Rattle.vol_layout.specs.declared.field.Field.TheVariants.{Count, Pointer}
use Rattle.vol_layout.specs.declared.geometry.Geometry.{Geometry}
use Rattle.vol_layout.specs.declared.kind.Table.{Table}
use Rattle.vol_layout.specs.Fields.{table_of}
use Rattle.table_blocks.specs.Tables.{IsPackingOf, number_in}
use Rattle.call_effects.specs.Drops.{dropped}
use Rattle.disk_locks.specs.Consistent.{Consistent}
use Rattle.host_facts.specs.Facts.Fact.{TableIs}
use Rattle.host_facts.specs.Knows.{Knows}
use Rattle.host_facts.specs.laws.KeptLaws.{others_then}
use Rattle.world_callers.proofs.TablesKept.{both_finished, counts_written, drop_applied, own_record, pointers_written}
use Rattle.world_callers.proofs.punching.settle.Goals as goal

pub advance-requires-clause-known : goal.advance-requires-clause-known
advance-requires-clause-known g c =
    subst (λ (t : Table). Knows c.args.world.now c.args.host (TableIs t c.args.pointers.now)) (sym c.table_of-pointer_table.ensures.table)
    c.requires.stands.both.pointers_known

pub advance-requires-clause-record_is : goal.advance-requires-clause-record_is
advance-requires-clause-record_is g c =
    own_record c.args.world.now c.args.host c.args.file c.args.index c.args.block _ c.args.pointers.now c.args.counts.now c.requires.stands

pub advance-requires-2-clause-known : goal.advance-requires-2-clause-known
advance-requires-2-clause-known g c =
    let es = dropped c.args.file c.args.index c.args.block (number_in c.args.counts.now (Count c.args.block)) in
    let second = pointers_written c.args.world.now c.advance.new.self c.args.host c.args.file c.args.index c.args.block
    c.table_of-pointer_table.result _ es c.args.pointers.now c.args.counts.now c.requires.stands c.table_of-pointer_table.ensures.table
    c.in_ok-advance.ensures.wrote c.in_ok-advance.ensures.standing c.in_ok-advance.ensures.table in
    subst (λ (t : Table). Knows c.advance.new.self c.args.host (TableIs t c.args.counts.now)) (sym c.table_of-count_table.ensures.table)
    second.both.counts_known

pub advance-requires-2-clause-record_is : goal.advance-requires-2-clause-record_is
advance-requires-2-clause-record_is g c =
    let es = dropped c.args.file c.args.index c.args.block (number_in c.args.counts.now (Count c.args.block)) in
    let second = pointers_written c.args.world.now c.advance.new.self c.args.host c.args.file c.args.index c.args.block
    c.table_of-pointer_table.result _ es c.args.pointers.now c.args.counts.now c.requires.stands c.table_of-pointer_table.ensures.table
    c.in_ok-advance.ensures.wrote c.in_ok-advance.ensures.standing c.in_ok-advance.ensures.table in
    own_record c.advance.new.self c.args.host c.args.file c.args.index c.args.block es _ c.args.counts.now second

pub returns-in_err-advance-2-clause-others : goal.returns-in_err-advance-2-clause-others
returns-in_err-advance-2-clause-others g c =
    others_then c.args.world.now _ _ c.args.host (subst Consistent c.locks.ensures c.geometry-geometry.ensures.consistent)
    c.in_ok-advance.ensures.others c.in_err-advance-2.ensures.others

pub finish-requires-clause-applied : goal.finish-requires-clause-applied
finish-requires-clause-applied g c =
    let es = dropped c.args.file c.args.index c.args.block (number_in c.args.counts.now (Count c.args.block)) in
    let second = pointers_written c.args.world.now c.advance.new.self c.args.host c.args.file c.args.index c.args.block
    c.table_of-pointer_table.result _ es c.args.pointers.now c.args.counts.now c.requires.stands c.table_of-pointer_table.ensures.table
    c.in_ok-advance.ensures.wrote c.in_ok-advance.ensures.standing c.in_ok-advance.ensures.table in
    let third = counts_written c.advance.new.self c.advance-2.new.self c.args.host c.args.file c.args.index c.args.block
    c.table_of-count_table.result _ es _ c.args.counts.now second c.table_of-count_table.ensures.table
    c.in_ok-advance-2.ensures.wrote c.in_ok-advance-2.ensures.standing c.in_ok-advance-2.ensures.table in
    let same = c.in_ok-advance-2.ensures.wrote.geometry ∙ c.in_ok-advance.ensures.wrote.geometry in
    drop_applied c.advance-2.new.self c.args.host c.args.file c.args.index c.args.block _ c.args.pointers.now c.args.counts.now
    (subst (λ (h : Geometry). IsPackingOf h (table_of (Pointer c.args.file c.args.index)) c.args.pointers.now) (sym same)
    c.requires.stands.both.pointers_fit)
    (subst (λ (h : Geometry). IsPackingOf h (table_of (Count c.args.block)) c.args.counts.now) (sym same)
    c.requires.stands.both.counts_fit) third

pub returns-clause-others : goal.returns-clause-others
returns-clause-others g c =
    let is = subst Consistent c.locks.ensures c.geometry-geometry.ensures.consistent in
    others_then c.args.world.now _ _ c.args.host is
    (others_then c.args.world.now _ _ c.args.host is c.in_ok-advance.ensures.others c.in_ok-advance-2.ensures.others)
    c.finish.ensures.others

pub returns-clause-tables : goal.returns-clause-tables
returns-clause-tables g c =
    let es = dropped c.args.file c.args.index c.args.block (number_in c.args.counts.now (Count c.args.block)) in
    let second = pointers_written c.args.world.now c.advance.new.self c.args.host c.args.file c.args.index c.args.block
    c.table_of-pointer_table.result _ es c.args.pointers.now c.args.counts.now c.requires.stands c.table_of-pointer_table.ensures.table
    c.in_ok-advance.ensures.wrote c.in_ok-advance.ensures.standing c.in_ok-advance.ensures.table in
    let third = counts_written c.advance.new.self c.advance-2.new.self c.args.host c.args.file c.args.index c.args.block
    c.table_of-count_table.result _ es _ c.args.counts.now second c.table_of-count_table.ensures.table
    c.in_ok-advance-2.ensures.wrote c.in_ok-advance-2.ensures.standing c.in_ok-advance-2.ensures.table in
    both_finished c.advance-2.new.self c.finish.new.self c.args.host c.args.file c.args.index c.args.block _ es _ _ c.finish.result third
    c.finish.ensures.wrote
