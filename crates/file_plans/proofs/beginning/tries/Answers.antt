use Rattle.std.proofs.Common.{subst, sym, ◌∙◌}
use Rattle.file_plans.specs.laws.BeginLaws.{closes}
use Rattle.disk_locks.specs.Consistent.{Consistent}
use Rattle.file_plans.specs.Stands.{At}
use Rattle.file_plans.specs.declared.stage.Stage.TheVariants as stages
use Rattle.file_plans.specs.laws.BeginLaws.{begins_closed, begins_gives, begins_writes, err_from, gives_noted, ok_from, reads_as, reads_noted, try_is, write_is, writes_noted}
use Rattle.file_plans.proofs.beginning.tries.Goals as goal
use Rattle.file_plans.specs.laws.TurnStepLaws.{oks_sooner}
use Rattle.file_plans.specs.laws.TurnHoldLaws.{begins_gives as begins_gives_left, begins_reads, begins_writes as begins_writes_left}

pub returns-then-is_read-clause-went : goal.returns-then-is_read-clause-went
returns-then-is_read-clause-went g c =
    ok_from c.args.world.now c.reads.new.world c.args.cache.now c.args.core.now c.reads.new.core stages.Begins (stages.Reads c.new-first.result)
    (reads_noted c.args.world.now c.args.cache.now c.args.core.now c.requires.stands c.new-first.result
    (try_is c.args.world.now c.args.core.now.host c.file-file.result _ c.new-first.result c.file-file.ensures c.new-first.ensures))
    c.reads.result c.reads.ensures.went

pub returns-then-is_read-clause-cut : goal.returns-then-is_read-clause-cut
returns-then-is_read-clause-cut g c =
    err_from c.args.world.now c.reads.new.world c.args.core.now stages.Begins (stages.Reads c.new-first.result)
    (reads_noted c.args.world.now c.args.cache.now c.args.core.now c.requires.stands c.new-first.result
    (try_is c.args.world.now c.args.core.now.host c.file-file.result _ c.new-first.result c.file-file.ensures c.new-first.ensures))
    c.reads.result c.reads.ensures.cut

pub writes-requires : goal.writes-requires
writes-requires g c = record {
  stands = subst (λ t. At c.args.world.now c.args.cache.now c.args.core.now (stages.Writes t))
      (sym (write_is c.args.world.now c.args.core.now.host c.file-file.result _ c.new-first-then-wants_write.result c.file-file.ensures
      c.new-first-then-wants_write.ensures))
      (begins_writes c.args.world.now c.args.cache.now c.args.core.now c.requires.stands
      (subst Consistent c.locks.ensures c.geometry-geometry.ensures.consistent) c.requires.out
      (sym c.wants_write.ensures ∙ c.if-wants_write.true));
}

pub returns-then-wants_write-clause-went : goal.returns-then-wants_write-clause-went
returns-then-wants_write-clause-went g c =
    ok_from c.args.world.now c.writes.new.world c.args.cache.now c.args.core.now c.writes.new.core stages.Begins
    (stages.Writes c.new-first-then-wants_write.result)
    (writes_noted c.args.world.now c.args.cache.now c.args.core.now c.requires.stands c.new-first-then-wants_write.result
    (write_is c.args.world.now c.args.core.now.host c.file-file.result _ c.new-first-then-wants_write.result c.file-file.ensures
    c.new-first-then-wants_write.ensures))
    c.writes.result c.writes.ensures.went

pub returns-then-wants_write-clause-cut : goal.returns-then-wants_write-clause-cut
returns-then-wants_write-clause-cut g c =
    err_from c.args.world.now c.writes.new.world c.args.core.now stages.Begins (stages.Writes c.new-first-then-wants_write.result)
    (writes_noted c.args.world.now c.args.cache.now c.args.core.now c.requires.stands c.new-first-then-wants_write.result
    (write_is c.args.world.now c.args.core.now.host c.file-file.result _ c.new-first-then-wants_write.result c.file-file.ensures
    c.new-first-then-wants_write.ensures))
    c.writes.result c.writes.ensures.cut

pub gives_back-requires : goal.gives_back-requires
gives_back-requires g c = record {
  stands = subst (λ t. At c.args.world.now c.args.cache.now c.args.core.now (stages.GivesBack t))
      (sym (try_is c.args.world.now c.args.core.now.host c.file-file.result _ c.new-first-then-reads.result c.file-file.ensures
      c.new-first-then-reads.ensures))
      (begins_gives c.args.world.now c.args.cache.now c.args.core.now c.requires.stands
      (subst Consistent c.locks.ensures c.geometry-geometry.ensures.consistent) c.requires.out
      (sym c.is_read.ensures ∙ c.if-is_read.false) (sym c.wants_write.ensures ∙ c.if-wants_write.false)
      (reads_as c.locks-2.result.now c.args.world.now.locks c.args.core.now.host c.file-file.result _ c.reads-2.result c.locks-2.ensures
      c.file-file.ensures c.reads-2.ensures ∙ c.if-reads.true));
}

pub returns-then-reads-clause-went : goal.returns-then-reads-clause-went
returns-then-reads-clause-went g c =
    ok_from c.args.world.now c.gives_back.new.world c.gives_back.new.cache c.args.core.now c.gives_back.new.core stages.Begins
    (stages.GivesBack c.new-first-then-reads.result)
    (gives_noted c.args.world.now c.args.cache.now c.args.core.now c.requires.stands c.new-first-then-reads.result
    (try_is c.args.world.now c.args.core.now.host c.file-file.result _ c.new-first-then-reads.result c.file-file.ensures
    c.new-first-then-reads.ensures))
    c.gives_back.result c.gives_back.ensures.went

pub returns-then-reads-clause-cut : goal.returns-then-reads-clause-cut
returns-then-reads-clause-cut g c =
    err_from c.args.world.now c.gives_back.new.world c.args.core.now stages.Begins (stages.GivesBack c.new-first-then-reads.result)
    (gives_noted c.args.world.now c.args.cache.now c.args.core.now c.requires.stands c.new-first-then-reads.result
    (try_is c.args.world.now c.args.core.now.host c.file-file.result _ c.new-first-then-reads.result c.file-file.ensures
    c.new-first-then-reads.ensures))
    c.gives_back.result c.gives_back.ensures.cut

pub returns-clause-went : goal.returns-clause-went
returns-clause-went g c =
    begins_closed c.args.world.now c.args.cache.now c.args.core.now c.requires.stands
    (subst Consistent c.locks.ensures c.geometry-geometry.ensures.consistent) c.requires.out
    (sym c.is_read.ensures ∙ c.if-is_read.false) (sym c.wants_write.ensures ∙ c.if-wants_write.false)
    (reads_as c.locks-2.result.now c.args.world.now.locks c.args.core.now.host c.file-file.result _ c.reads-2.result c.locks-2.ensures
    c.file-file.ensures c.reads-2.ensures ∙ c.if-reads.false)

pub returns-then-is_read-clause-sooner : goal.returns-then-is_read-clause-sooner
returns-then-is_read-clause-sooner g c =
    oks_sooner c.args.world.now c.reads.new.world c.args.cache.now c.args.cache.now c.args.cache.now c.args.core.now c.reads.new.core
    stages.Begins (stages.Reads c.new-first.result) c.reads.result
    (begins_reads c.args.world.now c.args.cache.now c.args.core.now c.requires.out c.new-first.result
    (sym c.is_read.ensures ∙ c.if-is_read.true)
    (try_is c.args.world.now c.args.core.now.host c.file-file.result _ c.new-first.result c.file-file.ensures c.new-first.ensures))
    c.reads.ensures.sooner

pub returns-then-wants_write-clause-sooner : goal.returns-then-wants_write-clause-sooner
returns-then-wants_write-clause-sooner g c =
    oks_sooner c.args.world.now c.writes.new.world c.args.cache.now c.args.cache.now c.args.cache.now c.args.core.now c.writes.new.core
    stages.Begins (stages.Writes c.new-first-then-wants_write.result) c.writes.result
    (begins_writes_left c.args.world.now c.args.cache.now c.args.core.now c.requires.out c.new-first-then-wants_write.result
    (sym c.wants_write.ensures ∙ c.if-wants_write.true)
    (write_is c.args.world.now c.args.core.now.host c.file-file.result _ c.new-first-then-wants_write.result c.file-file.ensures
    c.new-first-then-wants_write.ensures))
    c.writes.ensures.sooner

pub returns-then-reads-clause-sooner : goal.returns-then-reads-clause-sooner
returns-then-reads-clause-sooner g c =
    oks_sooner c.args.world.now c.gives_back.new.world c.args.cache.now c.args.cache.now c.gives_back.new.cache c.args.core.now c.gives_back.new.core
    stages.Begins (stages.GivesBack c.new-first-then-reads.result) c.gives_back.result
    (begins_gives_left c.args.world.now c.args.cache.now c.args.core.now c.requires.out c.new-first-then-reads.result
    (closes c.args.core.now.call (sym c.is_read.ensures ∙ c.if-is_read.false) (sym c.wants_write.ensures ∙ c.if-wants_write.false))
    (try_is c.args.world.now c.args.core.now.host c.file-file.result _ c.new-first-then-reads.result c.file-file.ensures
    c.new-first-then-reads.ensures))
    c.gives_back.ensures.sooner
