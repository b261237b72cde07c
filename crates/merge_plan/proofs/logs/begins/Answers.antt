use Rattle.std.proofs.Common.{◌≡◌, ◌∙◌, ap, subst, sym}
use Rattle.vol_layout.specs.declared.geometry.Geometry.{Geometry}
use Rattle.vol_layout.specs.Ranges.{IsGeometry}
use Rattle.disk_locks.specs.Consistent.{Consistent}
use Rattle.lock_store.specs.Views.{LocksView}
use Rattle.merge_plan.specs.Rooms.{IsCleared}
use Rattle.merge_plan.specs.laws.BeginSteps.{begun_by, begun_stands}
use Rattle.merge_plan.proofs.logs.begins.Goals as goal

pub clear-requires : goal.clear-requires
clear-requires g c = subst IsGeometry (sym c.geometry.ensures.geometry) c.geometry.ensures.consistent.geometry

pub reads-requires : goal.reads-requires
reads-requires g c =
    let v = c.args.world.now in
    let same : c.geometry.result.now ≡ v.locks.geometry = c.geometry.ensures.geometry ∙ ap (λ (l : LocksView). l.geometry) c.locks.ensures in
    record {
      stands = begun_stands v c.args.host (subst Consistent c.locks.ensures c.geometry.ensures.consistent) c.requires.stands.1 c.clear.new.self
          (subst (λ (x : Geometry). IsCleared x c.clear.new.self) same c.clear.ensures);
    }

pub returns-clause-went : goal.returns-clause-went
returns-clause-went g c =
    let v = c.args.world.now in
    let same : c.geometry.result.now ≡ v.locks.geometry = c.geometry.ensures.geometry ∙ ap (λ (l : LocksView). l.geometry) c.locks.ensures in
    begun_by v c.args.host (subst Consistent c.locks.ensures c.geometry.ensures.consistent) c.requires.stands.1 c.clear.new.self
    (subst (λ (x : Geometry). IsCleared x c.clear.new.self) same c.clear.ensures) c.reads.new.world c.args.room.now c.reads.new.room c.reads.result
    c.reads.ensures.went

pub returns-clause-cut : goal.returns-clause-cut
returns-clause-cut g c = c.reads.ensures.cut

pub returns-clause-others : goal.returns-clause-others
returns-clause-others g c = c.reads.ensures.others
