use Rattle.std.proofs.Common.{◌≤◌, ap, refl, subst}
use Rattle.std.specs.Prelude.{IfErr, OnOk}
use Rattle.disk_locks.specs.Consistent.{Consistent}
use Rattle.shared_disk.specs.Seen.{DiskSeen, seen_by}
use Rattle.solo.specs.Stops.{HasCause}
use Rattle.solo.specs.Views.{SoloView}
use Rattle.solo.specs.laws.CloseLaws.{closed_files, closed_free, closed_goes, closed_later, closed_since, closed_still, closed_valid, on_left}
use Rattle.solo.specs.laws.LaterLaws.{later_first}
use Rattle.solo.proofs.solo.Solo.close.Goals as goal

pub returns-in-Some-clause-files : goal.returns-in-Some-clause-files
returns-in-Some-clause-files g c =
    closed_still c.args.self c.self.inside.world (seen_by g.D.Device c.close.result) (ap (λ (s : SoloView). s.world) c.self.view_is)
    c.close.ensures

pub returns-in-Some-clause-valid : goal.returns-in-Some-clause-valid
returns-in-Some-clause-valid g c =
    closed_valid c.args.self c.self.inside.world c.self.inside.world (seen_by g.D.Device c.close.result)
    (ap (λ (s : SoloView). s.world) c.self.view_is) c.close.ensures refl
    (subst Consistent c.locks.ensures c.geometry-geometry.ensures.consistent)

pub returns-clause-files : goal.returns-clause-files
returns-clause-files g c =
    closed_files c.args.self c.self.inside.world c.leaves-left.new.world (seen_by g.D.Device c.close-2.result)
    (ap (λ (s : SoloView). s.world) c.self.view_is) c.close-2.ensures c.leaves-left.ensures.later.files

pub returns-clause-valid : goal.returns-clause-valid
returns-clause-valid g c =
    closed_valid c.args.self c.self.inside.world c.leaves-left.new.world (seen_by g.D.Device c.close-2.result)
    (ap (λ (s : SoloView). s.world) c.self.view_is) c.close-2.ensures c.leaves-left.ensures.later.geometry
    (subst Consistent c.locks-2.ensures c.geometry-geometry-2.ensures.consistent)

pub returns-clause-free : goal.returns-clause-free
returns-clause-free g c =
    closed_free c.args.self c.self.inside.world c.leaves-left.new.world (seen_by g.D.Device c.close-2.result)
    (ap (λ (s : SoloView). s.world) c.self.view_is) c.close-2.ensures c.leaves-left.result c.leaves-left.ensures.later.geometry
    c.leaves-left.ensures.free

pub returns-clause-cause : goal.returns-clause-cause
returns-clause-cause g c =
    subst (λ (began : DiskSeen). IfErr c.leaves-left.result (HasCause began (seen_by g.D.Device c.close-2.result)))
    (ap (λ (s : SoloView). s.began) c.self.view_is)
    (closed_since c.self.inside.start.value.locks.disk c.self.inside.world c.leaves-left.new.world (seen_by g.D.Device c.close-2.result)
    c.leaves-left.result c.self.invariant.later c.close-2.ensures c.leaves-left.ensures.cause)

pub returns-clause-later : goal.returns-clause-later
returns-clause-later g c =
    subst (λ (began : DiskSeen). OnOk c.leaves-left.result (began.faults ≤ (seen_by g.D.Device c.close-2.result).faults))
    (ap (λ (s : SoloView). s.began) c.self.view_is)
    (on_left c.leaves-left.result
    (closed_later c.self.inside.start.value.locks.disk c.self.inside.world c.leaves-left.new.world (seen_by g.D.Device c.close-2.result)
    c.self.invariant.later c.close-2.ensures c.leaves-left.ensures.later.faults))

pub returns-in-Some-clause-on : goal.returns-in-Some-clause-on
returns-in-Some-clause-on g c =
    closed_goes c.args.self c.self.inside.world c.self.inside.world (seen_by g.D.Device c.close.result)
    (ap (λ (s : SoloView). s.world) c.self.view_is) c.close.ensures (later_first 0 c.self.inside.world)

pub returns-clause-on : goal.returns-clause-on
returns-clause-on g c =
    closed_goes c.args.self c.self.inside.world c.leaves-left.new.world (seen_by g.D.Device c.close-2.result)
    (ap (λ (s : SoloView). s.world) c.self.view_is) c.close-2.ensures c.leaves-left.ensures.later
