use Rattle.std.proofs.Common.{Err, ap, subst, sym}
use Rattle.disk_locks.specs.Consistent.{Consistent}
use Rattle.share_plans.specs.declared.stage.Stage.TheVariants as stages
use Rattle.share_plans.specs.Went.{Went}
use Rattle.share_plans.specs.Stands.{HasSource}
use Rattle.plan_parts.specs.laws.FetchLaws.{fetch_cut}
use Rattle.vol_layout.specs.declared.field.Field.TheVariants.{Slot}
use Rattle.vol_layout.specs.Fields.{table_of}
use Rattle.share_plans.specs.laws.PeekStageLaws.{Peeked, first_peeked}
use Rattle.share_plans.proofs.peeking.peeks.Goals as goal

pub returns-in-Ok-clause-went : goal.returns-in-Ok-clause-went
returns-in-Ok-clause-went g c =
    let got : Peeked c.args.world.now c.peek_slot-came.new.self c.args.core.now c.slot_of.result c.in-Ok.number = record {
      did = c.in-Ok.ensures.did;
      others = c.in-Ok.ensures.others;
      looks = c.in-Ok.ensures.looked;
      range = c.in-Ok.ensures.range;
      shown = c.in-Ok.ensures.number;
      known = c.in-Ok.ensures.known;
    } in
    subst (Went c.args.world.now c.peek_slot-came.new.self c.args.core.now c.args.core.now (stages.Peeks c.args.own)) (sym c.behind_peek.ensures)
    (first_peeked c.args.world.now c.peek_slot-came.new.self (subst Consistent c.locks.ensures c.geometry-geometry.ensures.consistent)
    (subst Consistent c.locks-2.ensures c.geometry-geometry-2.ensures.consistent) c.args.core.now c.slot_of.result c.in-Ok.number c.slot_of.ensures
    (subst (HasSource c.args.world.now c.args.core.now.host) c.slot_of.ensures c.requires.stands.0.places.from) got c.args.own c.requires.stands)

pub returns-in-Err-clause-cut : goal.returns-in-Err-clause-cut
returns-in-Err-clause-cut g c =
    fetch_cut c.args.world.now c.peek_slot-came.new.self c.args.core.now.host (table_of (Slot c.slot_of.result)) c.in-Err.why c.in-Err.ensures.others
    c.in-Err.ensures.did (λ at is. c.in-Err.ensures.sound at (ap Err is))
