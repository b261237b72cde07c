use Rattle.std.proofs.Common.{◌≡◌, ◌≤◌, ◌∙◌, ap, arith, subst, sym}
use Rattle.disk_locks.specs.Consistent.{Consistent}
use Rattle.lock_store.specs.Views.{LocksView}
use Rattle.recover_plan.specs.declared.lone.LonePlan.{LonePlan}
use Rattle.vol_layout.specs.declared.geometry.Geometry.{Geometry}
use Rattle.recover_plan.specs.Lones.{keys_left}
use Rattle.solo.specs.Alone.{IsLater}
use Rattle.solo.specs.Starts.{IsJoined}
use Rattle.solo.specs.laws.LaterLaws.{later_then}
use Rattle.solo.specs.laws.StartLaws.{dropped_none, dropped_open, recovered_first, recovered_on, taking_first}
use Rattle.solo.proofs.starting.recovers.Goals as goal

pub drives-requires-clause-open : goal.drives-requires-clause-open
drives-requires-clause-open g c = dropped_open c.args.world.now c.requires.out

pub loop-of-init : goal.loop-of-init
loop-of-init g c = record {
  least = omega arith;
  recovered = recovered_first c.args.world.now c.drives.new.world 1 (omega arith)
      (dropped_none c.args.world.now (subst Consistent c.locks.ensures c.geometry.ensures.consistent) c.requires.out)
      (subst (λ (p : LonePlan). IsLater (keys_left p.stage) c.args.world.now c.drives.new.world) c.join_at_once.ensures c.in-Ok.ensures.later)
      (subst (λ (p : LonePlan). IsJoined c.args.world.now c.drives.new.world p.of) c.join_at_once.ensures c.in-Ok.ensures.joined);
}

pub loop-of-preserved : goal.loop-of-preserved
loop-of-preserved g c = record {
  least = let least = c.loop-of.invariant.least in omega (arith, least);
  recovered = recovered_on c.args.world.now c.loop-of.world c.drives-in-loop-of.new.world c.loop-of.of
      (λ none. let least = c.loop-of.invariant.least in omega (arith, least, none)) c.loop-of.invariant.recovered
      (subst (λ (p : LonePlan). IsLater (keys_left p.stage) c.loop-of.world c.drives-in-loop-of.new.world) c.recover_at_once.ensures
      c.in-Ok-drives.ensures.later)
      (subst (λ (p : LonePlan). IsJoined c.loop-of.world c.drives-in-loop-of.new.world p.of) c.recover_at_once.ensures
      c.in-Ok-drives.ensures.joined);
}

pub returns-in-Err-drives-clause-later : goal.returns-in-Err-drives-clause-later
returns-in-Err-drives-clause-later g c =
    later_then 1 0 c.args.world.now c.loop-of.world c.drives-in-loop-of.new.world c.loop-of.invariant.recovered.later
    (subst (λ (p : LonePlan). IsLater (keys_left p.stage) c.loop-of.world c.drives-in-loop-of.new.world) c.recover_at_once.ensures
    c.in-Err-drives.ensures.later)

pub returns-clause-recovered : goal.returns-clause-recovered
returns-clause-recovered g c =
    let same : c.geometry.result.now.hosts ≡ c.args.world.now.locks.geometry.hosts =
    ap (λ (x : Geometry). x.hosts) (c.geometry.ensures.geometry ∙ ap (λ (l : LocksView). l.geometry) c.locks.ensures) in
    let past = c.loop-of-test.false in
    taking_first c.args.world.now c.loop-of.world c.loop-of.of (subst Consistent c.locks-2.ensures c.geometry-geometry-2.ensures.consistent)
    (subst (λ (x : Geometry). x.hosts ≤ c.loop-of.of) (sym c.loop-of.invariant.recovered.later.geometry) (omega (arith, past, same)))
    c.loop-of.invariant.recovered
