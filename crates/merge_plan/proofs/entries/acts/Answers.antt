use Rattle.std.proofs.Common.{ℕ, subst}
use Rattle.disk_locks.specs.Consistent.{Consistent}
use Rattle.host_facts.specs.Others.{Others}
use Rattle.merge_actions.specs.Steps.{HasActed}
use Rattle.merge_actions.specs.declared.acting.Acted.TheVariants.{Done}
use Rattle.merge_shelves.specs.declared.room.Noted.{Noted}
use Rattle.plan_parts.specs.Cuts.{IsCut}
use Rattle.merge_plan.specs.Plans.{IsSwept}
use Rattle.merge_plan.specs.laws.EntrySteps.{acted_ends, acted_stays, acted_went, behind_act, behind_busy, behind_done, next_within}
use Rattle.merge_plan.proofs.entries.acts.Given.{Over}
use Rattle.merge_plan.proofs.entries.acts.Goals as goal
use Rattle.merge_plan.proofs.entries.acts.Goals.{in-None, in-Some-Busy, in-Some-Done}

pub next-came-requires : goal.next-came-requires
next-came-requires g c = record { stands = c.requires.stands.1.next.2.at }

-- the room in which the entry is handled
swept : (g : Over) (c : goal.After-done-1 g)
    → IsSwept c.next-came.new.world c.args.host c.args.room.now c.args.shelf (λ (noted : Noted). Unit {0})
swept g c =
    acted_stays c.args.world.now c.next-came.new.world c.args.host c.args.shelf c.args.room.now c.args.plan c.next-came.new.self
    (subst Consistent c.locks.ensures c.geometry-geometry.ensures.consistent) (subst Consistent c.locks-2.ensures c.geometry-geometry-2.ensures.consistent)
    c.requires.stands c.in-Ok.ensures.went

-- what was done ended as its action does
ended : (g : Over) (c : goal.After-done-1 g)
    → HasActed c.next-came.new.world c.next-came.new.self.host c.next-came.new.self.action (Done c.in-Some-Done.outcome c.in-Some-Done.slot)
ended g c =
    acted_ends c.args.world.now c.next-came.new.world c.args.plan c.next-came.new.self c.in-Ok.acted c.in-Some-Done.field-0 c.in-Some-Done.outcome
    c.in-Some-Done.slot c.in-Some-Done.is (rw c.in-Some-Done.is at c.in-Some-Done.field-0-is) c.in-Ok.ensures.went

pub finishes-requires-clause-host : goal.finishes-requires-clause-host
finishes-requires-clause-host g c = (swept g c).sorted.of

pub finishes-requires-clause-sweep : goal.finishes-requires-clause-sweep
finishes-requires-clause-sweep g c = (swept g c).sorted.sweep

pub finishes-requires-clause-open : goal.finishes-requires-clause-open
finishes-requires-clause-open g c = (swept g c).opened

pub finishes-requires-clause-filled : goal.finishes-requires-clause-filled
finishes-requires-clause-filled g c = (swept g c).sorted.filled

pub finishes-requires-clause-more : goal.finishes-requires-clause-more
finishes-requires-clause-more g c = next_within c.args.world.now c.args.host c.args.shelf c.args.room.now c.args.plan c.requires.stands

pub finishes-requires-clause-ends : goal.finishes-requires-clause-ends
finishes-requires-clause-ends g c = (ended g c).1

pub finishes-requires-clause-slot : goal.finishes-requires-clause-slot
finishes-requires-clause-slot g c = (ended g c).2

pub returns-after-acted-clause-went : goal.returns-after-acted-clause-went
returns-after-acted-clause-went g c =
    let w = c.next-came.new.world in
    acted_went c.args.world.now w c.args.host c.args.shelf c.args.room.now c.args.plan c.next-came.new.self
    (subst Consistent c.locks.ensures c.geometry-geometry.ensures.consistent) (subst Consistent c.locks-2.ensures c.geometry-geometry-2.ensures.consistent)
    c.requires.stands c.in-Ok.acted c.match-acted.room c.match-acted.result c.in-Ok.ensures.went
    (elim c.match-acted.branch [
      | in-None b ↦
          behind_act w c.args.host c.args.shelf c.args.room.now c.match-acted.room c.next-came.new.self c.in-Ok.acted c.match-acted.result b.in-None.is
          b.room-is b.result-is
      | in-Some-Busy b ↦
          behind_busy w c.args.host c.args.shelf c.args.room.now c.match-acted.room c.next-came.new.self c.in-Ok.acted c.match-acted.result
          b.in-Some-Busy.field-0 b.in-Some-Busy.key b.in-Some-Busy.is (rw b.in-Some-Busy.is at b.in-Some-Busy.field-0-is) b.room-is b.result-is
      | in-Some-Done b ↦
          behind_done w c.args.host c.args.shelf c.args.room.now c.match-acted.room c.next-came.new.self c.in-Ok.acted c.match-acted.result
          b.in-Some-Done.field-0 b.in-Some-Done.outcome b.in-Some-Done.slot b.in-Some-Done.is (rw b.in-Some-Done.is at b.in-Some-Done.field-0-is)
          b.finishes.new.room b.finishes.result b.room-is b.result-is b.finishes.ensures
    ])

pub returns-after-acted-clause-others : goal.returns-after-acted-clause-others
returns-after-acted-clause-others g c =
    subst (λ (x : ℕ). Others x c.args.world.now c.next-came.new.world) c.requires.stands.1.next.2.host c.in-Ok.ensures.others

pub returns-in-Err-clause-cut : goal.returns-in-Err-clause-cut
returns-in-Err-clause-cut g c =
    subst (λ (x : ℕ). IsCut x c.args.world.now c.next-came.new.world c.in-Err.why) c.requires.stands.1.next.2.host c.in-Err.ensures.cut

pub returns-in-Err-clause-others : goal.returns-in-Err-clause-others
returns-in-Err-clause-others g c =
    subst (λ (x : ℕ). Others x c.args.world.now c.next-came.new.world) c.requires.stands.1.next.2.host c.in-Err.ensures.others
