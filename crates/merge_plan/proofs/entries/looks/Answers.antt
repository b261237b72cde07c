use Rattle.std.proofs.Common.{ℕ, subst}
use Rattle.disk_locks.specs.Consistent.{Consistent}
use Rattle.host_facts.specs.Others.{Others}
use Rattle.merge_steps.specs.Sweeps.{IsHeld}
use Rattle.plan_parts.specs.Cuts.{IsCut}
use Rattle.merge_plan.specs.Plans.{IsSwept}
use Rattle.merge_plan.specs.laws.EntrySteps.{behind_block, behind_look, behind_nothing, looked_swept, looked_went}
use Rattle.merge_plan.proofs.entries.looks.Given.{Over}
use Rattle.merge_plan.proofs.entries.looks.Goals as goal
use Rattle.merge_plan.proofs.entries.looks.Goals.{in-None, in-Some-Block, in-Some-Nothing}

pub next-came-requires : goal.next-came-requires
next-came-requires g c = record { stands = c.requires.stands.1.1.next.2.4 }

-- the room in which the entry is decided
swept : (g : Over) (c : goal.After-decides-arg-1 g)
    → IsSwept c.next-came.new.world c.args.host c.args.room.now c.args.shelf (IsHeld c.next-came.new.world c.args.host)
swept g c =
    looked_swept c.args.world.now c.next-came.new.world c.args.host c.args.shelf c.args.room.now c.args.look c.next-came.new.self
    (subst Consistent c.locks.ensures c.geometry-geometry.ensures.consistent) (subst Consistent c.locks-2.ensures c.geometry-geometry-2.ensures.consistent)
    c.requires.stands c.in-Ok.ensures.went

pub decides-requires-clause-host : goal.decides-requires-clause-host
decides-requires-clause-host g c = (swept g c).sorted.of

pub decides-requires-clause-sweep : goal.decides-requires-clause-sweep
decides-requires-clause-sweep g c = (swept g c).sorted.sweep

pub decides-requires-clause-open : goal.decides-requires-clause-open
decides-requires-clause-open g c = (swept g c).opened

pub decides-requires-clause-filled : goal.decides-requires-clause-filled
decides-requires-clause-filled g c = (swept g c).sorted.filled

pub decides-requires-clause-next : goal.decides-requires-clause-next
decides-requires-clause-next g c = (swept g c).next

pub returns-after-seen-clause-went : goal.returns-after-seen-clause-went
returns-after-seen-clause-went g c =
    let w = c.next-came.new.world in
    looked_went c.args.world.now w c.args.host c.args.shelf c.args.room.now c.args.look c.next-came.new.self
    (subst Consistent c.locks.ensures c.geometry-geometry.ensures.consistent) (subst Consistent c.locks-2.ensures c.geometry-geometry-2.ensures.consistent)
    c.requires.stands c.in-Ok.seen c.match-seen.room _ c.in-Ok.ensures.went
    (elim c.match-seen.branch [
      | in-None b ↦
          behind_look w c.args.host c.args.shelf c.args.room.now c.match-seen.room c.next-came.new.self c.in-Ok.seen c.match-seen.result b.in-None.is
          b.room-is b.result-is
      | in-Some-Nothing b ↦
          behind_nothing w c.args.host c.args.shelf c.args.room.now c.match-seen.room c.next-came.new.self c.in-Ok.seen c.match-seen.result
          b.in-Some-Nothing.field-0 b.in-Some-Nothing.is (rw b.in-Some-Nothing.is at b.in-Some-Nothing.field-0-is) b.decides.new.room b.decides.result b.room-is b.result-is
          b.decides.ensures
      | in-Some-Block b ↦
          behind_block w c.args.host c.args.shelf c.args.room.now c.match-seen.room c.next-came.new.self c.in-Ok.seen c.match-seen.result
          b.in-Some-Block.field-0 b.in-Some-Block.block b.in-Some-Block.is (rw b.in-Some-Block.is at b.in-Some-Block.field-0-is) b.room-is b.result-is
    ])

pub returns-after-seen-clause-others : goal.returns-after-seen-clause-others
returns-after-seen-clause-others g c =
    subst (λ (x : ℕ). Others x c.args.world.now c.next-came.new.world) c.requires.stands.1.1.next.2.1 c.in-Ok.ensures.others

pub returns-in-Err-clause-cut : goal.returns-in-Err-clause-cut
returns-in-Err-clause-cut g c =
    subst (λ (x : ℕ). IsCut x c.args.world.now c.next-came.new.world c.in-Err.why) c.requires.stands.1.1.next.2.1 c.in-Err.ensures.cut

pub returns-in-Err-clause-others : goal.returns-in-Err-clause-others
returns-in-Err-clause-others g c =
    subst (λ (x : ℕ). Others x c.args.world.now c.next-came.new.world) c.requires.stands.1.1.next.2.1 c.in-Err.ensures.others
