use Rattle.recover_plan.specs.declared.plan.Doing.TheVariants.{Again, Beat, Begin, Enter, EnterAgain, Fence, First, Free, Look, Over, Register, Retake, Unlock}
use Rattle.recover_plan.specs.laws.NextLaws.{cut_at}
use Rattle.recover_plan.proofs.next.call.Goals as goal

pub returns-in-Register-clause-cut : goal.returns-in-Register-clause-cut
returns-in-Register-clause-cut g c =
    cut_at c.args.world.now c.register.new.world c.args.host c.args.watch.now c.args.doing Register c.register.result
    c.in-Register.is c.register.ensures.cut

pub returns-in-Enter-clause-cut : goal.returns-in-Enter-clause-cut
returns-in-Enter-clause-cut g c =
    cut_at c.args.world.now c.enter.new.world c.args.host c.args.watch.now c.args.doing Enter c.enter.result
    c.in-Enter.is c.enter.ensures.cut

pub returns-in-EnterAgain-clause-cut : goal.returns-in-EnterAgain-clause-cut
returns-in-EnterAgain-clause-cut g c =
    cut_at c.args.world.now c.enter-in-EnterAgain.new.world c.args.host c.args.watch.now c.args.doing EnterAgain c.enter-in-EnterAgain.result
    c.in-EnterAgain.is c.enter-in-EnterAgain.ensures.cut

pub returns-in-Over-clause-cut : goal.returns-in-Over-clause-cut
returns-in-Over-clause-cut g c =
    cut_at c.args.world.now c.over.new.world c.args.host c.args.watch.now c.args.doing (Over c.in-Over.stage) c.over.result
    c.in-Over.is c.over.ensures.cut

pub returns-in-Retake-clause-cut : goal.returns-in-Retake-clause-cut
returns-in-Retake-clause-cut g c =
    cut_at c.args.world.now c.retake.new.world c.args.host c.args.watch.now c.args.doing (Retake c.in-Retake.dead) c.retake.result
    c.in-Retake.is c.retake.ensures.cut

pub returns-in-Unlock-clause-cut : goal.returns-in-Unlock-clause-cut
returns-in-Unlock-clause-cut g c =
    cut_at c.args.world.now c.unlocks.new.world c.args.host c.args.watch.now c.args.doing Unlock c.unlocks.result
    c.in-Unlock.is c.unlocks.ensures.cut

pub returns-in-Fence-clause-cut : goal.returns-in-Fence-clause-cut
returns-in-Fence-clause-cut g c =
    cut_at c.args.world.now c.fence_own.new.world c.args.host c.args.watch.now c.args.doing Fence c.fence_own.result
    c.in-Fence.is c.fence_own.ensures.cut

pub returns-in-Beat-clause-cut : goal.returns-in-Beat-clause-cut
returns-in-Beat-clause-cut g c =
    cut_at c.args.world.now c.beats.new.world c.args.host c.args.watch.now c.args.doing Beat c.beats.result
    c.in-Beat.is c.beats.ensures.cut

pub returns-in-Look-clause-cut : goal.returns-in-Look-clause-cut
returns-in-Look-clause-cut g c =
    cut_at c.args.world.now c.looks.new.world c.args.host c.args.watch.now c.args.doing (Look c.in-Look.of) c.looks.result
    c.in-Look.is c.looks.ensures.cut

pub returns-in-Begin-clause-cut : goal.returns-in-Begin-clause-cut
returns-in-Begin-clause-cut g c =
    cut_at c.args.world.now c.begin.new.world c.args.host c.args.watch.now c.args.doing (Begin c.in-Begin.of) c.begin.result
    c.in-Begin.is c.begin.ensures.cut

pub returns-in-First-clause-cut : goal.returns-in-First-clause-cut
returns-in-First-clause-cut g c =
    cut_at c.args.world.now c.recovers.new.world c.args.host c.args.watch.now c.args.doing (First c.in-First.of c.in-First.stage) c.recovers.result
    c.in-First.is c.recovers.ensures.cut

pub returns-in-Again-clause-cut : goal.returns-in-Again-clause-cut
returns-in-Again-clause-cut g c =
    cut_at c.args.world.now c.recovers-in-Again.new.world c.args.host c.args.watch.now c.args.doing (Again c.in-Again.of c.in-Again.stage) c.recovers-in-Again.result
    c.in-Again.is c.recovers-in-Again.ensures.cut

pub returns-in-Free-clause-cut : goal.returns-in-Free-clause-cut
returns-in-Free-clause-cut g c =
    cut_at c.args.world.now c.free.new.world c.args.host c.args.watch.now c.args.doing (Free c.in-Free.of c.in-Free.dead) c.free.result
    c.in-Free.is c.free.ensures.cut
