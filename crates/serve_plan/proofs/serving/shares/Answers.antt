use Rattle.std.proofs.Common.{ℕ, subst}
use Rattle.disk_locks.specs.Consistent.{Consistent}
use Rattle.host_facts.specs.Others.{Others}
use Rattle.plan_parts.specs.Cuts.{IsCut}
use Rattle.serve_plan.specs.laws.ShareLaws.{shared_went}
use Rattle.serve_plan.specs.laws.StillLaws.{few_counts, plan_key}
use Rattle.serve_plan.specs.declared.plan.Doing.TheVariants.{Shares}
use Rattle.serve_plan.proofs.serving.shares.Goals as goal

pub next-came-requires : goal.next-came-requires
next-came-requires g c = record { stands = c.requires.stands.at.1.at }

pub behind_share-requires-clause-few : goal.behind_share-requires-clause-few
behind_share-requires-clause-few g c =
    (few_counts c.args.world.now c.args.host c.args.counts.now c.args.serving c.args.share
    (subst Consistent c.locks.ensures c.geometry-geometry.ensures.consistent) c.requires.stands).0

pub behind_share-requires-clause-room : goal.behind_share-requires-clause-room
behind_share-requires-clause-room g c =
    (few_counts c.args.world.now c.args.host c.args.counts.now c.args.serving c.args.share
    (subst Consistent c.locks.ensures c.geometry-geometry.ensures.consistent) c.requires.stands).1

pub returns-in-Ok-clause-went : goal.returns-in-Ok-clause-went
returns-in-Ok-clause-went g c =
    let v = c.args.world.now in
    let c0 = subst Consistent c.locks.ensures c.geometry-geometry.ensures.consistent in
    shared_went v c.next-came.new.world c.args.host c.args.counts.now c.behind_share.new.counts c.args.serving c.args.share c.next-came.new.self
    (subst Consistent c.locks-2.ensures c.geometry-geometry-2.ensures.consistent)
    (plan_key v c.args.host c.args.counts.now (Shares c.args.serving c.args.share) c0 c.requires.stands.at) c.requires.stands c.in-Ok.answer
    c.behind_share.result c.in-Ok.ensures.went c.behind_share.ensures

pub returns-in-Ok-clause-others : goal.returns-in-Ok-clause-others
returns-in-Ok-clause-others g c =
    subst (λ (x : ℕ). Others x c.args.world.now c.next-came.new.world) c.requires.stands.at.1.host c.in-Ok.ensures.others

pub returns-in-Err-clause-cut : goal.returns-in-Err-clause-cut
returns-in-Err-clause-cut g c =
    subst (λ (x : ℕ). IsCut x c.args.world.now c.next-came.new.world c.in-Err.why) c.requires.stands.at.1.host c.in-Err.ensures.cut

pub returns-in-Err-clause-others : goal.returns-in-Err-clause-others
returns-in-Err-clause-others g c =
    subst (λ (x : ℕ). Others x c.args.world.now c.next-came.new.world) c.requires.stands.at.1.host c.in-Err.ensures.others
