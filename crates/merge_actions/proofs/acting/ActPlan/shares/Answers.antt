use Rattle.std.proofs.Common.{ℕ, subst, sym}
use Rattle.host_facts.specs.Others.{Others}
use Rattle.plan_parts.specs.Cuts.{IsCut}
use Rattle.merge_actions.specs.Acts.{sharing_of, with_acting}
use Rattle.merge_actions.specs.Steps.{StepsTo}
use Rattle.merge_actions.specs.laws.ShareLaws.{shared_went, sharing_at}
use Rattle.merge_actions.proofs.acting.ActPlan.shares.Goals as goal

pub next-requires : goal.next-requires
next-requires g c = record { stands = (sharing_at c.args.world.now c.args.self.now.host c.args.self.now.entry c.args.self.now.action c.args.promoted c.args.share c.requires.stands.at).at }

pub returns-in-Ok-clause-went : goal.returns-in-Ok-clause-went
returns-in-Ok-clause-went g c =
    subst (StepsTo c.args.world.now c.next.new.world (with_acting c.args.self.now (sharing_of c.args.promoted c.args.share)))
    (sym c.behind_share.ensures)
    (shared_went c.args.world.now c.next.new.world c.args.self.now c.args.promoted c.args.share c.next.new.self c.requires.stands c.in-Ok.answer
    c.in-Ok.ensures.went)

pub returns-in-Ok-clause-others : goal.returns-in-Ok-clause-others
returns-in-Ok-clause-others g c =
    subst (λ (x : ℕ). Others x c.args.world.now c.next.new.world)
    (sharing_at c.args.world.now c.args.self.now.host c.args.self.now.entry c.args.self.now.action c.args.promoted c.args.share c.requires.stands.at).host c.in-Ok.ensures.others

pub returns-in-Err-clause-cut : goal.returns-in-Err-clause-cut
returns-in-Err-clause-cut g c =
    subst (λ (x : ℕ). IsCut x c.args.world.now c.next.new.world c.in-Err.why)
    (sharing_at c.args.world.now c.args.self.now.host c.args.self.now.entry c.args.self.now.action c.args.promoted c.args.share c.requires.stands.at).host c.in-Err.ensures.cut

pub returns-in-Err-clause-others : goal.returns-in-Err-clause-others
returns-in-Err-clause-others g c =
    subst (λ (x : ℕ). Others x c.args.world.now c.next.new.world)
    (sharing_at c.args.world.now c.args.self.now.host c.args.self.now.entry c.args.self.now.action c.args.promoted c.args.share c.requires.stands.at).host c.in-Err.ensures.others
