-- A collection goes on behind a step that did not answer it.
use Rattle.std.proofs.Common.{◌≡◌, ◌∙◌, ap, inl, inr, refl, subst, sym}
use Rattle.vol_base.specs.declared.answer.Answer.{Answer}
use Rattle.vol_base.specs.declared.answer.Answer.TheVariants.{Cut}
use Rattle.vol_base.specs.declared.answer.Next.{Next}
use Rattle.vol_base.specs.declared.answer.Next.TheVariants as nexts
use Rattle.vol_base.specs.declared.answer.Step.{Step}
use Rattle.host_facts.specs.Views.{WorldView}
use Rattle.share_plans.specs.GatheringSteps.{HasStepped, IsCutOff, Went, next_of, stage_of}
use Rattle.share_plans.specs.Gatherings.{At}
use Rattle.share_plans.specs.declared.collection.Collection.{Collection}
use Rattle.share_plans.specs.declared.collection.Gathered.{Gathered}
use Rattle.share_plans.specs.declared.collection.Gathered.TheVariants.{Answered, More}
use Rattle.share_plans.specs.declared.collection.Gathering.{Gathering}

pub record GoesOn (w : WorldView) (old new : Collection) (after : Gathering) : Type 0 where
  pub host : new.host ≡ old.host
  pub stands : At w new after

pub goes_on : (v w : WorldView) (old new : Collection) (stage after : Gathering) (step : Step) → HasStepped v w old new stage after step
    → ((answer : Answer) → step.next ≡ nexts.Answered answer → ⊥) → GoesOn w old new after
goes_on v w old new stage after step (inr cut) unanswered =
    absurd (unanswered (Cut cut.by) (ap (λ (s : Step). s.next) cut.step_is))
goes_on v w old new stage after step (inl (came, went, step_is, after_is)) unanswered =
    cases came went (ap (λ (s : Step). s.next) step_is) after_is
  where
    cases : (came : Gathered) → Went v w old new stage came → step.next ≡ next_of came → after ≡ stage_of came → GoesOn w old new after
    cases (More more) went next is = record { host = went.same.host; stands = subst (At w new) (sym is) went.stands }
    cases (Answered answer) went next is = absurd (unanswered answer next)
