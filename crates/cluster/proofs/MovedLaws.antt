-- One step of a seat's plan, by what it answers: the plan is kept where its command goes on.
use Rattle.std.proofs.Common.{◌≡◌, Bool, None, Option, Some, false, true, refl, subst, sym, ◌∙◌, ap}
use Rattle.std.specs.Prelude.{Err, IfOk, Ok, Result, is_none, is_some, ℕ, if◌then◌else◌}
use Rattle.vol_base.specs.declared.answer.Answer.{Answer}
use Rattle.vol_base.specs.declared.answer.Next.TheVariants.{Answered, More, Work}
use Rattle.vol_base.specs.declared.answer.Step.{Step}
use Rattle.vol_base.specs.declared.command.Command.{Command}
use Rattle.vol_base.specs.declared.plain.NoMemory.{NoMemory}
use Rattle.held_cache.specs.Kept.{Cache}
use Rattle.host_facts.specs.Views.{WorldView}
use Rattle.plan_parts.specs.Steps.{ended_of}
use Rattle.cluster.specs.Plans.{HasStepped}
use Rattle.cluster.specs.Seats.{HasMoved, is_answered}
use Rattle.cluster.specs.declared.plan.Plan.{Plan}
use Rattle.cluster.specs.declared.seat.Seat.{Seat}

-- the plan behind a step, by whether it ended its command
abbrev kept_by : Bool → Plan → Option Plan
kept_by true plan = None
kept_by false plan = Some plan

kept_is : (plan : Plan) (ended : Option Answer) → kept_by (is_some ended) plan ≡ (if is_none ended then Some plan else None)
kept_is plan None = refl
kept_is plan (Some answer) = refl

pub moved : (command : Command) (h : ℕ) (v w : WorldView) (d : Cache) (old new : Seat) (before after : Plan)
    (went : Result Step NoMemory) (answered : Bool) → is_answered went ≡ answered → old.plan ≡ Some before
    → new.plan ≡ kept_by answered after → new.left ≡ old.left
    → IfOk went (HasStepped command h v w d old.carried new.carried before after) → IfOk went (HasMoved command h v w d old new)
moved command h v w d old new before after (Ok step) answered is was kept left stepped = record {
  before = before;
  after = after;
  was = was;
  stepped = stepped;
  is = kept ∙ ap (λ (b : Bool). kept_by b after) (sym is) ∙ kept_is after (ended_of step.next);
  left = left;
}
moved command h v w d old new before after (Err no') answered is was kept left stepped = tt
