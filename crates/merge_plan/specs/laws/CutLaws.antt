-- A step that was made, and one that was refused: it cuts the merge, and then no hint is pending; or there was no memory for it, and nothing was done.
use Rattle.std.proofs.Common.{◌≡◌, ℕ, List, [], Some, inl, inr, subst, sym}
use Rattle.vol_base.specs.declared.answer.Answer.TheVariants.{Cut}
use Rattle.vol_base.specs.declared.answer.CutBy.{CutBy}
use Rattle.vol_base.specs.declared.answer.Step.{Step}
use Rattle.vol_base.specs.declared.command.Command.TheVariants.{Merge}
use Rattle.hint_blocks.specs.declared.entry.LogEntry.{LogEntry}
use Rattle.hint_plans.specs.Plans.{RestsWith}
use Rattle.hint_plans.specs.laws.EndLaws.{cut_pending, ended_rests}
use Rattle.lock_store.specs.declared.answers.StepNo.{StepNo}
use Rattle.lock_store.specs.declared.answers.StepNo.TheVariants as steps
use Rattle.disk_locks.specs.Consistent.{Consistent}
use Rattle.host_facts.specs.Views.{WorldView}
use Rattle.plan_parts.specs.Cuts.{IsCut, IsUntouched, cut_by}
use Rattle.plan_parts.specs.Steps.{OwesStep}
use Rattle.plan_parts.specs.laws.CutCallLaws.{cut_untouched, cut_weaker}
use Rattle.plan_parts.specs.laws.QuietCallLaws.{valid_now}
use Rattle.plan_parts.specs.laws.VolumeSteps.{volume_step_cut}
use Rattle.merge_plan.specs.Plans.{Agrees, IsUnasked, PlanStands, outcome_at}
use Rattle.merge_plan.specs.Steps.{HasStepped, Went, later_of, step_of}
use Rattle.merge_plan.specs.declared.plan.Come.{Come}
use Rattle.merge_plan.specs.declared.plan.Come.TheVariants.{Answered}
use Rattle.merge_plan.specs.declared.plan.Doing.{Doing}
use Rattle.merge_plan.specs.declared.room.MergeRoom.{MergeRoom}
use Rattle.merge_plan.specs.laws.StillLaws.{open_noted, plan_key}

pub merge_went : (v w : WorldView) (h : ℕ) (old new : MergeRoom) (doing later : Doing) (come : Come) (step : Step) → Went h v w old new doing come
    → step ≡ step_of come → later ≡ later_of come → HasStepped h v w old new doing later step
merge_went v w h old new doing later come step went step_is later_is = inl (come, went, step_is, later_is)

pub merge_cut : (v w : WorldView) (h : ℕ) (old new : MergeRoom) (doing later : Doing) (why : StepNo) (by : CutBy) (step : Step)
    → Consistent v.locks → PlanStands v h old doing → IsUnasked doing → IsCut h v w why → cut_by why ≡ Some by → step ≡ step_of (Answered (Cut by))
    → HasStepped h v w old new doing later step
merge_cut v w h old new doing later why by step c stands unasked cut by_is step_is =
    inr (record {
      by = by;
      step_is = step_is;
      state = (cut Merge).1.state;
      owes = λ pending.
          subst (λ (s : Step). OwesStep Merge h v w s (Agrees h v pending old doing) (RestsWith h w [])) (sym step_is) (owes pending);
    })
  where
    owes : (pending : List LogEntry) → OwesStep Merge h v w (step_of (Answered (Cut by))) (Agrees h v pending old doing) (RestsWith h w [])
    owes pending =
        ended_rests Merge h v w (Cut by) (Agrees h v pending old doing) [] (λ n m rest before same merge kept. cut_pending Merge by m rest kept)
        (volume_step_cut Merge h v w why by (outcome_at doing) (Agrees h v pending old doing) by_is tt (plan_key v h old doing c stands)
        (valid_now v c) (λ n agrees. tt) (λ n agrees. open_noted h v pending old doing n unasked agrees)
        (cut_weaker Merge v w h why (Agrees h v pending old doing) (cut Merge)))

pub merge_untouched : (v w : WorldView) (h : ℕ) (why : StepNo) → IsCut h v w why → why ≡ steps.NoMemory → IsUntouched h v w
merge_untouched v w h why cut is = cut_untouched Merge h v w (λ n. Unit {0}) (subst (IsCut h v w) is cut Merge)
