-- A step of a serve is a step of a plan.
use Rattle.std.proofs.Common.{◌≡◌, ◌<◌, ℕ, None, inl, inr, refl, ap, sym, subst, ◌∙◌}
use Rattle.vol_base.specs.declared.answer.Answer.TheVariants as answers
use Rattle.vol_base.specs.declared.answer.Next.{Next}
use Rattle.vol_base.specs.declared.answer.Next.TheVariants as nexts
use Rattle.vol_base.specs.declared.answer.ServeCounts.{ServeCounts}
use Rattle.vol_base.specs.declared.answer.Step.{Step}
use Rattle.vol_base.specs.declared.command.Command.TheVariants as commands
use Rattle.held_cache.specs.Kept.{Cache, ForgetsHost}
use Rattle.host_facts.specs.Others.{Others}
use Rattle.host_facts.specs.Views.{WorldView}
use Rattle.host_notes.specs.Remembered.{IsRemembered}
use Rattle.host_runs.specs.Awaited.{wanted}
use Rattle.host_runs.specs.Notes.{Notes}
use Rattle.lock_store.specs.Views.{host_at}
use Rattle.plan_parts.specs.Steps.{IsAtRest, OwesStep}
use Rattle.serve_plan.specs.Plans.{Agrees, PlanStands, left}
use Rattle.serve_plan.specs.Steps.{Behind, later_of, step_of}
use Rattle.serve_plan.specs.Steps as serves
use Rattle.serve_plan.specs.declared.plan.Come.{Come}
use Rattle.serve_plan.specs.declared.plan.Come.TheVariants as comes
use Rattle.serve_plan.specs.declared.plan.Doing.{Doing}
use Rattle.serve_plan.specs.declared.plan.Doing.TheVariants as doings
use Rattle.serve_plan.specs.declared.plan.ServePlan.{ServePlan}
use Rattle.cluster.specs.Carries.{carried_behind}
use Rattle.cluster.specs.PlanTurns.{IsSooner}
use Rattle.cluster.specs.Plans.{ForgetsBehind, HasStepped, IsResting, NotedBehind, PlanAt, PlanNoted, StandsBehind}
use Rattle.cluster.specs.declared.carried.Carried.{Carried}
use Rattle.cluster.specs.declared.plan.Plan.TheVariants.{Serves}
use Rattle.cluster.specs.laws.SlotSteps.{forgotten}
use Rattle.cluster.specs.laws.VolumeSteps.{Carrying, as_made, plan_step}

-- the notes agree with the memory
serve_remembered : (h : ℕ) (v : WorldView) (counts : ServeCounts) (doing : Doing) (n : Notes) → Agrees h v counts doing n
    → IsRemembered v.locks.geometry n.memory (host_at v.locks h)
serve_remembered h v counts doings.Begins n noted = noted.remembered
serve_remembered h v counts (doings.Reads f) n noted = noted.noted.remembered
serve_remembered h v counts (doings.Shares s plan) n noted = noted.noted.remembered
serve_remembered h v counts (doings.Empties f block) n noted = noted.noted.remembered
serve_remembered h v counts doings.Ended n noted = absurd noted

behind_remembered : (h : ℕ) (w : WorldView) (counts : ServeCounts) (come : Come) (n : Notes) → Behind h w counts come n
    → IsRemembered w.locks.geometry n.memory (host_at w.locks h)
behind_remembered h w counts (comes.More later) n noted = serve_remembered h w counts later n noted
behind_remembered h w counts (comes.Answered answer) n noted = noted.remembered
behind_remembered h w counts (comes.Uncalled answer) n noted = noted.remembered

-- and wait for no digest
pub serve_waits : (v : WorldView) (h : ℕ) (counts : ServeCounts) (doing : Doing) (n : Notes) → Agrees h v counts doing n
    → wanted v.locks.geometry commands.Serve n.calls n.digests n.asks ≡ None
serve_waits v h counts doings.Begins n noted =
    ap (λ (m : Notes). wanted v.locks.geometry commands.Serve m.calls m.digests m.asks) noted.between
serve_waits v h counts (doings.Reads f) n noted = noted.noted.wants
serve_waits v h counts (doings.Shares s plan) n noted = noted.noted.wants
serve_waits v h counts (doings.Empties f block) n noted = noted.noted.wants
serve_waits v h counts doings.Ended n noted = absurd noted

-- where it goes on the plan stands
abbrev GoesOn : WorldView → ℕ → ServePlan → Come → Type 0
GoesOn w h new (comes.More later) = PlanStands w h new.counts later × (new.doing ≡ later)
GoesOn w h new come = Unit {0}

goes_on : (w : WorldView) (h : ℕ) (new : ServePlan) (come : Come) → serves.StandsBehind w h new.counts come → new.doing ≡ later_of come
    → GoesOn w h new come
goes_on w h new (comes.More later) stands is = (stands, is)
goes_on w h new (comes.Answered answer) stands is = tt
goes_on w h new (comes.Uncalled answer) stands is = tt

module _ (v w : WorldView) (c d e : Cache) (h : ℕ) (carried : Carried) (old new : ServePlan) (host : new.host ≡ h) (others : Others h v w)
    (at : PlanAt v c h carried (Serves old)) (some : (n : Notes) × PlanNoted commands.Serve v h carried (Serves old) n)
    (first : ForgetsHost c d h) where
  abbrev Before : Notes → Type 0
  Before n = Agrees h v old.counts old.doing n

  was : (n : Notes) → Before n → IsRemembered v.locks.geometry n.memory (host_at v.locks h)
  was n noted = serve_remembered h v old.counts old.doing n noted

  abbrev after : Next → Carried
  after next = carried_behind commands.Serve next carried

  module _ (come : Come) (owed : OwesStep commands.Serve h v w (step_of come) Before (Behind h w new.counts come))
      (forgets : ForgetsBehind (step_of come).next h d e) where
    noted_of : (come : Come) (n : Notes) → GoesOn w h new come
        → Carrying (Behind h w new.counts come) (after (step_of come).next) n
        → NotedBehind commands.Serve w h (after (step_of come).next) (Serves new) (step_of come).next n
    noted_of (comes.More later) n on noted =
        (subst (λ (doing : Doing). Agrees h w new.counts doing n) (sym on.1) noted.0, noted.1, noted.2)
    noted_of (comes.Answered answer) n on noted = record { rests = noted.0; watch_is = noted.1; pending_is = noted.2 }
    noted_of (comes.Uncalled answer) n on noted = record { rests = noted.0; watch_is = noted.1; pending_is = noted.2 }

    stands_of : (come : Come) → GoesOn w h new come → IsResting w e h (after (step_of come).next)
        → StandsBehind commands.Serve w e h (after (step_of come).next) (Serves new) (step_of come).next
    stands_of (comes.More later) on rests =
        ((host, refl), (subst (λ (doing : Doing). PlanStands w h new.counts doing) (sym on.1) on.0, rests))
    stands_of (comes.Answered answer) on rests = rests
    stands_of (comes.Uncalled answer) on rests = rests

    -- no table is kept behind it, whatever it shared
    came_step : GoesOn w h new come → HasStepped commands.Serve h v w e carried (after (step_of come).next) (Serves old) (Serves new) (step_of come)
    came_step on =
        plan_step commands.Serve tt tt v w c h carried others at.1 Before was some (step_of come) (Behind h w new.counts come)
        (behind_remembered h w new.counts come) owed (Serves old) (Serves new) carried e (λ n noted. noted) (λ n noted. noted_of come n on noted)
        (stands_of come on) (forgotten v w c d e h others at.1.cached first (step_of come).next forgets)

  module _ (step : Step) (then : Carried) (then_is : then ≡ after step.next) (forgets : ForgetsBehind step.next h d e) where
    by_step : (come : Come) → step ≡ step_of come
        → (ForgetsBehind (step_of come).next h d e
        → HasStepped commands.Serve h v w e carried (after (step_of come).next) (Serves old) (Serves new) (step_of come))
        → HasStepped commands.Serve h v w e carried then (Serves old) (Serves new) step
    by_step come step_is stepped =
        as_made commands.Serve tt tt v w c h carried others at.1 Before was some (Serves old) (Serves new) carried d e then step (step_of come) then_is
        step_is forgets stepped

    -- it was made, or refused
    pub serve_step : serves.HasStepped h v w old.counts new.counts old.doing new.doing step
        → HasStepped commands.Serve h v w e carried then (Serves old) (Serves new) step
    serve_step (inl (come, went, step_is, is)) =
        by_step come step_is (λ forgets. came_step come went.owes forgets (goes_on w h new come went.stands is))
    serve_step (inr cut) =
        let owed = subst (λ (s : Step). OwesStep commands.Serve h v w s Before (IsAtRest w h)) cut.step_is cut.owes in
        by_step (comes.Answered (answers.Cut cut.by)) cut.step_is (λ forgets.
        came_step (comes.Answered (answers.Cut cut.by)) owed forgets tt)

-- fewer turns are left
pub serve_sooner : (v w : WorldView) (c d : Cache) (h : ℕ) (carried after : Carried) (old new : ServePlan) (step : Step)
    → serves.HasStepped h v w old.counts new.counts old.doing new.doing step → IsSooner v c carried (Serves old) w d after (Serves new) step.next
serve_sooner v w c d h carried after old new step (inl (come, went, step_is, is)) = λ more.
    subst (λ (doing : Doing). left w.locks.geometry doing < left v.locks.geometry old.doing) (sym is) went.fewer
serve_sooner v w c d h carried after old new step (inr cut) = λ more.
    let both : nexts.Answered (answers.Cut cut.by) ≡ nexts.More = sym (ap (λ (s : Step). s.next) cut.step_is) ∙ more in absurd cc
