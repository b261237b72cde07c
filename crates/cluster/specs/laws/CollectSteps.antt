-- A step of a collection is a step of a plan.
use Rattle.std.proofs.Common.{◌≡◌, ◌≢◌, inl, inr, ℕ, refl, ap, sym, subst, ◌∙◌}
use Rattle.vol_base.specs.declared.answer.Answer.{Answer}
use Rattle.vol_base.specs.declared.answer.Answer.TheVariants as answers
use Rattle.vol_base.specs.declared.answer.CutBy.{CutBy}
use Rattle.vol_base.specs.declared.answer.Next.{Next}
use Rattle.vol_base.specs.declared.answer.Next.TheVariants as nexts
use Rattle.vol_base.specs.declared.answer.Step.{Step}
use Rattle.vol_base.specs.declared.command.Command.{Command}
use Rattle.vol_base.specs.declared.command.Command.TheVariants as commands
use Rattle.vol_layout.specs.declared.geometry.Geometry.{Geometry}
use Rattle.vol_layout.specs.declared.kind.Table.{Table}
use Rattle.vol_layout.specs.declared.kind.Table.TheVariants as tables
use Rattle.held_cache.specs.Kept.{Cache, IsFileTable}
use Rattle.host_facts.specs.Others.{Others}
use Rattle.host_facts.specs.Views.{WorldView}
use Rattle.host_notes.specs.Remembered.{IsRemembered}
use Rattle.host_runs.specs.Notes.{Notes}
use Rattle.lock_store.specs.Views.{host_at}
use Rattle.plan_parts.specs.Steps.{IsAtRest, OwesStep}
use Rattle.share_plans.specs.Gatherings.{NotedAt}
use Rattle.share_plans.specs.GatheringSteps.{IsOfFile, KeepsTables, Went, called_step, next_of, stage_of}
use Rattle.share_plans.specs.GatheringSteps as collections
use Rattle.share_plans.specs.declared.collect.CollectPlan.{CollectPlan}
use Rattle.share_plans.specs.declared.collection.Gathered.{Gathered}
use Rattle.share_plans.specs.declared.collection.Gathered.TheVariants as gathered
use Rattle.share_plans.specs.declared.collection.Gathering.{Gathering}
use Rattle.cluster.specs.Carries.{carried_behind}
use Rattle.cluster.specs.Plans.{ForgetsBehind, HasStepped, IsResting, NotedBehind, PlanAt, PlanNoted, StandsBehind}
use Rattle.cluster.specs.declared.carried.Carried.{Carried}
use Rattle.cluster.specs.declared.plan.Plan.TheVariants.{Collects}
use Rattle.cluster.specs.laws.SlotSteps.{KeepsFileTables, kept}
use Rattle.cluster.specs.laws.VolumeSteps.{Carrying, as_made, plan_step}

of_file : (g : Geometry) (t : Table) → IsFileTable g t → IsOfFile t
of_file g (tables.File f) is = tt
of_file g (tables.More f t) is = tt
of_file g (tables.Group r) is = is
of_file g (tables.Part p) is = is

module _ (v w : WorldView) (c d : Cache) (h : ℕ) (carried : Carried) (old new : CollectPlan) (same : old.core.host ≡ h)
    (others : Others h v w) (at : PlanAt v c h carried (Collects old))
    (some : (n : Notes) × PlanNoted (commands.Collect old.core.part) v h carried (Collects old) n) where
  abbrev command : Command
  command = commands.Collect old.core.part

  abbrev Before : Notes → Type 0
  Before n = NotedAt v old.core old.stage n

  was : (n : Notes) → Before n → IsRemembered v.locks.geometry n.memory (host_at v.locks h)
  was n noted = subst (λ (x : ℕ). IsRemembered v.locks.geometry n.memory (host_at v.locks x)) same noted.noted.remembered

  keeps_files : KeepsTables old.core.host v w → KeepsFileTables h v w
  keeps_files keeps = λ t p there. subst (λ (x : ℕ). KeepsTables x v w) same keeps t p (of_file v.locks.geometry t there)

  abbrev after : Next → Carried
  after next = carried_behind command next carried

  -- what it made is a step of a plan, and the tables of files that are known stay, but behind a cut
  module _ (next : Next) (After : Notes → Type 0)
      (is : (n : Notes) → After n → IsRemembered w.locks.geometry n.memory (host_at w.locks h))
      (owed : OwesStep command h v w (called_step next) Before After)
      (keeps : ((by : CutBy) → next ≢ nexts.Answered (answers.Cut by)) → KeepsFileTables h v w) (forgets : ForgetsBehind next h c d) where
    steps : ((n : Notes) → Carrying After (after next) n → NotedBehind command w h (after next) (Collects new) next n)
        → (IsResting w d h (after next) → StandsBehind command w d h (after next) (Collects new) next)
        → HasStepped command h v w d carried (after next) (Collects old) (Collects new) (called_step next)
    steps noted_behind stands_behind =
        plan_step command tt tt v w c h carried others at.1 Before was some (called_step next) After is owed (Collects old) (Collects new) carried d
        (λ n noted. noted) noted_behind stands_behind (kept v w c c d h others at.1.cached refl next keeps forgets)

  -- it goes on
  module _ (went : Went v w old.core new.core old.stage (gathered.More new.stage)) (forgets : ForgetsBehind nexts.More h c d) where
    abbrev Later : Notes → Type 0
    Later n = NotedAt w new.core new.stage n

    here : new.core.host ≡ h
    here = went.same.host ∙ same

    owed : OwesStep command h v w (called_step nexts.More) Before Later
    owed = subst (λ (x : ℕ). OwesStep command x v w (called_step nexts.More) Before Later) same went.owes

    agrees : (n : Notes) → Later n → IsRemembered w.locks.geometry n.memory (host_at w.locks h)
    agrees n noted = subst (λ (x : ℕ). IsRemembered w.locks.geometry n.memory (host_at w.locks x)) here noted.noted.remembered

    goes_on : HasStepped command h v w d carried (after nexts.More) (Collects old) (Collects new) (called_step nexts.More)
    goes_on =
        steps nexts.More Later agrees owed (λ uncut. keeps_files went.tables_stay) forgets (λ n noted. noted)
        (λ rests. ((here, ap commands.Collect went.same.part), (went.stands, rests)))

  -- it is answered, or cut
  module _ (answer : Answer) (owed : OwesStep command h v w (called_step (nexts.Answered answer)) Before (λ n. IsAtRest w h n))
      (keeps : ((by : CutBy) → nexts.Answered answer ≢ nexts.Answered (answers.Cut by)) → KeepsFileTables h v w)
      (forgets : ForgetsBehind (nexts.Answered answer) h c d) where
    ends : HasStepped command h v w d carried (after (nexts.Answered answer)) (Collects old) (Collects new)
        (called_step (nexts.Answered answer))
    ends =
        steps (nexts.Answered answer) (λ n. IsAtRest w h n) (λ n rest. rest.remembered) owed keeps forgets
        (λ n noted. record { rests = noted.0; watch_is = noted.1; pending_is = noted.2 }) (λ rests. rests)

  -- by the step that came
  module _ (then : Carried) (step : Step) (then_is : then ≡ after step.next) (forgets : ForgetsBehind step.next h c d) where
    by_step : (next : Next) → step ≡ called_step next
        → (ForgetsBehind next h c d → HasStepped command h v w d carried (after next) (Collects old) (Collects new) (called_step next))
        → HasStepped command h v w d carried then (Collects old) (Collects new) step
    by_step next step_is stepped =
        as_made command tt tt v w c h carried others at.1 Before was some (Collects old) (Collects new) carried c d then step (called_step next) then_is
        step_is forgets stepped

    went_step : (came : Gathered) → Went v w old.core new.core old.stage came → step ≡ called_step (next_of came) → new.stage ≡ stage_of came
        → HasStepped command h v w d carried then (Collects old) (Collects new) step
    went_step (gathered.More stage) went step_is is =
        by_step nexts.More step_is
        (goes_on (subst (λ (s : Gathering). Went v w old.core new.core old.stage (gathered.More s)) (sym is) went))
    went_step (gathered.Answered answer) went step_is is =
        let owed = subst (λ (x : ℕ). OwesStep command x v w (called_step (nexts.Answered answer)) Before (λ n. IsAtRest w x n)) same
        (subst (λ (x : ℕ). OwesStep command old.core.host v w (called_step (nexts.Answered answer)) Before (λ n. IsAtRest w x n)) went.same.host
        went.owes) in
        by_step (nexts.Answered answer) step_is (ends answer owed (λ uncut. keeps_files went.tables_stay))

    pub collect_step : collections.HasStepped v w old.core new.core old.stage new.stage step
        → HasStepped command h v w d carried then (Collects old) (Collects new) step
    collect_step (inl (came, went, step_is, is)) = went_step came went step_is is
    collect_step (inr cut) =
        let owed = subst (λ (x : ℕ). OwesStep command x v w (called_step (nexts.Answered (answers.Cut cut.by))) Before (λ n. IsAtRest w x n)) same
        (subst (λ (s : Step). OwesStep command old.core.host v w s Before (λ n. IsAtRest w old.core.host n)) cut.step_is cut.owes) in
        by_step (nexts.Answered (answers.Cut cut.by)) cut.step_is (ends (answers.Cut cut.by) owed (λ uncut. absurd (uncut cut.by refl)))
