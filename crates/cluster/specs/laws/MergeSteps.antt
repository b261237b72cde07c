-- A step of a merge is a step of a plan, and what it waits for.
use Rattle.std.proofs.Common.{◌≡◌, ◌<◌, ℕ, List, [], None, IsSome, inl, inr, refl, ap, sym, subst, ◌∙◌}
use Rattle.vol_base.specs.declared.answer.Answer.{Answer}
use Rattle.vol_base.specs.declared.answer.Answer.TheVariants as answers
use Rattle.vol_base.specs.declared.answer.Next.{Next}
use Rattle.vol_base.specs.declared.answer.Next.TheVariants as nexts
use Rattle.vol_base.specs.declared.answer.Step.{Step}
use Rattle.vol_base.specs.declared.block.Digest.{Digest}
use Rattle.vol_base.specs.declared.command.Command.TheVariants as commands
use Rattle.held_cache.specs.Kept.{Cache, ForgetsHost}
use Rattle.hint_blocks.specs.declared.entry.LogEntry.{LogEntry}
use Rattle.hint_plans.specs.Plans.{RestsWith}
use Rattle.host_facts.specs.Others.{Others}
use Rattle.host_facts.specs.Views.{WorldView}
use Rattle.host_notes.specs.Remembered.{IsRemembered}
use Rattle.host_runs.specs.Awaited.{wanted}
use Rattle.host_runs.specs.Notes.{Notes, with_digest}
use Rattle.lock_store.specs.Views.{host_at}
use Rattle.plan_parts.specs.Steps.{OwesStep}
use Rattle.merge_plan.specs.Plans.{Agrees, IsAsking, IsUnasked, PlanStands, left, supplied}
use Rattle.merge_plan.specs.Steps.{Went, later_of, step_of}
use Rattle.merge_plan.specs.Steps as merges
use Rattle.merge_plan.specs.declared.plan.Come.{Come}
use Rattle.merge_plan.specs.declared.plan.Come.TheVariants as comes
use Rattle.merge_plan.specs.declared.plan.Doing.{Doing}
use Rattle.merge_plan.specs.declared.plan.Doing.TheVariants as doings
use Rattle.merge_plan.specs.declared.plan.MergePlan.{MergePlan}
use Rattle.merge_plan.specs.declared.room.MergeRoom.{MergeRoom}
use Rattle.merge_plan.specs.laws.StillLaws.{agrees_remembered, asks_nothing, pending_is, supply_fewer, supply_noted, supply_stands, waits}
use Rattle.cluster.specs.Asking.{merge_asks}
use Rattle.cluster.specs.Carries.{carried_behind}
use Rattle.cluster.specs.PlanTurns.{IsSooner}
use Rattle.cluster.specs.Plans.{ForgetsBehind, HasStepped, IsResting, NotedBehind, PlanAt, PlanNoted, StandsBehind}
use Rattle.cluster.specs.declared.carried.Carried.{Carried}
use Rattle.cluster.specs.declared.plan.Plan.TheVariants.{Merges}
use Rattle.cluster.specs.laws.SlotSteps.{forgotten}
use Rattle.cluster.specs.laws.VolumeSteps.{Carrying, as_made, plan_step}

-- the block that a merge waits for
pub merge_waits : (v : WorldView) (h : ℕ) (carried : Carried) (doing : Doing) (n : Notes)
    → Agrees h v carried.pending.entries carried.room doing n
    → wanted v.locks.geometry commands.Merge n.calls n.digests n.asks ≡ merge_asks doing
merge_waits v h carried (doings.Asks s block) n noted = waits h v carried.pending.entries carried.room s block n noted
merge_waits v h carried doing n noted = asks_nothing h v carried.pending.entries carried.room doing n tt noted

pub asks_merge : (doing : Doing) → IsSome (merge_asks doing) → IsAsking doing
asks_merge (doings.Asks s block) some = tt
asks_merge doing some = absurd cc

pub unasked_merge : (doing : Doing) → merge_asks doing ≡ None → IsUnasked doing
unasked_merge (doings.Asks s block) none = absurd cc
unasked_merge doing none = tt

-- with its digest it stands, its notes agree, fewer turns are left, and it waits for nothing
pub record IsHanded (v : WorldView) (h : ℕ) (carried : Carried) (digest : Digest) (doing : Doing) : Type 0 where
  pub stands : PlanStands v h carried.room (supplied digest doing)
  pub noted : (n : Notes) → Agrees h v carried.pending.entries carried.room doing n
      → Agrees h v carried.pending.entries carried.room (supplied digest doing) (with_digest digest n)
  pub fewer : left carried.room (supplied digest doing) < left carried.room doing
  pub asks : merge_asks (supplied digest doing) ≡ None

pub merge_handed : (v : WorldView) (h : ℕ) (carried : Carried) (digest : Digest) (doing : Doing) → IsAsking doing
    → PlanStands v h carried.room doing → IsHanded v h carried digest doing
merge_handed v h carried digest doing asking at = record {
  stands = supply_stands v h carried.room digest doing asking at;
  noted = λ n noted. supply_noted v h carried.room digest carried.pending.entries doing n asking noted;
  fewer = supply_fewer v h carried.room digest doing asking;
  asks = taken_asks doing asking;
}
  where
    taken_asks : (doing : Doing) → IsAsking doing → merge_asks (supplied digest doing) ≡ None
    taken_asks (doings.Asks s block) asks = refl
    taken_asks doing asks = absurd asks

module _ (v w : WorldView) (c d e : Cache) (h : ℕ) (carried : Carried) (room : MergeRoom) (old new : MergePlan) (host : new.host ≡ h)
    (others : Others h v w) (at : PlanAt v c h carried (Merges old))
    (some : (n : Notes) × PlanNoted commands.Merge v h carried (Merges old) n) (first : ForgetsHost c d h) where
  -- what its host keeps, with what the step read
  abbrev mid : Carried
  mid = record carried { room = room }

  abbrev after : Next → Carried
  after next = carried_behind commands.Merge next mid

  abbrev pending : List LogEntry
  pending = carried.pending.entries

  abbrev Before : Notes → Type 0
  Before n = Agrees h v pending carried.room old.doing n

  was : (n : Notes) → Before n → IsRemembered v.locks.geometry n.memory (host_at v.locks h)
  was n noted = agrees_remembered h v pending carried.room old.doing n noted

  carrying : (n : Notes) → PlanNoted commands.Merge v h carried (Merges old) n → Carrying Before mid n
  carrying n noted = (noted.0, noted.1, pending_is h v pending carried.room old.doing n noted.0)

  some_now : (n : Notes) × Carrying Before mid n
  some_now = (some.0, carrying some.0 some.1)

  resting : IsResting v c h mid
  resting = record { watched = at.1.watched; volume = at.1.volume; cached = at.1.cached }

  -- no table is kept behind it, whatever it shared
  module _ (come : Come) (After : Notes → Type 0) (is : (n : Notes) → After n → IsRemembered w.locks.geometry n.memory (host_at w.locks h))
      (owed : OwesStep commands.Merge h v w (step_of come) Before After) (forgets : ForgetsBehind (step_of come).next h d e) where
    steps : ((n : Notes) → Carrying After (after (step_of come).next) n
        → NotedBehind commands.Merge w h (after (step_of come).next) (Merges new) (step_of come).next n)
        → (IsResting w e h (after (step_of come).next)
        → StandsBehind commands.Merge w e h (after (step_of come).next) (Merges new) (step_of come).next)
        → HasStepped commands.Merge h v w e carried (after (step_of come).next) (Merges old) (Merges new) (step_of come)
    steps noted_behind stands_behind =
        plan_step commands.Merge tt tt v w c h mid others resting Before was some_now (step_of come) After is owed (Merges old) (Merges new) carried e
        carrying noted_behind stands_behind (forgotten v w c d e h others at.1.cached first (step_of come).next forgets)

  -- it is answered, or cut
  ends : (answer : Answer) (left : List LogEntry) → OwesStep commands.Merge h v w (step_of (comes.Answered answer)) Before (RestsWith h w left)
      → ForgetsBehind (nexts.Answered answer) h d e
      → HasStepped commands.Merge h v w e carried (after (nexts.Answered answer)) (Merges old) (Merges new) (step_of (comes.Answered answer))
  ends answer left owed forgets =
      steps (comes.Answered answer) (RestsWith h w left) (λ n rests. rests.rests.remembered) owed forgets
      (λ n noted. record { rests = noted.0.rests; watch_is = noted.1; pending_is = noted.2 }) (λ rests. rests)

  came_step : (come : Come) → Went h v w carried.room room old.doing come → new.doing ≡ later_of come → ForgetsBehind (step_of come).next h d e
      → HasStepped commands.Merge h v w e carried (after (step_of come).next) (Merges old) (Merges new) (step_of come)
  came_step (comes.More later) went is forgets =
      steps (comes.More later) (λ n. Agrees h w pending room later n) (λ n noted. agrees_remembered h w pending room later n noted)
      (went.owes pending) forgets
      (λ n noted. (subst (λ (doing : Doing). Agrees h w pending room doing n) (sym is) noted.0, noted.1))
      (λ rests. ((host, refl), (subst (λ (doing : Doing). PlanStands w h room doing) (sym is) went.stands, rests)))
  came_step (comes.Answered answer) went is forgets = ends answer pending (went.owes pending) forgets

  module _ (step : Step) (then : Carried) (then_is : then ≡ after step.next) where
    by_step : ForgetsBehind step.next h d e → (come : Come) → step ≡ step_of come
        → (ForgetsBehind (step_of come).next h d e
        → HasStepped commands.Merge h v w e carried (after (step_of come).next) (Merges old) (Merges new) (step_of come))
        → HasStepped commands.Merge h v w e carried then (Merges old) (Merges new) step
    by_step forgets come step_is stepped =
        as_made commands.Merge tt tt v w c h mid others resting Before was some_now (Merges old) (Merges new) carried d e then step (step_of come)
        then_is step_is forgets stepped

    -- it was made, or refused
    pub merge_step : ForgetsBehind step.next h d e → merges.HasStepped h v w carried.room room old.doing new.doing step
        → HasStepped commands.Merge h v w e carried then (Merges old) (Merges new) step
    merge_step forgets (inl (come, went, step_is, is)) = by_step forgets come step_is (came_step come went is)
    merge_step forgets (inr cut) =
        by_step forgets (comes.Answered (answers.Cut cut.by)) cut.step_is
        (ends (answers.Cut cut.by) []
        (subst (λ (s : Step). OwesStep commands.Merge h v w s Before (RestsWith h w [])) cut.step_is (cut.owes pending)))

    -- fewer turns are left
    pub merge_sooner : merges.HasStepped h v w carried.room room old.doing new.doing step
        → IsSooner v c carried (Merges old) w e then (Merges new) step.next
    merge_sooner (inl (come, went, step_is, is)) = λ more.
        subst (λ (k : Carried). left k.room new.doing < left carried.room old.doing) (sym then_is)
        (subst (λ (doing : Doing). left room doing < left carried.room old.doing) (sym is) went.fewer)
    merge_sooner (inr cut) = λ more.
        let both : nexts.Answered (answers.Cut cut.by) ≡ nexts.More = sym (ap (λ (s : Step). s.next) cut.step_is) ∙ more in absurd cc
