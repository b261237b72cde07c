-- A step of a plan on a file is a step of a plan.
use Rattle.std.proofs.Common.{◌≡◌, ◌≢◌, ◌<◌, ◌⊎◌, inl, inr, ◌∷◌, ℕ, Bool, false, List, [], Option, Some, None, if◌then◌else◌, refl, ap, sym, subst, ◌∙◌}
use Rattle.vol_base.specs.declared.answer.Answer.{Answer}
use Rattle.vol_base.specs.declared.answer.Answer.TheVariants as answers
use Rattle.vol_base.specs.declared.answer.CutBy.{CutBy}
use Rattle.vol_base.specs.declared.answer.Next.{Next}
use Rattle.vol_base.specs.declared.answer.Next.TheVariants as nexts
use Rattle.vol_base.specs.declared.answer.Step.{Step}
use Rattle.vol_base.specs.declared.block.Block.{Block}
use Rattle.vol_base.specs.declared.block.Digest.{Digest}
use Rattle.vol_base.specs.declared.command.Command.{Command}
use Rattle.vol_base.specs.declared.command.Command.TheVariants as commands
use Rattle.vol_layout.specs.declared.geometry.Geometry.{Geometry}
use Rattle.shared_disk.specs.Events.{Event}
use Rattle.file_plans.specs.Bases.{IsCached}
use Rattle.file_plans.specs.Calls.{Runs, file_of}
use Rattle.vol_base.specs.declared.plain.PlainReply.TheVariants.{Done}
use Rattle.file_plans.specs.Plans as files
use Rattle.file_plans.specs.Stands.{At, NotedAt}
use Rattle.file_plans.specs.declared.call.FileCall.{FileCall}
use Rattle.file_plans.specs.declared.call.FileCall.TheVariants.{Close, Plain}
use Rattle.file_plans.specs.Went.{Went}
use Rattle.file_plans.specs.Went as went
use Rattle.file_plans.specs.declared.plan.FilePlan.{FilePlan}
use Rattle.file_plans.specs.declared.stage.Stage.{Stage}
use Rattle.file_plans.specs.declared.stage.Stage.TheVariants as stages
use Rattle.file_plans.specs.declared.state.Core.{Core}
use Rattle.file_plans.specs.laws.PlanLaws.{stands_at}
use Rattle.file_plans.specs.laws.RestLaws.{on_file}
use Rattle.held_cache.specs.Kept.{Cache}
use Rattle.host_facts.specs.Others.{Others}
use Rattle.host_facts.specs.Views.{WorldView}
use Rattle.host_notes.specs.FileTurns.{IsOnFile}
use Rattle.host_notes.specs.Owes.{Owes, plan_moment}
use Rattle.host_notes.specs.Remembered.{IsRemembered}
use Rattle.host_runs.specs.Awaited.{AsksBehindCalls, MayAskFor, wanted}
use Rattle.host_runs.specs.Memories.{drops}
use Rattle.host_runs.specs.Moments.{Moment}
use Rattle.watch.specs.Looks.{nothing}
use Rattle.host_runs.specs.Notes.{NotedCall, Notes}
use Rattle.host_runs.specs.lemmas.StepLaws.{calls-still, some_call}
use Rattle.lock_store.specs.Views.{host_at}
use Rattle.plan_parts.specs.Steps.{IsAtRest, OwesStep, ended_of}
use Rattle.recover_plan.specs.HostStays.{LooksStay, watch_behind}
use Rattle.recover_plan.specs.PlanSteps.{AreWatched}
use Rattle.recover_plan.specs.SlotTurns.{IsOnSlot}
use Rattle.recover_plan.specs.laws.LooksStayLaws.{looks_stay}
use Rattle.watch.specs.declared.watch.Look.{Look}
use Rattle.cluster.specs.Carries.{IsCarried, IsPlaceOf, IsWriteNoted, MayNote, carried_behind, hints_behind, looks_behind}
use Rattle.cluster.specs.Plans.{HasStepped, NotedBehind, PlanAt, PlanNoted, StandsBehind}
use Rattle.cluster.specs.declared.carried.Carried.{Carried}
use Rattle.cluster.specs.laws.PendingLaws.{IsUnhinted, hints_volume, pending_step, place_of_call, write_ends, write_on}
use Rattle.cluster.specs.declared.plan.Plan.TheVariants.{Files}

-- where a digest is asked for
asks_or : (stage : Stage) → (stage ≡ stages.Asks) ⊎ (stage ≢ stages.Asks)
asks_or stages.Asks = inl refl
asks_or stage = inr (λ is. cc)

-- the notes of a plan agree with the memory
pub remembered_at : (command : Command) (v : WorldView) (c : Cache) (core : Core) (stage : Stage) (n : Notes) → At v c core stage
    → NotedAt command v core stage n → IsRemembered v.locks.geometry n.memory (host_at v.locks core.host)
remembered_at command v c core stage n at noted =
    elim (asks_or stage) [
      | inl asks ↦ (subst (λ (s : Stage). NotedAt command v core s n) asks noted).remembered
      | inr apart ↦ ((stands_at v c core stage at).noted command n apart noted).remembered
    ]

-- a command on a file is none on slots, and asks for no digest behind a call
file_or_slot : (command : Command) → IsOnFile command → IsOnSlot command → ⊥
file_or_slot commands.Join file slot = cc
file_or_slot commands.Leave file slot = cc
file_or_slot commands.Beat file slot = cc
file_or_slot (commands.Look of) file slot = cc
file_or_slot (commands.Recover of) file slot = cc
file_or_slot command file slot = slot

asks_none : (g : Geometry) (command : Command) (made : Option Event) (asks : Option Block) → (AsksBehindCalls command → ⊥)
    → MayAskFor g command made asks → asks ≡ None
asks_none g command made None never may = refl
asks_none g command made (Some block) never may = absurd (never may.0)

-- behind a call a command waits for what it asks for
wanted_asks : (g : Geometry) (command : Command) (calls : List NotedCall) (digests : List Digest) (asks : Option Block) → calls ≢ []
    → wanted g command calls digests asks ≡ asks
wanted_asks g command [] digests asks some = absurd (some refl)
wanted_asks g command (call ∷ calls) digests asks some = refl

never_asks : (command : Command) (call : FileCall) → Runs command call → AsksBehindCalls command → ⊥
never_asks (commands.Scan f i) (Plain call) runs asks = cc
never_asks (commands.Scan f i) (Close of) runs asks = cc
never_asks commands.Merge (Plain call) runs asks = cc
never_asks commands.Merge (Close of) runs asks = cc
never_asks command call runs asks = asks

runs_unhinted : (command : Command) (call : FileCall) → Runs command call → IsUnhinted command
runs_unhinted commands.Log (Plain call) runs = absurd cc
runs_unhinted commands.Log (Close of) runs = absurd cc
runs_unhinted (commands.Scan f i) (Plain call) runs = absurd cc
runs_unhinted (commands.Scan f i) (Close of) runs = absurd cc
runs_unhinted command call runs = tt

module _ (command : Command) (v w : WorldView) (d : Cache) (h : ℕ) (carried : Carried) (old new : FilePlan) (step : Step)
    (host : old.core.host ≡ h) (runs : Runs command old.core.call) (others : Others h v w) (was_carried : IsCarried v h carried)
    (file : file_of old.core.call < v.locks.geometry.files)
    (was : (n : Notes) → PlanNoted command v h carried (Files old) n → IsRemembered v.locks.geometry n.memory (host_at v.locks h))
    (none : (n : Notes) × PlanNoted command v h carried (Files old) n) where
  abbrev behind : Option Answer → List (Option Look)
  behind ended = watch_behind command ended carried.watch

  abbrev after : Next → Carried
  after next =
      record carried { watch = behind (ended_of next); pending = hints_behind command next carried.digest carried.pending }

  carried_now : (next : Next) → AreWatched w h (behind (ended_of next)) → IsCarried w h (after next)
  carried_now next looks = record {
    watched = looks;
    volume = hints_volume command next carried.digest carried.pending ∙ was_carried.volume ∙ sym others.locks.lasts.geometry;
  }

  pending_now : (next : Next) (made : Option Event) (n later : Notes) → PlanNoted command v h carried (Files old) n
      → Owes v.locks.geometry h command v.locks.disk w.locks.disk made step.placed (ended_of next) n later
      → later.pending ≡ (after next).pending.entries
  pending_now next made n later noted owes =
      pending_step v.locks.geometry h command v.locks.disk w.locks.disk made step.placed n later carried.digest next carried.pending
      (runs_unhinted command old.core.call runs) owes noted.3 noted.4.handed

  -- the looks in the notes, and what is remembered
  looks : (made : Option Event) (ended : Option Answer) (n later : Notes) → PlanNoted command v h carried (Files old) n
      → Owes v.locks.geometry h command v.locks.disk w.locks.disk made step.placed ended n later
      → IsRemembered w.locks.geometry later.memory (host_at w.locks h) → LooksStay command h v w ended n later
  looks made ended n later noted owes is =
      looks_stay command h v w made step.placed ended n later (file_or_slot command (on_file command old.core.call runs)) others owes (was n noted) is

  looked : (ended : Option Answer) (n later : Notes) → PlanNoted command v h carried (Files old) n → LooksStay command h v w ended n later
      → later.watch ≡ behind ended
  looked ended n later noted stay = stay.noted ∙ ap (λ (xs : List (Option Look)). watch_behind command ended xs) noted.1

  -- a command that goes on waits for no digest
  waits : (made : Option Event) (n later : Notes) → Owes v.locks.geometry h command v.locks.disk w.locks.disk made step.placed None n later
      → wanted w.locks.geometry command later.calls later.digests later.asks ≡ None
  waits None n later owes = let none_made = owes.moves refl in absurd cc
  waits (Some e) n later owes =
      let m : Moment = plan_moment v.locks.geometry h command v.locks.disk w.locks.disk (Some e) step.placed n in
      let calls = calls-still m later owes.noted in
      wanted_asks w.locks.geometry command later.calls later.digests later.asks
      (λ empty. some_call n.calls (record { event = e; before = v.locks.disk.state }) (sym calls ∙ empty))
      ∙ asks_none v.locks.geometry command (Some e) later.asks (never_asks command old.core.call runs) owes.noted.0

  -- the command goes on
  module _ (did : Went v w d old.core new.core old.stage step new.stage) (more : step.next ≡ nexts.More) where
    stands : At w d new.core new.stage
    stands = subst (λ (next : Next). went.StandsBehind w d new.core next new.stage) more did.stands

    here : new.core.host ≡ h
    here = did.host ∙ host

    noted_at : (later : Notes) → went.NotedBehind command w new.core step.next new.stage later → NotedAt command w new.core new.stage later
    noted_at later noted = subst (λ (next : Next). went.NotedBehind command w new.core next new.stage later) more noted

    remembered : (later : Notes) → went.NotedBehind command w new.core step.next new.stage later
        → IsRemembered w.locks.geometry later.memory (host_at w.locks h)
    remembered later noted =
        subst (λ (x : ℕ). IsRemembered w.locks.geometry later.memory (host_at w.locks x)) here
        (remembered_at command w d new.core new.stage later stands (noted_at later noted))

    owed : OwesStep command h v w step (NotedAt command v old.core old.stage) (went.NotedBehind command w new.core step.next new.stage)
    owed = subst (λ (x : ℕ). OwesStep command x v w step (NotedAt command v old.core old.stage) (went.NotedBehind command w new.core step.next new.stage))
        host (did.owes command runs)

    open_owes : (n later : Notes) → Owes v.locks.geometry h command v.locks.disk w.locks.disk owed.made step.placed (ended_of step.next) n later
        → Owes v.locks.geometry h command v.locks.disk w.locks.disk owed.made step.placed None n later
    open_owes n later owes =
        subst (λ (next : Next). Owes v.locks.geometry h command v.locks.disk w.locks.disk owed.made step.placed (ended_of next) n later) more owes

    stay : (n : Notes) (noted : PlanNoted command v h carried (Files old) n)
        → LooksStay command h v w None n (owed.owes n noted.0).0
    stay n noted =
        let (later, owes, is) = owed.owes n noted.0 in
        looks owed.made None n later noted (open_owes n later owes) (remembered later is)

    placed_in : step.placed ≡ Some Done → IsPlaceOf v.locks.geometry command
    placed_in = place_of_call v.locks.geometry command old.core.call step.placed runs file did.in_range

    write_now : (n later : Notes) → PlanNoted command v h carried (Files old) n
        → Owes v.locks.geometry h command v.locks.disk w.locks.disk owed.made step.placed None n later
        → IsWriteNoted w.locks.geometry command carried.digest later
    write_now n later noted owes =
        subst (λ (g : Geometry). IsWriteNoted g command carried.digest later) (sym others.locks.lasts.geometry)
        (write_on v.locks.geometry h command v.locks.disk w.locks.disk owed.made step.placed n later carried.digest noted.4 placed_in owes)

    went_on : HasStepped command h v w d carried (after nexts.More) (Files old) (Files new) step
    went_on = record {
      owes = record {
        made = owed.made;
        called = owed.called;
        others = owed.others;
        quiet = λ n noted. noted.2;
        owes = λ n noted.
            let (later, owes, is) = owed.owes n noted.0 in (
              later,
              owes,
              subst (λ (next : Next). NotedBehind command w h (after nexts.More) (Files new) next later) (sym more) (
                noted_at later is,
                looked None n later noted (stay n noted),
                waits owed.made n later (open_owes n later owes),
                pending_now nexts.More owed.made n later noted (open_owes n later owes),
                write_now n later noted (open_owes n later owes),
              ),
            );
      };
      stands = subst (λ (next : Next). StandsBehind command w d h (after nexts.More) (Files new) next) (sym more) (
        (here, subst (λ (call : FileCall). Runs command call) (sym did.call) runs),
        (stands, carried_now nexts.More ((stay none.0 none.1).watched carried.watch was_carried.watched)),
      );
    }

  -- the command is answered
  module _ (answer : Answer) (is : step.next ≡ nexts.Answered answer) (end : files.IsEnded v w d old.core old.stage step) where
    owed_end : OwesStep command h v w step (NotedAt command v old.core old.stage) (λ n. IsAtRest w h n)
    owed_end = subst (λ (x : ℕ). OwesStep command x v w step (NotedAt command v old.core old.stage) (λ n. IsAtRest w x n)) host (end.owes command runs)

    answer_owes : (n later : Notes) → Owes v.locks.geometry h command v.locks.disk w.locks.disk owed_end.made step.placed (ended_of step.next) n later
        → Owes v.locks.geometry h command v.locks.disk w.locks.disk owed_end.made step.placed (Some answer) n later
    answer_owes n later owes =
        subst (λ (next : Next). Owes v.locks.geometry h command v.locks.disk w.locks.disk owed_end.made step.placed (ended_of next) n later) is owes

    rested : (later : Notes) → IsAtRest w h later → IsRemembered w.locks.geometry later.memory (host_at w.locks h)
    rested later rest =
        subst (λ (g : Geometry). IsRemembered g later.memory (host_at w.locks h)) refl rest.remembered

    ended : HasStepped command h v w d carried (after (nexts.Answered answer)) (Files old) (Files new) step
    ended = record {
      owes = record {
        made = owed_end.made;
        called = owed_end.called;
        others = owed_end.others;
        quiet = λ n noted. noted.2;
        owes = λ n noted.
            let (later, owes, rest) = owed_end.owes n noted.0 in (
              later,
              owes,
              subst (λ (next : Next). NotedBehind command w h (after (nexts.Answered answer)) (Files new) next later) (sym is)
                  (record {
                    rests = rest;
                    watch_is = looked (Some answer) n later noted (looks owed_end.made (Some answer) n later noted (answer_owes n later owes) (rested later rest));
                    pending_is = pending_now (nexts.Answered answer) owed_end.made n later noted (answer_owes n later owes);
                  }),
            );
      };
      stands = subst (λ (next : Next). StandsBehind command w d h (after (nexts.Answered answer)) (Files new) next) (sym is)
          (record {
            watched =
                let (later, owes, rest) = owed_end.owes none.0 none.1.0 in
                (looks owed_end.made (Some answer) none.0 later none.1 (answer_owes none.0 later owes) (rested later rest)).watched carried.watch
                was_carried.watched;
            volume = hints_volume command (nexts.Answered answer) carried.digest carried.pending ∙ was_carried.volume
                ∙ sym others.locks.lasts.geometry;
            cached = subst (λ (x : ℕ). IsCached w d x) host end.cached;
          });
    }

  -- no digest is waited for
  waiting : (block : Block) → files.IsWaiting v w d old.core new.core old.stage step new.stage block → ⊥
  waiting block wait =
      let asks = wait.wants command none.0 runs (subst (λ (s : Stage). NotedAt command v old.core s none.0) wait.from none.1.0) in
      let both : Some block ≡ None = sym asks ∙ none.1.2 in absurd cc

  pub file_stepped : (next : Next) → step.next ≡ next → files.HasStepped v w d old.core new.core old.stage step new.stage next
      → HasStepped command h v w d carried (after next) (Files old) (Files new) step
  file_stepped nexts.More is did = went_on did is
  file_stepped (nexts.Work block) is did = absurd (waiting block did)
  file_stepped (nexts.Answered answer) is did = ended answer is did

-- a command on a file drops its host by a cut alone
drops_file : (command : Command) (call : FileCall) (answer : Answer) → Runs command call → ((by : CutBy) → answer ≢ answers.Cut by)
    → drops answer command ≡ false
drops_file command call (answers.Cut by) runs uncut = absurd (uncut by refl)
drops_file commands.Leave (Plain call) answers.Fine runs uncut = absurd cc
drops_file commands.Leave (Close f) answers.Fine runs uncut = absurd cc
drops_file (commands.Die calls) (Plain call) answers.Fine runs uncut = absurd cc
drops_file (commands.Die calls) (Close f) answers.Fine runs uncut = absurd cc
drops_file command call answers.Fine runs uncut = refl
drops_file commands.Join (Plain call) (answers.Busy key) runs uncut = absurd cc
drops_file commands.Join (Close f) (answers.Busy key) runs uncut = absurd cc
drops_file command call (answers.Busy key) runs uncut = refl
drops_file commands.Join (Plain call) answers.NoKeys runs uncut = absurd cc
drops_file commands.Join (Close f) answers.NoKeys runs uncut = absurd cc
drops_file command call answers.NoKeys runs uncut = refl
drops_file command call answer runs uncut = refl

looks_same : (command : Command) (call : FileCall) (next : Next) (watch : List (Option Look)) → Runs command call
    → watch_behind command (ended_of next) watch ≡ looks_behind next watch
looks_same command call nexts.More watch runs = refl
looks_same command call (nexts.Work block) watch runs = refl
looks_same command call (nexts.Answered (answers.Cut by)) watch runs = refl
looks_same command call (nexts.Answered answer) watch runs =
    ap (λ (b : Bool). if b then nothing else watch) (drops_file command call answer runs (λ by is. cc))

-- what is done of a `write` may become a hint
module _ (command : Command) (v w : WorldView) (c d : Cache) (carried : Carried) (old new : FilePlan) (step : Step)
    (runs : Runs command old.core.call) (at : PlanAt v c old.core.host carried (Files old))
    (some : (n : Notes) × PlanNoted command v old.core.host carried (Files old) n) where
  file_now : file_of old.core.call < v.locks.geometry.files
  file_now = (stands_at v c old.core old.stage at.0).file

  pub file_notes : files.HasStepped v w d old.core new.core old.stage step new.stage step.next → MayNote v.locks.geometry command step.next
  file_notes did = cases step.next refl did
    where
      cases : (next : Next) → step.next ≡ next → files.HasStepped v w d old.core new.core old.stage step new.stage next
          → MayNote v.locks.geometry command next
      cases nexts.More is did = tt
      cases (nexts.Work block) is did = tt
      cases (nexts.Answered answer) is did =
          let owed = did.owes command runs in
          let (later, owes, rest) = owed.owes some.0 some.1.0 in
          write_ends v.locks.geometry old.core.host command v.locks.disk w.locks.disk owed.made step.placed some.0 later carried.digest some.1.4
          (place_of_call v.locks.geometry command old.core.call step.placed runs file_now did.in_range) (nexts.Answered answer)
          (subst (λ (next : Next). Owes v.locks.geometry old.core.host command v.locks.disk w.locks.disk owed.made step.placed (ended_of next) some.0
          later) is owes)

  -- a step of the plan, with what is kept beside it
  pub file_step : Others old.core.host v w → (after : Carried) → after ≡ carried_behind command step.next carried
      → files.HasStepped v w d old.core new.core old.stage step new.stage step.next
      → HasStepped command old.core.host v w d carried after (Files old) (Files new) step
  file_step others after after_is did =
      subst (λ (k : Carried). HasStepped command old.core.host v w d carried k (Files old) (Files new) step)
      (ap (λ (xs : List (Option Look)). let k : Carried = record carried {
        watch = xs;
        pending = hints_behind command step.next carried.digest carried.pending;
      } in k) (looks_same command old.core.call step.next carried.watch runs) ∙ sym after_is)
      (file_stepped command v w d old.core.host carried old new step refl runs others at.1 file_now
      (λ n is. remembered_at command v c old.core old.stage n at.0 is.0) some step.next refl did)
