-- A step that was refused is answered as a cut, or did nothing where there was no memory.
use Rattle.std.proofs.Common.{◌≡◌, ◌≢◌, ◌≤◌, ◌∙◌, ℕ, List, None, Option, Some, refl, ap, sym, subst, ◌<◌}
use Rattle.vol_base.specs.declared.answer.Answer.TheVariants.{Cut}
use Rattle.vol_base.specs.declared.answer.CutBy.{CutBy}
use Rattle.lock_store.specs.declared.answers.StepNo.{StepNo}
use Rattle.lock_store.specs.declared.answers.StepNo.TheVariants as steps
use Rattle.lock_store.specs.Views.{key_at}
use Rattle.disk_locks.specs.Consistent.{Consistent}
use Rattle.watch.specs.declared.watch.Look.{Look}
use Rattle.watch.specs.Looks.{count_of, look_at, nothing}
use Rattle.host_facts.specs.Views.{WorldView}
use Rattle.host_runs.specs.Notes.{Notes}
use Rattle.plan_parts.specs.Cuts.{IsCutBy, cut_by}
use Rattle.recover_plan.specs.CallsLeft.{calls_left}
use Rattle.recover_plan.specs.KeptVolumes.{VolumeStays}
use Rattle.recover_plan.specs.KnownTables.{TablesStay}
use Rattle.recover_plan.specs.Nexts.{MayStop}
use Rattle.recover_plan.specs.Plans.{Agrees, Came, PlanStands, StandsAt, command_of, later_of}
use Rattle.recover_plan.specs.SlotTurns.{IsOnSlot}
use Rattle.recover_plan.specs.declared.plan.Come.TheVariants.{Answered}
use Rattle.recover_plan.specs.declared.plan.Doing.{Doing}
use Rattle.recover_plan.specs.declared.plan.Doing.TheVariants as doings
use Rattle.recover_plan.specs.declared.replay.Going.TheVariants as goings
use Rattle.recover_plan.specs.laws.CallsLeftLaws.{calls_some}
use Rattle.recover_plan.specs.laws.CutSteps.{MayBeCut, cut_owes}
use Rattle.recover_plan.specs.laws.RegisterLaws.{nothing_watched}
use Rattle.recover_plan.specs.laws.StageLaws.{base_of}
use Rattle.recover_plan.specs.laws.StepLaws.{ready_key}
use Rattle.std.specs.Prelude.{IfErr, Result}
use Rattle.recover_plan.specs.declared.plan.Come.{Come}
use Rattle.vol_base.specs.declared.answer.Step.{Step}
use Rattle.plan_parts.specs.Steps.{OwesStep}
use Rattle.recover_plan.specs.Nexts.{HasStepped}
use Rattle.recover_plan.specs.Plans.{Behind, step_of}

-- each plan is of a command on slots
on_slot : (doing : Doing) → IsOnSlot (command_of doing)
on_slot doings.Register = tt
on_slot doings.Enter = tt
on_slot doings.EnterAgain = tt
on_slot (doings.Over stage) = tt
on_slot (doings.Retake dead) = tt
on_slot doings.Unlock = tt
on_slot doings.Fence = tt
on_slot doings.Beat = tt
on_slot (doings.Look of) = tt
on_slot (doings.Begin of) = tt
on_slot (doings.First of stage) = tt
on_slot (doings.Again of stage) = tt
on_slot (doings.Free of dead) = tt
on_slot doings.Ended = tt

module _ (v : WorldView) (h : ℕ) (watch : List (Option Look)) (c : Consistent v.locks) where
  -- but before it asks for a key its host has one
  key_some : (doing : Doing) → StandsAt v h watch doing → doing ≢ doings.Register → key_at v.locks h ≢ 0
  key_some doings.Register at other = absurd (other refl)
  key_some doings.Enter at other = at.base.key
  key_some doings.EnterAgain at other = at.base.key
  key_some (doings.Over stage) at other = (base_of v h h (goings.More stage) at).key
  key_some (doings.Retake dead) at other = at.claimed.base.key
  key_some doings.Unlock at other = ready_key v h c at
  key_some doings.Fence at other = at.key
  key_some doings.Beat at other = ready_key v h c at
  key_some (doings.Look of) at other = ready_key v h c at.0
  key_some (doings.Begin of) at other = ready_key v h c at.0
  key_some (doings.First of stage) at other = ready_key v h c at.0.ready
  key_some (doings.Again of stage) at other = ready_key v h c at.0.ready
  key_some (doings.Free of dead) at other = ready_key v h c at.0.ready
  key_some doings.Ended at other = absurd at

  many : (of : ℕ) (n : Notes) → n.watch ≡ watch → 3 ≤ count_of (look_at watch of) → 3 ≤ count_of (look_at n.watch of)
  many of n is thrice = subst (λ (l : List (Option Look)). 3 ≤ count_of (look_at l of)) (sym is) thrice

  -- it may be cut there
  cut_says : (doing : Doing) (why : StepNo) → StandsAt v h watch doing → MayStop watch doing why → (n : Notes) → Agrees h v watch doing n
      → MayBeCut (command_of doing) h v n
  cut_says doings.Register why at may n noted =
      record { remembered = noted.under_way.remembered; asks = noted.under_way.asks; comes = tt }
  cut_says doings.Enter why at may n noted =
      record { remembered = noted.under_way.remembered; asks = noted.under_way.asks; comes = tt }
  cut_says doings.EnterAgain why at may n noted =
      record { remembered = noted.under_way.remembered; asks = noted.under_way.asks; comes = tt }
  cut_says (doings.Over stage) why at may n noted =
      record { remembered = noted.under_way.remembered; asks = noted.under_way.asks; comes = tt }
  cut_says (doings.Retake dead) why at may n noted = record { remembered = noted.remembered; asks = noted.asks; comes = tt }
  cut_says doings.Unlock why at may n noted = record { remembered = noted.noted.remembered; asks = noted.noted.asks; comes = tt }
  cut_says doings.Fence why at may n noted = record { remembered = noted.noted.remembered; asks = noted.noted.asks; comes = tt }
  cut_says doings.Beat why at may n noted = record { remembered = noted.noted.remembered; asks = noted.noted.asks; comes = tt }
  cut_says (doings.Look of) why at may n noted = record { remembered = noted.noted.remembered; asks = noted.noted.asks; comes = tt }
  cut_says (doings.Begin of) why at may n noted = record {
    remembered = noted.under_way.remembered;
    asks = noted.under_way.asks;
    comes = many of n noted.under_way.watch_is may;
  }
  cut_says (doings.First of stage) why at may n noted = record {
    remembered = noted.under_way.remembered;
    asks = noted.under_way.asks;
    comes = many of n noted.under_way.watch_is at.0.thrice;
  }
  cut_says (doings.Again of stage) why at may n noted = record {
    remembered = noted.under_way.remembered;
    asks = noted.under_way.asks;
    comes = many of n noted.under_way.watch_is at.0.thrice;
  }
  cut_says (doings.Free of dead) why at may n noted =
      record { remembered = noted.remembered; asks = noted.asks; comes = many of n noted.watch_is at.0.thrice }
  cut_says doings.Ended why at may n noted = absurd at

  asks_no_key : (doing : Doing) (why : StepNo) (by : CutBy) → MayStop watch doing why → cut_by why ≡ Some by → doing ≢ doings.Register
  asks_no_key doing why by may is register =
      let unheard : why ≡ steps.NoMemory = subst (λ (d : Doing). MayStop watch d why) register may in
      let none : None ≡ Some by = sym (ap cut_by unheard) ∙ is in absurd cc

  -- the command is answered
  pub stopped_came : (w : WorldView) (doing : Doing) (why : StepNo) (by : CutBy) → PlanStands v h watch doing → MayStop watch doing why
      → cut_by why ≡ Some by → IsCutBy (command_of doing) h v w why (Agrees h v watch doing)
      → Came h v w watch nothing doing (Answered (Cut by))
  stopped_came w doing why by stands may is cut = record {
    owes = cut_owes (command_of doing) v w h why by (Agrees h v watch doing) (on_slot doing) c
        (key_some doing stands.at (asks_no_key doing why by may is)) is (cut_says doing why stands.at may) cut;
    stands = nothing_watched w h;
    tables = λ keeps uncut. absurd (uncut by refl);
    volume = λ leaves uncut. absurd (uncut by refl);
    fewer = calls_some v h doing (λ ended. subst (λ (d : Doing). StandsAt v h watch d) ended stands.at);
  }

-- what cuts a step cuts the plan that is at this step
pub cut_at : (v w : WorldView) (h : ℕ) (watch : List (Option Look)) (doing at : Doing) (result : Result Come StepNo) → doing ≡ at
    → IfErr result (λ why. IsCutBy (command_of at) h v w why (Agrees h v watch at))
    → IfErr result (λ why. IsCutBy (command_of doing) h v w why (Agrees h v watch doing))
cut_at v w h watch doing at result is cut =
    subst (λ (d : Doing). IfErr result (λ why. IsCutBy (command_of d) h v w why (Agrees h v watch d))) (sym is) cut

-- the step that says what was done
pub has_stepped : (h : ℕ) (v w : WorldView) (watch after : List (Option Look)) (doing was later : Doing) (come : Come) (step : Step)
    → doing ≡ was → step ≡ step_of come → later ≡ later_of come → Came h v w watch after doing come
    → HasStepped h v w watch after was later step
has_stepped h v w watch after doing was later come step is step_is later_is came =
    let now = subst (λ (d : Doing). Came h v w watch after d come) is came in record {
      come = come;
      step_is = step_is;
      later_is = later_is;
      owes = subst (λ (s : Step). OwesStep (command_of was) h v w s (Agrees h v watch was) (Behind h w after come)) (sym step_is) now.owes;
      stands = now.stands;
      tables = subst (λ (s : Step). TablesStay h v w (command_of was) s) (sym step_is) now.tables;
      volume = subst (λ (s : Step). VolumeStays v w (command_of was) s) (sym step_is) now.volume;
      fewer = subst (λ (d : Doing). calls_left w h d < calls_left v h was) (sym later_is) now.fewer;
    }
