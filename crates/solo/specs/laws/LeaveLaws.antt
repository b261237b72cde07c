-- The steps of a host that leaves.
use Rattle.std.proofs.Common.{◌≡◌, ◌≢◌, ◌≤◌, ℕ, List, [], None, Option, Some, true, refl, ap, sym, subst, ◌∙◌, arith}
use Rattle.std.specs.Prelude.{Contains, IfErr, IsSome, OnOk}
use Rattle.vol_base.specs.declared.answer.Answer.{Answer}
use Rattle.vol_base.specs.declared.answer.Answer.TheVariants as answers
use Rattle.vol_base.specs.declared.answer.CutBy.{CutBy}
use Rattle.vol_base.specs.declared.answer.CutBy.TheVariants as cuts
use Rattle.vol_base.specs.declared.answer.Next.TheVariants as nexts
use Rattle.vol_base.specs.declared.answer.Step.{Step}
use Rattle.vol_base.specs.declared.block.Block.{Block}
use Rattle.vol_base.specs.declared.command.Command.{Command}
use Rattle.vol_base.specs.declared.command.Command.TheVariants.{Leave}
use Rattle.vol_base.specs.declared.plain.PlainReply.{PlainReply}
use Rattle.vol_layout.specs.declared.geometry.Geometry.{Geometry}
use Rattle.call_effects.specs.Changes.{Changes}
use Rattle.call_effects.specs.Places.{KeepsFiles, Places}
use Rattle.disk_locks.specs.Consistent.{Consistent}
use Rattle.disk_locks.specs.Sure.{BothTold}
use Rattle.host_facts.specs.Views.{WorldView}
use Rattle.host_facts.specs.Wrote.{FilesStay, HasValidImage}
use Rattle.host_facts.specs.laws.ToldLaws.{both_same}
use Rattle.host_notes.specs.Owes.{Owes}
use Rattle.host_notes.specs.Remembered.{IsRemembered}
use Rattle.host_runs.specs.DeviceCalls.{ActsOnce}
use Rattle.host_runs.specs.Notes.{Notes}
use Rattle.lock_store.specs.Views.{counter_of, host_at, key_at, keys_of, told_of}
use Rattle.plan_parts.specs.Cuts.{IsUntouched}
use Rattle.plan_parts.specs.Steps.{OwesStep, ended_of}
use Rattle.recover_plan.specs.KeptVolumes.{IsLeave, KeepsVolume}
use Rattle.recover_plan.specs.LoneSteps.{IsSlotFree}
use Rattle.recover_plan.specs.Nexts.{HasStepped, first_of}
use Rattle.recover_plan.specs.PlanSteps.{RestsWith}
use Rattle.recover_plan.specs.Plans.{Agrees, Behind, StandsBehind, command_of, later_of, step_of}
use Rattle.recover_plan.specs.declared.plan.Come.{Come}
use Rattle.recover_plan.specs.declared.plan.Come.TheVariants as comes
use Rattle.recover_plan.specs.declared.plan.Doing.{Doing}
use Rattle.recover_plan.specs.declared.plan.Doing.TheVariants as doings
use Rattle.recover_plan.specs.laws.FirstLaws.{first_noted, first_stands}
use Rattle.recover_plan.specs.laws.RegisterLaws.{nothing_watched}
use Rattle.shared_disk.specs.Events.{Event}
use Rattle.shared_disk.specs.Seen.{DiskSeen}
use Rattle.shared_disk.specs.State.{OnImages, Told}
use Rattle.watch.specs.declared.watch.Look.{Look}
use Rattle.watch.specs.Looks.{nothing}
use Rattle.std.proofs.Common.{false, inl}
use Rattle.vol_base.specs.Faults.{Rose}
use Rattle.histories.specs.Answers.{MayGet}
use Rattle.host_notes.specs.Owes.{plan_moment}
use Rattle.host_runs.specs.Causes.{IsCause}
use Rattle.host_runs.specs.DeviceCalls.{IsRefused, OnImage}
use Rattle.image_view.specs.HostKeys.{slot_state_at}
use Rattle.shared_disk.specs.declared.answers.DiskNo.TheVariants as refusals
use Rattle.recover_plan.specs.Nexts.{first_of}
use Rattle.solo.specs.Leaves.{IsLeft, left_by}
use Rattle.solo.specs.Stops.{HasCause}
use Rattle.solo.specs.laws.AloneLaws.{alone_below, alone_key, none_before, resting_notes}
use Rattle.solo.specs.laws.OwnCalls.{not_fenced, risen}
use Rattle.solo.specs.Alone.{IsAlone, IsLater}
use Rattle.solo.specs.Leaves.{IsLeaving, IsLeft, left_by}
use Rattle.solo.specs.laws.OwnCalls.{key_same, keys_stay, not_fenced, risen}
use Rattle.solo.specs.laws.ComesLaws.{changes_then}
use Rattle.solo.specs.laws.LaterLaws.{later_first, later_same, later_step, later_then, made_counter}
use Rattle.solo.specs.laws.OwnCalls.{call_moment}
use Rattle.host_runs.specs.CallRights.{MayCall}
use Rattle.image_view.specs.Valid.{IsValid}

-- a step of no plain call changes no file
stays_of : (g : Geometry) (placed : Option PlainReply) (old new : Option Told) → OnImages (Places g None placed) old new
    → BothTold old new KeepsFiles
stays_of g placed None None stay = tt
stays_of g placed None (Some t) stay = absurd stay
stays_of g placed (Some t) None stay = absurd stay
stays_of g None (Some t) (Some u) stay = stay
stays_of g (Some reply) (Some t) (Some u) stay = absurd stay

-- what changed in two steps is nothing, where neither changed a logical number or a data block
volume_then : (v u w : WorldView) → u.locks.geometry ≡ v.locks.geometry → KeepsVolume v u → KeepsVolume u w → KeepsVolume v w
volume_then v u w same first last =
    joined (told_of v.locks) (told_of u.locks) (told_of w.locks) first
    (subst (λ (g : Geometry). BothTold (told_of u.locks) (told_of w.locks) (Changes g [] None)) same last)
  where
    joined : (a b c : Option Told) → BothTold a b (Changes v.locks.geometry [] None) → BothTold b c (Changes v.locks.geometry [] None)
        → BothTold a c (Changes v.locks.geometry [] None)
    joined None None c first last = last
    joined None (Some b) c first last = absurd first
    joined (Some a) None c first last = absurd first
    joined (Some a) (Some b) None first last = last
    joined (Some a) (Some b) (Some c) first last = changes_then v.locks.geometry a.image b.image c.image first last

-- the notes before each step remember what the host has in memory
remembered_of : (v : WorldView) (h : ℕ) (watch : List (Option Look)) (doing : Doing) (n : Notes) → command_of doing ≡ Leave
    → Agrees h v watch doing n → IsRemembered v.locks.geometry n.memory (host_at v.locks h)
remembered_of v h watch doings.Unlock n is agrees = agrees.noted.remembered
remembered_of v h watch doings.Fence n is agrees = agrees.noted.remembered
remembered_of v h watch doing n is agrees = absurd cc

-- a turn that keeps the files, and behind which the image is valid
turn_later : (u w : WorldView) (h : ℕ) (placed : Option PlainReply) (n : Notes) (made : Option Event)
    → ActsOnce made u.locks.disk w.locks.disk
    → MayCall (plan_moment u.locks.geometry h Leave u.locks.disk w.locks.disk made placed n) made → w.locks.geometry ≡ u.locks.geometry
    → FilesStay u w → HasValidImage w → IsLater 0 u w
turn_later u w h placed n None same may geometry files valid =
    later_same 0 u w (ap (λ (d : DiskSeen). d.state) same) geometry
    (let faults = ap (λ (d : DiskSeen). d.faults) same in omega (arith, faults))
turn_later u w h placed n (Some e) acts may geometry files valid =
    let counter : counter_of w.locks ≡ counter_of u.locks =
    made_counter (call_moment Leave h u w e placed n) e u.locks.disk w.locks.disk tt may acts.0 in
    later_step 0 u w e acts.0 geometry files valid (omega (arith, counter))

none_made : IsSome {T = Event} None → ⊥
none_made is = cc

-- a turn in which the command goes on keeps the host's key
module _ (u w : WorldView) (h : ℕ) (placed : Option PlainReply) (n later : Notes)
    (is : IsRemembered u.locks.geometry n.memory (host_at u.locks h)) (some : key_at u.locks h ≢ 0)
    (now : IsRemembered w.locks.geometry later.memory (host_at w.locks h)) where
  abbrev Goes : Option Event → Type 0
  Goes made = Owes u.locks.geometry h Leave u.locks.disk w.locks.disk made placed None n later

  goes_key : (made : Option Event) → Goes made → (key_at w.locks h ≡ key_at u.locks h) × (keys_of w.locks ≡ keys_of u.locks)
  goes_key None owes = absurd (none_made (owes.moves refl))
  goes_key (Some e) owes =
      let memory : later.memory ≡ _ = ap (λ (m : Notes). m.memory) owes.noted.1 in (
        key_same Leave h u w e placed n tt is some owes.may owes.acts.0
            (subst (λ m. IsRemembered w.locks.geometry m (host_at w.locks h)) memory now),
        keys_stay Leave h u w e placed n tt is some owes.may owes.acts.0 (λ target fences done.
            let both : None ≡ Some answers.Fine = owes.ending.facts.last target refl (fences, done) in cc),
      )

-- one step
module _ (v u w : WorldView) (h : ℕ) (watch after : List (Option Look)) (doing later : Doing) (step : Step)
    (leaving : IsLeaving v u h watch doing) (stepped : HasStepped h u w watch after doing later step) where
  is : IsRemembered u.locks.geometry leaving.noted.0.memory (host_at u.locks h)
  is = remembered_of u h watch doing leaving.noted.0 leaving.leaves leaving.noted.1

  abbrev After : Notes → Type 0
  After = Behind h w after stepped.come

  owed : OwesStep Leave h u w step (Agrees h u watch doing) After
  owed = subst (λ (c : Command). OwesStep c h u w step (Agrees h u watch doing) (Behind h w after stepped.come)) leaving.leaves stepped.owes

  pub steps_later : IsLater 0 v w
  steps_later =
      let same = owed.others.locks.lasts.geometry in
      let owes = (owed.owes leaving.noted.0 leaving.noted.1).1 in
      later_then 0 0 v u w leaving.later (turn_later u w h step.placed leaving.noted.0 owed.made owes.acts owes.may same
      (stays_of u.locks.geometry step.placed (told_of u.locks) (told_of w.locks) owes.files)
      (subst (λ (g : Geometry). OnImage w.locks.disk.state (IsValid g (counter_of w.locks))) (sym same) owes.valid))

  volume_on : ((by : CutBy) → step.next ≢ nexts.Answered (answers.Cut by)) → KeepsVolume v w
  volume_on uncut =
      volume_then v u w leaving.later.geometry leaving.volume (stepped.volume (subst IsLeave (sym leaving.leaves) tt) uncut)

  -- it goes on
  module _ (more : step.next ≡ nexts.More) where
    unanswered : (by : CutBy) → step.next ≢ nexts.Answered (answers.Cut by)
    unanswered by is = let both : nexts.More ≡ nexts.Answered (answers.Cut by) = sym more ∙ is in cc

    goes : (come : Come) → step ≡ step_of come → later ≡ later_of come → StandsBehind w h after doing come
        → OwesStep Leave h u w step (Agrees h u watch doing) (Behind h w after come) → IsLeaving v w h after later
    goes (comes.More next) step_is later_is stands owes =
        let (after_notes, owed', agrees) = owes.owes leaving.noted.0 leaving.noted.1 in
        let leaves = stands.1 ∙ leaving.leaves in
        let now = remembered_of w h after next after_notes leaves agrees in
        let on = subst (λ (o : Option Answer). Owes u.locks.geometry h Leave u.locks.disk w.locks.disk owes.made step.placed o
        leaving.noted.0 after_notes) (ap ended_of more) owed' in
        let keys = goes_key u w h step.placed leaving.noted.0 after_notes is leaving.some now owes.made on in
        subst (IsLeaving v w h after) (sym later_is) (record {
          at = stands.0;
          leaves = leaves;
          noted = (after_notes, agrees);
          some = subst (λ k. k ≢ 0) (sym keys.0) leaving.some;
          registered = subst (λ k. Contains (keys_of w.locks) k) (sym keys.0)
              (subst (λ (ks : List ℕ). Contains ks (key_at u.locks h)) (sym keys.1) leaving.registered);
          later = steps_later;
          volume = volume_on unanswered;
        })
    goes (comes.Answered answer) step_is later_is stands owes =
        let both : nexts.Answered answer ≡ nexts.More = sym (ap (λ (s : Step). s.next) step_is) ∙ more in cc
    goes (comes.Uncalled answer) step_is later_is stands owes =
        let both : nexts.Answered answer ≡ nexts.More = sym (ap (λ (s : Step). s.next) step_is) ∙ more in cc

    pub leaving_on : IsLeaving v w h after later
    leaving_on = goes stepped.come stepped.step_is stepped.later_is stepped.stands owed

  -- no digest is waited for
  works : (come : Come) (block : Block) → step ≡ step_of come → step.next ≡ nexts.Work block → ⊥
  works (comes.More next) block step_is is =
      let both : nexts.More ≡ nexts.Work block = sym (ap (λ (s : Step). s.next) step_is) ∙ is in cc
  works (comes.Answered answer) block step_is is =
      let both : nexts.Answered answer ≡ nexts.Work block = sym (ap (λ (s : Step). s.next) step_is) ∙ is in cc
  works (comes.Uncalled answer) block step_is is =
      let both : nexts.Answered answer ≡ nexts.Work block = sym (ap (λ (s : Step). s.next) step_is) ∙ is in cc

  pub no_work : (block : Block) → step.next ≡ nexts.Work block → ⊥
  no_work block = works stepped.come block stepped.step_is

  -- it is answered
  module _ (answer : Answer) (answered : step.next ≡ nexts.Answered answer) where
    abbrev Ends : Option Event → Type 0
    Ends made =
        Owes u.locks.geometry h Leave u.locks.disk w.locks.disk made step.placed (Some answer) leaving.noted.0
        (owed.owes leaving.noted.0 leaving.noted.1).0

    ends : Ends owed.made
    ends =
        subst (λ (o : Option Answer). Owes u.locks.geometry h Leave u.locks.disk w.locks.disk owed.made step.placed o leaving.noted.0
        (owed.owes leaving.noted.0 leaving.noted.1).0) (ap ended_of answered) (owed.owes leaving.noted.0 leaving.noted.1).1

    shut_out : (made : Option Event) → Ends made → IsRefused refusals.Fenced made → ⊥
    shut_out None owes refused = refused
    shut_out (Some e) owes refused =
        not_fenced Leave h u w e step.placed leaving.noted.0 tt is leaving.some owes.may owes.acts.0 leaving.registered refused

    failed : (made : Option Event) → Ends made → IsRefused refusals.Failed made → Rose u.locks.disk.faults w.locks.disk.faults
    failed None owes refused = absurd refused
    failed (Some e) owes refused = owes.acts.0.failed refused

    abbrev Caused : Answer → Type 0
    Caused a = IsCause (plan_moment u.locks.geometry h Leave u.locks.disk w.locks.disk owed.made step.placed leaving.noted.0) a

    is_left : (a : Answer) → Caused a → MayGet Leave a → IsLeft a
    is_left answers.Fine cause may = tt
    is_left (answers.Cut cuts.Fault) cause may = tt
    is_left (answers.Cut (cuts.Bad place)) cause may = tt
    is_left (answers.Cut cuts.Fenced) cause may = shut_out owed.made ends cause
    is_left (answers.Cut cuts.Died) cause may = cause
    is_left answers.Down cause may = let both : true ≡ false = cause.1 in cc
    is_left a cause may = absurd may

    pub left_answer : IsLeft answer
    left_answer = is_left answer ends.ending.cause ends.own

    caused : (a : Answer) → IsLeft a → Caused a → IfErr (left_by a) (HasCause v.locks.disk w.locks.disk)
    caused answers.Fine left cause = tt
    caused (answers.Cut cuts.Fault) left cause =
        risen v.locks.disk.faults u.locks.disk.faults w.locks.disk.faults leaving.later.faults (failed owed.made ends cause)
    caused (answers.Cut (cuts.Bad place)) left cause =
        none_before (told_of v.locks) (told_of u.locks) leaving.later.files cause.0
    caused a left cause = absurd left

    pub left_cause : IfErr (left_by answer) (HasCause v.locks.disk w.locks.disk)
    left_cause = caused answer left_answer ends.ending.cause

    freed : (a : Answer) → IsLeft a → a ≡ answer → OnOk (left_by a) (IsSlotFree w h)
    freed answers.Fine left same =
        subst (λ (g : Geometry). OnImage w.locks.disk.state (λ image. slot_state_at g image h ≡ 0)) (sym owed.others.locks.lasts.geometry)
        (ends.ending.facts.left refl (ap (λ (a : Answer). Some a) (sym same))).slot
    freed (answers.Cut cuts.Fault) left same = tt
    freed (answers.Cut (cuts.Bad place)) left same = tt
    freed a left same = absurd left

    stayed : (a : Answer) → IsLeft a → a ≡ answer → OnOk (left_by a) (KeepsVolume v w)
    stayed answers.Fine left same = volume_on (λ by is.
        let both : nexts.Answered answers.Fine ≡ nexts.Answered (answers.Cut by) = ap (λ (a : Answer). nexts.Answered a) same ∙ sym answered ∙ is in cc)
    stayed (answers.Cut cuts.Fault) left same = tt
    stayed (answers.Cut (cuts.Bad place)) left same = tt
    stayed a left same = absurd left

    pub left_volume : OnOk (left_by answer) (KeepsVolume v w)
    left_volume = stayed answer left_answer refl

    pub left_free : OnOk (left_by answer) (IsSlotFree w h)
    left_free = freed answer left_answer refl

-- a step for which there was no memory did nothing
pub spent_later : (v u w : WorldView) (h : ℕ) (watch : List (Option Look)) (doing : Doing) → IsLeaving v u h watch doing → IsUntouched h u w
    → u.locks.disk.faults ≤ w.locks.disk.faults → IsLater 0 v w
spent_later v u w h watch doing leaving none faults =
    later_then 0 0 v u w leaving.later (later_same 0 u w none.state none.geometry faults)

-- before the first step
pub leaving_first : (v : WorldView) (watch : List (Option Look)) (doing : Doing) → Consistent v.locks → IsAlone v → watch ≡ nothing
    → doing ≡ first_of Leave → IsLeaving v v 0 watch doing
leaving_first v watch doing is alone none first =
    subst (λ (l : List (Option Look)). IsLeaving v v 0 l doing) (sym none)
    (subst (IsLeaving v v 0 nothing) (sym first) (record {
      at = first_stands v 0 nothing Leave (alone_below v is alone) tt alone.ready (nothing_watched v 0);
      leaves = refl;
      noted = (resting_notes alone.notes.0, first_noted v 0 nothing (resting_notes alone.notes.0) rests Leave tt);
      some = alone_key v 0 is alone.ready.joined;
      registered = alone.registered;
      later = later_first 0 v;
      volume = both_same (told_of v.locks) (told_of v.locks) (Changes v.locks.geometry [] None) refl
          (λ image. record { super = refl; numbers = λ x has. refl; blocks = λ d has. refl });
    }))
  where
    rests : RestsWith 0 v nothing (resting_notes alone.notes.0)
    rests = record {
      rests = record { remembered = alone.notes.1; rests = inl alone.ready; between = refl };
      watch_is = refl;
    }
