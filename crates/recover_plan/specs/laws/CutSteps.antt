-- A step of a command on slots that was refused: its command is cut.
use Rattle.std.proofs.Common.{◌≡◌, ◌≢◌, ℕ, None, Some, refl, ap, sym, subst, ◌∙◌, inr}
use Rattle.vol_base.specs.declared.answer.Answer.TheVariants.{Cut}
use Rattle.vol_base.specs.declared.answer.CutBy.{CutBy}
use Rattle.vol_base.specs.declared.answer.CutBy.TheVariants as cuts
use Rattle.vol_base.specs.declared.answer.Next.TheVariants.{Answered}
use Rattle.vol_base.specs.declared.command.Command.{Command}
use Rattle.shared_disk.specs.Events.{Event, Refuses, Shows}
use Rattle.shared_disk.specs.declared.answers.DiskNo.TheVariants as refusals
use Rattle.lock_store.specs.declared.answers.StepNo.{StepNo}
use Rattle.lock_store.specs.declared.answers.StepNo.TheVariants as steps
use Rattle.lock_store.specs.declared.host.HostState.{HostState}
use Rattle.lock_store.specs.Views.{host_at, key_at}
use Rattle.disk_locks.specs.Consistent.{Consistent}
use Rattle.watch.specs.Looks.{nothing}
use Rattle.host_facts.specs.Views.{WorldView}
use Rattle.host_runs.specs.Causes as causes
use Rattle.host_runs.specs.DeviceCalls.{HasShown, IsRefused}
use Rattle.shared_disk.specs.State.{State}
use Rattle.host_runs.specs.Memories.{no_memory}
use Rattle.host_runs.specs.Moments.{Moment}
use Rattle.host_runs.specs.Notes.{Notes}
use Rattle.host_runs.specs.lemmas.OrderlyPlaced.{some_same}
use Rattle.host_notes.specs.Allowed.{IsTurnOf}
use Rattle.host_notes.specs.CutTurns.{ComesToCall, dropped_at}
use Rattle.host_notes.specs.Owes.{Owes, plan_moment}
use Rattle.host_notes.specs.Remembered.{IsRemembered}
use Rattle.host_notes.specs.laws.CutLaws.{owes_cut}
use Rattle.host_notes.specs.laws.NotedLaws.{key_noted}
use Rattle.host_notes.specs.laws.QuietMemories.{remembered_drop}
use Rattle.plan_parts.specs.Cuts.{CutCall, IsCauseOf, IsCutBy, cut_by}
use Rattle.plan_parts.specs.Steps.{OwesStep}
use Rattle.plan_parts.specs.laws.QuietCallLaws.{valid_now}
use Rattle.recover_plan.specs.PlanSteps.{RestsWith, called_step}
use Rattle.recover_plan.specs.SlotTurns.{IsOnSlot}
use Rattle.recover_plan.specs.laws.SlotEndings.{shown_by}
use Rattle.recover_plan.specs.laws.StepLaws.{seated, wants_none}

-- what the notes before a step have to say, that its command can be cut there
pub record MayBeCut (command : Command) (h : ℕ) (v : WorldView) (n : Notes) : Type 0 where
  pub remembered : IsRemembered v.locks.geometry n.memory (host_at v.locks h)
  pub asks : n.asks ≡ None
  pub comes : ComesToCall v.locks.geometry command n

-- the cause of the cut, by what refused the step
cause_of : (m : Moment) (e : Event) (v : WorldView) (why : StepNo) (by : CutBy) → m.event ≡ Some e → m.before ≡ v.locks.disk.state
    → cut_by why ≡ Some by → IsCauseOf why e v → causes.IsCutBy m by
cause_of m e v steps.Fenced by made before is cause =
    subst (λ (b : CutBy). causes.IsCutBy m b) (some_same cuts.Fenced by is) (subst (λ o. IsRefused refusals.Fenced o) (sym made) cause)
cause_of m e v steps.Failed by made before is cause =
    subst (λ (b : CutBy). causes.IsCutBy m b) (some_same cuts.Fault by is) (subst (λ o. IsRefused refusals.Failed o) (sym made) cause)
cause_of m e v steps.NoMemory by made before is cause = absurd cc
cause_of m e v (steps.Bad place) by made before is cause =
    subst (λ (b : CutBy). causes.IsCutBy m b) (some_same (cuts.Bad place) by is)
    (ap (λ (s : State). s.told) before ∙ cause.0, cause.1, subst (λ o. HasShown place cause.1 o) (sym made) cause.2)

heard : (why : StepNo) (by : CutBy) (e : Event) (v : WorldView) → cut_by why ≡ Some by → IsCauseOf why e v → e.reply ≢ Refuses refusals.NoMemory
heard steps.Fenced by e v is cause refused = let both : Refuses refusals.Fenced ≡ Refuses refusals.NoMemory = sym cause ∙ refused in cc
heard steps.Failed by e v is cause refused = let both : Refuses refusals.Failed ≡ Refuses refusals.NoMemory = sym cause ∙ refused in cc
heard steps.NoMemory by e v is cause refused = absurd cc
heard (steps.Bad place) by e v is cause refused =
    let both : Shows cause.1 ≡ Refuses refusals.NoMemory = sym (shown_by e.call e.reply place cause.1 cause.2) ∙ refused in cc

not_memory : (why : StepNo) (by : CutBy) → cut_by why ≡ Some by → why ≢ steps.NoMemory
not_memory why by is none = let both : cut_by steps.NoMemory ≡ Some by = ap cut_by (sym none) ∙ is in cc

module _ (command : Command) (v w : WorldView) (h : ℕ) (why : StepNo) (by : CutBy) (Before : Notes → Type 0) (on : IsOnSlot command)
    (c : Consistent v.locks) (some : key_at v.locks h ≢ 0) (is : cut_by why ≡ Some by)
    (says : (n : Notes) → Before n → MayBeCut command h v n) where
  cut_owed : (e : Event) → CutCall command h v w e why Before → (n : Notes) → Before n
      → (rest : Notes) × Owes v.locks.geometry h command v.locks.disk w.locks.disk (Some e) None (Some (Cut by)) n rest
      × RestsWith h w nothing rest
  cut_owed e cut n before =
      let m = plan_moment v.locks.geometry h command v.locks.disk w.locks.disk (Some e) None n in
      let may = says n before in
      let turn : IsTurnOf v.locks h m = record {
        geometry = refl;
        host = refl;
        key = key_noted v.locks.geometry n.memory (host_at v.locks h) may.remembered some;
        seat = seated command on;
      } in
      let allowed = cut.allowed m turn refl before in
      let gone = cut.memory (not_memory why by is) in (
        dropped_at m,
        owes_cut v.locks.geometry h command v.locks.disk w.locks.disk e n by (record {
          comes = may.comes;
          cut = cause_of m e v why by refl refl is cut.cause;
          acts = (cut.acts, heard why by e v is cut.cause);
          may = allowed.made;
          marks = allowed.marks;
          valid = valid_now v c;
        }),
        record {
          rests = record {
            remembered = subst (λ (x : HostState). IsRemembered w.locks.geometry no_memory x) (sym gone) (remembered_drop w.locks.geometry);
            rests = inr gone;
            between = refl;
          };
          watch_is = refl;
        },
      )

  -- the command is cut, and its host is dropped and remembers nothing
  pub cut_owes : IsCutBy command h v w why Before
      → OwesStep command h v w (called_step (Answered (Cut by))) Before (RestsWith h w nothing)
  cut_owes (e, cut) = record {
    made = Some e;
    called = refl;
    others = cut.others;
    quiet = λ n before. wants_none v.locks.geometry command n.calls n.digests n.asks on (says n before).asks;
    owes = cut_owed e cut;
  }
