-- A step of a command that is none on slots, and what its host keeps beside its plan behind it.
use Rattle.std.proofs.Common.{◌≡◌, ◌≢◌, ℕ, Bool, false, List, Option, if◌then◌else◌, refl, ap, sym, subst, ◌∙◌}
use Rattle.vol_base.specs.declared.answer.Answer.{Answer}
use Rattle.vol_base.specs.declared.answer.Answer.TheVariants as answers
use Rattle.vol_base.specs.declared.answer.CutBy.{CutBy}
use Rattle.vol_base.specs.declared.answer.Next.{Next}
use Rattle.vol_base.specs.declared.block.Key.{Key}
use Rattle.vol_base.specs.declared.answer.Next.TheVariants as nexts
use Rattle.vol_base.specs.declared.answer.Step.{Step}
use Rattle.vol_base.specs.declared.command.Command.{Command}
use Rattle.vol_base.specs.declared.command.Command.TheVariants as commands
use Rattle.file_plans.specs.Bases.{IsCached}
use Rattle.held_cache.specs.Kept.{Cache}
use Rattle.host_facts.specs.Others.{Others}
use Rattle.host_facts.specs.Views.{WorldView}
use Rattle.host_notes.specs.Remembered.{IsRemembered}
use Rattle.host_runs.specs.Memories.{drops}
use Rattle.host_runs.specs.Notes.{Notes}
use Rattle.lock_store.specs.Views.{host_at}
use Rattle.plan_parts.specs.Steps.{OwesStep, ended_of}
use Rattle.recover_plan.specs.HostStays.{LooksStay, watch_behind}
use Rattle.recover_plan.specs.PlanSteps.{AreWatched}
use Rattle.recover_plan.specs.SlotTurns.{IsOnSlot}
use Rattle.recover_plan.specs.laws.LooksStayLaws.{looks_stay}
use Rattle.watch.specs.Looks.{nothing}
use Rattle.watch.specs.declared.watch.Look.{Look}
use Rattle.cluster.specs.Carries.{carried_behind, looks_behind}
use Rattle.cluster.specs.Plans.{ForgetsBehind, HasStepped, IsResting, NotedBehind, PlanNoted, StandsBehind}
use Rattle.cluster.specs.declared.plan.Plan.{Plan}
use Rattle.cluster.specs.declared.carried.Carried.{Carried}
use Rattle.cluster.specs.laws.PendingLaws.{IsQuiet, hints_volume, pending_step, quiet_digest, quiet_hints}

-- a command that is none on slots, and no `die`
abbrev pub IsOffSlots : Command → Type 0
IsOffSlots commands.Join = ⊥
IsOffSlots commands.Leave = ⊥
IsOffSlots commands.Beat = ⊥
IsOffSlots (commands.Look of) = ⊥
IsOffSlots (commands.Recover of) = ⊥
IsOffSlots (commands.Die calls) = ⊥
IsOffSlots command = Unit {0}

-- what a host remembers of slots behind a step: such a command drops its host by a cut alone
leaves_not : (command : Command) → IsOffSlots command → drops answers.Fine command ≡ false
leaves_not commands.Leave off = absurd off
leaves_not (commands.Die calls) off = absurd off
leaves_not command off = refl

busy_not : (command : Command) (key : Key) → IsOffSlots command → drops (answers.Busy key) command ≡ false
busy_not commands.Join key off = absurd off
busy_not command key off = refl

keys_not : (command : Command) → IsOffSlots command → drops answers.NoKeys command ≡ false
keys_not commands.Join off = absurd off
keys_not command off = refl

drops_by_cut : (command : Command) (answer : Answer) → IsOffSlots command → ((by : CutBy) → answer ≢ answers.Cut by) → drops answer command ≡ false
drops_by_cut command (answers.Cut by) off uncut = absurd (uncut by refl)
drops_by_cut command answers.Fine off uncut = leaves_not command off
drops_by_cut command (answers.Busy key) off uncut = busy_not command key off
drops_by_cut command answers.NoKeys off uncut = keys_not command off
drops_by_cut command answer off uncut = refl

looks_same : (command : Command) → IsOffSlots command → (next : Next) (watch : List (Option Look))
    → watch_behind command (ended_of next) watch ≡ looks_behind next watch
looks_same command off nexts.More watch = refl
looks_same command off (nexts.Work block) watch = refl
looks_same command off (nexts.Answered (answers.Cut by)) watch = refl
looks_same command off (nexts.Answered answer) watch =
    ap (λ (b : Bool). if b then nothing else watch) (drops_by_cut command answer off (λ by is. cc))

no_slot : (command : Command) → IsOffSlots command → IsOnSlot command → ⊥
no_slot commands.Join off slot = off
no_slot commands.Leave off slot = off
no_slot commands.Beat off slot = off
no_slot (commands.Look of) off slot = off
no_slot (commands.Recover of) off slot = off
no_slot command off slot = slot

-- the notes of a plan agree with it, and remember these slots
abbrev pub Watching : (Notes → Type 0) → List (Option Look) → Notes → Type 0
Watching Agrees watch n = Agrees n × (n.watch ≡ watch)

module _ (command : Command) (off : IsOffSlots command) (v w : WorldView) (h : ℕ) (watch : List (Option Look)) (others : Others h v w)
    (watched : AreWatched v h watch) (Before : Notes → Type 0)
    (was : (n : Notes) → Before n → IsRemembered v.locks.geometry n.memory (host_at v.locks h))
    (some : (n : Notes) × Watching Before watch n) where
  module _ (step : Step) (After : Notes → Type 0)
      (is : (n : Notes) → After n → IsRemembered w.locks.geometry n.memory (host_at w.locks h))
      (owed : OwesStep command h v w step Before After) where
    looks : (n : Notes) (noted : Before n) → LooksStay command h v w (ended_of step.next) n (owed.owes n noted).0
    looks n noted =
        let (later, owes, after) = owed.owes n noted in
        looks_stay command h v w owed.made step.placed (ended_of step.next) n later (no_slot command off) others owes (was n noted) (is later after)

    pub volume_owes : OwesStep command h v w step (Watching Before watch) (Watching After (looks_behind step.next watch))
    volume_owes = record {
      made = owed.made;
      called = owed.called;
      others = owed.others;
      quiet = λ n noted. owed.quiet n noted.0;
      owes = λ n noted.
          let (later, owes, after) = owed.owes n noted.0 in (
            later,
            owes,
            (
              after,
              (looks n noted.0).noted ∙ ap (λ (xs : List (Option Look)). watch_behind command (ended_of step.next) xs) noted.1
                  ∙ looks_same command off step.next watch,
            ),
          );
    }

    pub volume_watched : AreWatched w h (looks_behind step.next watch)
    volume_watched =
        subst (λ (xs : List (Option Look)). AreWatched w h xs) (looks_same command off step.next watch)
        ((looks some.0 some.1.0).watched watch watched)

-- the notes of a plan agree with it, and with all that its host keeps beside it
abbrev pub Carrying : (Notes → Type 0) → Carried → Notes → Type 0
Carrying Agrees carried n = Agrees n × (n.watch ≡ carried.watch) × (n.pending ≡ carried.pending.entries)

-- behind a step of a command that changes no pending hints either
module _ (command : Command) (off : IsOffSlots command) (quiet : IsQuiet command) (v w : WorldView) (c : Cache) (h : ℕ) (carried : Carried)
    (others : Others h v w) (resting : IsResting v c h carried) (Before : Notes → Type 0)
    (was : (n : Notes) → Before n → IsRemembered v.locks.geometry n.memory (host_at v.locks h))
    (some : (n : Notes) × Carrying Before carried n) where
  abbrev after : Next → Carried
  after next = carried_behind command next carried

  watching : (n : Notes) × Watching Before carried.watch n
  watching = (some.0, (some.1.0, some.1.1))

  module _ (step : Step) (After : Notes → Type 0)
      (is : (n : Notes) → After n → IsRemembered w.locks.geometry n.memory (host_at w.locks h))
      (owed : OwesStep command h v w step Before After) where
    pub carried_owes : OwesStep command h v w step (Carrying Before carried) (Carrying After (after step.next))
    carried_owes =
        let owes = volume_owes command off v w h carried.watch others resting.watched Before was watching step After is owed in record {
          made = owes.made;
          called = owes.called;
          others = owes.others;
          quiet = λ n noted. owes.quiet n (noted.0, noted.1);
          owes = λ n noted.
              let (later, does, behind) = owes.owes n (noted.0, noted.1) in (
                later,
                does,
                (
                  behind.0,
                  behind.1,
                  pending_step v.locks.geometry h command v.locks.disk w.locks.disk owes.made step.placed n later carried.digest step.next
                      carried.pending (quiet_hints command quiet) does noted.2 (quiet_digest command carried.digest n.digests quiet),
                ),
              );
        }

    pub carried_rests : (d : Cache) → IsCached w d h → IsResting w d h (after step.next)
    carried_rests d cached = record {
      watched = volume_watched command off v w h carried.watch others resting.watched Before was watching step After is owed;
      volume = hints_volume command step.next carried.digest carried.pending ∙ resting.volume ∙ sym others.locks.lasts.geometry;
      cached = cached;
    }

    -- so it is a step of a plan, once the plan says what its own part is; what its host kept before the step may differ in what the plan changed of it
    pub plan_step : (old new : Plan) (earlier : Carried) (d : Cache)
        → ((n : Notes) → PlanNoted command v h earlier old n → Carrying Before carried n)
        → ((n : Notes) → Carrying After (after step.next) n → NotedBehind command w h (after step.next) new step.next n)
        → (IsResting w d h (after step.next) → StandsBehind command w d h (after step.next) new step.next) → IsCached w d h
        → HasStepped command h v w d earlier (after step.next) old new step
    plan_step old new earlier d noted_before noted_behind stands_behind cached = record {
      owes = record {
        made = carried_owes.made;
        called = carried_owes.called;
        others = carried_owes.others;
        quiet = λ n noted. carried_owes.quiet n (noted_before n noted);
        owes = λ n noted.
            let (later, does, behind) = carried_owes.owes n (noted_before n noted) in (later, does, noted_behind later behind);
      };
      stands = stands_behind (carried_rests d cached);
    }

  -- a step that is equal to one that was made
  pub as_made : (old new : Plan) (earlier : Carried) (c d : Cache) (later : Carried) (step made : Step) → later ≡ after step.next → step ≡ made
      → ForgetsBehind step.next h c d
      → (ForgetsBehind made.next h c d → HasStepped command h v w d earlier (after made.next) old new made)
      → HasStepped command h v w d earlier later old new step
  as_made old new earlier c d later step made later_is step_is forgets stepped =
      subst (λ (k : Carried). HasStepped command h v w d earlier k old new step) (sym later_is)
      (subst (λ (s : Step). HasStepped command h v w d earlier (after s.next) old new s) (sym step_is)
      (stepped (subst (λ (s : Step). ForgetsBehind s.next h c d) step_is forgets)))
