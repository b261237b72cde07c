-- A step of a command on hints is a step of a plan, and what it waits for.
use Rattle.std.proofs.Common.{◌≡◌, ◌≢◌, ◌<◌, ◌++◌, ◌∷◌, ℕ, true, List, [], Option, Some, None, refl, ap, sym, subst, ◌∙◌}
use Rattle.vol_base.specs.declared.answer.Answer.TheVariants as answers
use Rattle.vol_base.specs.declared.answer.CutBy.{CutBy}
use Rattle.vol_base.specs.declared.answer.Next.{Next}
use Rattle.vol_base.specs.declared.answer.Next.TheVariants as nexts
use Rattle.vol_base.specs.declared.answer.Step.{Step}
use Rattle.vol_base.specs.declared.block.Block.{Block}
use Rattle.vol_base.specs.declared.block.Digest.{Digest}
use Rattle.vol_base.specs.declared.command.Command.{Command}
use Rattle.vol_base.specs.declared.command.Command.TheVariants as commands
use Rattle.vol_layout.specs.declared.geometry.Geometry.{Geometry}
use Rattle.held_cache.specs.Kept.{Cache}
use Rattle.hint_blocks.specs.declared.entry.LogEntry.{LogEntry}
use Rattle.hint_blocks.specs.HintLists.{HintList}
use Rattle.hint_plans.specs.Nexts as steps
use Rattle.hint_plans.specs.Plans.{Agrees, Behind, Came, HasCome, IsUncut, OpenNoted, command_of, later_of, step_of}
use Rattle.hint_plans.specs.Plans as plans
use Rattle.hint_plans.specs.declared.plan.Come.{Come}
use Rattle.hint_plans.specs.declared.plan.Come.TheVariants as comes
use Rattle.hint_plans.specs.declared.plan.Doing.{Doing}
use Rattle.hint_plans.specs.declared.plan.Doing.TheVariants as doings
use Rattle.hint_plans.specs.declared.plan.HintPlan.{HintPlan}
use Rattle.host_facts.specs.Others.{Others}
use Rattle.host_facts.specs.Views.{WorldView}
use Rattle.host_notes.specs.Owes.{joined_in}
use Rattle.host_notes.specs.Remembered.{IsRemembered}
use Rattle.host_runs.specs.Awaited.{wanted}
use Rattle.host_runs.specs.Notes.{NotedCall, Notes}
use Rattle.lock_store.specs.Views.{host_at}
use Rattle.cluster.specs.Asking.{doing_asks}
use Rattle.cluster.specs.Carries.{looks_behind}
use Rattle.cluster.specs.PlanTurns.{IsSooner}
use Rattle.cluster.specs.Plans.{ForgetsBehind, HasStepped, IsResting, NotedBehind, PlanAt, PlanNoted, StandsBehind}
use Rattle.cluster.specs.declared.carried.Carried.{Carried}
use Rattle.cluster.specs.declared.plan.Plan.TheVariants.{Hints}
use Rattle.cluster.specs.laws.SlotSteps.{kept}
use Rattle.cluster.specs.laws.VolumeSteps.{IsOffSlots, Watching, volume_owes, volume_watched}

-- no command on hints is one on slots
off_slots : (doing : Doing) → IsOffSlots (command_of doing)
off_slots (doings.Asks s) = tt
off_slots (doings.Puts s digest) = tt
off_slots (doings.ReadsLog l) = tt
off_slots (doings.WritesLog l) = tt
off_slots (doings.BeginsScan f i) = tt
off_slots (doings.HoldsFile f i t) = tt
off_slots (doings.ReadsHead f i) = tt
off_slots (doings.ReadsTable s) = tt
off_slots (doings.ReadsBlock s) = tt
off_slots (doings.AsksBlock s block) = tt
off_slots doings.Ended = tt

-- and each is one of a joined host
pub hints_joined : (doing : Doing) → joined_in (command_of doing) ≡ true
hints_joined (doings.Asks s) = refl
hints_joined (doings.Puts s digest) = refl
hints_joined (doings.ReadsLog l) = refl
hints_joined (doings.WritesLog l) = refl
hints_joined (doings.BeginsScan f i) = refl
hints_joined (doings.HoldsFile f i t) = refl
hints_joined (doings.ReadsHead f i) = refl
hints_joined (doings.ReadsTable s) = refl
hints_joined (doings.ReadsBlock s) = refl
hints_joined (doings.AsksBlock s block) = refl
hints_joined doings.Ended = refl

-- the notes agree with the memory
hint_remembered : (h : ℕ) (v : WorldView) (pending : List LogEntry) (doing : Doing) (n : Notes) → Agrees h v pending doing n
    → IsRemembered v.locks.geometry n.memory (host_at v.locks h)
hint_remembered h v pending (doings.Asks s) n noted = noted.rests.remembered
hint_remembered h v pending (doings.Puts s digest) n noted = noted.0.noted.remembered
hint_remembered h v pending (doings.ReadsLog l) n noted = noted.0.noted.remembered
hint_remembered h v pending (doings.WritesLog l) n noted = noted.0.noted.remembered
hint_remembered h v pending (doings.BeginsScan f i) n noted = noted.rests.remembered
hint_remembered h v pending (doings.HoldsFile f i t) n noted = noted.0.1.noted.remembered
hint_remembered h v pending (doings.ReadsHead f i) n noted = noted.0.noted.remembered
hint_remembered h v pending (doings.ReadsTable s) n noted = noted.0.noted.remembered
hint_remembered h v pending (doings.ReadsBlock s) n noted = noted.noted.remembered
hint_remembered h v pending (doings.AsksBlock s block) n noted = noted.0.noted.remembered
hint_remembered h v pending doings.Ended n noted = absurd noted

behind_remembered : (h : ℕ) (w : WorldView) (pending : List LogEntry) (come : Come) (n : Notes) → Behind h w pending come n
    → IsRemembered w.locks.geometry n.memory (host_at w.locks h)
behind_remembered h w pending (comes.More later) n noted = hint_remembered h w pending later n noted
behind_remembered h w pending (comes.Answered answer) n noted = noted.rests.remembered
behind_remembered h w pending (comes.Uncalled answer) n noted = noted.rests.remembered
behind_remembered h w pending (comes.Works later block) n noted = noted.rests.remembered

-- behind a call a command waits for what it asks for
asks_called : (g : Geometry) (command : Command) (calls : List NotedCall) (digests : List Digest) (asks : Option Block) (earlier : List NotedCall)
    (last : NotedCall) → calls ≡ earlier ++ last ∷ [] → wanted g command calls digests asks ≡ asks
asks_called g command [] digests asks [] last is = absurd cc
asks_called g command [] digests asks (c ∷ earlier) last is = absurd cc
asks_called g command (call ∷ calls) digests asks earlier last is = refl

-- the block that a command on hints waits for
module _ (g : Geometry) (v : WorldView) (h : ℕ) (pending : List LogEntry) (same : v.locks.geometry ≡ g) where
  at_rest : (command : Command) (n : Notes) → plans.RestsWith h v pending n
      → wanted g command n.calls n.digests n.asks ≡ wanted g command [] [] None
  at_rest command n noted = ap (λ (m : Notes). wanted g command m.calls m.digests m.asks) noted.rests.between

  as_here : (command : Command) (n : Notes) → wanted v.locks.geometry command n.calls n.digests n.asks ≡ None
      → wanted g command n.calls n.digests n.asks ≡ None
  as_here command n none = subst (λ (k : Geometry). wanted k command n.calls n.digests n.asks ≡ None) same none

  pub hints_wait : (doing : Doing) (n : Notes) → Agrees h v pending doing n
      → wanted g (command_of doing) n.calls n.digests n.asks ≡ doing_asks g doing
  hints_wait (doings.Asks s) n noted = at_rest (commands.Scribble s.place s.number s.seen) n noted
  hints_wait (doings.Puts s digest) n noted = as_here (commands.Scribble s.place s.number s.seen) n noted.0.noted.wants
  hints_wait (doings.ReadsLog l) n noted = as_here commands.Log n noted.0.noted.wants
  hints_wait (doings.WritesLog l) n noted = as_here commands.Log n noted.0.noted.wants
  hints_wait (doings.BeginsScan f i) n noted = at_rest (commands.Scan f i) n noted
  hints_wait (doings.HoldsFile f i t) n noted = as_here (commands.Scan f i) n noted.0.1.noted.wants
  hints_wait (doings.ReadsHead f i) n noted = as_here (commands.Scan f i) n noted.0.noted.wants
  hints_wait (doings.ReadsTable s) n noted = as_here (commands.Scan s.file s.index) n noted.0.noted.wants
  hints_wait (doings.ReadsBlock s) n noted = as_here (commands.Scan s.file s.index) n noted.noted.wants
  hints_wait (doings.AsksBlock s block) n noted =
      asks_called g (commands.Scan s.file s.index) n.calls n.digests n.asks noted.0.seen.earlier noted.0.seen.last noted.0.seen.calls_are ∙ noted.1
  hints_wait doings.Ended n noted = absurd noted

-- a step that was made
abbrev pub IsMade : Come → Type 0
IsMade (comes.Works later block) = ⊥
IsMade come = Unit {0}

uncut_of : (come : Come) → ((by : CutBy) → (step_of come).next ≢ nexts.Answered (answers.Cut by)) → IsUncut come
uncut_of (comes.Answered (answers.Cut by)) uncut = absurd (uncut by refl)
uncut_of come uncut = tt

module _ (v w : WorldView) (c d : Cache) (h : ℕ) (carried : Carried) (pending : HintList LogEntry) (old new : HintPlan) (host : new.host ≡ h)
    (others : Others h v w) (at : PlanAt v c h carried (Hints old))
    (some : (n : Notes) × PlanNoted (command_of old.doing) v h carried (Hints old) n) where
  abbrev command : Command
  command = command_of old.doing

  abbrev Before : Notes → Type 0
  Before n = Agrees h v carried.pending.entries old.doing n

  was : (n : Notes) → Before n → IsRemembered v.locks.geometry n.memory (host_at v.locks h)
  was n noted = hint_remembered h v carried.pending.entries old.doing n noted

  abbrev after : Next → Carried
  after next = record carried { watch = looks_behind next carried.watch; pending = pending }

  watching : (n : Notes) × Watching Before carried.watch n
  watching = (some.0, some.1)

  module _ (come : Come) (made : IsMade come) (is : new.doing ≡ later_of come) (came : Came h v w carried.pending pending old.doing come)
      (forgets : ForgetsBehind (step_of come).next h c d) where
    noted_of : (come : Come) (n : Notes) → IsMade come → new.doing ≡ later_of come → Behind h w pending.entries come n
        → n.watch ≡ looks_behind (step_of come).next carried.watch
        → NotedBehind command w h (after (step_of come).next) (Hints new) (step_of come).next n
    noted_of (comes.More later) n made is noted watch =
        (subst (λ (doing : Doing). Agrees h w pending.entries doing n) (sym is) noted, watch)
    noted_of (comes.Answered answer) n made is noted watch =
        record { rests = noted.rests; watch_is = watch; pending_is = noted.pending_is }
    noted_of (comes.Uncalled answer) n made is noted watch =
        record { rests = noted.rests; watch_is = watch; pending_is = noted.pending_is }
    noted_of (comes.Works later block) n made is noted watch = absurd made

    volume_of : (come : Come) → plans.StandsBehind w h pending old.doing come → pending.geometry ≡ w.locks.geometry
    volume_of (comes.More later) stands = stands.0.is_host.volume
    volume_of (comes.Answered answer) stands = stands
    volume_of (comes.Uncalled answer) stands = stands
    volume_of (comes.Works later block) stands = stands

    rests : IsResting w d h (after (step_of come).next)
    rests = record {
      watched = volume_watched command (off_slots old.doing) v w h carried.watch others at.1.watched Before was watching (step_of come)
          (Behind h w pending.entries come) (behind_remembered h w pending.entries come) came.owes;
      volume = volume_of come came.stands;
      cached = kept v w c c d h others at.1.cached refl (step_of come).next (λ uncut t p there. came.tables (uncut_of come uncut) t p) forgets;
    }

    stands_of : (come : Come) → IsMade come → new.doing ≡ later_of come → plans.StandsBehind w h pending old.doing come
        → IsResting w d h (after (step_of come).next)
        → StandsBehind command w d h (after (step_of come).next) (Hints new) (step_of come).next
    stands_of (comes.More later) made is stands resting = (
      (host, ap command_of is ∙ stands.1),
      (subst (λ (doing : Doing). plans.PlanStands w h pending doing) (sym is) stands.0, resting),
    )
    stands_of (comes.Answered answer) made is stands resting = resting
    stands_of (comes.Uncalled answer) made is stands resting = resting
    stands_of (comes.Works later block) made is stands resting = absurd made

    came_step : HasStepped command h v w d carried (after (step_of come).next) (Hints old) (Hints new) (step_of come)
    came_step =
        let owes = volume_owes command (off_slots old.doing) v w h carried.watch others at.1.watched Before was watching (step_of come)
        (Behind h w pending.entries come) (behind_remembered h w pending.entries come) came.owes in record {
          owes = record {
            made = owes.made;
            called = owes.called;
            others = owes.others;
            quiet = λ n noted. owes.quiet n noted;
            owes = λ n noted.
                let (later, does, behind) = owes.owes n noted in (later, does, noted_of come later made is behind.0 behind.1);
          };
          stands = stands_of come made is came.stands rests;
        }

  -- no digest is waited for
  waiting : doing_asks v.locks.geometry old.doing ≡ None → (later : Doing) (block : Block)
      → plans.IsWaiting h v w carried.pending pending old.doing later block → ⊥
  waiting unasked later block waits =
      let both : Some block ≡ None =
      sym (waits.wants some.0 some.1.0) ∙ hints_wait v.locks.geometry v h carried.pending.entries refl old.doing some.0 some.1.0 ∙ unasked in absurd cc

  come_step : doing_asks v.locks.geometry old.doing ≡ None → (come : Come) → new.doing ≡ later_of come
      → HasCome h v w carried.pending pending old.doing come → ForgetsBehind (step_of come).next h c d
      → HasStepped command h v w d carried (after (step_of come).next) (Hints old) (Hints new) (step_of come)
  come_step unasked (comes.More later) is came forgets = came_step (comes.More later) tt is came forgets
  come_step unasked (comes.Answered answer) is came forgets = came_step (comes.Answered answer) tt is came forgets
  come_step unasked (comes.Uncalled answer) is came forgets = came_step (comes.Uncalled answer) tt is came forgets
  come_step unasked (comes.Works later block) is waits forgets = absurd (waiting unasked later block waits)

  pub hint_step : (step : Step) (then : Carried) → doing_asks v.locks.geometry old.doing ≡ None → then ≡ after step.next
      → ForgetsBehind step.next h c d → steps.HasStepped h v w carried.pending pending old.doing new.doing step
      → HasStepped command h v w d carried then (Hints old) (Hints new) step
  hint_step step then unasked then_is forgets did =
      subst (λ (k : Carried). HasStepped command h v w d carried k (Hints old) (Hints new) step) (sym then_is)
      (subst (λ (s : Step). HasStepped command h v w d carried (after s.next) (Hints old) (Hints new) s) (sym did.step_is)
      (come_step unasked did.come did.later_is did.came (subst (λ (s : Step). ForgetsBehind s.next h c d) did.step_is forgets)))

  -- fewer turns are left
  come_left : (come : Come) → HasCome h v w carried.pending pending old.doing come → (step_of come).next ≡ nexts.More → new.doing ≡ later_of come
      → plans.left w.locks.geometry new.doing < plans.left v.locks.geometry old.doing
  come_left (comes.More later) came more is =
      subst (λ (doing : Doing). plans.left w.locks.geometry doing < plans.left v.locks.geometry old.doing) (sym is) came.fewer
  come_left (comes.Answered answer) came more is = absurd cc
  come_left (comes.Uncalled answer) came more is = absurd cc
  come_left (comes.Works later block) came more is = absurd cc

  pub hint_sooner : (step : Step) (then : Carried) → steps.HasStepped h v w carried.pending pending old.doing new.doing step
      → IsSooner v c carried (Hints old) w d then (Hints new) step.next
  hint_sooner step then did more = come_left did.come did.came (sym (ap (λ (s : Step). s.next) did.step_is) ∙ more) did.later_is
