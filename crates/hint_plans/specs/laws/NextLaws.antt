-- A step that was refused is answered as a cut, or did nothing where there was no memory; and what a step says.
use Rattle.std.proofs.Common.{◌≡◌, ◌∙◌, ◌<◌, ℕ, [], Some, arith, subst, sym, List, refl}
use Rattle.vol_base.specs.declared.answer.Answer.TheVariants.{Cut}
use Rattle.vol_base.specs.declared.answer.CutBy.{CutBy}
use Rattle.vol_base.specs.declared.answer.Step.{Step}
use Rattle.vol_base.specs.declared.command.Command.TheVariants as commands
use Rattle.hint_blocks.specs.declared.entry.LogEntry.{LogEntry}
use Rattle.hint_blocks.specs.HintLists.{HintList}
use Rattle.lock_store.specs.declared.answers.StepNo.{StepNo}
use Rattle.disk_locks.specs.Consistent.{Consistent}
use Rattle.host_facts.specs.Views.{WorldView}
use Rattle.host_notes.specs.CutTurns.{ComesToCall}
use Rattle.host_notes.specs.VolumeTurns.{IsOnVolume}
use Rattle.host_runs.specs.Notes.{Notes}
use Rattle.host_notes.specs.FileTurns.{IsOnFile}
use Rattle.vol_base.specs.declared.answer.Next.TheVariants as nexts
use Rattle.plan_parts.specs.Steps.{IsAtRest, OwesStep}
use Rattle.plan_parts.specs.Cuts.{IsUntouched, cut_by}
use Rattle.plan_parts.specs.laws.StepEndLaws.{step_cut}
use Rattle.hint_plans.specs.laws.FirstLaws.{open_noted}
use Rattle.hint_plans.specs.laws.ScanLaws.{many_few}
use Rattle.vol_base.specs.declared.command.Command.TheVariants as commands
use Rattle.plan_parts.specs.QuietCalls.{Noted}
use Rattle.plan_parts.specs.declared.outcome.Outcome.TheVariants.{Open}
use Rattle.plan_parts.specs.laws.CutCallLaws.{cut_untouched}
use Rattle.plan_parts.specs.laws.QuietCallLaws.{valid_now}
use Rattle.plan_parts.specs.laws.VolumeSteps.{volume_step_cut}
use Rattle.lock_store.specs.declared.answers.StepNo.TheVariants as steps
use Rattle.hint_plans.specs.Nexts.{HasStepped}
use Rattle.hint_plans.specs.Plans.{Agrees, Came, HasCome, MayStop, PlanStands, command_of, later_of, left, step_of, IsCutAt, called_step}
use Rattle.hint_plans.specs.declared.plan.Come.{Come}
use Rattle.hint_plans.specs.declared.plan.Come.TheVariants.{Answered}
use Rattle.hint_plans.specs.declared.plan.Doing.{Doing}
use Rattle.hint_plans.specs.declared.plan.Doing.TheVariants as doings
use Rattle.hint_plans.specs.laws.EndLaws.{cut_pending, ended_rests}
use Rattle.hint_plans.specs.laws.HostLaws.{ready_key}

-- a step that was refused is answered as a cut, and nothing is pending
module _ (v w : WorldView) (h : ℕ) (pending : HintList LogEntry) (doing : Doing) (why : StepNo) (by : CutBy) (c : Consistent v.locks)
    (stands : PlanStands v h pending doing) (cut : IsCutAt h v w pending.entries doing why) (is : cut_by why ≡ Some by)
    (some : 0 < left v.locks.geometry doing) (noted : (n : Notes) → Agrees h v pending.entries doing n → Noted (command_of doing) h v Open n)
  where
    stopped_by : OwesStep (command_of doing) h v w (called_step (nexts.Answered (Cut by))) (Agrees h v pending.entries doing) (IsAtRest w h)
        → Came h v w pending (record { geometry = v.locks.geometry; entries = [] }) doing (Answered (Cut by))
    stopped_by owes = record {
      owes = ended_rests (command_of doing) h v w (Cut by) (Agrees h v pending.entries doing) []
          (λ n m later before old same kept. cut_pending (command_of doing) by m later kept) owes;
      stands = sym cut.1.geometry;
      tables = λ uncut. absurd uncut;
      writes = λ uncut. absurd uncut;
      fewer = some;
    }

    -- a command on the volume that came to a call, and a scan
    stopped : (on : IsOnVolume (command_of doing))
        → ((n : Notes) → Agrees h v pending.entries doing n → ComesToCall v.locks.geometry (command_of doing) n)
        → Came h v w pending (record { geometry = v.locks.geometry; entries = [] }) doing (Answered (Cut by))
    stopped on comes =
        stopped_by (volume_step_cut (command_of doing) h v w why by Open (Agrees h v pending.entries doing) is on
        (ready_key v h c stands.is_host.ready) (valid_now v c) comes noted cut)

    stopped_scan : (on : IsOnFile (command_of doing))
        → Came h v w pending (record { geometry = v.locks.geometry; entries = [] }) doing (Answered (Cut by))
    stopped_scan on =
        stopped_by (step_cut (command_of doing) h v w why by Open (Agrees h v pending.entries doing) is on
        (ready_key v h c stands.is_host.ready) (valid_now v c) noted cut)

-- at each stage at which a call is made
pub stopped_came : (v w : WorldView) (h : ℕ) (pending : HintList LogEntry) (doing : Doing) (why : StepNo) (by : CutBy) → Consistent v.locks
    → PlanStands v h pending doing → MayStop pending.entries doing → IsCutAt h v w pending.entries doing why → cut_by why ≡ Some by
    → HasCome h v w pending (record { geometry = v.locks.geometry; entries = [] }) doing (Answered (Cut by))
stopped_came v w h pending (doings.Asks s) why by c stands may cut is = absurd may
stopped_came v w h pending (doings.Puts s digest) why by c stands may cut is =
    stopped v w h pending (doings.Puts s digest) why by c stands cut is (omega arith) (λ n noted. noted.0.noted) tt (λ n noted. stands.at)
stopped_came v w h pending (doings.ReadsLog l) why by c stands may cut is =
    stopped v w h pending (doings.ReadsLog l) why by c stands cut is (omega arith) (λ n noted. noted.0.noted) tt
    (λ n noted none. may (sym noted.0.pending_is ∙ none))
stopped_came v w h pending (doings.WritesLog l) why by c stands may cut is =
    stopped v w h pending (doings.WritesLog l) why by c stands cut is (omega arith) (λ n noted. noted.0.noted) tt
    (λ n noted none. stands.at.1 (sym noted.0.pending_is ∙ none))
stopped_came v w h pending (doings.BeginsScan f i) why by c stands may cut is =
    stopped_scan v w h pending (doings.BeginsScan f i) why by c stands cut is (omega arith)
    (λ n noted. (open_noted v h pending.entries n noted (commands.Scan f i) refl).noted) refl
stopped_came v w h pending (doings.HoldsFile f i t) why by c stands may cut is =
    stopped_scan v w h pending (doings.HoldsFile f i t) why by c stands cut is (omega arith) (λ n noted. noted.0.1.noted) refl
stopped_came v w h pending (doings.ReadsHead f i) why by c stands may cut is =
    stopped_scan v w h pending (doings.ReadsHead f i) why by c stands cut is (omega arith) (λ n noted. noted.0.noted) refl
stopped_came v w h pending (doings.ReadsTable s) why by c stands may cut is =
    let below = stands.at.1 in
    let few = many_few v h s stands.at.0 in
    stopped_scan v w h pending (doings.ReadsTable s) why by c stands cut is (omega (arith, below, few)) (λ n noted. noted.0.noted) refl
stopped_came v w h pending (doings.ReadsBlock s) why by c stands may cut is =
    stopped_scan v w h pending (doings.ReadsBlock s) why by c stands cut is (omega arith) (λ n noted. noted.noted) refl
stopped_came v w h pending (doings.AsksBlock s block) why by c stands may cut is = absurd may
stopped_came v w h pending doings.Ended why by c stands may cut is = absurd stands.at

-- or it did nothing
pub untouched : (v w : WorldView) (h : ℕ) (pending : List LogEntry) (doing : Doing) (why : StepNo) → IsCutAt h v w pending doing why
    → why ≡ steps.NoMemory → IsUntouched h v w
untouched v w h pending doing why cut is =
    cut_untouched (command_of doing) h v w (Agrees h v pending doing) (subst (IsCutAt h v w pending doing) is cut)

-- the step that says what was done
pub has_stepped : (h : ℕ) (v w : WorldView) (pending after : HintList LogEntry) (doing was later : Doing) (come : Come) (step : Step)
    → doing ≡ was → step ≡ step_of come → later ≡ later_of come → HasCome h v w pending after doing come
    → HasStepped h v w pending after was later step
has_stepped h v w pending after doing was later come step is step_is later_is came = record {
  come = come;
  step_is = step_is;
  later_is = later_is;
  came = subst (λ (d : Doing). HasCome h v w pending after d come) is came;
}

-- as the code has it
pub cut_came : (v w : WorldView) (h : ℕ) (pending after : HintList LogEntry) (doing : Doing) (why : StepNo) (by : CutBy) (come : Come)
    → Consistent v.locks → PlanStands v h pending doing → MayStop pending.entries doing → IsCutAt h v w pending.entries doing why → cut_by why ≡ Some by
    → come ≡ Answered (Cut by) → after ≡ record { geometry = v.locks.geometry; entries = [] } → HasCome h v w pending after doing come
cut_came v w h pending after doing why by come c stands may cut is come_is none =
    subst (λ (k : Come). HasCome h v w pending after doing k) (sym come_is)
    (subst (λ (p : HintList LogEntry). HasCome h v w pending p doing (Answered (Cut by))) (sym none)
    (stopped_came v w h pending doing why by c stands may cut is))
