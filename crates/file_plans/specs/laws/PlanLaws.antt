-- The steps of a plan: what stands at any stage, a step that was made, and one that was refused.
use Rattle.std.proofs.Common.{◌≡◌, ◌≢◌, ◌<◌, ℕ, true, None, Some, refl, ap, sym, subst, ◌∙◌}
use Rattle.std.specs.Prelude.{Err, IfErr, IfOk, Ok, Result}
use Rattle.disk_locks.specs.Consistent.{Consistent}
use Rattle.file_plans.specs.Bases.{IsBase, IsCached}
use Rattle.file_plans.specs.Calls.{Runs, block_of, file_of, is_write}
use Rattle.plan_parts.specs.Cuts.{IsUntouched}
use Rattle.plan_parts.specs.laws.CutCallLaws.{cut_untouched}
use Rattle.file_plans.specs.Plans.{HasStepped, IsRefused}
use Rattle.file_plans.specs.Stands.{At, IsOutside, NotedAt}
use Rattle.file_plans.specs.Went.{IsCutAt, LeavesOthers, NotedBehind, StandsBehind, Went}
use Rattle.file_plans.specs.declared.call.FileCall.{FileCall}
use Rattle.file_plans.specs.declared.call.FileCall.TheVariants.{Plain}
use Rattle.file_plans.specs.declared.stage.Stage.{Stage}
use Rattle.file_plans.specs.declared.state.Core.{Core}
use Rattle.file_plans.specs.laws.SeeLaws.{joined_has_key}
use Rattle.held_cache.specs.Kept.{Cache, IsFileTable}
use Rattle.host_facts.specs.Views.{WorldView}
use Rattle.host_runs.specs.Awaited.{first_block, wanted}
use Rattle.host_runs.specs.Notes.{Notes}
use Rattle.lock_store.specs.Views.{host_at}
use Rattle.lock_store.specs.declared.answers.StepNo.{StepNo}
use Rattle.plan_parts.specs.Cuts.{cut_by}
use Rattle.plan_parts.specs.QuietCalls.{Noted}
use Rattle.plan_parts.specs.Steps.{IsAtRest, OwesStep}
use Rattle.plan_parts.specs.declared.outcome.Outcome.{Outcome}
use Rattle.plan_parts.specs.laws.QuietCallLaws.{valid_now}
use Rattle.plan_parts.specs.laws.StepEndLaws.{step_cut}
use Rattle.vol_base.specs.NumberBlock.{number_block}
use Rattle.vol_base.specs.PlainCalls.{plain_call_of}
use Rattle.vol_base.specs.declared.answer.CutBy.{CutBy}
use Rattle.vol_base.specs.declared.answer.Next.{Next}
use Rattle.vol_base.specs.declared.answer.Step.{Step}
use Rattle.vol_base.specs.declared.command.Command.{Command}
use Rattle.vol_base.specs.declared.plain.PlainCall.{PlainCall}
use Rattle.vol_layout.specs.declared.geometry.Geometry.{Geometry}
use Rattle.vol_base.specs.declared.plain.PlainCall.TheVariants as calls
use Rattle.file_plans.specs.declared.stage.Stage.TheVariants as stages
use Rattle.vol_base.specs.declared.answer.Next.TheVariants as nexts
use Rattle.vol_base.specs.declared.answer.Answer.TheVariants as answers
use Rattle.vol_base.specs.declared.command.Command.TheVariants as commands
use Rattle.plan_parts.specs.declared.outcome.Outcome.TheVariants as outcomes
use Rattle.lock_store.specs.declared.answers.StepNo.TheVariants as steps
use Rattle.file_plans.specs.laws.RestLaws.{on_file, write_asked}
use Rattle.host_runs.specs.lemmas.OrderlyPlaced.{some_same}
use Rattle.held_cache.specs.Kept.{ForgetsHost}

-- what stands at each stage of the host and of what is kept for it
pub record StandsAt (v : WorldView) (c : Cache) (core : Core) (stage : Stage) : Type 0 where
  pub host : core.host < v.locks.geometry.hosts
  pub file : file_of core.call < v.locks.geometry.files
  pub joined : (host_at v.locks core.host).joined ≡ true
  pub cached : IsCached v c core.host
  pub noted : (command : Command) (n : Notes) → stage ≢ stages.Asks → NotedAt command v core stage n → Noted command core.host v core.outcome n

from_base : (v : WorldView) (c : Cache) (core : Core) (stage : Stage) → IsBase v c core
    → ((command : Command) (n : Notes) → NotedAt command v core stage n → Noted command core.host v core.outcome n) → StandsAt v c core stage
from_base v c core stage base noted = record {
  host = base.host;
  file = base.file;
  joined = base.joined;
  cached = base.cached;
  noted = λ command n apart at. noted command n at;
}

from_outside : (v : WorldView) (c : Cache) (core : Core) (stage : Stage) → IsOutside v c core
    → ((command : Command) (n : Notes) → stage ≢ stages.Asks → NotedAt command v core stage n → Noted command core.host v outcomes.Open n)
    → StandsAt v c core stage
from_outside v c core stage is noted = record {
  host = is.host;
  file = is.file;
  joined = is.ready.joined;
  cached = is.cached;
  noted = λ command n apart at. subst (λ (o : Outcome). Noted command core.host v o n) (sym is.comes) (noted command n apart at);
}

pub stands_at : (v : WorldView) (c : Cache) (core : Core) (stage : Stage) → At v c core stage → StandsAt v c core stage
stands_at v c core stages.Asks at = from_outside v c core stages.Asks at.0 (λ command n apart noted. absurd (apart refl))
stands_at v c core stages.Begins at = from_outside v c core stages.Begins at (λ command n apart noted. noted.noted)
stands_at v c core (stages.Writes t) at = from_outside v c core (stages.Writes t) at.0 (λ command n apart noted. noted.1.noted)
stands_at v c core (stages.Reads t) at = from_outside v c core (stages.Reads t) at.0 (λ command n apart noted. noted.noted)
stands_at v c core (stages.GivesBack t) at = from_outside v c core (stages.GivesBack t) at.0 (λ command n apart noted. noted.noted)
stands_at v c core stages.Sees at = from_base v c core stages.Sees at.0.base (λ command n noted. noted)
stands_at v c core (stages.Searches old shared search) at =
    from_base v c core (stages.Searches old shared search) at.0.base (λ command n noted. noted)
stands_at v c core (stages.LocksShared old d group) at =
    from_base v c core (stages.LocksShared old d group) at.0.base (λ command n noted. noted)
stands_at v c core (stages.FetchesShared old d group) at =
    from_base v c core (stages.FetchesShared old d group) at.0.base (λ command n noted. noted)
stands_at v c core (stages.Puts fresh) at = from_base v c core (stages.Puts fresh) at.comes.base (λ command n noted. noted)
stands_at v c core (stages.Fills fresh) at = from_base v c core (stages.Fills fresh) at.0.comes.base (λ command n noted. noted)
stands_at v c core (stages.Locks change) at = from_base v c core (stages.Locks change) at.0.base (λ command n noted. noted)
stands_at v c core (stages.Fetches change) at = from_base v c core (stages.Fetches change) at.0.base (λ command n noted. noted)
stands_at v c core (stages.Changes change group) at = from_base v c core (stages.Changes change group) at.0.base (λ command n noted. noted)
stands_at v c core (stages.Applies a) at = from_base v c core (stages.Applies a) at.0 (λ command n noted. noted)
stands_at v c core stages.Frees at = from_base v c core stages.Frees at.0 (λ command n noted. noted)
stands_at v c core stages.Over at = absurd at

-- a step that was made
pub went_steps : (v w : WorldView) (d : Cache) (old new : Core) (before : Stage) (step : Step) (after : Stage)
    → Went v w d old new before step after → HasStepped v w d old new before step after step.next
went_steps v w d old new before step after went = cases step.next refl
  where
    cases : (next : Next) → step.next ≡ next → HasStepped v w d old new before step after next
    cases nexts.More is = went
    cases (nexts.Work block) is = absurd (subst (λ (n : Next). StandsBehind w d new n after) is went.stands)
    cases (nexts.Answered answer) is = record {
      cached = went.cached;
      in_range = went.in_range;
      owes = λ command runs.
          subst (λ (h : ℕ). OwesStep command old.host v w step (NotedAt command v old before) (λ n. IsAtRest w h n)) went.host
          (subst (λ (n : Next). OwesStep command old.host v w step (NotedAt command v old before) (NotedBehind command w new n after)) is
          (went.owes command runs));
    }

pub oks_steps : (v w : WorldView) (d : Cache) (old new : Core) (before : Stage) (result : Result (Step × Stage) StepNo)
    → IfOk result (λ r. Went v w d old new before r.0 r.1) → IfOk result (λ r. HasStepped v w d old new before r.0 r.1 r.0.next)
oks_steps v w d old new before (Ok r) went = went_steps v w d old new before r.0 r.1 went
oks_steps v w d old new before (Err why) went = tt

-- the stage as the code has it
pub oks_at : (v w : WorldView) (d : Cache) (old new : Core) (before at : Stage) (result : Result (Step × Stage) StepNo) → before ≡ at
    → IfOk result (λ r. Went v w d old new at r.0 r.1) → IfOk result (λ r. HasStepped v w d old new before r.0 r.1 r.0.next)
oks_at v w d old new before at result is went =
    subst (λ (s : Stage). IfOk result (λ r. HasStepped v w d old new s r.0 r.1 r.0.next)) (sym is) (oks_steps v w d old new at result went)

pub errs_at : (v w : WorldView) (core : Core) (before at : Stage) (result : Result (Step × Stage) StepNo) → before ≡ at
    → IfErr result (IsRefused v w core at) → IfErr result (IsRefused v w core before)
errs_at v w core before at result is cut = subst (λ (s : Stage). IfErr result (IsRefused v w core s)) (sym is) cut

refused_cut : (v w : WorldView) (core : Core) (stage : Stage) (why : StepNo) → IsRefused v w core stage why
    → (stage ≢ stages.Asks) × IsCutAt v w core stage why
refused_cut v w core stages.Asks why refused = absurd refused
refused_cut v w core stage why refused = ((λ is. cc), refused)

-- nothing is kept for a host that was cut
cached_nothing : (w : WorldView) (c d : Cache) (h : ℕ) → c.volume ≡ w.locks.geometry → ForgetsHost c d h → IsCached w d h
cached_nothing w c d h volume forgets = record {
  volume = forgets.volume ∙ volume;
  known = λ t p there kept.
      let both : None ≡ Some p =
      sym (forgets.forgotten t (subst (λ (g : Geometry). IsFileTable g t) (sym volume) there)) ∙ kept in absurd cc;
}

-- a step that was refused, but for want of memory, cuts its command
pub cut_steps : (v w : WorldView) (c e d : Cache) (old new : Core) (before : Stage) (why : StepNo) (by : CutBy) (step : Step)
    → At v c old before → Consistent v.locks → IsRefused v w old before why → cut_by why ≡ Some by
    → LeavesOthers old.host c e → ForgetsHost e d old.host → w.locks.geometry ≡ v.locks.geometry
    → step ≡ record { placed = None; called = true; next = nexts.Answered (answers.Cut by) }
    → HasStepped v w d old new before step stages.Over step.next
cut_steps v w c e d old new before why by step at consistent refused is leaves forgets geometry made =
    let (apart, cuts) = refused_cut v w old before why refused in
    let stands = stands_at v c old before at in
    subst (λ (s : Step). HasStepped v w d old new before s stages.Over s.next) (sym made) (record {
      cached = cached_nothing w e d old.host (leaves.volume ∙ stands.cached.volume ∙ sym geometry) forgets;
      in_range = tt;
      owes = λ command runs.
          step_cut command old.host v w why by old.outcome (NotedAt command v old before) is (on_file command old.call runs)
          (joined_has_key v old.host consistent stands.joined) (valid_now v consistent) (λ n noted. stands.noted command n apart noted)
          (cuts command runs);
    })

-- or nothing was done
pub untouched : (v w : WorldView) (core : Core) (before : Stage) → IsRefused v w core before steps.NoMemory
    → (command : Command) → Runs command core.call → IsUntouched core.host v w
untouched v w core before refused command runs =
    cut_untouched command core.host v w (NotedAt command v core before) ((refused_cut v w core before steps.NoMemory refused).1 command runs)

-- a write asks for the digest of its block
pub asks_wants : (v : WorldView) (core : Core) → is_write core.call ≡ true → (command : Command) (n : Notes) → Runs command core.call
    → NotedAt command v core stages.Asks n → wanted v.locks.geometry command n.calls n.digests n.asks ≡ Some (block_of core.call)
asks_wants v core write command n runs asking =
    ap (λ (m : Notes). wanted v.locks.geometry command m.calls m.digests m.asks) asking.between
    ∙ asked v.locks.geometry command core.call write runs
  where
    same_block : (command : Command) (call : PlainCall) (f i n : ℕ) → plain_call_of command ≡ Some call → command ≡ commands.Write f i n
        → block_of (Plain call) ≡ number_block n
    same_block command call f i n runs is =
        let both : plain_call_of (commands.Write f i n) ≡ Some call = subst (λ (k : Command). plain_call_of k ≡ Some call) is runs in
        ap (λ (k : PlainCall). block_of (Plain k)) (sym (some_same _ call both))

    asked : (g : Geometry) (command : Command) (call : FileCall) → is_write call ≡ true → Runs command call
        → first_block g command ≡ Some (block_of call)
    asked g command (Plain (calls.Write f i block)) write runs =
        let w = write_asked command f i block runs in
        subst (λ (k : Command). first_block g k ≡ Some block) (sym w.3)
        (ap Some (sym (same_block command (calls.Write f i block) w.0 w.1 w.2 runs w.3)))
    asked g command call write runs = absurd cc
