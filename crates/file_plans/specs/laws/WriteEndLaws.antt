-- How a step of a transaction ends: the plan goes on to a stage that stands, a record was written, the command comes to an outcome, or it
-- is cut.
use Rattle.std.proofs.Common.{◌≡◌, ℕ, true, false, List, [], None, Option, Some, refl, ap, sym, subst}
use Rattle.std.specs.Option.{option_or}
use Rattle.vol_base.specs.declared.block.Key.{Key}
use Rattle.vol_base.specs.declared.answer.Next.TheVariants as nexts
use Rattle.vol_base.specs.declared.answer.Step.{Step}
use Rattle.vol_base.specs.declared.command.Command.{Command}
use Rattle.vol_base.specs.declared.command.Command.TheVariants as commands
use Rattle.vol_base.specs.declared.plain.PlainCall.{PlainCall}
use Rattle.vol_base.specs.declared.plain.PlainReply.{PlainReply}
use Rattle.vol_base.specs.declared.plain.PlainReply.TheVariants as replies
use Rattle.vol_layout.specs.declared.field.Edit.{Edit}
use Rattle.vol_layout.specs.declared.kind.Resource.{Resource}
use Rattle.shared_disk.specs.Events.{Event}
use Rattle.lock_store.specs.declared.answers.StepNo.{StepNo}
use Rattle.disk_locks.specs.Consistent.{Consistent}
use Rattle.held_cache.specs.Kept.{Cache}
use Rattle.host_facts.specs.Facts.Fact.{RecordIs}
use Rattle.host_facts.specs.Knows.{Knows}
use Rattle.host_facts.specs.Views.{WorldView}
use Rattle.host_runs.specs.Notes.{Notes, with_place}
use Rattle.host_runs.specs.Tries.{frees_locks}
use Rattle.plan_parts.specs.Cuts.{IsCut}
use Rattle.plan_parts.specs.PlacedCalls.{PlacedCall}
use Rattle.plan_parts.specs.QuietCalls.{Noted, Quiet, QuietCall, placed_of}
use Rattle.plan_parts.specs.Fetched.{LockBusy}
use Rattle.plan_parts.specs.declared.applying.Applying.{Applying}
use Rattle.plan_parts.specs.declared.outcome.Outcome.{Outcome}
use Rattle.plan_parts.specs.declared.outcome.Outcome.TheVariants as outcomes
use Rattle.plan_parts.specs.laws.CutCallLaws.{cut_weaker}
use Rattle.plan_parts.specs.laws.PlacedLaws.{noted_placed, quiet_placed}
use Rattle.file_plans.specs.Bases.{IsBase, IsCached, MayComeTo}
use Rattle.file_plans.specs.Calls.{Runs, is_write}
use Rattle.file_plans.specs.Commits.{HasCommitted}
use Rattle.file_plans.specs.Sights.{MayPlace, MayReply}
use Rattle.file_plans.specs.Stands.{At, IsOpenBase, NotedAt}
use Rattle.file_plans.specs.Went.{IsCutAt, IsRest, Went}
use Rattle.file_plans.specs.declared.call.FileCall.{FileCall}
use Rattle.file_plans.specs.declared.call.FileCall.TheVariants.{Close, Plain}
use Rattle.file_plans.specs.declared.state.Core.{Core}
use Rattle.file_plans.specs.declared.stage.Stage.{Stage}
use Rattle.file_plans.specs.declared.stage.Stage.TheVariants as stages
use Rattle.file_plans.specs.laws.RestLaws.{went_on, went_rest}
use Rattle.file_plans.specs.laws.BaseLaws.{IsStill, base_key, base_still, coming, still_looks}

-- a command on a file frees no dead host's locks
frees_none : (command : Command) (call : FileCall) → Runs command call → frees_locks command ≡ false
frees_none commands.Join (Plain call) runs = absurd cc
frees_none (commands.Recover of) (Plain call) runs = absurd cc
frees_none command (Plain call) runs = refl
frees_none command (Close f) runs = subst (λ (c : Command). frees_locks c ≡ false) (sym runs) refl

may_busy : (call : FileCall) (key : Key) → MayComeTo call (outcomes.Busy key)
may_busy (Plain call) key = tt
may_busy (Close f) key = tt

pub may_full : (call : FileCall) → is_write call ≡ true → MayComeTo call outcomes.Full
may_full (Plain call) is = is
may_full (Close f) is = is

-- notes to which no place is added
unplaced : (command : Command) (h : ℕ) (v : WorldView) (outcome : Outcome) (n : Notes) → Noted command h v outcome n
    → Noted command h v outcome (with_place None n)
unplaced command h v outcome n noted = subst (Noted command h v outcome) (sym (place_none n)) noted
  where
    none_more : (placed : Option PlainReply) → option_or placed None ≡ placed
    none_more None = refl
    none_more (Some reply) = refl

    place_none : (n : Notes) → with_place None n ≡ n
    place_none n = ap (λ (p : Option PlainReply). let m : Notes = record n { placed = p } in m) (none_more n.placed)

-- a refused step cuts the command at each stage
pub cut_at : (v w : WorldView) (core : Core) (stage : Stage) (why : StepNo) → IsCut core.host v w why → IsCutAt v w core stage why
cut_at v w core stage why cut command runs = cut_weaker command v w core.host why (NotedAt command v core stage) (cut command)

-- a step that goes on, with no place
abbrev pub goes : Step
goes = record { placed = None; called = true; next = nexts.More }

-- the same step, and the stage behind it, as the code has them
pub went_as : (v w : WorldView) (c : Cache) (core new : Core) (before : Stage) (s t : Step) (after stage : Stage) → s ≡ t → after ≡ stage
    → Went v w c core new before t stage → Went v w c core new before s after
went_as v w c core new before s t after stage step same is =
    subst (λ (x : Step). Went v w c core new before x after) (sym step)
    (subst (λ (x : Stage). Went v w c core new before t x) (sym same) is)

module _ (v w : WorldView) (c : Cache) (core : Core) (before : Stage) (is : Consistent v.locks) (later : Consistent w.locks)
    (base : IsBase v c core)
    (noted : (command : Command) (n : Notes) → NotedAt command v core before n → Noted command core.host v core.outcome n) (e : Event) where
  -- a call of the notes that stand at this stage
  pub placed_at : (placed : Option PlainReply) (command : Command) (Was After : Notes → Type 0)
      → ((n : Notes) → NotedAt command v core before n → Was n) → PlacedCall command core.host v w e placed Was After
      → PlacedCall command core.host v w e placed (NotedAt command v core before) After
  placed_at placed command Was After was call = record {
    acts = call.acts;
    answered = call.answered;
    geometry = call.geometry;
    others = call.others;
    valid = call.valid;
    files = call.files;
    file = call.file;
    allowed = λ m turn of at. call.allowed m turn of (was m.old at);
    noted = λ n at. call.noted n (was n at);
  }

  -- a call that changes no file
  calls_at : (after : Outcome) (command : Command)
      → QuietCall command core.host v w e (Noted command core.host v core.outcome) (Noted command core.host w after)
      → PlacedCall command core.host v w e None (NotedAt command v core before) (Noted command core.host w after)
  calls_at after command quiet = placed_at None command _ _ (noted command) (quiet_placed command core.host v w e _ _ quiet)

  -- it goes on to a stage that stands
  pub goes_to : (new : Core) (after : Stage) → new.host ≡ core.host → new.call ≡ core.call → IsBase w c new → At w c new after
      → ((command : Command) (n : Notes) → Noted command core.host w core.outcome n → NotedAt command w new after n)
      → Quiet core.host v w e → Went v w c core new before goes after
  goes_to new after host call now stands behind quiet =
      went_on v w c core new before e None host call (base_key v c core is base) later core.outcome (λ some. cc) tt noted
      (λ command. Noted command core.host w core.outcome) (λ command runs. calls_at core.outcome command (quiet command core.outcome))
      after (subst (IsCached w c) host now.cached) stands (λ command n at. at.asks)
      (λ command n at. behind command (with_place None n) (unplaced command core.host w core.outcome n at))

  -- the command comes to an outcome, and its locks are freed next
  pub comes_to : (new : Core) (taken : List Resource) (outcome : Outcome) (step : Step) (after : Stage) → core.outcome ≡ outcomes.Open
      → new ≡ coming core taken outcome
      → IsBase w c (coming core taken outcome) → Knows w core.host (RecordIs []) → MayComeTo core.call outcome
      → ((command : Command) → Runs command core.call
      → QuietCall command core.host v w e (Noted command core.host v outcomes.Open) (Noted command core.host w outcome))
      → step ≡ record { placed = None; called = true; next = step.next } → IsRest taken outcome step.next after
      → Went v w c core new before step after
  comes_to new taken outcome step after first is_new now empty may quiet is_step rest =
      subst (λ (s : Step). Went v w c core new before s after) (sym is_step)
      (subst (λ (k : Core). Went v w c core k before (record { placed = None; called = true; next = step.next }) after) (sym is_new)
      (went_rest v w c core (coming core taken outcome) before e None refl refl (base_key v c core is base) later core.outcome (λ some. cc)
      tt noted (λ command. Noted command core.host w outcome)
      (λ command runs. calls_at outcome command
      (subst (λ (o : Outcome). QuietCall command core.host v w e (Noted command core.host v o) (Noted command core.host w outcome))
      (sym first) (quiet command runs)))
      step.next after now empty may (λ command n at. at.asks) (λ command n at. unplaced command core.host w outcome n at) rest))

-- a lock that was tried is busy: the command comes to that
pub busy_at : (v w : WorldView) (c : Cache) (core : Core) (before : Stage) → Consistent v.locks → Consistent w.locks → IsOpenBase v c core
    → ((command : Command) (n : Notes) → NotedAt command v core before n → Noted command core.host v core.outcome n)
    → (after : List Resource) (key : Key) → LockBusy core.host v w core.taken after key → (new : Core) (step : Step) (stage : Stage)
    → new ≡ coming core after (outcomes.Busy key) → step ≡ record { placed = None; called = true; next = step.next }
    → IsRest after (outcomes.Busy key) step.next stage → Went v w c core new before step stage
busy_at v w c core before is later stands noted after key did new step stage is_new is_step rest =
    comes_to v w c core before is later stands.base noted did.event new after (outcomes.Busy key) step stage stands.comes is_new
    (subst (λ (ts : List Resource). IsBase w c (coming core ts (outcomes.Busy key))) (sym did.same)
    (base_still v w c core (still_looks core.host v w did.looks) (outcomes.Busy key) stands.base))
    (did.looks.facts (RecordIs []) stands.empty) (may_busy core.call key)
    (λ command runs. did.busy command (frees_none command core.call runs)) is_step rest

-- what a call has come to behind a step that places this
abbrev pub comes_by : Option PlainReply → Outcome
comes_by None = outcomes.Open
comes_by (Some reply) = outcomes.Placed reply

noted_by : (command : Command) (h : ℕ) (v : WorldView) (placed : Option PlainReply) (n : Notes) → Noted command h v outcomes.Open n
    → Noted command h v (comes_by placed) (with_place placed n)
noted_by command h v None n noted = unplaced command h v outcomes.Open n noted
noted_by command h v (Some reply) n noted = noted_placed command h v reply n noted

-- a record was written, and goes into the tables next; what its write places has its place
pub record_put : (v w : WorldView) (c : Cache) (core : Core) (before : Stage) → Consistent v.locks → Consistent w.locks → (call : FileCall)
    (placed : Option PlainReply) (es : List Edit) (a : Applying) → IsOpenBase v c core
    → ((command : Command) (n : Notes) → NotedAt command v core before n → Noted command core.host v core.outcome n) → core.call ≡ call
    → MayComeTo call (comes_by placed) → MayPlace v.locks.geometry call placed → HasCommitted core.host v w call placed es a
    → Went v w c core (coming core core.taken (comes_by placed)) before (record { placed = placed; called = true; next = nexts.More })
    (stages.Applies a)
record_put v w c core before is later call placed es a stands noted same may range did =
    let still : IsStill core.host v w = record { geometry = did.wrote.geometry; memory = did.wrote.memory; tables = did.tables } in
    let base = base_still v w c core still (comes_by placed) stands.base in
    went_on v w c core (coming core core.taken (comes_by placed)) before did.event placed refl refl (base_key v c core is stands.base) later
    core.outcome (λ some. ap placed_of stands.comes)
    (subst (λ (k : FileCall). MayPlace v.locks.geometry k placed) (sym same) range) noted (λ command. Noted command core.host w outcomes.Open)
    (λ command runs.
    placed_at v w c core before is later stands.base noted did.event placed command (Noted command core.host v outcomes.Open)
    (Noted command core.host w outcomes.Open)
    (λ n at. subst (λ (o : Outcome). Noted command core.host v o n) stands.comes (noted command n at))
    (did.made command (subst (Runs command) same runs)))
    (stages.Applies a) base.cached (base, did.stands, subst (λ (k : FileCall). MayComeTo k (comes_by placed)) (sym same) may)
    (λ command n at. at.asks) (λ command n at. noted_by command core.host w placed n at)

-- the record by which a plain call has its place was written, as the code has its step
pub record_placed : (v w : WorldView) (c : Cache) (core new : Core) (before : Stage) → Consistent v.locks → Consistent w.locks
    → (call : PlainCall) (es : List Edit) (a : Applying) (step : Step) (after : Stage) → IsOpenBase v c core
    → ((command : Command) (n : Notes) → NotedAt command v core before n → Noted command core.host v core.outcome n)
    → core.call ≡ Plain call → MayReply v.locks.geometry replies.Done (Plain call)
    → HasCommitted core.host v w (Plain call) (Some replies.Done) es a
    → new ≡ coming core core.taken (outcomes.Placed replies.Done)
    → step ≡ record { placed = Some replies.Done; called = true; next = nexts.More } → after ≡ stages.Applies a
    → Went v w c core new before step after
record_placed v w c core new before is later call es a step after stands noted same range did is_new is_step is_after =
    went_as v w c core new before step (record { placed = Some replies.Done; called = true; next = nexts.More }) after (stages.Applies a)
    is_step is_after
    (subst (λ (k : Core). Went v w c core k before (record { placed = Some replies.Done; called = true; next = nexts.More })
    (stages.Applies a)) (sym is_new)
    (record_put v w c core before is later (Plain call) (Some replies.Done) es a stands noted same tt range did))
