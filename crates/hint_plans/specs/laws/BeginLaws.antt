-- The first step of a `scan` is that of the stage to which it comes.
use Rattle.std.proofs.Common.{◌≡◌, ℕ, false, ap, arith, refl}
use Rattle.std.specs.Prelude.{Err, IfErr, IfOk, Ok, Result}
use Rattle.vol_base.specs.declared.answer.Step.{Step}
use Rattle.vol_base.specs.declared.command.Command.{Command}
use Rattle.vol_base.specs.declared.command.Command.TheVariants as commands
use Rattle.vol_layout.specs.declared.kind.Resource.TheVariants.{File}
use Rattle.hint_blocks.specs.declared.entry.LogEntry.{LogEntry}
use Rattle.hint_blocks.specs.HintLists.{HintList}
use Rattle.lock_store.specs.declared.answers.StepNo.{StepNo}
use Rattle.lock_store.specs.Memories.{holds}
use Rattle.lock_store.specs.Views.{host_at}
use Rattle.disk_locks.specs.Consistent.{Consistent}
use Rattle.host_facts.specs.Others.{Others}
use Rattle.host_facts.specs.Views.{WorldView}
use Rattle.host_runs.specs.Notes.{Notes}
use Rattle.plan_parts.specs.Cuts.{IsCutBy}
use Rattle.plan_parts.specs.Holds.{TakesWrite}
use Rattle.plan_parts.specs.Steps.{OwesStep}
use Rattle.plan_parts.specs.declared.take_write.TakeWrite.{TakeWrite}
use Rattle.plan_parts.specs.declared.taking.Taking.{Taking}
use Rattle.plan_parts.specs.declared.taking.Taking.TheVariants as taking
use Rattle.plan_parts.specs.laws.HoldStarts.{first_write, write_noted, write_starts}
use Rattle.hint_plans.specs.Nexts.{behind_hold}
use Rattle.hint_plans.specs.Plans.{Agrees, Came, HasCome, PlanStands, StandsBehind}
use Rattle.hint_plans.specs.declared.plan.Come.{Come}
use Rattle.hint_plans.specs.declared.plan.Come.TheVariants as comes
use Rattle.hint_plans.specs.declared.plan.Doing.TheVariants as doings
use Rattle.hint_plans.specs.laws.FirstLaws.{open_noted}
use Rattle.hint_plans.specs.laws.ScanSteps.{hold_came}

-- what is owed and what cuts, by notes that say more
owes_from : (command : Command) (h : ℕ) (v w : WorldView) (step : Step) (Less More After : Notes → Type 0) → ((n : Notes) → More n → Less n)
    → OwesStep command h v w step Less After → OwesStep command h v w step More After
owes_from command h v w step Less More After less owed = record {
  made = owed.made;
  called = owed.called;
  others = owed.others;
  quiet = λ n more. owed.quiet n (less n more);
  owes = λ n more. owed.owes n (less n more);
}

pub cut_from : (command : Command) (h : ℕ) (v w : WorldView) (why : StepNo) (Less More : Notes → Type 0) → ((n : Notes) → More n → Less n)
    → IsCutBy command h v w why Less → IsCutBy command h v w why More
cut_from command h v w why Less More less (e, cut) = (
  e,
  record {
    acts = cut.acts;
    cause = cut.cause;
    state = cut.state;
    geometry = cut.geometry;
    others = cut.others;
    memory = cut.memory;
    same = cut.same;
    allowed = λ m turn of more. cut.allowed m turn of (less m.old more);
  },
)

-- a step towards the hold, by what it says
pub hold_has : (v w : WorldView) (h f i : ℕ) (t : TakeWrite) (pending : HintList LogEntry) → Consistent v.locks → Consistent w.locks
    → PlanStands v h pending (doings.HoldsFile f i t) → Others h v w → (taken : Taking TakeWrite) → TakesWrite h f v w t taken
    → HasCome h v w pending pending (doings.HoldsFile f i t) (behind_hold f i taken)
hold_has v w h f i t pending c later is others (taking.More u) did = hold_came v w h f i t pending c later is others (taking.More u) did
hold_has v w h f i t pending c later is others taking.Taken did = hold_came v w h f i t pending c later is others taking.Taken did
hold_has v w h f i t pending c later is others (taking.Busy key) did = hold_came v w h f i t pending c later is others (taking.Busy key) did

-- a host that has the hold reads the first table block
module _ (v w : WorldView) (h f i : ℕ) (pending : HintList LogEntry) where
  pub head_noted : (n : Notes) → Agrees h v pending.entries (doings.BeginsScan f i) n → Agrees h v pending.entries (doings.ReadsHead f i) n
  head_noted n noted =
      (open_noted v h pending.entries n noted (commands.Scan f i) refl, ap (λ (m : Notes). m.digests) noted.rests.between)

  head_stands : (come : Come) → StandsBehind w h pending (doings.ReadsHead f i) come → StandsBehind w h pending (doings.BeginsScan f i) come
  head_stands (comes.More later) stands = stands
  head_stands (comes.Answered answer) stands = stands
  head_stands (comes.Uncalled answer) stands = stands
  head_stands (comes.Works later block) stands = stands

  head_went : (come : Come) → Came h v w pending pending (doings.ReadsHead f i) come → Came h v w pending pending (doings.BeginsScan f i) come
  head_went come came = record {
    owes = owes_from (commands.Scan f i) h v w _ _ _ _ head_noted came.owes;
    stands = head_stands come came.stands;
    tables = came.tables;
    writes = λ uncut. tt;
    fewer = let fell = came.fewer in omega (arith, fell);
  }

  pub head_begins : (come : Come) → HasCome h v w pending pending (doings.ReadsHead f i) come
      → HasCome h v w pending pending (doings.BeginsScan f i) come
  head_begins (comes.More later) came = head_went (comes.More later) came
  head_begins (comes.Answered answer) came = head_went (comes.Answered answer) came
  head_begins (comes.Uncalled answer) came = head_went (comes.Uncalled answer) came
  head_begins (comes.Works later block) waits = absurd waits.asks

  -- one that lacks it tries for it
  pub hold_stands : Consistent v.locks → PlanStands v h pending (doings.BeginsScan f i) → holds (host_at v.locks h) (File f) ≡ false
      → PlanStands v h pending (doings.HoldsFile f i (first_write v h f))
  hold_stands c is out = record {
    is_host = is.is_host;
    at = (is.at, write_starts v h f c (record { joined = is.is_host.ready.joined; file = is.at; out = out }));
  }

  pub hold_noted : (n : Notes) → Agrees h v pending.entries (doings.BeginsScan f i) n
      → Agrees h v pending.entries (doings.HoldsFile f i (first_write v h f)) n
  hold_noted n noted = (
    write_noted (commands.Scan f i) v h f n (open_noted v h pending.entries n noted (commands.Scan f i) refl).noted
        (ap (λ (m : Notes). m.tries) noted.rests.between),
    noted.pending_is,
    ap (λ (m : Notes). m.digests) noted.rests.between,
  )

  try_stands : (come : Come) → StandsBehind w h pending (doings.HoldsFile f i (first_write v h f)) come
      → StandsBehind w h pending (doings.BeginsScan f i) come
  try_stands (comes.More later) stands = stands
  try_stands (comes.Answered answer) stands = stands
  try_stands (comes.Uncalled answer) stands = stands
  try_stands (comes.Works later block) stands = stands

  try_went : (come : Come) → Came h v w pending pending (doings.HoldsFile f i (first_write v h f)) come
      → Came h v w pending pending (doings.BeginsScan f i) come
  try_went come came = record {
    owes = owes_from (commands.Scan f i) h v w _ _ _ _ hold_noted came.owes;
    stands = try_stands come came.stands;
    tables = came.tables;
    writes = λ uncut. tt;
    fewer = let fell = came.fewer in omega (arith, fell);
  }

  pub hold_begins : (come : Come) → HasCome h v w pending pending (doings.HoldsFile f i (first_write v h f)) come
      → HasCome h v w pending pending (doings.BeginsScan f i) come
  hold_begins (comes.More later) came = try_went (comes.More later) came
  hold_begins (comes.Answered answer) came = try_went (comes.Answered answer) came
  hold_begins (comes.Uncalled answer) came = try_went (comes.Uncalled answer) came
  hold_begins (comes.Works later block) waits = absurd waits.asks

-- of what a step came to, and of what refused it
pub oks_begin : (result : Result Come StepNo) (P Q : Come → Type 0) → ((come : Come) → P come → Q come) → IfOk result P → IfOk result Q
oks_begin (Ok come) P Q f is = f come is
oks_begin (Err why) P Q f is = tt

pub errs_begin : (result : Result Come StepNo) (P Q : StepNo → Type 0) → ((why : StepNo) → P why → Q why) → IfErr result P → IfErr result Q
errs_begin (Ok come) P Q f is = tt
errs_begin (Err why) P Q f is = f why is
