-- A step of a plan on slots is a step of a plan.
use Rattle.std.proofs.Common.{◌≡◌, ◌≢◌, ℕ, List, Option, Some, None, ap, sym, subst, ◌∙◌}
use Rattle.vol_base.specs.declared.answer.Answer.TheVariants.{Cut}
use Rattle.vol_base.specs.declared.answer.CutBy.{CutBy}
use Rattle.vol_base.specs.declared.answer.Next.{Next}
use Rattle.vol_base.specs.declared.answer.Next.TheVariants as nexts
use Rattle.vol_base.specs.declared.answer.Step.{Step}
use Rattle.vol_base.specs.declared.command.Command.{Command}
use Rattle.vol_base.specs.declared.command.Command.TheVariants as commands
use Rattle.vol_base.specs.Packing.{Packing}
use Rattle.vol_layout.specs.declared.geometry.Geometry.{Geometry}
use Rattle.vol_layout.specs.declared.kind.Table.{Table}
use Rattle.table_blocks.specs.Tables.{IsPackingOf}
use Rattle.file_plans.specs.Bases.{IsCached}
use Rattle.file_plans.specs.Went.{LeavesOthers}
use Rattle.held_cache.specs.Kept.{Cache, ForgetsHost, IsFileTable, kept_at}
use Rattle.host_facts.specs.Facts.Fact.{TableIs}
use Rattle.host_facts.specs.Knows.{Knows}
use Rattle.host_facts.specs.Others.{Others}
use Rattle.host_facts.specs.Views.{WorldView}
use Rattle.host_runs.specs.Notes.{Notes}
use Rattle.plan_parts.specs.Steps.{OwesStep}
use Rattle.recover_plan.specs.KnownTables.{KeepsTables, TablesStay}
use Rattle.recover_plan.specs.Nexts as slots
use Rattle.recover_plan.specs.Plans as plans
use Rattle.recover_plan.specs.Plans.{Agrees, PlanStands, command_of, step_of}
use Rattle.recover_plan.specs.declared.plan.Come.{Come}
use Rattle.recover_plan.specs.declared.plan.Come.TheVariants as comes
use Rattle.recover_plan.specs.declared.plan.Doing.{Doing}
use Rattle.recover_plan.specs.declared.plan.Doing.TheVariants as doings
use Rattle.recover_plan.specs.declared.plan.RecoverPlan.{RecoverPlan}
use Rattle.watch.specs.declared.watch.Look.{Look}
use Rattle.cluster.specs.Plans.{ForgetsBehind, ForgetsFor, HasStepped, NotedBehind, StandsBehind}
use Rattle.cluster.specs.Carries.{hints_behind}
use Rattle.cluster.specs.declared.carried.Carried.{Carried}
use Rattle.cluster.specs.declared.plan.Plan.TheVariants.{Slots}
use Rattle.cluster.specs.laws.PendingLaws.{IsQuiet, hints_volume, pending_step, quiet_digest, quiet_hints}

-- where nothing is kept for a host, what is kept for it is right
pub nothing_cached : (w : WorldView) (c d : Cache) (h : ℕ) → c.volume ≡ w.locks.geometry → ForgetsHost c d h → IsCached w d h
nothing_cached w c d h volume forgets = record {
  volume = forgets.volume ∙ volume;
  known = λ t p there kept.
      let both : None ≡ Some p =
      sym (forgets.forgotten t (subst (λ (g : Geometry). IsFileTable g t) (sym volume) there)) ∙ kept in absurd cc;
}

-- what a host knows of the tables of its files stays
abbrev pub KeepsFileTables : ℕ → WorldView → WorldView → Type 0
KeepsFileTables h v w = (t : Table) (p : Packing) → IsFileTable v.locks.geometry t → Knows v h (TableIs t p) → Knows w h (TableIs t p)

module _ (v w : WorldView) (c d e : Cache) (h : ℕ) (others : Others h v w) (was : IsCached v c h) where
  geometry : w.locks.geometry ≡ v.locks.geometry
  geometry = others.locks.lasts.geometry

  -- it stays right where the host knows of its tables what it knew
  stays : KeepsFileTables h v w → IsCached w c h
  stays keeps = record {
    volume = was.volume ∙ sym geometry;
    known = λ t p there kept.
        let of_file = subst (λ (g : Geometry). IsFileTable g t) geometry there in
        let known = was.known t p of_file kept in
        (keeps t p of_file known.0, subst (λ (g : Geometry). IsPackingOf g t p) (sym geometry) known.1);
  }

  pub forgotten : ForgetsHost c d h → (next : Next) → ForgetsBehind next h d e → IsCached w e h
  forgotten first (nexts.Answered (Cut by)) then = nothing_cached w d e h (first.volume ∙ was.volume ∙ sym geometry) then
  forgotten first next then = subst (λ (k : Cache). IsCached w k h) (sym then) (nothing_cached w c d h (was.volume ∙ sym geometry) first)

  pub kept : d ≡ c → (next : Next) → (((by : CutBy) → next ≢ nexts.Answered (Cut by)) → KeepsFileTables h v w) → ForgetsBehind next h d e
      → IsCached w e h
  kept same (nexts.Answered (Cut by)) tables then =
      nothing_cached w d e h (ap (λ (k : Cache). k.volume) same ∙ was.volume ∙ sym geometry) then
  kept same next tables then = subst (λ (k : Cache). IsCached w k h) (sym (then ∙ same)) (stays (tables (λ by is. cc)))

  of_files : KeepsTables h v w → KeepsFileTables h v w
  of_files keeps = λ t p of_file known. keeps t p known

  -- behind a step on slots
  pub slots_cached : (command : Command) (step : Step) → ForgetsFor command h c d → TablesStay h v w command step
      → ForgetsBehind step.next h d e → IsCached w e h
  slots_cached commands.Beat step first tables then = kept first step.next (λ uncut. of_files (tables tt uncut)) then
  slots_cached (commands.Look of) step first tables then = kept first step.next (λ uncut. of_files (tables tt uncut)) then
  slots_cached (commands.Recover of) step first tables then = kept first step.next (λ uncut. of_files (tables tt uncut)) then
  slots_cached command step first tables then = forgotten first step.next then

-- what is kept for others stays
pub forgets_leaves : (c d : Cache) (h : ℕ) → ForgetsHost c d h → LeavesOthers h c d
forgets_leaves c d h forgets = record { volume = forgets.volume; others = λ x t can other. forgets.others x t can other }

same_leaves : (c d : Cache) (h : ℕ) → d ≡ c → LeavesOthers h c d
same_leaves c d h same = record {
  volume = ap (λ (k : Cache). k.volume) same;
  others = λ x t can other. ap (λ (k : Cache). kept_at k x t) same;
}

pub leaves_for : (command : Command) (c d : Cache) (h : ℕ) → ForgetsFor command h c d → LeavesOthers h c d
leaves_for commands.Beat c d h first = same_leaves c d h first
leaves_for (commands.Look of) c d h first = same_leaves c d h first
leaves_for (commands.Recover of) c d h first = same_leaves c d h first
leaves_for command c d h first = forgets_leaves c d h first

pub leaves_behind : (next : Next) (c d : Cache) (h : ℕ) → ForgetsBehind next h c d → LeavesOthers h c d
leaves_behind (nexts.Answered (Cut by)) c d h then = forgets_leaves c d h then
leaves_behind next c d h then = same_leaves c d h then

-- no command on slots writes, logs hints or scans
pub slots_quiet : (doing : Doing) → IsQuiet (command_of doing)
slots_quiet doings.Register = tt
slots_quiet doings.Enter = tt
slots_quiet doings.EnterAgain = tt
slots_quiet (doings.Over stage) = tt
slots_quiet (doings.Retake dead) = tt
slots_quiet doings.Unlock = tt
slots_quiet doings.Fence = tt
slots_quiet doings.Beat = tt
slots_quiet (doings.Look of) = tt
slots_quiet (doings.Begin of) = tt
slots_quiet (doings.First of stage) = tt
slots_quiet (doings.Again of stage) = tt
slots_quiet (doings.Free of dead) = tt
slots_quiet doings.Ended = tt

module _ (command : Command) (v w : WorldView) (e : Cache) (h : ℕ) (carried : Carried) (looks : List (Option Look)) (old new : RecoverPlan)
    (step : Step) (host : new.host ≡ h) (of : command_of old.doing ≡ command) (others : Others h v w) (cached : IsCached w e h)
    (volume : carried.pending.geometry ≡ v.locks.geometry) where
  abbrev after : Next → Carried
  after next = record carried { watch = looks; pending = hints_behind command next carried.digest carried.pending }

  volume_now : (next : Next) → (after next).pending.geometry ≡ w.locks.geometry
  volume_now next = hints_volume command next carried.digest carried.pending ∙ volume ∙ sym others.locks.lasts.geometry

  -- no digest is waited for: no command on slots asks for one
  quiet_of : (come : Come) (next : Next) → plans.StandsBehind w h looks old.doing come → new.doing ≡ plans.later_of come
      → StandsBehind command w e h (after next) (Slots new) (step_of come).next
  quiet_of (comes.More later) next stands is = (
    (host, ap command_of is ∙ stands.1 ∙ of),
    (subst (λ (doing : Doing). PlanStands w h looks doing) (sym is) stands.0, cached, volume_now next),
  )
  quiet_of (comes.Answered answer) next stands is = record { watched = stands; volume = volume_now next; cached = cached }
  quiet_of (comes.Uncalled answer) next stands is = record { watched = stands; volume = volume_now next; cached = cached }

  noted_of : (come : Come) (next : Next) (n : Notes) → plans.Behind h w looks come n → new.doing ≡ plans.later_of come
      → n.pending ≡ (after next).pending.entries → NotedBehind command w h (after next) (Slots new) (step_of come).next n
  noted_of (comes.More later) next n noted is pending =
      (subst (λ (doing : Doing). Agrees h w looks doing n) (sym is) noted, pending)
  noted_of (comes.Answered answer) next n noted is pending =
      record { rests = noted.rests; watch_is = noted.watch_is; pending_is = pending }
  noted_of (comes.Uncalled answer) next n noted is pending =
      record { rests = noted.rests; watch_is = noted.watch_is; pending_is = pending }

  quiet_now : IsQuiet command
  quiet_now = subst IsQuiet of (slots_quiet old.doing)

  pub slots_stepped : slots.HasStepped h v w carried.watch looks old.doing new.doing step
      → HasStepped command h v w e carried (after step.next) (Slots old) (Slots new) step
  slots_stepped did =
      let owed = subst (λ (k : Command). OwesStep k h v w step (Agrees h v carried.watch old.doing) (plans.Behind h w looks did.come)) of did.owes in
      record {
        owes = record {
          made = owed.made;
          called = owed.called;
          others = owed.others;
          quiet = λ n noted. owed.quiet n noted.0;
          owes = λ n noted.
              let (later, owes, behind) = owed.owes n noted.0 in
              let pending = pending_step v.locks.geometry h command v.locks.disk w.locks.disk owed.made step.placed n later carried.digest step.next
              carried.pending (quiet_hints command quiet_now) owes noted.1 (quiet_digest command carried.digest n.digests quiet_now) in (
                later,
                owes,
                subst (λ (s : Step). NotedBehind command w h (after step.next) (Slots new) s.next later) (sym did.step_is)
                    (noted_of did.come step.next later behind did.later_is pending),
              );
        };
        stands = subst (λ (s : Step). StandsBehind command w e h (after step.next) (Slots new) s.next) (sym did.step_is)
            (quiet_of did.come step.next did.stands did.later_is);
      }
