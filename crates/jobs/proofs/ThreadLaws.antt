-- Phases that threads ran to their ends on a cluster that has started: the run of the workload.
use Rattle.std.proofs.Common.{◌≡◌, ◌≤◌, ◌+◌, ◌∙◌, ℕ, Option, Some, None, OnOk, Ok, Err, Result, false, refl, sym, ap, subst}
use Rattle.std.specs.Prelude.{is_err, is_some}
use Rattle.shared_disk.specs.Seen.{DiskSeen}
use Rattle.workload.specs.Workloads.{IsWorkload}
use Rattle.workload.specs.declared.line.Workload.{Workload}
use Rattle.host_runs.specs.Notes.{Notes}
use Rattle.host_runs.specs.RunStates.{opening}
use Rattle.host_runs.specs.Runs.{Run}
use Rattle.cluster.specs.Runs.{Facts, IsIdle, SameStart, showing}
use Rattle.cluster.specs.Starts.{HasStarted}
use Rattle.cluster.specs.Views.{ClusterView, PartsView, disk_of, state_of}
use Rattle.cluster.specs.Waits.{has_line, line_now}
use Rattle.jobs.specs.Runs.{ByThreads, IsOver, IsRunOf}
use Rattle.jobs.proofs.ClusterLaws.{same_workload}
use Rattle.jobs.proofs.RunEnds.{ended_run}

no_line : (o : Option ℕ) → is_some o ≡ false → o ≡ None
no_line None none = refl
no_line (Some p) none = absurd cc

-- no host has a command left
idle_of : (v : PartsView) → ((host : ℕ) → has_line v host ≡ false) → IsIdle v
idle_of v idle = λ host. no_line (line_now v host) (idle host)

ended_well : {T E : Type 0} {P : Type 0} (ended : Result T E) → is_err ended ≡ false → OnOk ended P → P
ended_well (Ok x) well holds = holds
ended_well (Err refused) well holds = absurd cc

-- a phase that was run to its end
pub phase_idle : {T E : Type 0} (v : PartsView) (ended : Result T E) → is_err ended ≡ false
    → OnOk ended ((host : ℕ) → has_line v host ≡ false) → IsIdle v
phase_idle v ended well idle = idle_of v (ended_well ended well idle)

-- and the last one
pub over_at : (c d : ClusterView) → IsIdle c.parts → c.parts.workload.phases ≤ c.parts.phase + 1 → c.spent ≡ false → d ≡ c → Facts d
    → IsOver d
over_at c d idle last live same facts = record {
  idle = subst (λ (v : ClusterView). IsIdle v.parts) (sym same) idle;
  last = subst (λ (v : ClusterView). v.parts.workload.phases ≤ v.parts.phase + 1) (sym same) last;
  live = ap (λ (v : ClusterView). v.spent) same ∙ live;
  facts = facts;
}

-- phases that were run to their ends
pub ended_over : {T E : Type 0} (d : ClusterView) (ended : Result T E) (x : T) → ended ≡ Ok x → OnOk ended (IsOver d) → IsOver d
ended_over d ended x is over = subst (λ r. OnOk r (IsOver d)) is over

-- the run that a cluster keeps shows the device as it is, where no memory was refused
pub threaded_run : (w : Workload) (old : DiskSeen) (c d : ClusterView) → IsWorkload w → HasStarted old w c → SameStart c d → IsOver d
    → (notes : ℕ → Notes) × IsRunOf w ByThreads old c.began (state_of d.parts notes)
threaded_run w old c d is h same over =
    let run = over.facts.run in
    let S : DiskSeen → Type 0 = λ last. Run d.parts.workload (opening d.parts.workload d.began) run.calls (state_of (showing last d.parts) run.notes) in
    let shown : S (disk_of d.parts) = subst S (over.facts.live over.live) run.leads in
    let R : Workload → DiskSeen → Type 0 = λ v b. Run v (opening v b) run.calls (state_of d.parts run.notes) in
    let began : R d.parts.workload c.began = subst (λ (b : DiskSeen). R d.parts.workload b) same.began shown in
    let led : R w c.began = subst (λ (v : Workload). R v c.began) (same_workload w old c d h same) began in
    (run.notes, ended_run w ByThreads old c d run.notes run.calls is h same over.facts led over.idle over.last tt)
