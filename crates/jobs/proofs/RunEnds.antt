-- A schedule that was played to its end on a cluster that has started: the run of the workload.
use Rattle.std.proofs.Common.{◌≡◌, ◌≤◌, ◌<◌, ◌+◌, ℕ, All, List, Option, length, get_or, refl, sym, subst, arith}
use Rattle.std.proofs.lemmas.Option.{slice_get-get_or, slice_get_within}
use Rattle.vol_base.specs.Faults.{Rose}
use Rattle.shared_disk.specs.Seen.{DiskSeen}
use Rattle.plain_files.specs.declared.history.Placed.{Placed}
use Rattle.vol_base.specs.declared.answer.Answer.{Answer}
use Rattle.workload.specs.Workloads.{IsAllowed, IsWorkload}
use Rattle.workload.specs.declared.line.Line.{Line}
use Rattle.workload.specs.declared.line.Workload.{Workload}
use Rattle.image_view.specs.Valid.{IsValid}
use Rattle.host_runs.specs.DeviceCalls.{OnImage}
use Rattle.histories.specs.Fit.{Fits}
use Rattle.histories.specs.laws.PhaseLaws.{phased-workload, within-workload}
use Rattle.histories.specs.laws.PushLaws.{all_at}
use Rattle.host_runs.specs.Notes.{Notes}
use Rattle.host_runs.specs.RunStates.{RunState, opening}
use Rattle.host_runs.specs.Runs.{AreIdle, Run, RunCall}
use Rattle.host_runs.specs.Tidy.{IsTidyWork}
use Rattle.host_runs.specs.laws.AnsweredLaws.{all-answered}
use Rattle.host_runs.specs.laws.FitLaws.{orderly-run}
use Rattle.host_runs.specs.laws.TidyLaws.{tidy-complete}
use Rattle.cluster.specs.Runs.{Facts, IsIdle, SameStart}
use Rattle.cluster.specs.Starts.{HasStarted}
use Rattle.cluster.specs.Views.{ClusterView, disk_of, state_of}
use Rattle.schedule.specs.Plays.{HasPlayed, IsPlayed, Move, Place}
use Rattle.schedule.specs.laws.PlayLaws.{played-run}
use Rattle.jobs.specs.Runs.{HasEnded, IsBy, IsRunOf, IsTidyRun, Schedule, ByWords}
use Rattle.jobs.proofs.ClusterLaws.{closed_valid, opens_of, owed_of, ready_of, same_workload}

-- a count that did not rise since before did not rise since
quiet_since : (a b c : ℕ) → a ≤ b → (Rose a c → ⊥) → Rose b c → ⊥
quiet_since a b c le quiet rose = quiet (omega (arith, le, rose))

abbrev start : List ℕ → Place
start hosts = record { words = hosts; next = 0 }

tidy_work : (w : Workload) (old last : DiskSeen) → IsWorkload w → IsTidyRun w old last → IsTidyWork w.lines
tidy_work w old last is settled = record {
  phased = phased-workload w is;
  tidy = settled.tidy;
  hosts = λ p line at.
      let allowed = all_at (IsAllowed w.geometry) w.lines p line is.lines at in
      let below = allowed.host in
      let most = is.geometry.hosts in
      omega (arith, below, most);
}

idle_of : (v w : Workload) (s : RunState) → v ≡ w → AreIdle v s → AreIdle w s
idle_of v w s same idle = subst (λ (u : Workload). AreIdle u s) same idle

-- a run at whose end the cluster is idle in its last phase
pub ended_run : (w : Workload) (schedule : Schedule) (old : DiskSeen) (c d : ClusterView) (notes : ℕ → Notes) (calls : List RunCall) → IsWorkload w
    → HasStarted old w c → SameStart c d → Facts d → Run w (opening w c.began) calls (state_of d.parts notes)
    → IsIdle d.parts → d.parts.workload.phases ≤ d.parts.phase + 1 → IsBy schedule w c.began (state_of d.parts notes)
    → IsRunOf w schedule old c.began (state_of d.parts notes)
ended_run w schedule old c d notes calls is h same facts run at_rest at_last by =
    let last = state_of d.parts notes in
    let w_is = same_workload w old c d h same in
    let idle = idle_of d.parts.workload w last w_is at_rest in
    let ended = subst (λ (v : Workload). v.phases ≤ last.phase + 1) w_is at_last in
    let orderly = orderly-run w c.began calls last (phased-workload w is) run in
    let all = all-answered w last orderly idle (within-workload w is) ended in
    let opens = opens_of w old c h in
    record {
      owed = owed_of w old c d last h same facts refl refl refl;
      calls = calls;
      run = run;
      by = by;
      idle = idle;
      ended = ended;
      positions = all.1;
      answered = all.0;
      served = λ tidy.
          tidy-complete w c.began calls last (tidy_work w old last.device is tidy) (ready_of w old c.began opens tidy.unused) run
          (quiet_since old.faults c.began.faults last.device.faults opens.later tidy.quiet);
    }

-- the moves of a schedule, from the opened device
moves_of : (w : Workload) (hosts : List ℕ) (old : DiskSeen) (c d : ClusterView) → HasStarted old w c → (played : HasPlayed hosts c.parts d.parts)
    → (moves : List Move) × (later : ℕ → Notes) × IsPlayed w (start hosts) (opening w c.began) moves played.end (state_of d.parts later)
moves_of w hosts old c d h played =
    let first = h.run in
    let plays = played.plays first.0 first.2 in
    let P : Workload → RunState → Type 0 = λ v s. IsPlayed v (start hosts) s plays.0 played.end (state_of d.parts plays.1) in
    let began : P c.parts.workload (opening c.parts.workload c.began) = subst (λ (s : RunState). P c.parts.workload s) first.1 plays.2 in
    (plays.0, plays.1, subst (λ (v : Workload). P v (opening v c.began)) h.workload began)

-- so a schedule that was played to its end gives the run by its words
pub played_run : (w : Workload) (hosts : List ℕ) (old : DiskSeen) (c d : ClusterView) → IsWorkload w → HasStarted old w c → SameStart c d → Facts d
    → HasPlayed hosts c.parts d.parts → (later : ℕ → Notes) × IsRunOf w (ByWords hosts) old c.began (state_of d.parts later)
played_run w hosts old c d is h same facts played =
    let moved = moves_of w hosts old c d h played in
    let run = played-run w (start hosts) (opening w c.began) moved.0 played.end (state_of d.parts moved.1) moved.2 in
    (moved.1, ended_run w (ByWords hosts) old c d moved.1 run.0 is h same facts run.1 played.idle played.last (moved.0, played.end, moved.2))

-- each entry is of a line
entries_below : (lines : List Line) (answers : List (Option Answer)) (history : List Placed) → Fits lines answers history
    → All (λ entry. entry.line < length lines) history
entries_below lines answers history fits = λ k d lt.
    let of = fits.commands k (get_or history k d) (slice_get-get_or history k d lt) in
    slice_get_within lines (get_or history k d).line of.0 of.1

-- a run to its end leaves a cluster whose report can be written
pub has_ended : (w : Workload) (schedule : Schedule) (old : DiskSeen) (c d : ClusterView) (notes : ℕ → Notes) → HasStarted old w c → SameStart c d → Facts d
    → IsRunOf w schedule old c.began (state_of d.parts notes) → HasEnded d.parts
has_ended w schedule old c d notes h same facts ran =
    let w_is = sym (same_workload w old c d h same) in
    let told = (disk_of d.parts).state in
    record {
      valid = subst (λ (v : Workload). OnImage told (IsValid v.geometry told.counter)) w_is (closed_valid w old c d h same facts);
      positions = subst (λ (v : Workload). length d.parts.ledger.answers ≡ length v.lines) w_is ran.positions;
      answered = ran.answered;
      placed = entries_below d.parts.workload.lines d.parts.ledger.answers d.parts.ledger.history facts.fits;
    }
