-- What is decided behind a run, and behind an opening.
use Rattle.std.proofs.Common.{◌≡◌, ◌≢◌, ℕ, List, Option, Some, None, IfSome, refl, sym, ap, subst, inl, inr}
use Rattle.std.specs.Prelude.{◌↔◌, Err, Result}
use Rattle.vol_base.specs.declared.answer.Answer.{Answer}
use Rattle.shared_disk.specs.Calls.{last_counter}
use Rattle.shared_disk.specs.Seen.{DiskSeen}
use Rattle.shared_disk.specs.State.{State}
use Rattle.shared_disk.specs.Visits.{IsVisiting, after_visit}
use Rattle.plain_files.specs.declared.history.Placed.{Placed}
use Rattle.workload.specs.declared.line.Workload.{Workload}
use Rattle.image_view.specs.Usages.{usage_of}
use Rattle.image_view.specs.declared.usage.SurveyNo.{SurveyNo}
use Rattle.image_view.specs.declared.usage.SurveyNo.TheVariants as surveys
use Rattle.image_view.specs.declared.usage.Usage.{Usage}
use Rattle.report.specs.Reports.{report}
use Rattle.host_runs.specs.Notes.{Notes}
use Rattle.host_runs.specs.RunStates.{RunState}
use Rattle.volume_opening.specs.declared.open_no.OpenNo.{OpenNo}
use Rattle.volume_opening.specs.declared.open_no.OpenNo.TheVariants as openings
use Rattle.cluster.specs.Runs.{SameStart}
use Rattle.cluster.specs.Starts.{HasRefused, HasStarted}
use Rattle.cluster.specs.Views.{ClusterView, disk_of, state_of}
use Rattle.jobs.specs.declared.outcome.AfterRun.{AfterRun}
use Rattle.jobs.specs.declared.outcome.Outcome.{Outcome}
use Rattle.jobs.specs.declared.outcome.Outcome.TheVariants as outcomes
use Rattle.jobs.specs.Runs.{Concludes, IsReportOr, IsReportWithoutOr, IsRunOf, IsUnsurveyedFor, RunDecides, Schedule, unopened}
use Rattle.jobs.proofs.ClusterLaws.{same_workload, some_run}

-- the report with a usage, and without one
pub reported : (w : Workload) (answers : List (Option Answer)) (history : List Placed) (closed new : DiskSeen) (usage : Usage) (outcome : Outcome)
    → IsVisiting closed.state new.state → IsReportOr (report w answers history (Some usage)) outcome
    → IfSome new.state.told (λ told. usage ≡ usage_of told.image)
    → closed.state.counter ≢ last_counter → new.state ≡ after_visit closed.state → Concludes w answers history closed new outcome
reported w answers history closed new usage (outcomes.Done report) visiting is counted keys left =
    record { usage = usage; text = is; counted = counted; keys = keys; left = left }
reported w answers history closed new usage outcomes.Memory visiting is counted keys left = visiting
reported w answers history closed new usage _ visiting is counted keys left = absurd is

pub reported_without : (w : Workload) (answers : List (Option Answer)) (history : List Placed) (closed new : DiskSeen) (cause : AfterRun) (outcome : Outcome)
    → IsVisiting closed.state new.state → IsReportWithoutOr (report w answers history None) cause outcome
    → IsUnsurveyedFor w.geometry closed new cause → Concludes w answers history closed new outcome
reported_without w answers history closed new cause (outcomes.Unsurveyed report given) visiting is refused = record {
  text = is.0;
  refused = let P : AfterRun → Type 0 = λ no. IsUnsurveyedFor w.geometry closed new no in subst P (sym is.1) refused;
  visiting = visiting;
}
reported_without w answers history closed new cause outcomes.Memory visiting is refused = visiting
reported_without w answers history closed new cause _ visiting is refused = absurd is

-- where the survey gave another answer, the counter is not at its end
pub has_keys : (result : Result Usage SurveyNo) (refusal : SurveyNo) (counter : ℕ) → result ≡ Err refusal → refusal ≢ surveys.NoKeys
    → ((result ≡ Err surveys.NoKeys) ↔ (counter ≡ last_counter)) → counter ≢ last_counter
has_keys result refusal counter is other keys = λ at. let e = keys.1 at in other (let same : refusal ≡ surveys.NoKeys = cc in same)

-- a visit leaves the content
pub visiting_told : (before after : State) → IsVisiting before after → after.told ≡ before.told
visiting_told before after (inl same) = ap (λ (s : State). s.told) same
visiting_told before after (inr (inl entered)) = ap (λ (s : State). s.told) entered
visiting_told before after (inr (inr left)) = ap (λ (s : State). s.told) left

-- behind a run to its end
pub concluded : (w : Workload) (schedule : Schedule) (old opened new : DiskSeen) (last : RunState) (outcome : Outcome) → IsRunOf w schedule old opened last
    → Concludes w last.answers last.history last.device new outcome → RunDecides w schedule old new outcome
concluded w schedule old opened new last (outcomes.Done report) ran h = record { opened = opened; last = last; ran = ran; reported = h }
concluded w schedule old opened new last (outcomes.Unsurveyed report cause) ran h = record { opened = opened; last = last; ran = ran; reported = h }
concluded w schedule old opened new last outcomes.Memory ran h =
    inr (some_run w schedule old opened new last ran (visiting_told last.device.state new.state h))
concluded w schedule old opened new last _ ran h = absurd h

-- in the words of a cluster that was closed
pub closed_decides : (w : Workload) (schedule : Schedule) (old new : DiskSeen) (c d : ClusterView) (notes : ℕ → Notes) (outcome : Outcome) → HasStarted old w c
    → SameStart c d → IsRunOf w schedule old c.began (state_of d.parts notes)
    → Concludes d.parts.workload d.parts.ledger.answers d.parts.ledger.history (disk_of d.parts) new outcome → RunDecides w schedule old new outcome
closed_decides w schedule old new c d notes outcome h same ran concludes =
    concluded w schedule old c.began new (state_of d.parts notes) outcome ran
    (subst (λ (v : Workload). Concludes v d.parts.ledger.answers d.parts.ledger.history (disk_of d.parts) new outcome) (same_workload w old c d h same)
    concludes)

-- behind a refused opening
pub unopened_decides : (w : Workload) (schedule : Schedule) (old new : DiskSeen) (cause : OpenNo) → HasRefused w.geometry old cause new
    → RunDecides w schedule old new (unopened cause)
unopened_decides w schedule old new (openings.Geometry given found) h = record { cause = openings.Geometry given found; is = refl; refused = h }
unopened_decides w schedule old new (openings.Faults faults) h = record { cause = openings.Faults faults; is = refl; refused = h }
unopened_decides w schedule old new openings.NoKeys h = record { cause = openings.NoKeys; is = refl; refused = h }
unopened_decides w schedule old new openings.Failed h = record { cause = openings.Failed; is = refl; refused = h }
unopened_decides w schedule old new openings.NoMemory h = inl (record { cause = openings.NoMemory; is = refl; refused = h })
