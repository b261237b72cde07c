-- What stands between two steps of the plan, and what its host's notes agree with there.
use Rattle.std.specs.Prelude.{◌≡◌, ◌<◌, ◌≤◌, ◌+◌, ◌-◌, ◌*◌, ℕ, List, Some, length, slice_get}
use Rattle.vol_base.specs.declared.answer.ServeCounts.{ServeCounts}
use Rattle.vol_base.specs.declared.command.Command.TheVariants.{Serve}
use Rattle.vol_layout.specs.declared.geometry.Geometry.{Geometry}
use Rattle.vol_layout.specs.declared.kind.Kind.TheVariants as kinds
use Rattle.hint_blocks.specs.declared.entry.Request.{Request}
use Rattle.host_facts.specs.Views.{WorldView}
use Rattle.host_runs.specs.HintCauses.{hints_of_requests, requested_hints}
use Rattle.host_runs.specs.NotedCalls.{ShowsKind, SomeCall, sum_read}
use Rattle.host_runs.specs.Notes.{Notes}
use Rattle.plan_parts.specs.QuietCalls.{Noted}
use Rattle.plan_parts.specs.Steps.{IsAtRest, IsReady}
use Rattle.plan_parts.specs.declared.outcome.Outcome.{Outcome}
use Rattle.plan_parts.specs.declared.outcome.Outcome.TheVariants as outcomes
use Rattle.share_plans.specs.Lefts as lefts
use Rattle.share_plans.specs.Stands as share
use Rattle.share_plans.specs.Went.{answer_at, outcome_by}
use Rattle.share_plans.specs.declared.share.SharePlan.{SharePlan}
use Rattle.share_plans.specs.declared.sharing.Place.TheVariants.{Arena}
use Rattle.serve_plan.specs.Files.{IsHeld}
use Rattle.serve_plan.specs.Requests.{total}
use Rattle.serve_plan.specs.declared.plan.Doing.{Doing}
use Rattle.serve_plan.specs.declared.plan.Doing.TheVariants as doings
use Rattle.serve_plan.specs.declared.plan.Serving.{Serving}

-- a file of the volume that the host holds for writing
pub record HasFile (v : WorldView) (h f : ℕ) : Type 0 where
  pub below : f < v.locks.geometry.files
  pub held : IsHeld v h f

-- the requests of a held file, in range, with one that is not handled yet
pub record IsServing (v : WorldView) (h : ℕ) (s : Serving) : Type 0 where
  pub file : HasFile v h s.file
  pub entries : s.requests.entries ≡ requested_hints v.locks.geometry s.block.0
  pub volume : s.requests.geometry ≡ v.locks.geometry
  pub few : length s.requests.entries ≤ 126
  pub more : s.done < length s.requests.entries

-- the share is that of this request, on its way
pub record IsSharing (v : WorldView) (h : ℕ) (s : Serving) (plan : SharePlan) : Type 0 where
  pub request : Request
  pub here : slice_get s.requests.entries s.done ≡ Some request
  pub host : plan.core.host ≡ h
  pub file : plan.core.file ≡ s.file
  pub index : plan.core.index ≡ request.index
  pub source : plan.core.source ≡ Arena request.slot
  pub at : share.At v plan.core plan.stage

-- what stands before each step
abbrev pub StandsAt : WorldView → ℕ → ServeCounts → Doing → Type 0
StandsAt v h counts doings.Begins = IsReady v h × (total counts ≡ 0)
StandsAt v h counts (doings.Reads f) = IsReady v h × HasFile v h f
StandsAt v h counts (doings.Shares s plan) = IsServing v h s × IsSharing v h s plan
StandsAt v h counts (doings.Empties f block) = IsReady v h × HasFile v h f
StandsAt v h counts doings.Ended = ⊥

-- the file before which all held files were served, and how many requests were read and not counted yet
abbrev pub served_to : Doing → ℕ
served_to doings.Begins = 0
served_to (doings.Reads f) = f
served_to (doings.Shares s plan) = s.file + 1
served_to (doings.Empties f block) = f + 1
served_to doings.Ended = 0

abbrev pub uncounted : Doing → ℕ
uncounted (doings.Shares s plan) = length s.requests.entries - s.done
uncounted doing = 0

-- a host of the volume; no more requests were read than its files have
pub record PlanStands (v : WorldView) (h : ℕ) (counts : ServeCounts) (doing : Doing) : Type 0 where
  pub host : h < v.locks.geometry.hosts
  pub at : StandsAt v h counts doing
  pub few : total counts + uncounted doing ≤ 126 * served_to doing

-- what the command has come to: nothing, but where a lock was busy
abbrev pub outcome_at : Doing → Outcome
outcome_at (doings.Shares s plan) = outcome_by (answer_at plan.stage)
outcome_at doing = outcomes.Open

-- the requests of each held file before this one were read, and so many are counted or not counted yet
pub record ServeNoted (h : ℕ) (v : WorldView) (outcome : Outcome) (counts : ServeCounts) (more end : ℕ) (n : Notes) : Type 0 where
  pub noted : Noted Serve h v outcome n
  pub sum : sum_read v.locks.geometry (hints_of_requests v.locks.geometry) n.calls ≡ total counts + more
  pub read : (f : ℕ) → f < end → IsHeld v h f → (block : List ℕ) × SomeCall (ShowsKind v.locks.geometry (kinds.Request f) block) n.calls

-- what the notes agree with before each step
abbrev pub Agrees : ℕ → WorldView → ServeCounts → Doing → Notes → Type 0
Agrees h v counts doings.Begins n = IsAtRest v h n
Agrees h v counts (doings.Reads f) n = ServeNoted h v outcomes.Open counts 0 f n
Agrees h v counts (doings.Shares s plan) n =
    ServeNoted h v (outcome_by (answer_at plan.stage)) counts (length s.requests.entries - s.done) (s.file + 1) n
Agrees h v counts (doings.Empties f block) n = ServeNoted h v outcomes.Open counts 0 (f + 1) n
Agrees h v counts doings.Ended n = ⊥

-- the steps that are left at most, with the one that comes next: a file's block is read, 126 requests are handled, and it is made empty
abbrev pub left : Geometry → Doing → ℕ
left g doings.Begins = 2270 * g.files + 1
left g (doings.Reads f) = 2270 * (g.files - f)
left g (doings.Shares s plan) =
    2270 * (g.files - s.file - 1) + 18 * (length s.requests.entries - s.done - 1) + lefts.left plan.core plan.stage + 1
left g (doings.Empties f block) = 2270 * (g.files - f - 1) + 1
left g doings.Ended = 0
