-- Where the plan begins, that it stands over the calls of other hosts, how it is cut, and its next step.
use Rattle.std.proofs.Common.{◌≡◌, ◌≢◌, ◌<◌, ◌≤◌, ◌+◌, ◌-◌, ◌∙◌, ℕ, None, Some, refl, ap, sym, subst, arith, inl, inr, length}
use Rattle.vol_base.specs.declared.answer.Answer.TheVariants.{Cut}
use Rattle.vol_base.specs.declared.answer.CutBy.{CutBy}
use Rattle.vol_base.specs.declared.answer.ServeCounts.{ServeCounts}
use Rattle.vol_base.specs.declared.answer.Step.{Step}
use Rattle.vol_base.specs.declared.command.Command.TheVariants.{Serve}
use Rattle.vol_layout.specs.declared.geometry.Geometry.{Geometry}
use Rattle.vol_layout.specs.declared.kind.Kind.TheVariants as kinds
use Rattle.vol_layout.specs.declared.kind.Resource.TheVariants.{File}
use Rattle.lock_store.specs.declared.answers.StepNo.{StepNo}
use Rattle.lock_store.specs.declared.answers.StepNo.TheVariants as steps
use Rattle.lock_store.specs.declared.host.HostState.{HostState}
use Rattle.lock_store.specs.Memories.{holds}
use Rattle.lock_store.specs.Views.{host_at, key_at}
use Rattle.disk_locks.specs.Consistent.{Consistent}
use Rattle.host_facts.specs.Others.{Others}
use Rattle.host_facts.specs.Views.{WorldView}
use Rattle.host_notes.specs.Remembered.{IsRemembered}
use Rattle.host_runs.specs.Awaited.{wanted}
use Rattle.host_runs.specs.HintCauses.{hints_of_requests, requested_hints}
use Rattle.host_runs.specs.NotedCalls.{ShowsKind, SomeCall, sum_read}
use Rattle.host_runs.specs.Notes.{Notes}
use Rattle.plan_parts.specs.Cuts.{IsCut, IsUntouched, cut_by}
use Rattle.plan_parts.specs.QuietCalls.{IsFullNoted, Noted, placed_of}
use Rattle.plan_parts.specs.Steps.{IsAtRest, IsReady, OwesStep}
use Rattle.plan_parts.specs.declared.outcome.Outcome.{Outcome}
use Rattle.plan_parts.specs.declared.outcome.Outcome.TheVariants as outcomes
use Rattle.plan_parts.specs.laws.CutCallLaws.{cut_untouched, cut_weaker}
use Rattle.plan_parts.specs.laws.QuietCallLaws.{valid_now}
use Rattle.plan_parts.specs.laws.VolumeSteps.{volume_step_cut}
use Rattle.hint_plans.specs.laws.HostLaws.{ready_key, ready_on}
use Rattle.hint_plans.specs.laws.StillLaws.{rests_still}
use Rattle.host_facts.specs.laws.FactLaws.{joined_key}
use Rattle.share_plans.specs.Stands.{At, IsHost}
use Rattle.share_plans.specs.declared.stage.Core.{Core}
use Rattle.share_plans.specs.declared.stage.Stage.{Stage}
use Rattle.share_plans.specs.declared.stage.Stage.TheVariants as stages
use Rattle.share_plans.specs.Went.{answer_at}
use Rattle.share_plans.specs.declared.share.SharePlan.{SharePlan}
use Rattle.share_plans.specs.laws.ShareStays.{share_still}
use Rattle.serve_plan.specs.Files.{IsHeld}
use Rattle.serve_plan.specs.Plans.{Agrees, HasFile, PlanStands, ServeNoted, StandsAt, left, outcome_at}
use Rattle.serve_plan.specs.Requests.{total}
use Rattle.serve_plan.specs.Steps.{HasStepped, Went, later_of, step_of}
use Rattle.serve_plan.specs.declared.plan.Come.{Come}
use Rattle.serve_plan.specs.declared.plan.Come.TheVariants.{Answered}
use Rattle.serve_plan.specs.declared.plan.Doing.{Doing}
use Rattle.serve_plan.specs.declared.plan.Doing.TheVariants as doings
use Rattle.serve_plan.specs.declared.plan.Serving.{Serving}
use Rattle.serve_plan.specs.laws.NoteLaws.{rest_noted}
use Rattle.serve_plan.specs.laws.ShareLaws.{none_placed}

-- a plan that begins: of a host that is ready, whose notes of before agree with it
abbrev pub no_counts : ServeCounts
no_counts = record { linked = 0; already = 0; differs = 0; gone = 0 }

pub serve_begins : (v : WorldView) (h : ℕ) → IsReady v h → h < v.locks.geometry.hosts → PlanStands v h no_counts doings.Begins
serve_begins v h ready host = record { host = host; at = (ready, refl); few = omega arith }

-- at most 145,281 steps come
pub serve_few : (v : WorldView) → Consistent v.locks → left v.locks.geometry doings.Begins ≤ 145281
serve_few v c = let most = c.geometry.files.1 in omega (arith, most)

-- no count comes to its type's end, and the next file has a number
pub few_counts : (v : WorldView) (h : ℕ) (counts : ServeCounts) (s : Serving) (plan : SharePlan) → Consistent v.locks
    → PlanStands v h counts (doings.Shares s plan) → (total counts ≤ 8064) × (s.done ≤ 8064)
few_counts v h counts s plan c is =
    let most = c.geometry.files.1 in
    let few = is.few in
    let below = is.at.0.file.below in
    let more = is.at.0.more in
    let many = is.at.0.few in (omega (arith, most, few, below), omega (arith, more, many))

pub file_room : (v : WorldView) (h f : ℕ) → Consistent v.locks → HasFile v h f → f + 1 ≤ 64
file_room v h f c has = let most = c.geometry.files.1 in let below = has.below in omega (arith, most, below)

-- over the calls of other hosts
module _ (v w : WorldView) (h x : ℕ) (c : Consistent v.locks) (others : Others x v w) (apart : h ≢ x) where
  memory : host_at w.locks h ≡ host_at v.locks h
  memory = others.locks.memories h apart

  geometry : w.locks.geometry ≡ v.locks.geometry
  geometry = others.locks.lasts.geometry

  held_back : (f : ℕ) → IsHeld w h f → IsHeld v h f
  held_back f held = ap (λ (m : HostState). holds m (File f)) (sym memory) ∙ held

  ready_still : IsReady v h → IsReady w h
  ready_still ready = ready_on v w h geometry memory (λ a. others.facts h a apart) ready

  file_still : (f : ℕ) → HasFile v h f → HasFile w h f
  file_still f has = record {
    below = subst (λ (g : Geometry). f < g.files) (sym geometry) has.below;
    held = ap (λ (m : HostState). holds m (File f)) memory ∙ has.held;
  }

  at_still : (counts : ServeCounts) (doing : Doing) → StandsAt v h counts doing → StandsAt w h counts doing
  at_still counts doings.Begins at = (ready_still at.0, at.1)
  at_still counts (doings.Reads f) at = (ready_still at.0, file_still f at.1)
  at_still counts (doings.Shares s plan) at = (
    record {
      file = file_still s.file at.0.file;
      entries = at.0.entries ∙ ap (λ (g : Geometry). requested_hints g s.block.0) (sym geometry);
      volume = at.0.volume ∙ sym geometry;
      few = at.0.few;
      more = at.0.more;
    },
    record {
      request = at.1.request;
      here = at.1.here;
      host = at.1.host;
      file = at.1.file;
      index = at.1.index;
      source = at.1.source;
      at = share_still v w plan.core x c others (λ same. apart (sym at.1.host ∙ same)) plan.stage at.1.at;
    },
  )
  at_still counts (doings.Empties f block) at = (ready_still at.0, file_still f at.1)
  at_still counts doings.Ended at = absurd at

  pub plan_still : (counts : ServeCounts) (doing : Doing) → PlanStands v h counts doing → PlanStands w h counts doing
  plan_still counts doing is = record {
    host = subst (λ (g : Geometry). h < g.hosts) (sym geometry) is.host;
    at = at_still counts doing is.at;
    few = is.few;
  }

  pub left_still : (doing : Doing) → left w.locks.geometry doing ≡ left v.locks.geometry doing
  left_still doing = ap (λ (g : Geometry). left g doing) geometry

  noted_still : (outcome : Outcome) (counts : ServeCounts) (more end : ℕ) (n : Notes) → ServeNoted h v outcome counts more end n
      → ServeNoted h w outcome counts more end n
  noted_still outcome counts more end n at = record {
    noted = record {
      remembered = subst (λ (m : HostState). IsRemembered w.locks.geometry n.memory m) (sym memory)
          (subst (λ (g : Geometry). IsRemembered g n.memory (host_at v.locks h)) (sym geometry) at.noted.remembered);
      placed_is = at.noted.placed_is;
      shown_is = at.noted.shown_is;
      full = subst (λ (g : Geometry). IsFullNoted g Serve outcome n.calls) (sym geometry) at.noted.full;
      asks = at.noted.asks;
      wants = ap (λ (g : Geometry). wanted g Serve n.calls n.digests n.asks) geometry ∙ at.noted.wants;
    };
    sum = subst (λ (g : Geometry). sum_read g (hints_of_requests g) n.calls ≡ total counts + more) (sym geometry) at.sum;
    read = λ f below held.
        subst (λ (g : Geometry). (block : _) × SomeCall (ShowsKind g (kinds.Request f) block) n.calls) (sym geometry)
        (at.read f below (held_back f held));
  }

  -- and the notes agree with it
  pub agrees_still : (counts : ServeCounts) (doing : Doing) (n : Notes) → Agrees h v counts doing n → Agrees h w counts doing n
  agrees_still counts doings.Begins n rest =
      (rests_still v w h x c others apart n.pending n (record { rests = rest; pending_is = refl })).rests
  agrees_still counts (doings.Reads f) n at = noted_still outcomes.Open counts 0 f n at
  agrees_still counts (doings.Shares s plan) n at =
      noted_still (outcome_at (doings.Shares s plan)) counts (length s.requests.entries - s.done) (s.file + 1) n at
  agrees_still counts (doings.Empties f block) n at = noted_still outcomes.Open counts 0 (f + 1) n at
  agrees_still counts doings.Ended n at = absurd at

-- a step that was refused cuts the command
placed_none : (doing : Doing) → placed_of (outcome_at doing) ≡ None
placed_none doings.Begins = refl
placed_none (doings.Reads f) = refl
placed_none (doings.Shares s plan) = none_placed (answer_at plan.stage)
placed_none (doings.Empties f block) = refl
placed_none doings.Ended = refl

-- the host of a share is joined
share_host : (v : WorldView) (core : Core) (stage : Stage) → At v core stage → IsHost v core.host core.file
share_host v core (stages.Reads t) at = at.0.places.is_host
share_host v core (stages.Peeks own) at = at.0.places.is_host
share_host v core (stages.Locks pair) at = at.0.places.is_host
share_host v core (stages.LocksSource pair) at = at.0.places.is_host
share_host v core (stages.PeeksAgain pair) at = at.0.base.places.is_host
share_host v core (stages.ReadsSource pair) at = at.0.base.places.is_host
share_host v core (stages.ReadsOwn pair block) at = at.0.base.places.is_host
share_host v core (stages.CountsOwn pair) at = at.0.base.places.is_host
share_host v core (stages.CountsSource pair group) at = at.0.base.places.is_host
share_host v core (stages.Commits pair group other) at = at.0.base.places.is_host
share_host v core (stages.Closes closing answer) at = at.0.is_host
share_host v core stages.Over at = absurd at

share_key : (v : WorldView) (core : Core) (stage : Stage) → Consistent v.locks → At v core stage → key_at v.locks core.host ≢ 0
share_key v core stage c at =
    joined_key v.locks.geometry.hosts _ core.host (host_at v.locks core.host) (c.memories core.host) (share_host v core stage at).joined

pub plan_key : (v : WorldView) (h : ℕ) (counts : ServeCounts) (doing : Doing) → Consistent v.locks → StandsAt v h counts doing
    → key_at v.locks h ≢ 0
plan_key v h counts doings.Begins c at = ready_key v h c at.0
plan_key v h counts (doings.Reads f) c at = ready_key v h c at.0
plan_key v h counts (doings.Shares s plan) c at =
    subst (λ (x : ℕ). key_at v.locks x ≢ 0) at.1.host (share_key v plan.core plan.stage c at.1.at)
plan_key v h counts (doings.Empties f block) c at = ready_key v h c at.0
plan_key v h counts doings.Ended c at = absurd at

open_noted : (v : WorldView) (h : ℕ) (counts : ServeCounts) (doing : Doing) → StandsAt v h counts doing → (n : Notes)
    → Agrees h v counts doing n → Noted Serve h v (outcome_at doing) n
open_noted v h counts doings.Begins at n rest = (rest_noted v h 0 counts n rest at.1 (λ k after below held. omega (arith, below))).noted
open_noted v h counts (doings.Reads f) at n noted = noted.noted
open_noted v h counts (doings.Shares s plan) at n noted = noted.noted
open_noted v h counts (doings.Empties f block) at n noted = noted.noted
open_noted v h counts doings.Ended at n noted = absurd at

pub serve_cut : (v w : WorldView) (h : ℕ) (old new : ServeCounts) (doing later : Doing) (why : StepNo) (by : CutBy) (step : Step)
    → Consistent v.locks → PlanStands v h old doing → IsCut h v w why → cut_by why ≡ Some by → step ≡ step_of (Answered (Cut by))
    → HasStepped h v w old new doing later step
serve_cut v w h old new doing later why by step c is cut by_is step_is =
    inr (record {
      by = by;
      step_is = step_is;
      state = (cut Serve).1.state;
      owes = subst (λ (s : Step). OwesStep Serve h v w s (Agrees h v old doing) (IsAtRest w h)) (sym step_is)
          (volume_step_cut Serve h v w why by (outcome_at doing) (Agrees h v old doing) by_is tt (plan_key v h old doing c is.at) (valid_now v c)
          (λ n was. tt) (open_noted v h old doing is.at) (cut_weaker Serve v w h why (Agrees h v old doing) (cut Serve)));
    })

-- a step that was made
pub serve_went : (v w : WorldView) (h : ℕ) (old new last : ServeCounts) (doing later : Doing) (come : Come) (step : Step)
    → Went h v w old new doing come → last ≡ new → step ≡ step_of come → later ≡ later_of come → HasStepped h v w old last doing later step
serve_went v w h old new last doing later come step went same step_is later_is =
    inl (come, subst (λ (n : ServeCounts). Went h v w old n doing come) (sym same) went, step_is, later_is)

-- nothing was done for want of memory
pub serve_untouched : (v w : WorldView) (h : ℕ) (why : StepNo) → IsCut h v w why → why ≡ steps.NoMemory → IsUntouched h v w
serve_untouched v w h why cut is = cut_untouched Serve h v w (λ n. Unit {0}) (subst (IsCut h v w) is cut Serve)
