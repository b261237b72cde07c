-- Where a merge begins, what its notes say, and that it stands over the calls of other hosts, and behind the digest that was handed in.
use Rattle.std.proofs.Common.{◌≡◌, ◌≢◌, ◌<◌, ◌≤◌, ◌∙◌, ℕ, List, None, Some, ap, arith, refl, subst, sym}
use Rattle.std.specs.Prelude.{All}
use Rattle.vol_base.specs.declared.block.Block.{Block}
use Rattle.vol_base.specs.declared.block.Digest.{Digest}
use Rattle.vol_base.specs.declared.command.Command.TheVariants.{Merge}
use Rattle.vol_layout.specs.declared.geometry.Geometry.{Geometry}
use Rattle.vol_layout.specs.declared.kind.Resource.TheVariants.{File}
use Rattle.hint_blocks.specs.declared.entry.LogEntry.{LogEntry}
use Rattle.hint_blocks.specs.Entries.{IsLogEntry}
use Rattle.hint_plans.specs.Plans.{RestsWith}
use Rattle.hint_plans.specs.laws.FirstLaws as hint_laws
use Rattle.hint_plans.specs.laws.HostLaws.{ready_key}
use Rattle.hint_plans.specs.laws.StillLaws.{rests_still}
use Rattle.lock_store.specs.declared.host.HostState.{HostState}
use Rattle.lock_store.specs.Memories.{holds}
use Rattle.lock_store.specs.Views.{host_at, key_at}
use Rattle.disk_locks.specs.Consistent.{Consistent}
use Rattle.host_facts.specs.Others.{Others}
use Rattle.host_facts.specs.Views.{WorldView}
use Rattle.host_notes.specs.Remembered.{IsRemembered}
use Rattle.host_runs.specs.Awaited.{wanted}
use Rattle.host_runs.specs.Notes.{Notes, with_digest}
use Rattle.merge_actions.specs.laws.StillLaws.{act_key, act_still}
use Rattle.merge_actions.specs.declared.acting.ActPlan.{ActPlan}
use Rattle.merge_decide.specs.Decision.{decision}
use Rattle.merge_looks.specs.declared.look.Look.{Look}
use Rattle.merge_looks.specs.laws.LookLaws.{look_still}
use Rattle.merge_shelves.specs.declared.room.Noted.{Noted}
use Rattle.merge_steps.specs.Logs.{unread}
use Rattle.merge_steps.specs.Steps.{IsMerging, MergeCame}
use Rattle.merge_steps.specs.Sweeps.{IsHeld}
use Rattle.merge_steps.specs.laws.CallLaws.{merge_noted_still, merging_still}
use Rattle.merge_steps.specs.laws.EndLaws.{merge_handed, merge_waits}
use Rattle.merge_steps.specs.laws.LogLaws.{logs_unread}
use Rattle.plan_parts.specs.QuietCalls as quiet
use Rattle.plan_parts.specs.Steps.{IsReady}
use Rattle.plan_parts.specs.declared.outcome.Outcome.TheVariants.{Open}
use Rattle.sorted_shard.specs.Shelves as shelf
use Rattle.merge_plan.specs.Plans.{Agrees, IsActing, IsAsking, IsLookedAt, IsReading, IsSwept, IsUnasked, PlanStands, StandsAt, left, logs_of, outcome_at, supplied}
use Rattle.merge_plan.specs.Steps.{Behind}
use Rattle.merge_plan.specs.declared.plan.Come.{Come}
use Rattle.merge_plan.specs.declared.plan.Come.TheVariants as comes
use Rattle.merge_plan.specs.declared.plan.Doing.{Doing}
use Rattle.merge_plan.specs.declared.plan.Doing.TheVariants as doings
use Rattle.merge_plan.specs.declared.room.MergeRoom.{MergeRoom}
use Rattle.merge_plan.specs.laws.OnLaws.{emptying_on, filling_on, here_on, open_on, sorted_on, swapping_on}

-- a merge that begins: of a host that is ready, whatever its room has
pub merge_begins : (v : WorldView) (h : ℕ) (room : MergeRoom) → IsReady v h → h < v.locks.geometry.hosts → PlanStands v h room doings.Begins
merge_begins v h room ready host = (host, record { host = host; ready = ready })

-- at most 100,018 steps come
pub merge_few : (room : MergeRoom) → left room doings.Begins ≤ 100018
merge_few room = omega arith

-- what the notes of a merge say, with these pending hints
module _ (h : ℕ) (v : WorldView) (pending : List LogEntry) where
  -- those of a host at rest agree with the first step
  pub begun_noted : (room : MergeRoom) (n : Notes) → RestsWith h v pending n → Agrees h v pending room doings.Begins n
  begun_noted room n rests = rests

  -- and say as much as those of a merge that made no call
  pub rest_noted : (n : Notes) → RestsWith h v pending n → MergeCame h v Open pending unread n
  rest_noted n rests =
      let noted = hint_laws.open_noted v h pending n rests Merge refl in record {
        noted = noted.noted;
        pending_is = noted.pending_is;
        logs = logs_unread v.locks.geometry h n.calls (ap (λ (m : Notes). m.calls) rests.rests.between);
      }

  -- they agree with the memory
  pub agrees_remembered : (room : MergeRoom) (doing : Doing) (n : Notes) → Agrees h v pending room doing n
      → IsRemembered v.locks.geometry n.memory (host_at v.locks h)
  agrees_remembered room doings.Begins n rests = rests.rests.remembered
  agrees_remembered room (doings.Asks s block) n asking = asking.noted.noted.remembered
  agrees_remembered room doing n came = came.noted.remembered

  pub behind_remembered : (room : MergeRoom) (come : Come) (n : Notes) → Behind h v pending room come n
      → IsRemembered v.locks.geometry n.memory (host_at v.locks h)
  behind_remembered room (comes.More later) n agrees = agrees_remembered room later n agrees
  behind_remembered room (comes.Answered answer) n rests = rests.rests.remembered

  -- these hints are pending
  pub pending_is : (room : MergeRoom) (doing : Doing) (n : Notes) → Agrees h v pending room doing n → n.pending ≡ pending
  pending_is room doings.Begins n rests = rests.pending_is
  pending_is room (doings.Asks s block) n asking = asking.noted.pending_is
  pending_is room doing n came = came.pending_is

  -- a merge that waits for no digest
  pub open_noted : (room : MergeRoom) (doing : Doing) (n : Notes) → IsUnasked doing → Agrees h v pending room doing n
      → quiet.Noted Merge h v (outcome_at doing) n
  open_noted room doings.Begins n unasked rests = (rest_noted n rests).noted
  open_noted room (doings.Asks s block) n unasked asking = absurd unasked
  open_noted room doing n unasked came = came.noted

  pub asks_nothing : (room : MergeRoom) (doing : Doing) (n : Notes) → IsUnasked doing → Agrees h v pending room doing n
      → wanted v.locks.geometry Merge n.calls n.digests n.asks ≡ None
  asks_nothing room doing n unasked agrees = (open_noted room doing n unasked agrees).wants

  -- and one that waits for one
  pub waits : (room : MergeRoom) (s : ℕ) (block : Block) (n : Notes) → Agrees h v pending room (doings.Asks s block) n
      → wanted v.locks.geometry Merge n.calls n.digests n.asks ≡ Some block
  waits room s block n asking = merge_waits h v pending (logs_of v.locks.geometry room (doings.Asks s block)) block n asking

-- a host under way has a key
at_key : (v : WorldView) (h : ℕ) (room : MergeRoom) (doing : Doing) → Consistent v.locks → StandsAt v h room doing → key_at v.locks h ≢ 0
at_key v h room doings.Begins c at = ready_key v h c at.ready
at_key v h room (doings.Acts s plan) c at =
    let acting = at.next.2 in subst (λ (x : ℕ). key_at v.locks x ≢ 0) acting.host (act_key v plan c acting.at)
at_key v h room doings.Ended c at = absurd at
at_key v h room doing c at = ready_key v h c at.0.ready

pub plan_key : (v : WorldView) (h : ℕ) (room : MergeRoom) (doing : Doing) → Consistent v.locks → PlanStands v h room doing → key_at v.locks h ≢ 0
plan_key v h room doing c is = at_key v h room doing c is.1

-- over the calls of other hosts
module _ (v w : WorldView) (h x : ℕ) (c : Consistent v.locks) (others : Others x v w) (apart : h ≢ x) where
  memory : host_at w.locks h ≡ host_at v.locks h
  memory = others.locks.memories h apart

  geometry : w.locks.geometry ≡ v.locks.geometry
  geometry = others.locks.lasts.geometry

  still : IsMerging v h → IsMerging w h
  still is = merging_still v w h x others apart is

  other_host : (y : ℕ) → y ≡ h → y ≢ x
  other_host y same is_x = apart (sym same ∙ is_x)

  reading_still : (room : MergeRoom) (log : ℕ) → IsReading v room log → IsReading w room log
  reading_still room log is = record {
    below = subst (λ (g : Geometry). log < g.logs) (sym geometry) is.below;
    few = is.few;
    entries = subst (λ (g : Geometry). All (λ (noted : Noted). IsLogEntry g noted.entry) room.logs) (sym geometry) is.entries;
    marks = is.marks;
    filled = is.filled;
    unfilled = is.unfilled;
    at = is.at;
    counts = is.counts;
    shelf = is.shelf ∙ sym geometry;
  }

  held_still : (noted : Noted) → IsHeld v h noted → IsHeld w h noted
  held_still noted held = ap (λ (m : HostState). holds m (File noted.entry.file)) memory ∙ held

  looked_still : (l : Look) (noted : Noted) → IsLookedAt v h l noted → IsLookedAt w h l noted
  looked_still l noted (held, host, file, index, at) =
      (held_still noted held, host, file, index, look_still v w l x others (other_host l.host host) at)

  acting_still : (room : MergeRoom) (plan : ActPlan) (noted : Noted) → IsActing v h room plan noted → IsActing w h room plan noted
  acting_still room plan noted is = record {
    host = is.host;
    entry = is.entry;
    now = is.now;
    decided = is.decided
        ∙ ap (λ (m : HostState). decision noted.entry (holds m (File noted.entry.file)) is.now
        (shelf.with_digest noted.entry.digest.0 room.sweep.shelf.entries)) (sym memory);
    at = act_still v w plan x c others (other_host plan.host is.host) is.at;
  }

  -- what is so of the next entry
  swept_still : (room : MergeRoom) (s : ℕ) (So Then : Noted → Type 0) → ((noted : Noted) → So noted → Then noted) → IsSwept v h room s So
      → IsSwept w h room s Then
  swept_still room s So Then on is = record {
    sorted = sorted_on v w h geometry room is.sorted;
    opened = open_on v w h geometry room s is.opened;
    next =
        let (noted, here, so) = is.next in (noted, here_on v w h geometry room.logs s room.sweep.at noted here, on noted so);
  }

  at_still : (room : MergeRoom) (doing : Doing) → StandsAt v h room doing → StandsAt w h room doing
  at_still room doings.Begins at = still at
  at_still room (doings.ReadsLog l) at = (still at.0, reading_still room l at.1)
  at_still room (doings.ReadsShard s k) at = (still at.0, filling_on v w h geometry room s k at.1)
  at_still room (doings.Looks s l) at = (still at.0, swept_still room s (IsLookedAt v h l) (IsLookedAt w h l) (looked_still l) at.1)
  at_still room (doings.Asks s block) at = (still at.0, swept_still room s (IsHeld v h) (IsHeld w h) held_still at.1)
  at_still room (doings.Decides s digest) at = (still at.0, swept_still room s (IsHeld v h) (IsHeld w h) held_still at.1)
  at_still room (doings.Acts s plan) at = swept_still room s (IsActing v h room plan) (IsActing w h room plan) (acting_still room plan) at
  at_still room (doings.Swaps s k) at = (still at.0, swapping_on v w h geometry room s k at.1)
  at_still room (doings.EmptiesLog l) at = (still at.0, emptying_on v w h geometry room l at.1)
  at_still room doings.Ended at = absurd at

  -- the plan stands
  pub plan_still : (room : MergeRoom) (doing : Doing) → PlanStands v h room doing → PlanStands w h room doing
  plan_still room doing is = (subst (λ (g : Geometry). h < g.hosts) (sym geometry) is.0, at_still room doing is.1)

  -- and the notes agree with it
  module _ (pending : List LogEntry) (room : MergeRoom) where
    came_still : (doing : Doing) (n : Notes) → MergeCame h v (outcome_at doing) pending (logs_of v.locks.geometry room doing) n
        → MergeCame h w (outcome_at doing) pending (logs_of w.locks.geometry room doing) n
    came_still doing n came =
        subst (λ (g : Geometry). MergeCame h w (outcome_at doing) pending (logs_of g room doing) n) (sym geometry)
        (merge_noted_still v w h x (outcome_at doing) pending (logs_of v.locks.geometry room doing) n others apart came)

    pub agrees_still : (doing : Doing) (n : Notes) → Agrees h v pending room doing n → Agrees h w pending room doing n
    agrees_still doings.Begins n rests = rests_still v w h x c others apart pending n rests
    agrees_still (doings.Asks s block) n asking = record {
      noted = came_still (doings.Asks s block) (record n { asks = None }) asking.noted;
      asks = asking.asks;
      earlier = asking.earlier;
      last = asking.last;
      calls_are = asking.calls_are;
    }
    agrees_still doing n came = came_still doing n came

-- behind the digest that was waited for
module _ (v : WorldView) (h : ℕ) (room : MergeRoom) (digest : Digest) where
  pub supply_stands : (doing : Doing) → IsAsking doing → PlanStands v h room doing → PlanStands v h room (supplied digest doing)
  supply_stands (doings.Asks s block) asks is = is
  supply_stands doing asks is = absurd asks

  pub supply_noted : (pending : List LogEntry) (doing : Doing) (n : Notes) → IsAsking doing → Agrees h v pending room doing n
      → Agrees h v pending room (supplied digest doing) (with_digest digest n)
  supply_noted pending (doings.Asks s block) n asks asking =
      merge_handed h v pending (logs_of v.locks.geometry room (doings.Asks s block)) block digest n asking
  supply_noted pending doing n asks asking = absurd asks

  -- fewer steps are left with it
  pub supply_fewer : (doing : Doing) → IsAsking doing → left room (supplied digest doing) < left room doing
  supply_fewer (doings.Asks s block) asks = omega arith
  supply_fewer doing asks = absurd asks
