-- The steps of the next entry: what stands at its place is looked at, and what was decided is done.
use Rattle.std.proofs.Common.{◌≡◌, ◌≢◌, ◌+◌, ◌-◌, ◌*◌, ◌<◌, ◌∙◌, ℕ, Bool, List, None, Option, Some, ap, arith, length, refl, subst, sym}
use Rattle.std.proofs.lemmas.Option.{slice_get_within}
use Rattle.vol_base.specs.declared.answer.Answer.TheVariants as answers
use Rattle.vol_base.specs.declared.block.Block.{Block}
use Rattle.vol_base.specs.declared.block.Key.{Key}
use Rattle.vol_base.specs.declared.command.Command.TheVariants.{Merge}
use Rattle.vol_layout.specs.declared.geometry.Geometry.{Geometry}
use Rattle.shared_disk.specs.Events.{event}
use Rattle.hint_blocks.specs.declared.entry.LogEntry.{LogEntry}
use Rattle.hint_plans.specs.laws.HostLaws.{ready_key}
use Rattle.lock_store.specs.Views.{key_at}
use Rattle.disk_locks.specs.Consistent.{Consistent}
use Rattle.host_facts.specs.Views.{WorldView}
use Rattle.host_runs.specs.Awaited.{MayAskFor}
use Rattle.merge_actions.specs.Acts.{outcome_at}
use Rattle.merge_actions.specs.Steps as acting
use Rattle.merge_actions.specs.declared.acting.ActPlan.{ActPlan}
use Rattle.merge_actions.specs.declared.acting.Acted.{Acted}
use Rattle.merge_actions.specs.declared.acting.Acted.TheVariants as acted
use Rattle.merge_actions.specs.laws.ActLaws.{act_placed}
use Rattle.merge_actions.specs.laws.StillLaws.{act_key}
use Rattle.merge_decide.specs.Decision.{decision}
use Rattle.merge_decide.specs.declared.outcome.Outcome.{Outcome as Ended}
use Rattle.merge_looks.specs.Looks as look
use Rattle.merge_looks.specs.declared.look.Look.{Look}
use Rattle.merge_looks.specs.declared.look.Seen.{Seen}
use Rattle.merge_looks.specs.declared.look.Seen.TheVariants as seen
use Rattle.merge_looks.specs.laws.LookLaws.{is_looking}
use Rattle.merge_shelves.specs.declared.room.Noted.{Noted}
use Rattle.merge_steps.specs.Logs.{LogsRead}
use Rattle.merge_steps.specs.Steps.{IsMerging, MergeCame, Went as CallWent}
use Rattle.merge_steps.specs.Sweeps.{IsHeld}
use Rattle.merge_steps.specs.laws.CallLaws.{merging_on}
use Rattle.merge_steps.specs.laws.EndLaws.{merge_asks, merge_goes_on}
use Rattle.plan_parts.specs.QuietCalls.{QuietCall}
use Rattle.plan_parts.specs.Steps.{IsReady}
use Rattle.plan_parts.specs.declared.outcome.Outcome.{Outcome}
use Rattle.plan_parts.specs.declared.outcome.Outcome.TheVariants as outcomes
use Rattle.share_plans.specs.Closings.{KeepsHolds}
use Rattle.share_plans.specs.laws.ClosingLaws.{keeps_memory}
use Rattle.sorted_shard.specs.Shelves.{with_digest}
use Rattle.merge_plan.specs.Followings.{IsDecided, IsFinished}
use Rattle.merge_plan.specs.Plans.{IsActing, IsLookedAt, IsSwept, PlanStands, all_read, entry_left}
use Rattle.merge_plan.specs.Steps.{IsBehindAct, IsBehindLook, Went}
use Rattle.merge_plan.specs.declared.plan.Come.{Come}
use Rattle.merge_plan.specs.declared.plan.Come.TheVariants.{Answered, More}
use Rattle.merge_plan.specs.declared.plan.Doing.{Doing}
use Rattle.merge_plan.specs.declared.plan.Doing.TheVariants as doings
use Rattle.merge_plan.specs.declared.room.MergeRoom.{MergeRoom}
use Rattle.merge_plan.specs.laws.FollowLaws.{decided_follows, few_shelves, finished_follows}
use Rattle.merge_plan.specs.laws.OnLaws.{held_on, here_on, open_on, sorted_on}
use Rattle.merge_plan.specs.laws.StepLaws.{owes_busy, owes_more, went_followed}

-- what was read of a shelf, and its next entry, behind a step that keeps the holds of its host's files
swept_on : (v w : WorldView) (h s : ℕ) (old : MergeRoom) (So Now : Noted → Type 0) → KeepsHolds h v w
    → ((noted : Noted) → So noted → Now noted) → IsSwept v h old s So → IsSwept w h old s Now
swept_on v w h s old So Now keeps so is = record {
  sorted = sorted_on v w h keeps.geometry old is.sorted;
  opened = open_on v w h keeps.geometry old s is.opened;
  next = (is.next.0, here_on v w h keeps.geometry old.logs s old.sweep.at is.next.0 is.next.1, so is.next.0 is.next.2);
}

-- what comes behind a step of a look, by what it came to
module _ (w : WorldView) (h s : ℕ) (old new : MergeRoom) (after : Look) (came : Option Seen) (next : Doing) where
  abbrev Behind : Option Seen → Type 0
  Behind x = IsBehindLook w h s old new after x (More next)

  pub behind_look : came ≡ None → new ≡ old → next ≡ doings.Looks s after → Behind came
  behind_look is new_is next_is = subst Behind (sym is) (new_is, ap (λ (d : Doing). More d) next_is)

  pub behind_nothing : (there : Seen) → came ≡ Some there → there ≡ seen.Nothing → (room : MergeRoom) (doing : Doing) → new ≡ room → next ≡ doing
      → IsDecided w h s None old room doing → Behind came
  behind_nothing there is there_is room doing new_is next_is decided =
      subst Behind (sym (is ∙ ap (λ (x : Seen). Some x) there_is))
      (doing, subst (λ (r : MergeRoom). IsDecided w h s None old r doing) (sym new_is) decided, ap (λ (d : Doing). More d) next_is)

  pub behind_block : (there : Seen) (block : Block) → came ≡ Some there → there ≡ seen.Block block → new ≡ old → next ≡ doings.Asks s block
      → Behind came
  behind_block there block is there_is new_is next_is =
      subst Behind (sym (is ∙ ap (λ (x : Seen). Some x) there_is)) (new_is, ap (λ (d : Doing). More d) next_is)

-- a look at the place of an entry made a step
module _ (v w : WorldView) (h s : ℕ) (old : MergeRoom) (l after : Look) (c : Consistent v.locks) (later : Consistent w.locks)
    (is : PlanStands v h old (doings.Looks s l)) where
  abbrev g : Geometry
  g = v.locks.geometry

  merging : IsMerging v h
  merging = is.1.0

  swept : IsSwept v h old s (IsLookedAt v h l)
  swept = is.1.1

  module _ {came : Option Seen} (step : look.Went v w l after came) where
    same_host : l.host ≡ h
    same_host = swept.next.2.1

    made : CallWent h v w step.call step.reply (all_read g old) (all_read g old)
    made = subst (λ (x : ℕ). CallWent x v w step.call step.reply (all_read g old) (all_read g old)) same_host (step.went (all_read g old))

    made_now : CallWent h v w step.call step.reply (all_read g old) (all_read w.locks.geometry old)
    made_now = subst (λ (x : Geometry). CallWent h v w step.call step.reply (all_read g old) (all_read x old)) (sym made.geometry) made

    keeps : KeepsHolds h v w
    keeps = keeps_memory h v w made.geometry made.memory

    merging_now : IsMerging w h
    merging_now = merging_on h v w step.call step.reply (all_read g old) (all_read g old) made merging

    held_now : (noted : Noted) → IsLookedAt v h l noted → IsHeld w h noted
    held_now noted (held, host, file, index, at) =
        held_on v w h noted keeps (subst (λ (f : ℕ). f < g.files) file (is_looking v l at).file) held

    -- the next entry is of a file that is held still
    pub looked_swept : IsSwept w h old s (IsHeld w h)
    looked_swept = swept_on v w h s old (IsLookedAt v h l) (IsHeld w h) keeps held_now swept

  looks_more : look.Went v w l after None → Went h v w old old (doings.Looks s l) (More (doings.Looks s after))
  looks_more step =
      let less = step.less in record {
        owes = λ pending.
            merge_goes_on v w h step.call step.reply (all_read g old) (all_read w.locks.geometry old) pending c merging (made_now step);
        does = (after, None, step, (refl, refl));
        stands = (
          (merging_now step).host,
          (
            merging_now step,
            swept_on v w h s old (IsLookedAt v h l) (IsLookedAt w h after)
                (keeps step) there swept,
          ),
        );
        keeps = keeps step;
        fewer = omega (arith, less);
        on = omega arith;
      }
    where
      there : (noted : Noted) → IsLookedAt v h l noted → IsLookedAt w h after noted
      there noted at = (
        held_now step noted at,
        step.same.host ∙ at.1,
        step.same.file ∙ at.2,
        step.same.index ∙ at.3,
        step.stands,
      )

  -- the digest of the block that stands there is waited for
  looks_asks : (block : Block) → look.Went v w l after (Some (seen.Block block))
      → Went h v w old old (doings.Looks s l) (More (doings.Asks s block))
  looks_asks block step = record {
    owes = λ pending.
        merge_asks v w h step.call step.reply (all_read g old) (all_read w.locks.geometry old) pending c merging (made_now step)
        block shown;
    does = (after, Some (seen.Block block), step, (refl, refl));
    stands = ((merging_now step).host, (merging_now step, looked_swept step));
    keeps = keeps step;
    fewer = omega arith;
    on = omega arith;
  }
    where
      shown : MayAskFor g Merge (Some (event (key_at v.locks h) step.call step.reply)) (Some block)
      shown =
          subst (λ (x : ℕ). MayAskFor g Merge (Some (event (key_at v.locks x) step.call step.reply)) (Some block))
          (same_host step) step.asks

  pub looked_went : (came : Option Seen) (new : MergeRoom) (come : Come) → look.Went v w l after came → IsBehindLook w h s old new after came come
      → Went h v w old new (doings.Looks s l) come
  looked_went None new come step (new_is, come_is) =
      subst (λ (x : Come). Went h v w old new (doings.Looks s l) x) (sym come_is)
      (subst (λ (r : MergeRoom). Went h v w old r (doings.Looks s l) (More (doings.Looks s after))) (sym new_is) (looks_more step))
  looked_went (Some (seen.Block block)) new come step (new_is, come_is) =
      subst (λ (x : Come). Went h v w old new (doings.Looks s l) x) (sym come_is)
      (subst (λ (r : MergeRoom). Went h v w old r (doings.Looks s l) (More (doings.Asks s block))) (sym new_is) (looks_asks block step))
  looked_went (Some seen.Nothing) new come step (doing, decided, come_is) =
      let there = looked_swept step in
      subst (λ (x : Come). Went h v w old new (doings.Looks s l) x) (sym come_is)
      (went_followed v w h old new (doings.Looks s l) (event (key_at v.locks h) step.call step.reply) (ready_key v h c merging.ready) outcomes.Open refl
      (λ pending n came. came.noted) old doing (entry_left old s 37) (20 * s + 5) (made_now step).quiet
      (decided_follows w h later (merging_now step) old new s None doing there.sorted there.opened there.next decided)
      (after, Some seen.Nothing, step, (doing, decided, refl)) (keeps step) (omega arith) (omega arith))

-- what comes behind a step of what was decided, by what it came to
module _ (w : WorldView) (h s : ℕ) (old new : MergeRoom) (after : ActPlan) (came : Option Acted) (come : Come) where
  abbrev Comes : Option Acted → Type 0
  Comes x = IsBehindAct w h s old new after x come

  pub behind_act : came ≡ None → new ≡ old → come ≡ More (doings.Acts s after) → Comes came
  behind_act is new_is come_is = subst Comes (sym is) (new_is, come_is)

  pub behind_busy : (there : Acted) (key : Key) → came ≡ Some there → there ≡ acted.Busy key → new ≡ old → come ≡ Answered (answers.Busy key)
      → Comes came
  behind_busy there key is there_is new_is come_is = subst Comes (sym (is ∙ ap (λ (x : Acted). Some x) there_is)) (new_is, come_is)

  pub behind_done : (there : Acted) (outcome : Ended) (slot : ℕ) → came ≡ Some there → there ≡ acted.Done outcome slot → (room : MergeRoom) (doing : Doing)
      → new ≡ room → come ≡ More doing → IsFinished w h s (record { action = after.action; outcome = outcome; slot = slot }) old room doing
      → Comes came
  behind_done there outcome slot is there_is room doing new_is come_is finished =
      subst Comes (sym (is ∙ ap (λ (x : Acted). Some x) there_is)) (
        doing,
        subst (λ (r : MergeRoom). IsFinished w h s (record { action = after.action; outcome = outcome; slot = slot }) old r doing) (sym new_is) finished,
        come_is,
      )

-- there is an entry on which it acts
pub next_within : (v : WorldView) (h s : ℕ) (room : MergeRoom) (plan : ActPlan) → PlanStands v h room (doings.Acts s plan)
    → room.sweep.at < length room.logs
next_within v h s room plan is = slice_get_within room.logs room.sweep.at is.1.next.0 is.1.next.1.next

-- what was done ended as its action does, with a slot of the volume
pub acted_ends : (v w : WorldView) (plan after : ActPlan) (came : Option Acted) (there : Acted) (outcome : Ended) (slot : ℕ) → came ≡ Some there
    → there ≡ acted.Done outcome slot → acting.Went v w plan after came → acting.HasActed w after.host after.action (acted.Done outcome slot)
acted_ends v w plan after came there outcome slot is there_is step =
    subst (acting.StandsBehind w after) (is ∙ ap (λ (x : Acted). Some x) there_is) step.stands

-- what was decided made a step
module _ (v w : WorldView) (h s : ℕ) (old : MergeRoom) (plan after : ActPlan) (c : Consistent v.locks) (later : Consistent w.locks)
    (is : PlanStands v h old (doings.Acts s plan)) where
  abbrev act_volume : Geometry
  act_volume = v.locks.geometry

  abbrev was : Outcome
  was = outcome_at plan.acting

  act_swept : IsSwept v h old s (IsActing v h old plan)
  act_swept = is.1

  some : key_at v.locks h ≢ 0
  some = subst (λ (x : ℕ). key_at v.locks x ≢ 0) act_swept.next.2.host (act_key v plan c act_swept.next.2.at)

  module _ {came : Option Acted} (step : acting.Went v w plan after came) where
    abbrev now : Outcome
    now = acting.outcome_behind after came

    act_keeps : KeepsHolds h v w
    act_keeps = subst (λ (x : ℕ). KeepsHolds x v w) act_swept.next.2.host step.keeps

    quiet : (pending : List LogEntry) (r : LogsRead)
        → QuietCall Merge h v w step.event (MergeCame h v was pending r) (MergeCame h w now pending r)
    quiet pending r =
        subst (λ (x : ℕ). QuietCall Merge x v w step.event (MergeCame x v was pending r) (MergeCame x w now pending r)) act_swept.next.2.host
        (step.quiet pending r)

    quiet_now : (pending : List LogEntry)
        → QuietCall Merge h v w step.event (MergeCame h v was pending (all_read act_volume old)) (MergeCame h w now pending (all_read w.locks.geometry old))
    quiet_now pending =
        subst (λ (x : Geometry). QuietCall Merge h v w step.event (MergeCame h v was pending (all_read act_volume old)) (MergeCame h w now pending (all_read x old)))
        (sym act_keeps.geometry) (quiet pending (all_read act_volume old))

    host_now : h < w.locks.geometry.hosts
    host_now = subst (λ (x : Geometry). h < x.hosts) (sym act_keeps.geometry) is.0

    after_host : after.host ≡ h
    after_host = step.same.host ∙ act_swept.next.2.host

    pub acted_swept : (Now : Noted → Type 0) → ((noted : Noted) → IsActing v h old plan noted → Now noted) → IsSwept w h old s Now
    acted_swept Now so = swept_on v w h s old (IsActing v h old plan) Now act_keeps so act_swept

    -- what was read of the shelf stands, with its next entry
    pub acted_stays : IsSwept w h old s (λ noted. Unit {0})
    acted_stays = acted_swept (λ noted. Unit {0}) (λ noted at. tt)

  acts_more : acting.Went v w plan after None → Went h v w old old (doings.Acts s plan) (More (doings.Acts s after))
  acts_more step =
      let less = step.less in record {
        owes = owes_more v w h old old (doings.Acts s plan) step.event some was (act_placed plan.acting) (λ pending n came. came.noted)
            (λ pending n. MergeCame h w (outcome_at after.acting) pending (all_read w.locks.geometry old) n) (doings.Acts s after)
            (quiet_now step) (λ pending n came. came.noted.asks) (λ pending n came. came);
        does = (after, None, step, (refl, refl));
        stands = (host_now step, acted_swept step (IsActing w h old after) there);
        keeps = act_keeps step;
        fewer = omega (arith, less);
        on = omega arith;
      }
    where
      there : (noted : Noted) → IsActing v h old plan noted → IsActing w h old after noted
      there noted at = record {
        host = after_host step;
        entry = step.same.entry ∙ at.entry;
        now = at.now;
        decided = step.same.action ∙ at.decided
            ∙ ap (λ (b : Bool). decision noted.entry b at.now (with_digest noted.entry.digest.0 old.sweep.shelf.entries))
            (sym ((act_keeps step).held noted.entry.file (subst (λ (e : LogEntry). e.file < act_volume.files) at.entry at.at.range.0)));
        at = step.stands;
      }

  -- a busy lock is the answer
  acts_busy : (key : Key) → acting.Went v w plan after (Some (acted.Busy key))
      → Went h v w old old (doings.Acts s plan) (Answered (answers.Busy key))
  acts_busy key step =
      let ready = subst (IsReady w) (after_host step) step.stands in
      let few = few_shelves w h later (record { host = host_now step; ready = ready }) s
      (acted_stays step).opened.below in record {
        owes = owes_busy v w h old old (doings.Acts s plan) step.event some was (act_placed plan.acting) (λ pending n came. came.noted) later ready key
            (all_read act_volume old) (λ pending. quiet step pending (all_read act_volume old)) (λ pending n came. came.pending_is);
        does = (after, Some (acted.Busy key), step, (refl, refl));
        stands = ready;
        keeps = act_keeps step;
        fewer = omega arith;
        on = omega (arith, few);
      }

  pub acted_went : (came : Option Acted) (new : MergeRoom) (come : Come) → acting.Went v w plan after came → IsBehindAct w h s old new after came come
      → Went h v w old new (doings.Acts s plan) come
  acted_went None new come step (new_is, come_is) =
      subst (λ (x : Come). Went h v w old new (doings.Acts s plan) x) (sym come_is)
      (subst (λ (r : MergeRoom). Went h v w old r (doings.Acts s plan) (More (doings.Acts s after))) (sym new_is) (acts_more step))
  acted_went (Some (acted.Busy key)) new come step (new_is, come_is) =
      subst (λ (x : Come). Went h v w old new (doings.Acts s plan) x) (sym come_is)
      (subst (λ (r : MergeRoom). Went h v w old r (doings.Acts s plan) (Answered (answers.Busy key))) (sym new_is) (acts_busy key step))
  acted_went (Some (acted.Done outcome slot)) new come step (doing, finished, come_is) =
      let there = acted_stays step in
      let merging_now : IsMerging w h = record {
        host = host_now step;
        ready = subst (IsReady w) (after_host step) step.stands.0;
      } in
      subst (λ (x : Come). Went h v w old new (doings.Acts s plan) x) (sym come_is)
      (went_followed v w h old new (doings.Acts s plan) step.event some was (act_placed plan.acting) (λ pending n came. came.noted) old doing
      (entry_left old s 0 - 1) (20 * s + 5) (quiet_now step)
      (finished_follows w h later merging_now old new s (record { action = after.action; outcome = outcome; slot = slot }) doing there.sorted there.opened
      finished)
      (after, Some (acted.Done outcome slot), step, (doing, finished, refl)) (act_keeps step) (omega arith) (omega arith))
