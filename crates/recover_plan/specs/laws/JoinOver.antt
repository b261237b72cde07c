-- The steps of a `join` that recover an older key of its host, and the entry from the claim of it.
use Rattle.std.proofs.Common.{◌≡◌, ◌≢◌, ◌<◌, ◌∙◌, ℕ, List, None, Option, Some, true, refl, ap, sym, subst, arith, inl, ◌+◌}
use Rattle.std.specs.Prelude.{Ok}
use Rattle.vol_base.specs.declared.answer.Answer.TheVariants as answers
use Rattle.vol_base.specs.declared.block.Key.{Key}
use Rattle.vol_base.specs.declared.command.Command.TheVariants.{Join}
use Rattle.vol_layout.specs.declared.geometry.Geometry.{Geometry}
use Rattle.vol_layout.specs.declared.kind.Kind.TheVariants as kinds
use Rattle.vol_layout.specs.Places.{place_of}
use Rattle.shared_disk.specs.Events.{Acts, Event, Shows, event}
use Rattle.shared_disk.specs.Seen.{DiskSeen}
use Rattle.slot_lock_blocks.specs.declared.slot.Slot.{Slot}
use Rattle.slot_lock_blocks.specs.declared.slot.Slot.TheVariants as slots
use Rattle.slot_lock_blocks.specs.Keys.{IsKey}
use Rattle.slot_lock_blocks.specs.Slots.{IsSlot, slot_bytes, slot_key}
use Rattle.image_view.specs.Images.{Image, block_at}
use Rattle.lock_store.specs.declared.answers.Claim.TheVariants.{Claimed, Found}
use Rattle.lock_store.specs.declared.answers.StepNo.TheVariants.{Bad}
use Rattle.lock_store.specs.Memories.{claim_of}
use Rattle.lock_store.specs.SlotTries.{slot_by}
use Rattle.lock_store.specs.Views.{host_at, key_at, told_of}
use Rattle.disk_locks.specs.Agreement.{by_in}
use Rattle.disk_locks.specs.Calls.{EntersSlot}
use Rattle.disk_locks.specs.Consistent.{Consistent}
use Rattle.disk_locks.specs.Freeing.{IsUnneeded, MayEnterFrom}
use Rattle.disk_locks.specs.Others as locks'
use Rattle.disk_locks.specs.Sure.{Sure}
use Rattle.disk_locks.specs.laws.GivenLaws.{slot_places}
use Rattle.watch.specs.declared.watch.Look.{Look}
use Rattle.watch.specs.Looks.{nothing}
use Rattle.host_facts.specs.Others.{Others}
use Rattle.host_facts.specs.Views.{WorldView}
use Rattle.host_facts.specs.laws.FindsLaws.{stands_sure, sure_found}
use Rattle.host_facts.specs.laws.ToldLaws.{sure_of}
use Rattle.host_runs.specs.Notes.{Notes}
use Rattle.host_notes.specs.Asked.{enter_call}
use Rattle.host_notes.specs.FileTurns.{going_on}
use Rattle.host_notes.specs.Owes.{Owes, plan_moment}
use Rattle.host_notes.specs.laws.SlotRights.{allowed_enter}
use Rattle.plan_parts.specs.Cuts.{IsCutBy}
use Rattle.plan_parts.specs.QuietCalls.{QuietCall}
use Rattle.plan_parts.specs.laws.TakenLaws.{others_locks}
use Rattle.recover_plan.specs.Joins.{IsDropped, IsLeftBy, join_found}
use Rattle.recover_plan.specs.PlanSteps.{AreWatched}
use Rattle.recover_plan.specs.Plans.{Agrees, Came, PlanStands}
use Rattle.recover_plan.specs.RecoverNotes.{GoingNoted, StageNoted, dead_of}
use Rattle.recover_plan.specs.Replaying.{IsRecoverer}
use Rattle.recover_plan.specs.Replays.{Went}
use Rattle.recover_plan.specs.declared.plan.Come.TheVariants.{Answered, More}
use Rattle.recover_plan.specs.declared.plan.Doing.TheVariants.{Over, Retake}
use Rattle.recover_plan.specs.declared.replay.Going.{Going}
use Rattle.recover_plan.specs.declared.replay.Going.TheVariants as goings
use Rattle.recover_plan.specs.declared.replay.Replay.{Replay}
use Rattle.recover_plan.specs.laws.FreeLaws.{swept_unneeded}
use Rattle.recover_plan.specs.laws.JoinEntries.{joined_owes}
use Rattle.recover_plan.specs.Stages.{steps_left}
use Rattle.recover_plan.specs.laws.CallsLeftLaws.{some_left}
use Rattle.recover_plan.specs.laws.StepLaws.{none_told}
use Rattle.recover_plan.specs.laws.JoinFinds.{again_came, others_dropped}
use Rattle.recover_plan.specs.laws.RegisterLaws.{nothing_watched}
use Rattle.recover_plan.specs.laws.SlotEndings.{join_slot}
use Rattle.recover_plan.specs.laws.SlotOwes.{slot_goes_on}
use Rattle.recover_plan.specs.laws.StageLaws.{base_of}
use Rattle.recover_plan.specs.laws.StepLaws.{agrees_on, quiet_slot_turn, wants_none}

module _ (v w : WorldView) (h : ℕ) (watch : List (Option Look)) (stage : Replay) (going : Going) (c : Consistent v.locks)
    (stands : PlanStands v h watch (Over stage)) (others : Others h v w) (went : Went h h v w stage going) where
  some : key_at v.locks h ≢ 0
  some = (base_of v h h (goings.More stage) stands.at).key

  below : h < w.locks.geometry.hosts
  below = subst (λ (g : Geometry). h < g.hosts) (sym others.locks.lasts.geometry) stands.host

  quiet : QuietCall Join h v w went.event (StageNoted Join h h watch 1 v stage) (GoingNoted Join h h watch 1 w going)
  quiet = went.quiet Join watch 1 (inl (refl, refl))

  over_watched : AreWatched w h watch
  over_watched y look there is =
      let was = stands.watched y look (subst (λ (g : Geometry). y < g.hosts) others.locks.lasts.geometry there) is in record {
        spelled = was.spelled;
        some = was.some;
        of_host = was.of_host;
        shown = went.given (slot_key look.slot) was.shown;
        by = went.given (slot_by look.slot) was.by;
      }

  over_owed : (n : Notes) → StageNoted Join h h watch 1 v stage n
      → (rest : Notes) × Owes v.locks.geometry h Join v.locks.disk w.locks.disk (Some went.event) None None n rest
      × GoingNoted Join h h watch 1 w going rest
  over_owed n noted =
      let m = plan_moment v.locks.geometry h Join v.locks.disk w.locks.disk (Some went.event) None n in (
        going_on m,
        slot_goes_on v.locks.geometry h v.locks.disk w.locks.disk (Some went.event) n Join
            (quiet_slot_turn Join v w h went.event n (StageNoted Join h h watch 1 v stage) (GoingNoted Join h h watch 1 w going) tt
            noted.under_way.remembered some noted.under_way.placed_is noted quiet)
            quiet.answered refl (join_slot m None refl (λ key enters. absurd (went.no_entry enters.old key enters.entered)))
            (λ own e. absurd cc),
        agrees_on (GoingNoted Join h h watch 1 w going) v.locks.geometry h Join v.locks.disk w.locks.disk went.event n noted.under_way.asks
            (quiet.noted n noted),
      )

-- a step of the recovery
pub over_more_came : (v w : WorldView) (h : ℕ) (watch : List (Option Look)) (stage next : Replay) → Consistent v.locks
    → PlanStands v h watch (Over stage) → Others h v w → Went h h v w stage (goings.More next)
    → Came h v w watch watch (Over stage) (More (Over next))
over_more_came v w h watch stage next c stands others went = record {
  owes = record {
    made = Some went.event;
    called = refl;
    others = others;
    quiet = λ n noted. wants_none v.locks.geometry Join n.calls n.digests n.asks tt noted.under_way.asks;
    owes = over_owed v w h watch stage (goings.More next) c stands others went;
  };
  stands = (
    record {
      host = below v w h watch stage (goings.More next) c stands others went;
      at = went.stands;
      watched = over_watched v w h watch stage (goings.More next) c stands others went;
    },
    refl,
  );
  tables = λ keeps uncut. absurd keeps;
  volume = λ leaves uncut. absurd leaves;
  fewer = subst (λ (g : Geometry). steps_left g next + 1 < steps_left v.locks.geometry stage + 1) (sym others.locks.lasts.geometry)
      (omega (arith, went.fewer));
}

pub over_ready_came : (v w : WorldView) (h : ℕ) (watch : List (Option Look)) (stage : Replay) (dead : Key) → Consistent v.locks
    → PlanStands v h watch (Over stage) → Others h v w → Went h h v w stage (goings.Ready dead)
    → Came h v w watch watch (Over stage) (More (Retake dead))
over_ready_came v w h watch stage dead c stands others went = record {
  owes = record {
    made = Some went.event;
    called = refl;
    others = others;
    quiet = λ n noted. wants_none v.locks.geometry Join n.calls n.digests n.asks tt noted.under_way.asks;
    owes = over_owed v w h watch stage (goings.Ready dead) c stands others went;
  };
  stands = (
    record {
      host = below v w h watch stage (goings.Ready dead) c stands others went;
      at = went.stands;
      watched = over_watched v w h watch stage (goings.Ready dead) c stands others went;
    },
    refl,
  );
  tables = λ keeps uncut. absurd keeps;
  volume = λ leaves uncut. absurd leaves;
  fewer = let some = some_left v h h stage stands.at in omega (arith, some);
}

-- the claim found another slot
pub over_found_came : (v u w : WorldView) (h : ℕ) (watch after : List (Option Look)) (stage : Replay) (from found : Slot)
    → Consistent v.locks → Consistent u.locks
    → PlanStands v h watch (Over stage) → Others h v u → Went h h v u stage (goings.Found from found)
    → IsLeftBy h u w watch after (join_found h found true) → Came h v w watch after (Over stage) (join_found h found true)
over_found_came v u w h watch after stage from found c later stands others went left =
    let going = goings.Found from found in
    again_came v u w h watch after 1 found went.event (Over stage) (dead_of stage) c later stands.host refl
    (some v u h watch stage going c stands others went) (λ n noted. noted.under_way) (quiet v u h watch stage going c stands others went)
    (ap (λ (d : Event). d.reply) went.shown)
    (record {
      base = went.stands.base;
      unclaimed = went.stands.unclaimed;
      spelled = went.stands.spelled;
      of_host = went.stands.of_host;
      may = went.stands.may;
      shown = went.stands.shown;
      by = went.stands.by;
    })
    (over_watched v u h watch stage going c stands others went) (λ is. cc) found refl (λ e. omega (arith, e)) (λ free. refl)
    (λ free. let some = some_left v h h stage stands.at in omega (arith, some)) left

-- the claimed slot is entered
abbrev pub own_claim : Key → Key → Slot
own_claim dead own = slots.Recovering dead own

module _ (v : WorldView) (h : ℕ) (watch : List (Option Look)) (dead own : Key) (c : Consistent v.locks)
    (stands : PlanStands v h watch (Retake dead)) (is : own.0 ≡ key_at v.locks h) where
  abbrev base : IsRecoverer v h h
  base = stands.at.claimed.base

  pub retake_slot : IsSlot (slots.Recovering dead own)
  retake_slot =
      let given = ((c.memories h).named base.key).2 in
      (stands.at.claimed.some, subst IsKey (sym is) (base.key, omega (arith, given, c.device.fits)))

  pub retake_from : MayEnterFrom (key_at v.locks h) (claim_of (host_at v.locks h) h) (slots.Recovering dead own)
  retake_from = (is, sym stands.at.claimed.claim)

  pub retake_unneeded : (from : Slot) → Sure v.locks h (λ image. slot_key from ≢ 0 → IsUnneeded v.locks.geometry image h)
  retake_unneeded from =
      sure_of v.locks h (λ image. IsUnneeded v.locks.geometry image h) (λ image. slot_key from ≢ 0 → IsUnneeded v.locks.geometry image h)
      (λ image un some. un) (swept_unneeded v h h dead.0 stands.at)

  pub retake_came : (w : WorldView) → Consistent w.locks → locks'.Others h v.locks w.locks → w.standing ≡ v.standing
      → EntersSlot v.locks h (slots.Recovering dead own) (Ok Claimed) w.locks
      → Came h v w watch nothing (Retake dead) (Answered (answers.Joined own))
  retake_came w later others standing did = record {
    owes = joined_owes v w h watch (slots.Recovering dead own) own c later others standing base retake_slot is (λ some. stands.at.empty) did
        (Agrees h v watch (Retake dead)) (Some dead.0) (λ n noted. noted);
    stands = nothing_watched w h;
    tables = λ keeps uncut. absurd keeps;
    volume = λ leaves uncut. absurd leaves;
    fewer = omega arith;
  }

  -- where another slot is found, the device tells nothing
  untold : (u : WorldView) (found : Slot) → EntersSlot v.locks h (slots.Recovering dead own) (Ok (Found found)) u.locks → told_of v.locks ≡ None
  untold u found did =
      let g = v.locks.geometry in
      none_told (told_of v.locks)
      (sure_found v.locks h (λ (i : Image). block_at g i (kinds.Slot h) ≡ slot_bytes found) (λ i. ⊥) c
      (λ i finds shows.
      let agrees = finds.agrees.agree h finds.some (kinds.Slot h) base.below in
      let claimed = agrees.by finds.here (λ none. stands.at.claimed.some.0 (sym stands.at.claimed.claim ∙ none)) in
      did.3.0 (sym ((slot_places (slot_bytes found) found (did.1, refl)).by) ∙ ap by_in (sym shows) ∙ claimed.0))
      (stands_sure v.locks h (kinds.Slot h) (slot_bytes found) did.0.acts.changes.0) did.0.acts.admitted)

  pub retake_cut : (u w : WorldView) (found : Slot) (place : ℕ) → Consistent u.locks → locks'.Others h v.locks u.locks
      → u.standing ≡ v.standing → EntersSlot v.locks h (slots.Recovering dead own) (Ok (Found found)) u.locks → IsDropped h u w
      → place ≡ place_of v.locks.geometry (kinds.Slot h) → IsCutBy Join h v w (Bad place) (Agrees h v watch (Retake dead))
  retake_cut u w found place later others standing did gone here =
      let call = enter_call v.locks h (slots.Recovering dead own) in (
        event (key_at v.locks h) call (Shows (slot_bytes found)),
        record {
          acts = subst (λ (d : DiskSeen). Acts (event (key_at v.locks h) call (Shows (slot_bytes found))) v.locks.disk d) (sym gone.notes.disk)
              did.0.acts;
          cause = (untold u found did, slot_bytes found, ap (λ (at : ℕ). Some (at, slot_bytes found)) (sym here));
          state = ap (λ (d : DiskSeen). d.state) gone.notes.disk ∙ did.0.acts.changes.2;
          geometry = gone.notes.geometry ∙ did.0.geometry;
          others = others_dropped v u w h c later (others_locks v u h c others standing) gone;
          memory = λ other. gone.notes.mine;
          same = λ e. absurd cc;
          allowed = λ m turn of before. allowed_enter v.locks h m turn c (slots.Recovering dead own) (Shows (slot_bytes found)) base.host
              base.key;
        },
      )
