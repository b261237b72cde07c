-- The steps of a `recover`.
use Rattle.std.proofs.Common.{◌≡◌, ◌≢◌, ◌<◌, ℕ, List, None, Option, Some, Bool, true, false, refl, ap, sym, subst, ◌∙◌, inl, inr, ◌+◌, arith}
use Rattle.vol_base.specs.declared.block.Key.{Key}
use Rattle.vol_base.specs.declared.command.Command.{Command}
use Rattle.vol_base.specs.declared.command.Command.TheVariants as commands
use Rattle.vol_layout.specs.declared.geometry.Geometry.{Geometry}
use Rattle.shared_disk.specs.Events.{Event}
use Rattle.slot_lock_blocks.specs.declared.slot.Slot.{Slot}
use Rattle.lock_store.specs.declared.answers.StepNo.{StepNo}
use Rattle.disk_locks.specs.Consistent.{Consistent}
use Rattle.watch.specs.declared.watch.Look.{Look}
use Rattle.watch.specs.Looks.{IsLook, look_at}
use Rattle.std.proofs.lemmas.Bool.{cases_eq}
use Rattle.slot_lock_blocks.specs.declared.slot.Slot.TheVariants as slots
use Rattle.recover_plan.specs.laws.SlotEndings.{seen_slot, taken_key}
use Rattle.host_facts.specs.Others.{Others}
use Rattle.host_facts.specs.Views.{WorldView}
use Rattle.host_runs.specs.Notes.{Notes}
use Rattle.host_notes.specs.Owes.{Owes}
use Rattle.plan_parts.specs.Cuts.{IsCutBy}
use Rattle.plan_parts.specs.Steps.{OwesStep, ended_of}
use Rattle.recover_plan.specs.PlanSteps.{AreWatched, IsWatched}
use Rattle.host_facts.specs.Facts.{locks_of}
use Rattle.recover_plan.specs.CallsLeft.{calls_left}
use Rattle.recover_plan.specs.laws.CallsLeftLaws.{claims_more, claims_some, recovery_left, some_left}
use Rattle.recover_plan.specs.Stages.{steps_left}
use Rattle.recover_plan.specs.KeptVolumes.{IsLeave}
use Rattle.recover_plan.specs.Plans.{Agrees, Behind, Came, IsRecovering, PlanStands, command_of, step_of}
use Rattle.recover_plan.specs.Recoveries.{FoundTo, IsSameLive, RecoverTo, claims_before, found_answer, recovery}
use Rattle.recover_plan.specs.Recoveries.FoundTo.{Answers, ClaimsAgain}
use Rattle.recover_plan.specs.RecoverNotes.{StageNoted}
use Rattle.recover_plan.specs.Replays.{IsCutAt, Went}
use Rattle.recover_plan.specs.Stages.{Stands}
use Rattle.recover_plan.specs.declared.plan.Come.{Come}
use Rattle.recover_plan.specs.declared.plan.Come.TheVariants.{More}
use Rattle.recover_plan.specs.declared.plan.Doing.TheVariants.{Again, Free}
use Rattle.recover_plan.specs.declared.replay.Going.{Going}
use Rattle.recover_plan.specs.declared.replay.Going.TheVariants as goings
use Rattle.recover_plan.specs.declared.replay.Replay.{Replay}
use Rattle.recover_plan.specs.declared.replay.Replay.TheVariants.{Claim}
use Rattle.recover_plan.specs.laws.RecoverLaws.{again_owes, again_stands, answer_owes, recovering_on, taken_owes, watched_on}
use Rattle.recover_plan.specs.laws.StepLaws.{wants_none}

-- what a recovery under way is, by which claim it goes
stage_noted : (h of : ℕ) (v : WorldView) (watch : List (Option Look)) (again : Bool) (stage : Replay) (n : Notes)
    → Agrees h v watch (recovery of again stage) n → StageNoted (commands.Recover of) h of watch (claims_before again) v stage n
stage_noted h of v watch false stage n agrees = agrees
stage_noted h of v watch true stage n agrees = agrees

noted_stage : (h of : ℕ) (v : WorldView) (watch : List (Option Look)) (again : Bool) (stage : Replay) (n : Notes)
    → StageNoted (commands.Recover of) h of watch (claims_before again) v stage n → Agrees h v watch (recovery of again stage) n
noted_stage h of v watch false stage n noted = noted
noted_stage h of v watch true stage n noted = noted

stands_so : (h of : ℕ) (v : WorldView) (watch : List (Option Look)) (again : Bool) (stage : Replay)
    → PlanStands v h watch (recovery of again stage) → IsRecovering v h of watch × Stands v h of stage
stands_so h of v watch false stage stands = stands.at
stands_so h of v watch true stage stands = stands.at

stands_on : (h of : ℕ) (v : WorldView) (watch : List (Option Look)) (again : Bool) (stage : Replay) → h < v.locks.geometry.hosts
    → IsRecovering v h of watch → Stands v h of stage → AreWatched v h watch → PlanStands v h watch (recovery of again stage)
stands_on h of v watch false stage below is stands watched = record { host = below; at = (is, stands); watched = watched }
stands_on h of v watch true stage below is stands watched = record { host = below; at = (is, stands); watched = watched }

recovers_it : (of : ℕ) (again : Bool) (stage : Replay) → command_of (recovery of again stage) ≡ commands.Recover of
recovers_it of false stage = refl
recovers_it of true stage = refl

module _ (v w : WorldView) (h of : ℕ) (watch : List (Option Look)) (again : Bool) (stage : Replay) (c : Consistent v.locks)
    (later : Consistent w.locks) (stands : PlanStands v h watch (recovery of again stage)) (others : Others h v w) where
  is : IsRecovering v h of watch
  is = (stands_so h of v watch again stage stands).0

  some : 0 < steps_left v.locks.geometry stage
  some = some_left v h of stage (stands_so h of v watch again stage stands).1

  -- fewer steps are left
  more_nearer : (next : Replay) → steps_left v.locks.geometry next < steps_left v.locks.geometry stage
      → calls_left w h (recovery of again next) < calls_left v h (recovery of again stage)
  more_nearer next less =
      rw (recovery_left w h of again next, recovery_left v h of again stage)
      (subst (λ (g : Geometry). steps_left g next + claims_more g again < steps_left v.locks.geometry stage + claims_more v.locks.geometry again)
      (sym others.locks.lasts.geometry) (omega (arith, less)))

  again_nearer : (found : Slot) → again ≡ false → calls_left w h (Again of (Claim found)) < calls_left v h (recovery of again stage)
  again_nearer found first =
      rw (recovery_left v h of again stage, first)
      (subst (λ (g : Geometry). steps_left g (Claim found) + 1 < steps_left v.locks.geometry stage + (locks_of v.locks.geometry + 20))
      (sym others.locks.lasts.geometry) (omega (arith, some)))

  ready_nearer : 1 < calls_left v h (recovery of again stage)
  ready_nearer = let more = claims_some v.locks.geometry again in rw (recovery_left v h of again stage) (omega (arith, some, more))

  answer_nearer : 0 < calls_left v h (recovery of again stage)
  answer_nearer = rw (recovery_left v h of again stage) (omega (arith, some))

  -- what is owed of a step that made this call
  stepped : (after : List (Option Look)) (come : Come) (e : Event) → (step_of come).called ≡ true → (step_of come).placed ≡ None
      → ((n : Notes) → StageNoted (commands.Recover of) h of watch (claims_before again) v stage n
      → (rest : Notes) × Owes v.locks.geometry h (commands.Recover of) v.locks.disk w.locks.disk (Some e) None
      (ended_of (step_of come).next) n rest × Behind h w after come rest)
      → OwesStep (command_of (recovery of again stage)) h v w (step_of come) (Agrees h v watch (recovery of again stage)) (Behind h w after come)
  stepped after come e called unplaced owes =
      subst (λ (command : Command). OwesStep command h v w (step_of come) (Agrees h v watch (recovery of again stage)) (Behind h w after come))
      (sym (recovers_it of again stage)) (record {
        made = Some e;
        called = called;
        others = others;
        quiet = λ n agrees. wants_none v.locks.geometry (commands.Recover of) n.calls n.digests n.asks tt
            (stage_noted h of v watch again stage n agrees).under_way.asks;
        owes = λ n agrees. subst (λ placed. (rest : Notes) × Owes v.locks.geometry h (commands.Recover of) v.locks.disk w.locks.disk (Some e)
            placed (ended_of (step_of come).next) n rest × Behind h w after come rest) (sym unplaced)
            (owes n (stage_noted h of v watch again stage n agrees));
      })

  -- a step that is no claim which found another slot
  more_came : (next : Replay) → Went h of v w stage (goings.More next)
      → Came h v w watch watch (recovery of again stage) (More (recovery of again next))
  more_came next went = record {
    owes = stepped watch (More (recovery of again next)) went.event refl refl (λ n noted.
        let owed = taken_owes v w h of watch (claims_before again) stage (goings.More next) c later is went tt n noted in
        (owed.0, owed.1, noted_stage h of w watch again next owed.0 owed.2));
    stands = (
      stands_on h of w watch again next (subst (λ (x : Geometry). h < x.hosts) (sym others.locks.lasts.geometry) stands.host)
          (recovering_on v w h of watch (claims_before again) stage (goings.More next) c later is went) went.stands
          (watched_on v w h of watch (claims_before again) stage (goings.More next) c later is went stands.watched),
      recovers_it of again next ∙ sym (recovers_it of again stage),
    );
    tables = λ keeps uncut. went.tables;
    volume = λ leaves uncut. absurd (subst IsLeave (recovers_it of again stage) leaves);
    fewer = more_nearer next went.fewer;
  }

  ready_came : (dead : Key) → Went h of v w stage (goings.Ready dead) → Came h v w watch watch (recovery of again stage) (More (Free of dead))
  ready_came dead went = record {
    owes = stepped watch (More (Free of dead)) went.event refl refl
        (taken_owes v w h of watch (claims_before again) stage (goings.Ready dead) c later is went tt);
    stands = (
      record {
        host = subst (λ (x : Geometry). h < x.hosts) (sym others.locks.lasts.geometry) stands.host;
        at = (recovering_on v w h of watch (claims_before again) stage (goings.Ready dead) c later is went, went.stands);
        watched = watched_on v w h of watch (claims_before again) stage (goings.Ready dead) c later is went stands.watched;
      },
      sym (recovers_it of again stage),
    );
    tables = λ keeps uncut. went.tables;
    volume = λ leaves uncut. absurd (subst IsLeave (recovers_it of again stage) leaves);
    fewer = ready_nearer;
  }

  -- a claim that found a slot: the watch behind the answer
  watched_found : (from found : Slot) (after : List (Option Look)) → Went h of v w stage (goings.Found from found)
      → ((y : ℕ) → y ≢ of → look_at after y ≡ look_at watch y) → IsLook found None (look_at after of) → AreWatched w h after
  watched_found from found after went kept looked y look below there =
      elim (cases_eq y of) [
        | inl same ↦
            let seen = seen_slot found None (look_at after of) look looked (ap (look_at after) (sym same) ∙ there) in
            subst (λ (z : ℕ). IsWatched w h z look.slot) (sym same) (subst (λ (s : Slot). IsWatched w h of s) (sym seen.0) (record {
              spelled = went.stands.spelled;
              some = taken_key found went.stands.spelled seen.1;
              of_host = went.stands.of_host;
              shown = went.stands.shown;
              by = went.stands.by;
            }))
        | inr other ↦
            watched_on v w h of watch (claims_before again) stage (goings.Found from found) c later is went stands.watched y look below
            (sym (kept y other) ∙ there)
      ]

  -- it is claimed once more
  again_came : (from found : Slot) → again ≡ false → IsSameLive from found → Went h of v w stage (goings.Found from found)
      → Came h v w watch watch (recovery of again stage) (More (Again of (Claim found)))
  again_came from found first same went =
      let none : claims_before again ≡ 0 = ap claims_before first in
      let at = (stands_so h of v watch again stage stands).1 in record {
        owes = stepped watch (More (Again of (Claim found))) _ refl refl
            (again_owes v w h of watch watch (claims_before again) from found c later is stage at went none same);
        stands = (
          record {
            host = subst (λ (x : Geometry). h < x.hosts) (sym others.locks.lasts.geometry) stands.host;
            at = (
              recovering_on v w h of watch (claims_before again) stage (goings.Found from found) c later is went,
              again_stands v w h of watch watch (claims_before again) from found c later is stage at went none same,
            );
            watched = watched_on v w h of watch (claims_before again) stage (goings.Found from found) c later is went stands.watched;
          },
          sym (recovers_it of again stage),
        );
        tables = λ keeps uncut. went.tables;
        volume = λ leaves uncut. absurd (subst IsLeave (recovers_it of again stage) leaves);
        fewer = again_nearer found first;
      }

  -- it is answered
  answer_came : (from found : Slot) (after : List (Option Look)) → ((again ≡ false) → IsSameLive from found → ⊥)
      → ((y : ℕ) → y ≢ of → look_at after y ≡ look_at watch y) → IsLook found None (look_at after of)
      → Went h of v w stage (goings.Found from found) → (s : Slot) → found ≡ s
      → Came h v w watch after (recovery of again stage) (found_answer s)
  answer_came from found after other kept looked went slots.Free is' = record {
    owes = stepped after (found_answer slots.Free) _ refl refl
        (answer_owes v w h of watch after (claims_before again) from found c later is stage (stands_so h of v watch again stage stands).1 went
        again refl other kept looked slots.Free is');
    stands = watched_found from found after went kept looked;
    tables = λ keeps uncut. went.tables;
    volume = λ leaves uncut. absurd (subst IsLeave (recovers_it of again stage) leaves);
    fewer = answer_nearer;
  }
  answer_came from found after other kept looked went (slots.Live key beat) is' = record {
    owes = stepped after (found_answer (slots.Live key beat)) _ refl refl
        (answer_owes v w h of watch after (claims_before again) from found c later is stage (stands_so h of v watch again stage stands).1 went
        again refl other kept looked (slots.Live key beat) is');
    stands = watched_found from found after went kept looked;
    tables = λ keeps uncut. went.tables;
    volume = λ leaves uncut. absurd (subst IsLeave (recovers_it of again stage) leaves);
    fewer = answer_nearer;
  }
  answer_came from found after other kept looked went (slots.Recovering key by) is' = record {
    owes = stepped after (found_answer (slots.Recovering key by)) _ refl refl
        (answer_owes v w h of watch after (claims_before again) from found c later is stage (stands_so h of v watch again stage stands).1 went
        again refl other kept looked (slots.Recovering key by) is');
    stands = watched_found from found after went kept looked;
    tables = λ keeps uncut. went.tables;
    volume = λ leaves uncut. absurd (subst IsLeave (recovers_it of again stage) leaves);
    fewer = answer_nearer;
  }

  found_came : (from found : Slot) (after : List (Option Look)) (come : Come) → Went h of v w stage (goings.Found from found)
      → (b : Bool) → again ≡ b → FoundTo of from found watch after b come → Came h v w watch after (recovery of again stage) come
  found_came from found after come went false first (ClaimsAgain same stays) =
      subst (λ (l : List (Option Look)). Came h v w watch l (recovery of again stage) (More (Again of (Claim found)))) (sym stays)
      (again_came from found first same went)
  found_came from found after come went d is' (Answers b other kept looked) =
      answer_came from found after (λ first. other (sym is' ∙ first)) kept looked went found refl

  -- any step
  pub recover_came : (going : Going) (after : List (Option Look)) (come : Come) → Went h of v w stage going
      → RecoverTo of again going watch after come → Came h v w watch after (recovery of again stage) come
  recover_came (goings.More next) after come went to =
      subst (λ (x : Come). Came h v w watch after (recovery of again stage) x) (sym to.0)
      (subst (λ (l : List (Option Look)). Came h v w watch l (recovery of again stage) (More (recovery of again next))) (sym to.1)
      (more_came next went))
  recover_came (goings.Ready dead) after come went to =
      subst (λ (x : Come). Came h v w watch after (recovery of again stage) x) (sym to.0)
      (subst (λ (l : List (Option Look)). Came h v w watch l (recovery of again stage) (More (Free of dead))) (sym to.1)
      (ready_came dead went))
  recover_came (goings.Found from found) after come went to = found_came from found after come went again refl to

-- a step that was refused
pub recover_cut : (v w : WorldView) (h of : ℕ) (watch : List (Option Look)) (again : Bool) (stage : Replay) (why : StepNo)
    → IsCutAt h of v w stage why → IsCutBy (commands.Recover of) h v w why (Agrees h v watch (recovery of again stage))
recover_cut v w h of watch false stage why cut = cut.cuts (commands.Recover of) watch 0 (inr refl)
recover_cut v w h of watch true stage why cut = cut.cuts (commands.Recover of) watch 1 (inr refl)

-- what the sub-plan asks
pub recover_stands : (v : WorldView) (h of : ℕ) (watch : List (Option Look)) (again : Bool) (stage : Replay)
    → PlanStands v h watch (recovery of again stage) → Stands v h of stage × (of < v.locks.geometry.hosts)
recover_stands v h of watch again stage stands = let at = stands_so h of v watch again stage stands in (at.1, at.0.below)
