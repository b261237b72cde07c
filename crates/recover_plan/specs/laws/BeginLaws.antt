-- The first step of a `recover`.
use Rattle.std.proofs.Common.{◌≡◌, ◌≢◌, ◌≤◌, ◌<◌, ◌%◌, ◌^◌, ℕ, List, None, Option, Some, refl, ap, sym, subst, ◌∙◌, ◌+◌, arith}
use Rattle.std.specs.Prelude.{option_map}
use Rattle.vol_base.specs.declared.answer.Answer.TheVariants as answers
use Rattle.vol_base.specs.declared.answer.Step.{Step}
use Rattle.vol_base.specs.declared.command.Command.{Command}
use Rattle.vol_base.specs.declared.command.Command.TheVariants as commands
use Rattle.slot_lock_blocks.specs.declared.slot.Slot.{Slot}
use Rattle.lock_store.specs.Memories.{claim_of}
use Rattle.lock_store.specs.Views.{host_at}
use Rattle.disk_locks.specs.Calls.{key}
use Rattle.host_runs.specs.CallRights.{IsSeenThrice}
use Rattle.disk_locks.specs.Consistent.{Consistent}
use Rattle.watch.specs.declared.watch.Look.{Look}
use Rattle.watch.specs.Looks.{count_of, look_at}
use Rattle.host_facts.specs.Others.{Others}
use Rattle.host_facts.specs.Views.{WorldView}
use Rattle.host_runs.specs.Notes.{Notes}
use Rattle.host_runs.specs.lemmas.OrderlyPlaced.{some_same}
use Rattle.host_notes.specs.laws.TurnLaws.{files_same}
use Rattle.host_notes.specs.Owes.{Owes, plan_moment}
use Rattle.plan_parts.specs.Steps.{OwesStep}
use Rattle.plan_parts.specs.laws.QuietCallLaws.{valid_now}
use Rattle.recover_plan.specs.PlanSteps.{RestsWith}
use Rattle.host_facts.specs.Facts.{locks_of}
use Rattle.recover_plan.specs.Stages.{steps_left}
use Rattle.recover_plan.specs.Plans.{Agrees, Behind, Came, IsRecovering, PlanStands, StandsBehind, step_of}
use Rattle.recover_plan.specs.Replaying.{IsRecoverer}
use Rattle.recover_plan.specs.SlotTurns.{at_look}
use Rattle.recover_plan.specs.declared.plan.Come.{Come}
use Rattle.recover_plan.specs.declared.plan.Come.TheVariants.{Uncalled}
use Rattle.recover_plan.specs.declared.plan.Come.TheVariants as comes
use Rattle.recover_plan.specs.declared.plan.Doing.TheVariants.{Begin, First}
use Rattle.recover_plan.specs.declared.replay.Replay.{Replay}
use Rattle.recover_plan.specs.declared.replay.Replay.TheVariants.{Fence, Journal}
use Rattle.recover_plan.specs.laws.SlotOwes.{owes_few}
use Rattle.recover_plan.specs.laws.StepLaws.{at_rest_ready, ready_key, ready_rests, wants_none}

module _ (v : WorldView) (h of : ℕ) (watch : List (Option Look)) (c : Consistent v.locks) (stands : PlanStands v h watch (Begin of)) where
  base : IsRecoverer v h of
  base = record {
    host = stands.host;
    below = stands.at.1;
    key = ready_key v h c stands.at.0;
    apart = λ own. absurd (stands.at.2 own);
  }

  recovering : 3 ≤ count_of (look_at watch of) → IsRecovering v h of watch
  recovering thrice = record { ready = stands.at.0; below = stands.at.1; other = stands.at.2; thrice = thrice }

  -- from the slot that is remembered
  pub begin_fence : (look : Look) → look_at watch of ≡ Some look → 3 ≤ count_of (look_at watch of) → claim_of (host_at v.locks h) of ≡ 0
      → PlanStands v h watch (First of (Fence look.slot))
  begin_fence look is thrice unclaimed =
      let seen = stands.watched of look stands.at.1 is in record {
        host = stands.host;
        at = (
          recovering thrice,
          record {
            base = base;
            unclaimed = unclaimed;
            spelled = seen.spelled;
            some = seen.some;
            other = λ own. stands.at.2 (sym (seen.of_host seen.some) ∙ ap (λ (x : ℕ). x % 16) own ∙ ((c.memories h).named base.key).1);
            shown = seen.shown;
            by = seen.by;
          },
        );
        watched = stands.watched;
      }

  pub fence_noted : (look : Look) → look_at watch of ≡ Some look → 3 ≤ count_of (look_at watch of) → (n : Notes)
      → Agrees h v watch (Begin of) n → Agrees h v watch (First of (Fence look.slot)) n
  fence_noted look is thrice n noted = record {
    under_way = noted.under_way;
    count = λ none. noted.count;
    may = λ target among. subst (λ (o : Option Look). IsSeenThrice target o) (sym is)
        (subst (λ (o : Option Look). 3 ≤ count_of o) is thrice, among);
  }

  -- from a claim that an earlier recovery left
  pub begin_claim : (dead : ℕ) → claim_of (host_at v.locks h) of ≡ dead → dead ≢ 0 → dead < 2 ^ 64 → 3 ≤ count_of (look_at watch of)
      → PlanStands v h watch (First of (Journal (key dead)))
  begin_claim dead is some small thrice = record {
    host = stands.host;
    at = (recovering thrice, record { base = base; some = (some, small); claim = is });
    watched = stands.watched;
  }

  pub claim_noted : (dead : ℕ) → (n : Notes) → Agrees h v watch (Begin of) n → Agrees h v watch (First of (Journal (key dead))) n
  claim_noted dead n noted = record {
    under_way = record {
      remembered = noted.under_way.remembered;
      placed_is = noted.under_way.placed_is;
      asks = noted.under_way.asks;
      watch_is = noted.under_way.watch_is;
      shown_is = noted.under_way.shown_is;
      from = λ old new call two. absurd (let none = noted.under_way.from old new call two in cc);
    };
    count = λ none. absurd cc;
    may = tt;
  }

  -- the host was seen less than three times
  pub few_came : count_of (look_at watch of) < 3 → Others h v v
      → Came h v v watch watch (Begin of) (Uncalled (answers.Alive (count_of (look_at watch of))))
  few_came few others = record {
    owes = record {
      made = None;
      called = refl;
      others = others;
      quiet = λ n noted. wants_none v.locks.geometry (commands.Recover of) n.calls n.digests n.asks tt noted.under_way.asks;
      owes = λ n noted.
          let m = plan_moment v.locks.geometry h (commands.Recover of) v.locks.disk v.locks.disk None None n in
          let rests = ready_rests v h v.locks.geometry n.memory c refl stands.at.0 noted.under_way.remembered in
          subst (λ (l : List (Option Look)). (rest : Notes) × Owes v.locks.geometry h (commands.Recover of) v.locks.disk v.locks.disk None None
          (Some (answers.Alive (count_of (look_at l of)))) n rest × RestsWith h v l rest) noted.under_way.watch_is (
            at_look m n.watch,
            owes_few v.locks.geometry h v.locks.disk v.locks.disk None n of (record {
              on = tt;
              acts = refl;
              may = tt;
              marks = tt;
              files = files_same v.locks.geometry None v.locks.disk.state v.locks.disk.state refl;
              valid = valid_now v c;
              unplaced = noted.under_way.placed_is;
            }) refl (subst (λ (l : List (Option Look)). count_of (look_at l of) < 3) (sym noted.under_way.watch_is) few)
                noted.under_way.shown_is (record { locks = rests.0; stays = rests.1 }),
            record {
              rests = at_rest_ready v h v.locks.geometry (at_look m n.watch) refl stands.at.0 noted.under_way.remembered refl;
              watch_is = refl;
            },
          );
    };
    stands = stands.watched;
    tables = λ keeps uncut t p was. was;
    volume = λ leaves uncut. absurd leaves;
    fewer = omega arith;
  }

-- what notes that say more owe
pub owes_stronger : (command : Command) (h : ℕ) (v w : WorldView) (step : Step) (Before Now After : Notes → Type 0)
    → ((n : Notes) → Now n → Before n) → OwesStep command h v w step Before After → OwesStep command h v w step Now After
owes_stronger command h v w step Before Now After says owed = record {
  made = owed.made;
  called = owed.called;
  others = owed.others;
  quiet = λ n now. owed.quiet n (says n now);
  owes = λ n now. owed.owes n (says n now);
}

-- a step of the recovery as the first one of its command
pub begin_came : (h of : ℕ) (v w : WorldView) (watch after : List (Option Look)) (stage : Replay) (come : Come)
    → ((n : Notes) → Agrees h v watch (Begin of) n → Agrees h v watch (First of stage) n)
    → steps_left v.locks.geometry stage ≤ locks_of v.locks.geometry + 21 → Came h v w watch after (First of stage) come
    → Came h v w watch after (Begin of) come
begin_came h of v w watch after stage come says most came = record {
  owes = owes_stronger (commands.Recover of) h v w (step_of come) (Agrees h v watch (First of stage)) (Agrees h v watch (Begin of))
      (Behind h w after come) says came.owes;
  stands = behind come came.stands;
  tables = came.tables;
  volume = λ leaves uncut. absurd leaves;
  fewer = let less = came.fewer in omega (arith, less, most);
}
  where
    behind : (x : Come) → StandsBehind w h after (First of stage) x → StandsBehind w h after (Begin of) x
    behind (comes.More doing) stands = stands
    behind (comes.Answered answer) stands = stands
    behind (comes.Uncalled answer) stands = stands

-- the slot that is remembered
seen_look : (slot : Slot) (o : Option Look) → option_map (λ (look : Look). look.slot) o ≡ Some slot
    → (look : Look) × (o ≡ Some look) × (look.slot ≡ slot)
seen_look slot None is = absurd cc
seen_look slot (Some look) is = (look, refl, some_same look.slot slot is)

module _ (v : WorldView) (h of : ℕ) (watch : List (Option Look)) (c : Consistent v.locks) (stands : PlanStands v h watch (Begin of))
    (slot : Slot) (is : option_map (λ (look : Look). look.slot) (look_at watch of) ≡ Some slot) (thrice : 3 ≤ count_of (look_at watch of))
  where
    pub slot_begins : claim_of (host_at v.locks h) of ≡ 0 → PlanStands v h watch (First of (Fence slot))
    slot_begins unclaimed =
        let seen = seen_look slot (look_at watch of) is in
        subst (λ (s : Slot). PlanStands v h watch (First of (Fence s))) seen.2
        (begin_fence v h of watch c stands seen.0 seen.1 thrice unclaimed)

    pub slot_noted : (n : Notes) → Agrees h v watch (Begin of) n → Agrees h v watch (First of (Fence slot)) n
    slot_noted n noted =
        let seen = seen_look slot (look_at watch of) is in
        subst (λ (s : Slot). Agrees h v watch (First of (Fence s)) n) seen.2
        (fence_noted v h of watch c stands seen.0 seen.1 thrice n noted)
