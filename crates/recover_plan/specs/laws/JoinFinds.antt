-- A try of a `join` found another slot in place of the own one: the command goes on with it, or is answered and its host dropped.
use Rattle.std.proofs.Common.{◌≡◌, ◌≢◌, ◌+◌, ◌<◌, ◌%◌, ◌==◌, ◌∙◌, ℕ, zero, suc, Bool, cond, List, None, Option, Some, true, false, refl, ap, sym, subst, arith, inr}
use Rattle.std.specs.Prelude.{Contains}
use Rattle.std.proofs.lemmas.Bool.{eqb-true}
use Rattle.vol_base.specs.declared.answer.Answer.TheVariants as answers
use Rattle.vol_base.specs.declared.answer.Next.TheVariants.{Answered as Answers}
use Rattle.vol_base.specs.declared.block.Key.{Key}
use Rattle.vol_base.specs.declared.command.Command.{Command}
use Rattle.vol_base.specs.declared.command.Command.TheVariants.{Join}
use Rattle.vol_layout.specs.declared.geometry.Geometry.{Geometry}
use Rattle.shared_disk.specs.Events.{Event, Shows}
use Rattle.shared_disk.specs.Seen.{DiskSeen}
use Rattle.slot_lock_blocks.specs.declared.slot.Slot.{Slot}
use Rattle.slot_lock_blocks.specs.declared.slot.Slot.TheVariants as slots
use Rattle.slot_lock_blocks.specs.Slots.{IsSlot, slot_bytes, slot_key}
use Rattle.image_view.specs.Spelled.{slot_keys}
use Rattle.lock_store.specs.declared.host.HostState.{HostState}
use Rattle.lock_store.specs.Memories.{dropped}
use Rattle.lock_store.specs.SlotTries.{IsOfHost, slot_by}
use Rattle.lock_store.specs.Views.{host_at, key_at}
use Rattle.disk_locks.specs.Consistent.{Consistent}
use Rattle.watch.specs.declared.watch.Look.{Look}
use Rattle.watch.specs.Looks.{nothing}
use Rattle.host_facts.specs.Others.{Others}
use Rattle.host_facts.specs.Views.{WorldView}
use Rattle.host_facts.specs.laws.KeptLaws.{others_then}
use Rattle.host_runs.specs.Memories.{no_memory}
use Rattle.host_runs.specs.Moments.{Moment}
use Rattle.host_runs.specs.Notes.{Notes}
use Rattle.host_notes.specs.CutTurns.{dropped_at}
use Rattle.host_notes.specs.FileTurns.{going_on}
use Rattle.host_notes.specs.Owes.{Owes, plan_moment}
use Rattle.host_notes.specs.Remembered.{IsRemembered}
use Rattle.host_notes.specs.laws.QuietMemories.{remembered_drop}
use Rattle.plan_parts.specs.QuietCalls.{QuietCall}
use Rattle.plan_parts.specs.Steps.{OwesStep}
use Rattle.plan_parts.specs.laws.TakenLaws.{others_locks}
use Rattle.recover_plan.specs.Joins.{FindsOwn, IsDropped, IsLeftBy, join_found}
use Rattle.recover_plan.specs.PlanSteps.{AreWatched, RestsWith, called_step}
use Rattle.host_facts.specs.Facts.{locks_of}
use Rattle.recover_plan.specs.CallsLeft.{calls_left}
use Rattle.recover_plan.specs.KeptVolumes.{IsLeave}
use Rattle.recover_plan.specs.KnownTables.{KeepsHolds}
use Rattle.recover_plan.specs.Plans.{Agrees, Behind, Came, PlanStands, command_of, step_of}
use Rattle.recover_plan.specs.RecoverNotes.{FoundNoted, IsUnderWay, key_found}
use Rattle.recover_plan.specs.Stages.{IsSeen}
use Rattle.recover_plan.specs.SlotTurns.{SlotTurn}
use Rattle.recover_plan.specs.declared.plan.Come.{Come}
use Rattle.recover_plan.specs.declared.plan.Come.TheVariants.{Answered, More, Uncalled}
use Rattle.recover_plan.specs.declared.plan.Doing.{Doing}
use Rattle.recover_plan.specs.declared.plan.Doing.TheVariants.{Ended, Enter, EnterAgain, Over}
use Rattle.recover_plan.specs.declared.replay.Replay.TheVariants.{Fence}
use Rattle.recover_plan.specs.laws.JoinKeys.{by_again, free_shows, live_again, live_first, other_first, own_first}
use Rattle.recover_plan.specs.laws.RegisterLaws.{nothing_watched}
use Rattle.recover_plan.specs.laws.CallsLeftLaws.{calls_some}
use Rattle.recover_plan.specs.laws.SlotEndings.{join_slot, shown_no_entry, taken_key}
use Rattle.recover_plan.specs.laws.SlotOwes.{owes_join_busy, slot_goes_on}
use Rattle.recover_plan.specs.laws.StepLaws.{agrees_on, quiet_slot_turn, wants_none}

-- a host that was dropped rests, and remembers nothing
pub dropped_rests : (w : WorldView) (h : ℕ) (m : Moment) → host_at w.locks h ≡ dropped → RestsWith h w nothing (dropped_at m)
dropped_rests w h m gone = record {
  rests = record {
    remembered = subst (λ (x : HostState). IsRemembered w.locks.geometry no_memory x) (sym gone) (remembered_drop w.locks.geometry);
    rests = inr gone;
    between = refl;
  };
  watch_is = refl;
}

-- what a call and the drop behind it leave to others
pub others_dropped : (v u w : WorldView) (h : ℕ) → Consistent v.locks → Consistent u.locks → Others h v u → IsDropped h u w → Others h v w
others_dropped v u w h c later others gone =
    others_then v u w h c others (others_locks u w h later gone.others gone.standing)

pub others_left : (v u w : WorldView) (h : ℕ) (watch after : List (Option Look)) (come : Come) → Consistent v.locks → Consistent u.locks
    → Others h v u → IsLeftBy h u w watch after come → Others h v w
others_left v u w h watch after (More doing) c later others left = subst (λ (x : WorldView). Others h v x) (sym left.0) others
others_left v u w h watch after (Answered answer) c later others left = others_dropped v u w h c later others left.0
others_left v u w h watch after (Uncalled answer) c later others left = others_dropped v u w h c later others left.0

module _ (v u w : WorldView) (h : ℕ) (watch after : List (Option Look)) (k : ℕ) (found : Slot) (e : Event) (doing : Doing)
    (dead : Option ℕ) (c : Consistent v.locks) (later : Consistent u.locks) (below : h < v.locks.geometry.hosts)
    (joins : command_of doing ≡ Join) (some : key_at v.locks h ≢ 0)
    (says : (n : Notes) → Agrees h v watch doing n → IsUnderWay h h v watch dead None n)
    (quiet : QuietCall Join h v u e (Agrees h v watch doing) (λ n. FoundNoted Join h h watch k u found n))
    (shows : e.reply ≡ Shows (slot_bytes found)) (finds : FindsOwn u h found) (watched : AreWatched u h watch)
    (going : doing ≢ Ended) where
  abbrev at_try : WorldView → Notes → Moment
  at_try x n = plan_moment v.locks.geometry h Join v.locks.disk x.locks.disk (Some e) None n

  try_turn : (n : Notes) → Agrees h v watch doing n → SlotTurn v.locks.geometry h Join v.locks.disk u.locks.disk (Some e) n
  try_turn n noted =
      quiet_slot_turn Join v u h e n (Agrees h v watch doing) (λ m. FoundNoted Join h h watch k u found m) tt (says n noted).remembered some
      (says n noted).placed_is noted quiet

  now_below : h < u.locks.geometry.hosts
  now_below = subst (λ (g : Geometry). h < g.hosts) (sym quiet.geometry) below

  not_own : (slot : Slot) → found ≡ slot → slot_key slot ≢ key_at u.locks h
  not_own slot is own =
      let both : true ≡ false = sym (finds.may.1 (ap slot_key is ∙ own)) ∙ (finds.base.apart refl).0 in absurd (let bad : ⊥ = cc in bad)

  not_by : (slot : Slot) → found ≡ slot → slot_by slot ≢ key_at u.locks h
  not_by slot is own = finds.may.0 (ap slot_by is ∙ own) finds.unclaimed

  -- the command goes on
  module _ (next : Doing) (also : command_of next ≡ Join) (stands : PlanStands u h watch next)
      (agrees : (n : Notes) → FoundNoted Join h h watch k u found n → Agrees h u watch next n)
      (nearer : calls_left u h next < calls_left v h doing) where
    on_owed : (n : Notes) → Agrees h v watch doing n
        → (rest : Notes) × Owes v.locks.geometry h Join v.locks.disk u.locks.disk (Some e) None None n rest × Agrees h u watch next rest
    on_owed n noted = (
      going_on (at_try u n),
      slot_goes_on v.locks.geometry h v.locks.disk u.locks.disk (Some e) n Join (try_turn n noted) quiet.answered refl
          (join_slot (at_try u n) None refl (λ key enters. absurd (shown_no_entry (at_try u n) key (slot_bytes found, shows) enters)))
          (λ own is. absurd cc),
      agrees_on (Agrees h u watch next) v.locks.geometry h Join v.locks.disk u.locks.disk e n (says n noted).asks
          (agrees _ (quiet.noted n noted)),
    )

    on_came : Came h v u watch watch doing (More next)
    on_came = record {
      owes = subst (λ (command : Command). OwesStep command h v u (step_of (More next)) (Agrees h v watch doing) (Behind h u watch (More next)))
          (sym joins) (record {
            made = Some e;
            called = refl;
            others = quiet.others;
            quiet = λ n noted. wants_none v.locks.geometry Join n.calls n.digests n.asks tt (says n noted).asks;
            owes = on_owed;
          });
      stands = (stands, also ∙ sym joins);
      tables = λ keeps uncut. absurd (subst KeepsHolds joins keeps);
      volume = λ leaves uncut. absurd (subst IsLeave joins leaves);
      fewer = nearer;
    }

    on_left : IsLeftBy h u w watch after (More next) → Came h v w watch after doing (More next)
    on_left left =
        subst (λ (x : WorldView). Came h v x watch after doing (More next)) (sym left.0)
        (subst (λ (l : List (Option Look)). Came h v u watch l doing (More next)) (sym left.1) on_came)

  -- the command is answered with the key of another host
  module _ (key : Key) (is : key_found Join h (key_at u.locks h) k found ≡ Some key.0) where
    busy_owed : (x : WorldView) → u.locks.disk ≡ x.locks.disk → host_at x.locks h ≡ dropped → (n : Notes) → Agrees h v watch doing n
        → (rest : Notes) × Owes v.locks.geometry h Join v.locks.disk x.locks.disk (Some e) None (Some (answers.Busy key)) n rest
        × RestsWith h x nothing rest
    busy_owed x disk gone n noted = (
      dropped_at (at_try x n),
      owes_join_busy v.locks.geometry h v.locks.disk x.locks.disk (Some e) n key
          (subst (λ (d : DiskSeen). SlotTurn v.locks.geometry h Join v.locks.disk d (Some e) n) disk (try_turn n noted))
          (slot_bytes found, shows)
          ((quiet.noted n noted).under_way.shown_is ∙ is),
      dropped_rests x h (at_try x n) gone,
    )

    busy_left : IsLeftBy h u w watch after (Answered (answers.Busy key)) → Came h v w watch after doing (Answered (answers.Busy key))
    busy_left left =
        subst (λ (l : List (Option Look)). Came h v w watch l doing (Answered (answers.Busy key))) (sym left.1) (record {
          owes = subst (λ (command : Command). OwesStep command h v w (called_step (Answers (answers.Busy key))) (Agrees h v watch doing)
              (RestsWith h w nothing)) (sym joins) (record {
                made = Some e;
                called = refl;
                others = others_dropped v u w h c later quiet.others left.0;
                quiet = λ n noted. wants_none v.locks.geometry Join n.calls n.digests n.asks tt (says n noted).asks;
                owes = busy_owed w (sym left.0.notes.disk) left.0.notes.mine;
              });
          stands = nothing_watched w h;
          tables = λ keeps uncut. absurd (subst KeepsHolds joins keeps);
          volume = λ leaves uncut. absurd (subst IsLeave joins leaves);
          fewer = calls_some v h doing going;
        })

  -- it goes on to recover its older key, where this was its first try
  module _ (first : k ≡ 0) (at_first : calls_left v h doing ≡ calls_left v h Enter) where
    over_nearer : (slot : Slot) → calls_left u h (Over (Fence slot)) < calls_left v h doing
    over_nearer slot =
        rw at_first (subst (λ (g : Geometry). locks_of g + 21 + 1 < locks_of v.locks.geometry + 23) (sym quiet.geometry) (omega arith))

    fence_stands : (slot : Slot) → found ≡ slot → slot ≢ slots.Free → PlanStands u h watch (Over (Fence slot))
    fence_stands slot is taken = record {
      host = now_below;
      at = subst (λ (s : Slot). IsSeen u h h s) is (record {
        base = finds.base;
        unclaimed = finds.unclaimed;
        spelled = finds.spelled;
        some = taken_key found finds.spelled (λ free. taken (sym is ∙ free));
        other = not_own found refl;
        shown = finds.shown;
        by = finds.by;
      });
      watched = watched;
    }

    fence_agrees : (slot : Slot) → key_found Join h (key_at u.locks h) 0 found ≡ None
        → ((target : ℕ) → Contains (slot_keys slot) target → (target % 16 ≡ h) × (target ≢ key_at u.locks h))
        → (n : Notes) → FoundNoted Join h h watch k u found n → Agrees h u watch (Over (Fence slot)) n
    fence_agrees slot none may n noted = record {
      under_way = record {
        remembered = noted.under_way.remembered;
        placed_is = noted.under_way.placed_is;
        asks = noted.under_way.asks;
        watch_is = noted.under_way.watch_is;
        shown_is = noted.under_way.shown_is ∙ ap (λ (i : ℕ). key_found Join h (key_at u.locks h) i found) first ∙ none;
        from = noted.under_way.from;
      };
      count = λ none. noted.count ∙ ap (λ (i : ℕ). i + 1) first;
      may = may;
    }

    may_target : (slot : Slot) → found ≡ slot → slot_key slot ≢ 0 → (target : ℕ) → slot_key slot ≡ target
        → (target % 16 ≡ h) × (target ≢ key_at u.locks h)
    may_target slot is taken target at = (
      subst (λ (t : ℕ). t % 16 ≡ h) at (subst (λ (s : Slot). IsOfHost h s) is finds.of_host taken),
      subst (λ (t : ℕ). t ≢ key_at u.locks h) at (not_own slot is),
    )

    live_may : (key : Key) (beat : ℕ) → found ≡ slots.Live key beat → (target : ℕ) → Contains (slot_keys (slots.Live key beat)) target
        → (target % 16 ≡ h) × (target ≢ key_at u.locks h)
    live_may key beat is target (zero, lt, at) = may_target (slots.Live key beat) is (subst IsSlot is finds.spelled).0.0 target at
    live_may key beat is target (suc i, lt, at) = absurd (omega (arith, lt))

    recovering_may : (key by : Key) → found ≡ slots.Recovering key by → by.0 % 16 ≡ h → (target : ℕ)
        → Contains (slot_keys (slots.Recovering key by)) target → (target % 16 ≡ h) × (target ≢ key_at u.locks h)
    recovering_may key by is own target (zero, lt, at) =
        may_target (slots.Recovering key by) is (subst IsSlot is finds.spelled).0.0 target at
    recovering_may key by is own target (suc zero, lt, at) = (
      subst (λ (t : ℕ). t % 16 ≡ h) at own,
      subst (λ (t : ℕ). t ≢ key_at u.locks h) at (not_by (slots.Recovering key by) is),
    )
    recovering_may key by is own target (suc (suc i), lt, at) = absurd (omega (arith, lt))

    pub first_came : (s : Slot) → found ≡ s → s ≢ slots.Free → IsLeftBy h u w watch after (join_found h s false)
        → Came h v w watch after doing (join_found h s false)
    first_came slots.Free is taken left = absurd (taken refl)
    first_came (slots.Live key beat) is taken left =
        on_left (Over (Fence (slots.Live key beat))) refl (fence_stands (slots.Live key beat) is taken)
        (fence_agrees (slots.Live key beat) (ap (key_found Join h (key_at u.locks h) 0) is ∙ live_first h (key_at u.locks h) key beat)
        (live_may key beat is)) (over_nearer (slots.Live key beat)) left
    first_came (slots.Recovering key by) is taken left = by_own (by.0 % 16 == h) refl left
      where
        by_own : (b : Bool) → (by.0 % 16 == h) ≡ b
            → IsLeftBy h u w watch after (cond b (More (Over (Fence (slots.Recovering key by)))) (Answered (answers.Busy by)))
            → Came h v w watch after doing (cond b (More (Over (Fence (slots.Recovering key by)))) (Answered (answers.Busy by)))
        by_own true own left =
            on_left (Over (Fence (slots.Recovering key by))) refl (fence_stands (slots.Recovering key by) is taken)
            (fence_agrees (slots.Recovering key by) (ap (key_found Join h (key_at u.locks h) 0) is
            ∙ own_first h (key_at u.locks h) key by (subst IsSlot is finds.spelled) own)
            (recovering_may key by is (eqb-true (by.0 % 16) h own))) (over_nearer (slots.Recovering key by)) left
        by_own false other left =
            busy_left by (ap (λ (i : ℕ). key_found Join h (key_at u.locks h) i found) first ∙ ap (key_found Join h (key_at u.locks h) 0) is
            ∙ other_first h (key_at u.locks h) key by (subst IsSlot is finds.spelled) other (not_by (slots.Recovering key by) is)) left

  -- or answers, and enters a slot that its claim found free
  pub again_came : (s : Slot) → found ≡ s → k ≢ 0 → (s ≡ slots.Free → k ≡ 1) → (s ≡ slots.Free → 1 < calls_left v h doing)
      → IsLeftBy h u w watch after (join_found h s true)
      → Came h v w watch after doing (join_found h s true)
  again_came slots.Free is later' free nearer left =
      on_left EnterAgain refl (record {
        host = now_below;
        at = record { base = finds.base; unclaimed = finds.unclaimed };
        watched = watched;
      }) (λ n noted. record {
        under_way = record {
          remembered = noted.under_way.remembered;
          placed_is = noted.under_way.placed_is;
          asks = noted.under_way.asks;
          watch_is = noted.under_way.watch_is;
          shown_is = noted.under_way.shown_is ∙ ap (key_found Join h (key_at u.locks h) k) is ∙ free_shows h (key_at u.locks h) k;
          from = noted.under_way.from;
        };
        count = noted.count ∙ ap (λ (i : ℕ). i + 1) (free refl);
      }) (nearer refl) left
  again_came (slots.Live key beat) is later' free nearer left =
      busy_left key (ap (key_found Join h (key_at u.locks h) k) is
      ∙ live_again h (key_at u.locks h) key beat k later' (subst IsSlot is finds.spelled) (not_own (slots.Live key beat) is)) left
  again_came (slots.Recovering key by) is later' free nearer left =
      busy_left by (ap (key_found Join h (key_at u.locks h) k) is
      ∙ by_again h (key_at u.locks h) key by (subst IsSlot is finds.spelled) k later' (not_by (slots.Recovering key by) is)) left
