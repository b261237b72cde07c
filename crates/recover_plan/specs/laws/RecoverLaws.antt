-- A `recover` behind each step of the recovery.
use Rattle.std.proofs.Common.{◌≡◌, ◌≢◌, ◌⊎◌, ◌<◌, ◌≤◌, ◌+◌, ℕ, List, None, Option, Some, Bool, true, false, refl, ap, sym, subst, ◌∙◌, inl, inr, arith}
use Rattle.std.specs.Prelude.{Contains}
use Rattle.std.proofs.lemmas.Bool.{cases_eq, ne_eqb, eq-eqb}
use Rattle.vol_base.specs.declared.block.Key.{Key}
use Rattle.vol_base.specs.declared.command.Command.TheVariants as commands
use Rattle.vol_layout.specs.declared.geometry.Geometry.{Geometry}
use Rattle.vol_layout.specs.declared.kind.Kind.TheVariants as kinds
use Rattle.vol_layout.specs.Places.{place_of}
use Rattle.vol_layout.specs.laws.PlaceLaws.{kind_at-place}
use Rattle.shared_disk.specs.Events.{Event, Shows, Tests, event}
use Rattle.slot_lock_blocks.specs.declared.slot.Slot.{Slot}
use Rattle.slot_lock_blocks.specs.declared.slot.Slot.TheVariants as slots
use Rattle.slot_lock_blocks.specs.Slots.{IsSlot, slot_bytes, slot_key, slot_state}
use Rattle.lock_store.specs.Memories.{claim_of}
use Rattle.lock_store.specs.SlotTries.{slot_by}
use Rattle.lock_store.specs.Views.{host_at, key_at}
use Rattle.disk_locks.specs.Consistent.{Consistent}
use Rattle.watch.specs.declared.watch.Look.{Look}
use Rattle.watch.specs.Looks.{IsLook, count_of, look_at, seen}
use Rattle.host_facts.specs.Views.{WorldView}
use Rattle.host_runs.specs.Moments.{Moment}
use Rattle.host_runs.specs.NotedCalls.{ShowsSlot}
use Rattle.host_runs.specs.Notes.{Notes}
use Rattle.host_runs.specs.SlotCauses.{ClaimFinds, ClaimFindsLive}
use Rattle.host_notes.specs.Asked.{claim_call}
use Rattle.host_notes.specs.lemmas.Words.{slot_says, slot_shows}
use Rattle.host_runs.specs.Words.{by_in, key_in, state_in}
use Rattle.host_runs.specs.lemmas.OrderlyPlaced.{some_same}
use Rattle.slot_lock_blocks.specs.laws.SlotLaws.{slot_numbers}
use Rattle.host_notes.specs.FileTurns.{IsResting, going_on}
use Rattle.host_notes.specs.Owes.{Owes, plan_moment}
use Rattle.host_notes.specs.Remembered.{IsRemembered}
use Rattle.plan_parts.specs.QuietCalls.{QuietCall}
use Rattle.plan_parts.specs.Steps.{IsReady, ended_of}
use Rattle.recover_plan.specs.laws.SlotEndings.{recover_slot, shown_by, shows_one}
use Rattle.recover_plan.specs.PlanSteps.{AreWatched, RestsWith}
use Rattle.recover_plan.specs.Plans.{IsRecovering, step_of}
use Rattle.recover_plan.specs.Recoveries.{FoundTo, IsSameLive, claims_before, found_answer}
use Rattle.recover_plan.specs.RecoverNotes.{FoundNoted, dead_of, GoingNoted, StageNoted, key_found}
use Rattle.recover_plan.specs.Stages.{Stands}
use Rattle.recover_plan.specs.Replaying.{HasClaim}
use Rattle.recover_plan.specs.declared.replay.Replay.TheVariants as stages
use Rattle.recover_plan.specs.Replays.{IsTaken, Went}
use Rattle.recover_plan.specs.SlotTurns.{SlotTurn, at_look}
use Rattle.recover_plan.specs.declared.replay.Going.{Going}
use Rattle.recover_plan.specs.declared.replay.Going.TheVariants as goings
use Rattle.recover_plan.specs.declared.replay.Replay.{Replay}
use Rattle.recover_plan.specs.declared.replay.Replay.TheVariants.{Claim}
use Rattle.recover_plan.specs.Recoveries.FoundTo.{Answers, ClaimsAgain}
use Rattle.recover_plan.specs.declared.plan.Come.{Come}
use Rattle.recover_plan.specs.declared.plan.Come.TheVariants.{More}
use Rattle.recover_plan.specs.declared.plan.Doing.TheVariants.{Again}
use Rattle.recover_plan.specs.laws.SlotOwes.{owes_alive, owes_freed, owes_recover_busy, recover_goes_on, slot_goes_on}
use Rattle.recover_plan.specs.laws.StageLaws.{again_seen}
use Rattle.recover_plan.specs.laws.StepLaws.{agrees_on, at_rest_ready, quiet_slot_turn, ready_key, ready_rests}

module _ (v w : WorldView) (h of : ℕ) (watch : List (Option Look)) (k : ℕ) (stage : Replay) (going : Going) (c : Consistent v.locks)
    (later : Consistent w.locks) (is : IsRecovering v h of watch) (went : Went h of v w stage going) where
  g : Geometry
  g = v.locks.geometry

  abbrev before : Notes → Type 0
  before n = StageNoted (commands.Recover of) h of watch k v stage n

  abbrev behind : Notes → Type 0
  behind n = GoingNoted (commands.Recover of) h of watch k w going n

  quiet : QuietCall (commands.Recover of) h v w went.event before behind
  quiet = went.quiet (commands.Recover of) watch k (inr refl)

  -- what the host is behind the step
  pub recovering_on : IsRecovering w h of watch
  recovering_on = record {
    ready = went.ready is.ready;
    below = subst (λ (x : Geometry). of < x.hosts) (sym quiet.geometry) is.below;
    other = is.other;
    thrice = is.thrice;
  }

  pub watched_on : AreWatched v h watch → AreWatched w h watch
  watched_on are y look below there =
      let was = are y look (subst (λ (x : Geometry). y < x.hosts) quiet.geometry below) there in record {
        spelled = was.spelled;
        some = was.some;
        of_host = was.of_host;
        shown = went.given (slot_key look.slot) was.shown;
        by = went.given (slot_by look.slot) was.by;
      }

  abbrev moment : Notes → Moment
  moment n = plan_moment v.locks.geometry h (commands.Recover of) v.locks.disk w.locks.disk (Some went.event) None n

  turn : (n : Notes) → before n
      → SlotTurn v.locks.geometry h (commands.Recover of) v.locks.disk w.locks.disk (Some went.event) n
  turn n noted =
      quiet_slot_turn (commands.Recover of) v w h went.event n before behind tt noted.under_way.remembered (ready_key v h c is.ready)
      noted.under_way.placed_is noted quiet

  thrice : (n : Notes) → before n → 3 ≤ count_of (look_at n.watch of)
  thrice n noted = subst (λ (l : List (Option Look)). 3 ≤ count_of (look_at l of)) (sym noted.under_way.watch_is) is.thrice

  -- a step that is no claim which found another slot: no claim found one
  finds_none : (n : Notes) → before n → IsTaken going → (slot : Slot) → ClaimFinds (moment n) of slot → ⊥
  finds_none n noted taken slot finds =
      elim (cases_eq (claim_of (host_at v.locks h) of) 0) [
        | inl unclaimed ↦ went.unshown taken unclaimed finds.found.0
            (shown_by went.event.call went.event.reply finds.found.1.0 finds.found.0 finds.found.1.2)
        | inr claimed ↦ finds.claiming ((noted.under_way.remembered.claims of is.below).1 claimed)
      ]

  pub taken_owes : IsTaken going → (n : Notes) → before n
      → (rest : Notes) × Owes v.locks.geometry h (commands.Recover of) v.locks.disk w.locks.disk (Some went.event) None None n rest × behind rest
  taken_owes taken n noted = (
    going_on (moment n),
    slot_goes_on v.locks.geometry h v.locks.disk w.locks.disk (Some went.event) n (commands.Recover of) (turn n noted) quiet.answered refl
        (recover_goes_on v.locks.geometry h v.locks.disk w.locks.disk (Some went.event) n of (thrice n noted) None (finds_none n noted taken))
        (λ own e. absurd cc),
    agrees_on behind v.locks.geometry h (commands.Recover of) v.locks.disk w.locks.disk went.event n noted.under_way.asks (quiet.noted n noted),
  )

-- a slot that is not claimed is not at a stage behind its claim
claim_some : (v : WorldView) (h of dead : ℕ) → HasClaim v h of dead → claim_of (host_at v.locks h) of ≢ 0
claim_some v h of dead is none = is.some.0 (sym is.claim ∙ none)

none_dead : (v : WorldView) (h of : ℕ) (stage : Replay) → Stands v h of stage → (claim_of (host_at v.locks h) of ≢ 0 → ⊥)
    → dead_of stage ≡ None
none_dead v h of (stages.Fence slot) stands none = refl
none_dead v h of (stages.FenceBy slot) stands none = refl
none_dead v h of (stages.Claim slot) stands none = refl
none_dead v h of (stages.Journal dead) stands none = absurd (none (claim_some v h of dead.0 stands))
none_dead v h of (stages.Read dead entry i) stands none = absurd (none (claim_some v h of dead.0 stands.claimed))
none_dead v h of (stages.Write dead entry i kept) stands none = absurd (none (claim_some v h of dead.0 stands.0.claimed))
none_dead v h of (stages.Clear dead) stands none = absurd (none (claim_some v h of dead.0 stands.claimed))
none_dead v h of (stages.Sweep dead i) stands none = absurd (none (claim_some v h of dead.0 stands.0.claimed))

-- the key that a slot shows to a `recover`
shows_none : (h of own k : ℕ) (slot : Slot) → slot_state slot ≢ 2 → key_found (commands.Recover of) h own k slot ≡ None
shows_none h of own k slot other = rw (ne_eqb (state_in (slot_bytes slot)) 2 (λ e. other (sym (slot_says slot) ∙ e))) refl

shows_by : (h of own k : ℕ) (key by : Key) → IsSlot (slots.Recovering key by) → by.0 ≢ own
    → key_found (commands.Recover of) h own k (slots.Recovering key by) ≡ Some by.0
shows_by h of own k key by spelled other =
    let slot = slots.Recovering key by in
    let says : by_in (slot_bytes slot) ≡ by.0 = (slot_numbers (slot_bytes slot) slot (spelled, refl)).second in
    rw (eq-eqb (state_in (slot_bytes slot)) 2 (slot_says slot), says, ne_eqb by.0 own other) refl

-- a slot that is not free is remembered as seen once
seen_once : (slot : Slot) (now : Option Look) → IsLook slot None now → slot ≢ slots.Free → now ≡ seen slot 1
seen_once slot now looked taken = looked.other taken (λ n e. cc)

-- the notes behind a claim that found a slot
module _ (v w : WorldView) (h of : ℕ) (watch after : List (Option Look)) (k : ℕ) (from found : Slot) (c : Consistent v.locks)
    (later : Consistent w.locks) (is : IsRecovering v h of watch) (stage : Replay) (stands : Stands v h of stage)
    (went : Went h of v w stage (goings.Found from found)) where
  abbrev claim : Event
  claim = event (key_at v.locks h) (claim_call v.locks h of from) (Shows (slot_bytes found))

  abbrev noted_before : Notes → Type 0
  noted_before n = StageNoted (commands.Recover of) h of watch k v stage n

  abbrev noted_behind : Notes → Type 0
  noted_behind n = FoundNoted (commands.Recover of) h of watch k w found n

  shown_quiet : QuietCall (commands.Recover of) h v w claim noted_before noted_behind
  shown_quiet = subst (λ (e : Event). QuietCall (commands.Recover of) h v w e noted_before noted_behind) went.shown
      (went.quiet (commands.Recover of) watch k (inr refl))

  abbrev at_claim : Notes → Moment
  at_claim n = plan_moment v.locks.geometry h (commands.Recover of) v.locks.disk w.locks.disk (Some claim) None n

  claim_turn : (n : Notes) → noted_before n
      → SlotTurn v.locks.geometry h (commands.Recover of) v.locks.disk w.locks.disk (Some claim) n
  claim_turn n noted =
      quiet_slot_turn (commands.Recover of) v w h claim n noted_before noted_behind tt noted.under_way.remembered
      (ready_key v h c is.ready) noted.under_way.placed_is noted shown_quiet

  now_ready : IsReady w h
  now_ready = went.ready is.ready

  many : (n : Notes) → noted_before n → 3 ≤ count_of (look_at n.watch of)
  many n noted = subst (λ (l : List (Option Look)). 3 ≤ count_of (look_at l of)) (sym noted.under_way.watch_is) is.thrice

  shows : (n : Notes) → ShowsSlot v.locks.geometry (kinds.Slot of) found (at_claim n).event
  shows n = (
    slot_bytes found,
    (place_of v.locks.geometry (kinds.Slot of), kind_at-place v.locks.geometry (kinds.Slot of) is.below, refl),
    (went.stands.spelled, refl),
  )

  -- the notes are those of a host that did not claim the slot
  unclaimed : (n : Notes) → noted_before n → Contains n.memory.claims of → ⊥
  unclaimed n noted has =
      let behind = (shown_quiet.noted n noted).under_way.remembered in
      (behind.claims of (subst (λ (x : Geometry). of < x.hosts) (sym shown_quiet.geometry) is.below)).0 has went.stands.unclaimed

  finds : (n : Notes) → noted_before n → ClaimFinds (at_claim n) of found
  finds n noted = record { claiming = unclaimed n noted; found = shows n }

  rests : (n : Notes) → noted_before n → IsResting (at_claim n)
  rests n noted =
      let behind = (shown_quiet.noted n noted).under_way.remembered in
      let both = ready_rests w h v.locks.geometry (at_claim n).now.memory later shown_quiet.geometry now_ready
      (subst (λ (x : Geometry). IsRemembered x (at_claim n).now.memory (host_at w.locks h)) shown_quiet.geometry behind) in
      record { locks = both.0; stays = both.1 }

  at_rest_now : (n : Notes) → noted_before n → RestsWith h w after (at_look (at_claim n) after)
  at_rest_now n noted = record {
    rests = at_rest_ready w h w.locks.geometry (at_look (at_claim n) after) refl now_ready
        (shown_quiet.noted n noted).under_way.remembered refl;
    watch_is = refl;
  }

  -- the key that the slot shows, for which the claim is answered
  found_shows : (n : Notes) → noted_before n → (at_claim n).now.tries.shown ≡ key_found (commands.Recover of) h (key_at w.locks h) k found
  found_shows n noted = (shown_quiet.noted n noted).under_way.shown_is

  -- the claim is made again, from a live slot with the same key
  module _ (first : k ≡ 0) (same : IsSameLive from found) where
    no_live : (n : Notes) → noted_before n → ClaimFindsLive (at_claim n) of → ⊥
    no_live n noted live =
        let one = shows_one v.locks.geometry (kinds.Slot of) (Some claim) found (slots.Live live.key live.beat) (shows n) live.found.found in
        let key : slot_key from ≡ live.key.0 = subst (λ (s : Slot). IsSameLive from s) one same in
        elim (live.other claim (place_of v.locks.geometry (kinds.Slot of)) (slot_bytes from) _ refl refl) [
          | inl other ↦ other (slot_shows from went.stands.source ∙ key)
          | inr more ↦ let count = noted.count (none_dead v h of stage stands (λ claimed. unclaimed n noted
              ((noted.under_way.remembered.claims of is.below).1 claimed))) ∙ first in omega (arith, more, count)
        ]

    no_free : (n : Notes) → noted_before n → ClaimFinds (at_claim n) of slots.Free → ⊥
    no_free n noted free =
        subst (λ (s : Slot). IsSameLive from s)
        (shows_one v.locks.geometry (kinds.Slot of) (Some claim) found slots.Free (shows n) free.found) same

    is_live : (s : Slot) → IsSameLive from s → slot_state s ≢ 2
    is_live slots.Free live = absurd live
    is_live (slots.Live key beat) live = λ e. cc
    is_live (slots.Recovering key by) live = absurd live

    again_noted : (n : Notes) → noted_behind n → StageNoted (commands.Recover of) h of watch 1 w (Claim found) n
    again_noted n noted = record {
      under_way = record {
        remembered = noted.under_way.remembered;
        placed_is = noted.under_way.placed_is;
        asks = noted.under_way.asks;
        watch_is = noted.under_way.watch_is;
        shown_is = noted.under_way.shown_is ∙ shows_none h of (key_at w.locks h) k found (is_live found same);
        from = noted.under_way.from;
      };
      count = λ none. noted.count ∙ ap (λ (i : ℕ). i + 1) first;
      may = tt;
    }

    pub again_owes : (n : Notes) → noted_before n
        → (rest : Notes) × Owes v.locks.geometry h (commands.Recover of) v.locks.disk w.locks.disk (Some claim) None None n rest
        × StageNoted (commands.Recover of) h of watch 1 w (Claim found) rest
    again_owes n noted = (
      going_on (at_claim n),
      slot_goes_on v.locks.geometry h v.locks.disk w.locks.disk (Some claim) n (commands.Recover of) (claim_turn n noted) tt refl
          (recover_slot (at_claim n) of None refl (λ few. absurd (let some = many n noted in omega (arith, some, few)))
          (λ live. absurd (no_live n noted live)) (λ free. absurd (no_free n noted free)))
          (λ own e. absurd cc),
      agrees_on (λ m. StageNoted (commands.Recover of) h of watch 1 w (Claim found) m) v.locks.geometry h (commands.Recover of) v.locks.disk
          w.locks.disk claim n noted.under_way.asks (again_noted _ (shown_quiet.noted n noted)),
    )

    pub again_stands : Stands w h of (Claim found)
    again_stands = again_seen w h of from found went.stands same

  -- the command is answered
  module _ (again : Bool) (count : k ≡ claims_before again) (other : (again ≡ false) → IsSameLive from found → ⊥)
      (kept : (y : ℕ) → y ≢ of → look_at after y ≡ look_at watch y) (looked : IsLook found None (look_at after of)) where
    kept_for : (n : Notes) → noted_before n → (y : ℕ) → y ≢ of → look_at after y ≡ look_at n.watch y
    kept_for n noted y ne = kept y ne ∙ ap (λ (l : List (Option Look)). look_at l y) (sym noted.under_way.watch_is)

    is_claim : (n : Notes) (key : Key) (beat : ℕ) → noted_before n → found ≡ slots.Live key beat → ClaimFindsLive (at_claim n) of
    is_claim n key beat noted is_live = record {
      key = key;
      beat = beat;
      found = subst (λ (s : Slot). ClaimFinds (at_claim n) of s) is_live (finds n noted);
      other = λ e place old new made call.
          let asked : claim.call ≡ Tests place old new = ap (λ (d : Event). d.call) (some_same claim e made) ∙ call in
          let same : slot_bytes from ≡ old = cc in
          subst (λ (block : List ℕ). (key_in block ≢ key.0) ⊎ (0 < n.tries.count)) same (by_try again refl);
    }
      where
        by_try : (b : Bool) → again ≡ b → (key_in (slot_bytes from) ≢ key.0) ⊎ (0 < n.tries.count)
        by_try false first = inl (λ e. other first (subst (λ (s : Slot). IsSameLive from s) (sym is_live)
            (sym (slot_shows from went.stands.source) ∙ e)))
        by_try true second =
            let before = noted.count (none_dead v h of stage stands (λ claimed. unclaimed n noted
            ((noted.under_way.remembered.claims of is.below).1 claimed))) in
            let one : k ≡ 1 = count ∙ ap claims_before second in
            inr (omega (arith, before, one))

    pub answer_owes : (s : Slot) → found ≡ s → (n : Notes) → noted_before n
        → (rest : Notes) × Owes v.locks.geometry h (commands.Recover of) v.locks.disk w.locks.disk (Some claim) None
        (ended_of (step_of (found_answer s)).next) n rest × RestsWith h w after rest
    answer_owes slots.Free free n noted = (
      at_look (at_claim n) after,
      owes_freed v.locks.geometry h v.locks.disk w.locks.disk (Some claim) n of (many n noted) after (claim_turn n noted) tt
          (subst (λ (s : Slot). ClaimFinds (at_claim n) of s) free (finds n noted))
          (found_shows n noted ∙ ap (key_found (commands.Recover of) h (key_at w.locks h) k) free
          ∙ shows_none h of (key_at w.locks h) k slots.Free (λ e. cc))
          (rests n noted) (kept_for n noted) (looked.free free),
      at_rest_now n noted,
    )
    answer_owes (slots.Live key beat) live n noted = (
      at_look (at_claim n) after,
      owes_alive v.locks.geometry h v.locks.disk w.locks.disk (Some claim) n of (many n noted) found after (claim_turn n noted) tt
          (is_claim n key beat noted live) (shows n) (λ free. let both : slots.Live key beat ≡ slots.Free = sym live ∙ free in cc)
          (found_shows n noted ∙ ap (key_found (commands.Recover of) h (key_at w.locks h) k) live
          ∙ shows_none h of (key_at w.locks h) k (slots.Live key beat) (λ e. cc))
          (rests n noted) (kept_for n noted)
          (seen_once found (look_at after of) looked (λ free. let both : slots.Live key beat ≡ slots.Free = sym live ∙ free in cc)),
      at_rest_now n noted,
    )
    answer_owes (slots.Recovering key by) recovering n noted = (
      at_look (at_claim n) after,
      owes_recover_busy v.locks.geometry h v.locks.disk w.locks.disk (Some claim) n of (many n noted) by found after (claim_turn n noted) tt
          (shows n) (λ free. let both : slots.Recovering key by ≡ slots.Free = sym recovering ∙ free in cc)
          (λ j beat live. let both : slots.Recovering key by ≡ slots.Live j beat = sym recovering ∙ live in cc)
          (found_shows n noted ∙ ap (key_found (commands.Recover of) h (key_at w.locks h) k) recovering
          ∙ shows_by h of (key_at w.locks h) k key by (subst IsSlot recovering went.stands.spelled) not_own)
          (rests n noted) (kept_for n noted)
          (seen_once found (look_at after of) looked (λ free. let both : slots.Recovering key by ≡ slots.Free = sym recovering ∙ free in cc)),
      at_rest_now n noted,
    )
      where
        not_own : by.0 ≢ key_at w.locks h
        not_own own = went.stands.may.0 (ap slot_by recovering ∙ own) went.stands.unclaimed

-- what comes of a slot, as the code finds it
pub answers_found : (of : ℕ) (from found : Slot) (watch after : List (Option Look)) (again : Bool) (come : Come)
    → ((again ≡ false) → IsSameLive from found → ⊥) → ((k : ℕ) → k ≢ of → look_at after k ≡ look_at watch k)
    → IsLook found None (look_at after of) → come ≡ found_answer found → FoundTo of from found watch after again come
answers_found of from found watch after again come other kept looked same =
    subst (λ (x : Come). FoundTo of from found watch after again x) (sym same) (Answers again other kept looked)

pub claims_again : (of : ℕ) (from found : Slot) (watch : List (Option Look)) (again : Bool) → again ≡ false → IsSameLive from found
    → FoundTo of from found watch watch again (More (Again of (Claim found)))
claims_again of from found watch again first same =
    subst (λ (b : Bool). FoundTo of from found watch watch b (More (Again of (Claim found)))) (sym first) (ClaimsAgain same refl)
