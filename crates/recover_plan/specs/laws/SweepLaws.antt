-- The steps by which a dead host's locks are freed.
use Rattle.std.proofs.Common.{◌≡◌, ◌+◌, ◌<◌, ◌∙◌, ◌%◌, ℕ, true, false, List, [], Some, refl, ap, sym, subst, arith, inl, inr}
use Rattle.std.proofs.lemmas.Bool.{cases_lt, le-ltb, lt-ltb}
use Rattle.std.specs.Prelude.{Err, Ok}
use Rattle.vol_base.specs.declared.block.Key.{Key}
use Rattle.vol_base.specs.declared.command.Command.{Command}
use Rattle.vol_layout.specs.declared.geometry.Geometry.{Geometry}
use Rattle.vol_layout.specs.declared.field.Field.{Field}
use Rattle.vol_layout.specs.declared.kind.Kind.TheVariants as kinds
use Rattle.vol_layout.specs.declared.kind.Resource.{Resource}
use Rattle.vol_layout.specs.declared.kind.Resource.TheVariants.{File, Group, Part}
use Rattle.vol_layout.specs.Edits.{touches}
use Rattle.vol_layout.specs.Places.{kind_at, place_of}
use Rattle.vol_layout.specs.Ranges.{HasResource}
use Rattle.vol_layout.specs.laws.PlaceLaws.{kind_at-place}
use Rattle.shared_disk.specs.Events.{Done, Event, Reply, Shows, Tests, event}
use Rattle.slot_lock_blocks.specs.declared.lock.LockWord.TheVariants as words
use Rattle.slot_lock_blocks.specs.LockWords.{lock_bytes}
use Rattle.image_view.specs.HostKeys.{lock_key_at, slot_key_at}
use Rattle.image_view.specs.Images.{Image}
use Rattle.image_view.specs.Numbers.{journal}
use Rattle.image_view.specs.laws.JournalLaws.{record_key, slot_key-host}
use Rattle.lock_store.specs.declared.answers.StepNo.{StepNo}
use Rattle.lock_store.specs.declared.purpose.Purpose.TheVariants.{Clear}
use Rattle.lock_store.specs.Events.{Did}
use Rattle.lock_store.specs.Memories.{key_of}
use Rattle.lock_store.specs.Tries.{FitsLock, trier}
use Rattle.lock_store.specs.Views.{counter_of, host_at, key_at}
use Rattle.disk_locks.specs.Calls.{FreesLock, IsSound, key}
use Rattle.disk_locks.specs.Consistent.{Consistent}
use Rattle.disk_locks.specs.Freeing.{UneditedBy}
use Rattle.disk_locks.specs.Sure.{Sure}
use Rattle.host_runs.specs.NotedCalls.{SwapsKind}
use Rattle.host_runs.specs.Tries.{Tries, tried}
use Rattle.host_facts.specs.Facts.{locks_of, turn_of}
use Rattle.host_facts.specs.Finds.{Finds}
use Rattle.host_facts.specs.LockResults.{HasCleared}
use Rattle.host_facts.specs.Others.{Others}
use Rattle.host_facts.specs.Views.{WorldView}
use Rattle.host_facts.specs.laws.FindsLaws.{sure_found}
use Rattle.host_facts.specs.laws.FoundLaws.{claim_found}
use Rattle.host_facts.specs.laws.SweepFacts.{cleared_law}
use Rattle.host_notes.specs.Asked.{clear_call}
use Rattle.host_notes.specs.FileTurns.{IsGiven}
use Rattle.host_notes.specs.Remembered.{IsRemembered, RemembersCall}
use Rattle.host_runs.specs.Memories.{Memory}
use Rattle.vol_layout.specs.Fields.{resource_of}
use Rattle.host_facts.specs.Facts.Fact.{Given, TableIs}
use Rattle.host_notes.specs.laws.LockMemories.{remembered_clear, remembered_clear_found}
use Rattle.host_notes.specs.laws.LockRights.{allowed_clear}
use Rattle.host_notes.specs.laws.TryLaws.{BySwap, tried_file, tried_file_swept, tried_shared, tried_shared_kept}
use Rattle.host_runs.specs.FileUses.{try_of}
use Rattle.plan_parts.specs.QuietCalls.{Allows}
use Rattle.plan_parts.specs.laws.CutCallLaws.{cut_of}
use Rattle.plan_parts.specs.laws.QuietCallLaws.{quiet_call, valid_now}
use Rattle.host_runs.specs.Notes.{Notes}
use Rattle.recover_plan.specs.RecoverNotes.{Recovers}
use Rattle.recover_plan.specs.Replaying.{IsSwept}
use Rattle.shared_disk.specs.State.{State}
use Rattle.recover_plan.specs.Replays.{IsCutAt, IsShownBy, SlotsStay, Went}
use Rattle.recover_plan.specs.Stages.{AreFewer, StandsBehind, behind_sweep}
use Rattle.recover_plan.specs.declared.replay.Going.{Going}
use Rattle.recover_plan.specs.declared.replay.Going.TheVariants as goings
use Rattle.recover_plan.specs.declared.replay.Replay.TheVariants as stages
use Rattle.recover_plan.specs.laws.StepLaws.{locks_else, slots_same, slots_written}
use Rattle.recover_plan.specs.laws.NoteLaws.{IsOf, claimed_noting, frees, no_try, claimed_sees}
use Rattle.recover_plan.specs.laws.ClaimLaws.{claimed_some, claims_slot}
use Rattle.recover_plan.specs.laws.StageLaws.{ready_still, swept_on}
use Rattle.recover_plan.specs.laws.StepLaws.{counter_kept, key_kept, locks_same, shut_out}

-- no standing record edits what the dead key holds, once its own journal is empty
pub swept_unedited : (v : WorldView) (h of dead k : ℕ) (r : Resource) → Consistent v.locks → IsSwept v h of dead k
    → Sure v.locks h (UneditedBy v.locks.geometry r dead)
swept_unedited v h of dead k r is swept =
    let g = v.locks.geometry in
    sure_found v.locks h (λ image. journal g image of ≡ []) (UneditedBy g r dead) is
    (λ image finds empty held y x below touched same. unedited image finds empty held.by y x below touched same) swept.empty.sure
  where
    unedited : (image : Image) → Finds v.locks h image → journal v.locks.geometry image of ≡ []
        → lock_key_at v.locks.geometry image r ≡ dead → (y : ℕ) (x : Field) → y < v.locks.geometry.hosts
        → touches (journal v.locks.geometry image y) x ≡ true → resource_of x ≡ r → ⊥
    unedited image finds empty by y x below touched same =
        let g = v.locks.geometry in
        let valid = finds.agrees.valid in
        let claims = claims_slot v h of dead swept.claimed in
        let record_is = record_key g (counter_of v.locks) image y x valid below touched in
        let shown : slot_key_at g image of ≡ dead = claim_found v.locks h image of finds claims.0 claims.1 ∙ swept.claimed.claim in
        let holds : lock_key_at g image r ≡ slot_key_at g image y =
        subst (λ (q : Resource). lock_key_at g image q ≡ slot_key_at g image y) same record_is.1.by in
        let one : slot_key_at g image y ≡ slot_key_at g image of = sym holds ∙ by ∙ sym shown in
        let here = slot_key-host g (counter_of v.locks) image y valid below record_is.0 in
        let there = slot_key-host g (counter_of v.locks) image of valid claims.0 (λ none. record_is.0 (one ∙ none)) in
        let host : y ≡ of = sym here ∙ ap (λ n. n % 16) one ∙ there in
        let none : false ≡ true =
        ap (λ es. touches es x) (sym empty ∙ sym (ap (journal g image) host)) ∙ touched in
        absurd cc

module _ (v w : WorldView) (h of : ℕ) (dead : Key) (k : ℕ) (r : Resource) (is : Consistent v.locks) (later : Consistent w.locks)
    (others : Others h v w) (has : HasResource v.locks.geometry r) where
  clear_right : (command : Command) → Recovers command h of → (reply : Reply) (Before : Notes → Type 0)
      → Allows command h v (event (key_at v.locks h) (clear_call v.locks dead.0 r) reply) Before
  clear_right command recovers reply Before m turn run before =
      allowed_clear v.locks h m turn is dead.0 r reply has (ap try_of run ∙ no_try command h of recovers)

  no_swap : (reply : Reply) (old new : List ℕ)
      → SwapsKind v.locks.geometry (kinds.Slot of) old new (Some (event (key_at v.locks h) (clear_call v.locks dead.0 r) reply)) → ⊥
  no_swap reply old new swaps =
      let here : place_of v.locks.geometry (kinds.Lock r) ≡ swaps.0 = tested swaps.0 old new swaps.2.0 in
      let both : Some (kinds.Lock r) ≡ Some (kinds.Slot of) =
      sym (kind_at-place v.locks.geometry (kinds.Lock r) has) ∙ ap (kind_at v.locks.geometry) here ∙ swaps.1 in
      absurd cc
    where
      tested : (place : ℕ) (old new : List ℕ) → clear_call v.locks dead.0 r ≡ Tests place old new
          → place_of v.locks.geometry (kinds.Lock r) ≡ place
      tested place old new calls = cc

  -- what the tries showed stays, whether the lock was freed or not
  freed_shown : (command : Command) (r : Resource) (claims : List ℕ) (tries : Tries) → HasResource v.locks.geometry r
      → (tried v.locks.geometry h command claims (event (key_at v.locks h) (clear_call v.locks dead.0 r) Done) tries).shown ≡ tries.shown
  freed_shown command (File f) claims tries has = ap (λ (t : Tries). t.shown)
      (tried_file v.locks.geometry h command claims (key_at v.locks h) tries f
      (BySwap (lock_bytes (words.Held (key dead.0))) (lock_bytes words.Free)) has)
  freed_shown command (Part p) claims tries has = ap (λ (t : Tries). t.shown)
      (tried_shared v.locks.geometry h command claims (key_at v.locks h) tries (Part p)
      (BySwap (lock_bytes (words.Held (key dead.0))) (lock_bytes words.Free)) has tt)
  freed_shown command (Group q) claims tries has = ap (λ (t : Tries). t.shown)
      (tried_shared v.locks.geometry h command claims (key_at v.locks h) tries (Group q)
      (BySwap (lock_bytes (words.Held (key dead.0))) (lock_bytes words.Free)) has tt)

  found_shown : (command : Command) (r : Resource) (word : List ℕ) (claims : List ℕ) (tries : Tries) → Recovers command h of
      → HasResource v.locks.geometry r
      → (tried v.locks.geometry h command claims (event (key_at v.locks h) (clear_call v.locks dead.0 r) (Shows word)) tries).shown
      ≡ tries.shown
  found_shown command (File f) word claims tries recovers has = ap (λ (t : Tries). t.shown)
      (tried_file_swept v.locks.geometry h command claims (key_at v.locks h) tries f
      (lock_bytes (words.Held (key dead.0))) (lock_bytes words.Free) word has (no_try command h of recovers))
  found_shown command (Part p) word claims tries recovers has = ap (λ (t : Tries). t.shown)
      (tried_shared_kept v.locks.geometry h command claims (key_at v.locks h) tries (Part p)
      (lock_bytes (words.Held (key dead.0))) (lock_bytes words.Free) word has tt (frees command h of recovers))
  found_shown command (Group q) word claims tries recovers has = ap (λ (t : Tries). t.shown)
      (tried_shared_kept v.locks.geometry h command claims (key_at v.locks h) tries (Group q)
      (lock_bytes (words.Held (key dead.0))) (lock_bytes words.Free) word has tt (frees command h of recovers))

  module _ (same : w.standing ≡ v.standing) (swept : IsSwept v h of dead.0 k) (turn : turn_of v.locks.geometry r ≡ k)
      (did : FreesLock v.locks h dead.0 r (Ok tt) w.locks) where
    cleared : HasCleared h dead.0 r v w
    cleared =
        subst (λ (x : WorldView). HasCleared h dead.0 r v x) (locks_else v w same)
        (cleared_law v h w.locks is others.locks dead.0 r has did)

    now : IsSwept w h of dead.0 (k + 1)
    now =
        let on = swept_on v w h of cleared.passes.geometry cleared.memory cleared.facts dead.0 k swept in record {
          claimed = on.claimed;
          empty = on.empty;
          swept = cleared.sweeps of k swept.claimed.claim turn swept.swept;
        }

    went : (going : Going) → IsOf dead.0 going → StandsBehind w h of going → AreFewer v.locks.geometry (stages.Sweep dead k) going
        → Went h of v w (stages.Sweep dead k) going
    went going of_dead stands fewer = elim did [
      | inl freed ↦
          made Done freed tt
          (slots_written v w of (kinds.Lock r) (lock_bytes words.Free) has (λ y ne is. cc) freed.acts.changes.1) (λ memory remembers. remembered_clear v.locks w.locks h memory remembers dead.0 r is has freed)
          (λ command recovers claims tries. freed_shown command r claims tries has)
      | inr found ↦
          made (Shows (lock_bytes found.0)) found.1.0 tt
          (slots_same v w of (ap (λ (s : State). s.told) found.1.0.acts.changes.2))
          (λ memory remembers. remembered_clear_found v.locks w.locks h memory remembers dead.0 r found.0 found.1)
          (λ command recovers claims tries. found_shown command r (lock_bytes found.0) claims tries recovers has)
    ]
      where
        not_found : (going : Going) → IsOf dead.0 going → (e : Event) → IsShownBy h of v e going
        not_found (goings.More stage) of_dead e = tt
        not_found (goings.Found from found) of_dead e = absurd of_dead
        not_found (goings.Ready key) of_dead e = tt

        made : (reply : Reply) → Did v.locks h (clear_call v.locks dead.0 r) reply (host_at v.locks h) w.locks → IsGiven reply → SlotsStay v w of
            → ((memory : Memory) → IsRemembered v.locks.geometry memory (host_at v.locks h)
            → RemembersCall v.locks h memory (clear_call v.locks dead.0 r) reply w.locks)
            → ((command : Command) → Recovers command h of → (claims : List ℕ) (tries : Tries)
            → (tried v.locks.geometry h command claims (event (key_at v.locks h) (clear_call v.locks dead.0 r) reply) tries).shown
            ≡ tries.shown)
            → Went h of v w (stages.Sweep dead k) going
        made reply call given slots remembers tries = record {
          event = event (key_at v.locks h) (clear_call v.locks dead.0 r) reply;
          shown = not_found going of_dead (event (key_at v.locks h) (clear_call v.locks dead.0 r) reply);
          stands = stands;
          fewer = fewer;
          unshown = λ taken none. absurd (claimed_some v h of dead.0 swept.claimed none);
          no_entry = λ old key swaps. no_swap reply old _ swaps;
          key = ap key_of cleared.memory;
          counter = counter_kept _ _ _ call.acts tt;
          given = λ x. cleared.facts (Given x);
          tables = λ t p. cleared.facts (TableIs t p);
          slots = slots;
          sees = λ there. claimed_sees w h of dead.0 going of_dead;
          registered = λ there. key_kept v w h (ap key_of cleared.memory) cleared.keys cleared.registered;
          locks = locks_same v w h cleared.memory;
          ready = ready_still v w h of cleared.passes.geometry cleared.memory cleared.facts;
          quiet = λ command watch n recovers.
              quiet_call command v w h (clear_call v.locks dead.0 r) reply (host_at v.locks h) _ _ call given others (valid_now w later)
              cleared.passes.files (clear_right command recovers reply _)
              (claimed_noting command v w h of watch (clear_call v.locks dead.0 r) reply call.geometry remembers n dead.0
              (stages.Sweep dead k) going (λ x of_stage. of_stage) of_dead (tries command recovers)
              (λ old new swaps two. absurd (no_swap reply old new swaps)));
        }

    -- the lock is not held by the dead key any more
    pub sweep_went : (going : Going) → k < locks_of v.locks.geometry → going ≡ behind_sweep v.locks.geometry dead k
        → Went h of v w (stages.Sweep dead k) going
    sweep_went going more is_next =
        subst (λ (x : Going). Went h of v w (stages.Sweep dead k) x) (sym is_next)
        (elim (cases_lt (k + 1) (locks_of v.locks.geometry)) [
          | inl again ↦
              let next : behind_sweep v.locks.geometry dead k ≡ goings.More (stages.Sweep dead (k + 1)) =
              rw (lt-ltb (k + 1) (locks_of v.locks.geometry) again) refl in
              subst (λ (x : Going). Went h of v w (stages.Sweep dead k) x) (sym next)
              (went (goings.More (stages.Sweep dead (k + 1))) refl
              (now, subst (λ (g : Geometry). k + 1 < locks_of g) (sym cleared.passes.geometry) again) (omega (arith, more)))
          | inr last ↦
              let next : behind_sweep v.locks.geometry dead k ≡ goings.Ready dead =
              rw (le-ltb (k + 1) (locks_of v.locks.geometry) last) refl in
              let all : k + 1 ≡ locks_of w.locks.geometry =
              subst (λ (g : Geometry). k + 1 ≡ locks_of g) (sym cleared.passes.geometry) (omega (arith, more, last)) in
              subst (λ (x : Going). Went h of v w (stages.Sweep dead k) x) (sym next)
              (went (goings.Ready dead) refl (subst (λ n. IsSwept w h of dead.0 n) all now) tt)
        ])

  -- a refused step cuts the command
  pub sweep_cut : (why : StepNo) → FreesLock v.locks h dead.0 r (Err why) w.locks → IsSound {T = Unit} (Err why) v.locks
      → IsCutAt h of v w (stages.Sweep dead k) why
  sweep_cut why refused sound = record {
    cuts = λ command watch n recovers.
        cut_of command v w h (clear_call v.locks dead.0 r) (place_of v.locks.geometry (kinds.Lock r)) refl others _
        (λ reply. clear_right command recovers reply _) (FitsLock Clear (trier h (host_at v.locks h) r)) why refused
        (λ at bad. sound at (ap Err bad));
    shut = shut_out v w h (clear_call v.locks dead.0 r) (place_of v.locks.geometry (kinds.Lock r))
        (FitsLock Clear (trier h (host_at v.locks h) r)) why refused;
  }
