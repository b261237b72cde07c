-- The answers of a `beat` and of a `look`.
use Rattle.std.proofs.Common.{◌≡◌, ◌≢◌, ◌<◌, ℕ, List, [], None, Option, Some, true, refl, ap, sym, subst, ◌∙◌, inl, inr}
use Rattle.std.specs.Prelude.{Err, Ok, slice_set}
use Rattle.std.proofs.lemmas.Bool.{cases_eq}
use Rattle.std.proofs.lemmas.List.{get_or-set_other}
use Rattle.shared_disk.specs.State.{State}
use Rattle.host_facts.specs.laws.ToldLaws.{both_same}
use Rattle.vol_base.specs.declared.answer.Answer.TheVariants.{Fine}
use Rattle.vol_base.specs.declared.command.Command.TheVariants as commands
use Rattle.vol_layout.specs.declared.geometry.Geometry.{Geometry}
use Rattle.vol_layout.specs.declared.kind.Kind.TheVariants as kinds
use Rattle.vol_layout.specs.Places.{place_of}
use Rattle.vol_layout.specs.laws.PlaceLaws.{kind_at-place}
use Rattle.shared_disk.specs.Events.{Done, Shows, event}
use Rattle.slot_lock_blocks.specs.declared.slot.Slot.{Slot}
use Rattle.slot_lock_blocks.specs.declared.slot.Slot.TheVariants as slots
use Rattle.slot_lock_blocks.specs.Slots.{slot_bytes, slot_key}
use Rattle.lock_store.specs.declared.answers.StepNo.{StepNo}
use Rattle.lock_store.specs.declared.host.HostState.{HostState}
use Rattle.lock_store.specs.Events.{read_of}
use Rattle.lock_store.specs.Memories.{holds}
use Rattle.lock_store.specs.SlotTries.{ReadsSlot, slot_by}
use Rattle.lock_store.specs.Views.{host_at, key_at}
use Rattle.disk_locks.specs.Calls.{Beats, key, next_beat}
use Rattle.disk_locks.specs.Consistent.{Consistent}
use Rattle.disk_locks.specs.Others as locks'
use Rattle.watch.specs.declared.watch.Look.{Look}
use Rattle.watch.specs.Looks.{IsLook, count_of, look_at}
use Rattle.host_facts.specs.Facts.Fact.{Given, RecordIs, TableIs}
use Rattle.host_facts.specs.Others.{Others}
use Rattle.host_facts.specs.SlotResults.{HasBeaten, HasSeen}
use Rattle.host_facts.specs.Views.{WorldView}
use Rattle.host_facts.specs.laws.LockFacts.{slot_read_law}
use Rattle.host_facts.specs.laws.SlotFacts.{beaten_law}
use Rattle.host_runs.specs.NotedCalls.{ShowsSlot, WritesKind}
use Rattle.host_runs.specs.Notes.{Notes}
use Rattle.host_runs.specs.Tries.{Tries}
use Rattle.host_notes.specs.Asked.{beat_call}
use Rattle.host_notes.specs.Owes.{Owes}
use Rattle.host_notes.specs.laws.OtherRights.{allowed_plain}
use Rattle.host_notes.specs.laws.SlotMemories.{remembered_beat, remembered_look}
use Rattle.host_notes.specs.laws.SlotRights.{allowed_beat}
use Rattle.host_notes.specs.laws.TryLaws.{ByWrite, tried_look, tried_slot}
use Rattle.plan_parts.specs.Cuts.{IsCutBy}
use Rattle.plan_parts.specs.laws.CutCallLaws.{cut_written}
use Rattle.plan_parts.specs.Steps.{IsReady}
use Rattle.plan_parts.specs.laws.QuietCallLaws.{valid_now}
use Rattle.plan_parts.specs.laws.TakenLaws.{others_locks}
use Rattle.recover_plan.specs.KnownTables.{KeepsTables}
use Rattle.recover_plan.specs.PlanSteps.{AreWatched, IsWatched, OpenNoted, OwesAnswer, RestsWith}
use Rattle.recover_plan.specs.SlotTurns.{at_look, look_answer}
use Rattle.recover_plan.specs.laws.SlotEndings.{seen_slot, taken_key}
use Rattle.recover_plan.specs.laws.SlotOwes.{owes_beat, owes_looked}
use Rattle.recover_plan.specs.laws.StepLaws.{at_rest_ready, locks_else, moment, ready_key, ready_on, ready_rests, ready_same, slot_turn, turn_of}

module _ (v w : WorldView) (h : ℕ) (c : Consistent v.locks) (later : Consistent w.locks) (below : h < v.locks.geometry.hosts)
    (ready : IsReady v h) (others : locks'.Others h v.locks w.locks) (standing : w.standing ≡ v.standing) (watch : List (Option Look)) where
  some : key_at v.locks h ≢ 0
  some = ready_key v h c ready

  module _ (done : Unit) (did : Beats v.locks h (Ok done) w.locks) where
    beaten : HasBeaten h v w
    beaten = subst (λ (x : WorldView). HasBeaten h v x) (locks_else v w standing) (beaten_law v h w.locks c others ready.joined did)

    pub beat_ready : IsReady w h
    beat_ready =
        ready_on v w h did.geometry (ap (λ (m : HostState). m.joined) did.mine ∙ ready.joined)
        (λ r. ap (λ (m : HostState). holds m r) did.mine) (beaten.facts (RecordIs []) ready.empty) ready

    beat_owed : (n : Notes) → OpenNoted commands.Beat h v watch n
        → (rest : Notes) × Owes v.locks.geometry h commands.Beat v.locks.disk w.locks.disk (Some (event (key_at v.locks h) (beat_call v.locks h) Done))
        None (Some Fine) n rest × RestsWith h w watch rest
    beat_owed n before =
        let m = moment commands.Beat v w h (beat_call v.locks h) Done n in
        let turn = turn_of commands.Beat v w h (beat_call v.locks h) Done n tt before.noted.remembered some in
        let block = slot_bytes (slots.Live (key (key_at v.locks h)) (next_beat (host_at v.locks h).beat)) in
        let writes : WritesKind v.locks.geometry (kinds.Slot h) block m.event =
        (place_of v.locks.geometry (kinds.Slot h), kind_at-place v.locks.geometry (kinds.Slot h) below, (refl, refl)) in
        let memory = remembered_beat v.locks w.locks h n.memory before.noted.remembered done c below ready.joined did in
        let rests = ready_rests w h v.locks.geometry m.now.memory later did.geometry beat_ready memory in
        let shown = ap (λ (t : Tries). t.shown) (tried_slot v.locks.geometry h commands.Beat n.memory.claims (key_at v.locks h) n.tries h
        (ByWrite block) below) ∙ before.noted.shown_is in (
          at_look m n.watch,
          owes_beat v.locks.geometry h v.locks.disk w.locks.disk m.event n block
              (slot_turn commands.Beat v w h (beat_call v.locks h) Done n _ tt before.noted.placed_is did (λ e. cc) beaten.passes.files
              (valid_now w later) (allowed_beat v.locks h m turn c Done below ready.joined))
              tt writes shown (record { locks = rests.0; stays = rests.1 }),
          record { rests = at_rest_ready w h v.locks.geometry (at_look m n.watch) did.geometry beat_ready memory refl; watch_is = before.watch_is },
        )

    pub beat_watched : AreWatched v h watch → AreWatched w h watch
    beat_watched are y look below' is =
        let was = are y look (subst (λ (g : Geometry). y < g.hosts) did.geometry below') is in record {
          spelled = was.spelled;
          some = was.some;
          of_host = was.of_host;
          shown = beaten.facts (Given (slot_key look.slot)) was.shown;
          by = beaten.facts (Given (slot_by look.slot)) was.by;
        }

    pub beat_tables : KeepsTables h v w
    beat_tables t p = beaten.facts (TableIs t p)

    -- a beat
    pub beat_owes : OwesAnswer commands.Beat h v w Fine (OpenNoted commands.Beat h v watch) (RestsWith h w watch)
    beat_owes = record {
      made = Some (event (key_at v.locks h) (beat_call v.locks h) Done);
      called = refl;
      others = others_locks v w h c others standing;
      quiet = λ n before. before.noted.wants;
      owes = beat_owed;
    }

  module _ (of : ℕ) (slot : Slot) (has : of < v.locks.geometry.hosts) (did : ReadsSlot v.locks h of (Ok slot) w.locks)
      (after : List (Option Look)) (looked : IsLook slot (look_at watch of) (look_at after of))
      (changed : after ≡ slice_set watch of (look_at after of)) where
    seen_now : HasSeen h slot v w
    seen_now = subst (λ (x : WorldView). HasSeen h slot v x) (locks_else v w standing) (slot_read_law v h w.locks c others of slot has did)

    pub look_ready : IsReady w h
    look_ready = ready_same v w h did.0.geometry did.0.mine (seen_now.looks.facts (RecordIs [])) ready

    pub look_tables : KeepsTables h v w
    look_tables t p = seen_now.looks.facts (TableIs t p)

    -- what is remembered of the other hosts stays
    kept : (k : ℕ) → k ≢ of → look_at after k ≡ look_at watch k
    kept k other = ap (λ (l : List (Option Look)). look_at l k) changed ∙ get_or-set_other watch of k (look_at after of) None other

    pub look_watched : AreWatched v h watch → AreWatched w h after
    look_watched are y look below' is = elim (cases_eq y of) [
      | inl same ↦ subst (λ (z : ℕ). IsWatched w h z look.slot) (sym same)
          (look_watch slot (look_at watch of) (look_at after of) look refl looked (ap (look_at after) (sym same) ∙ is))
      | inr other ↦
          let was = are y look (subst (λ (g : Geometry). y < g.hosts) did.0.geometry below') (sym (kept y other) ∙ is) in
          record {
            spelled = was.spelled;
            some = was.some;
            of_host = was.of_host;
            shown = seen_now.looks.facts (Given (slot_key look.slot)) was.shown;
            by = seen_now.looks.facts (Given (slot_by look.slot)) was.by;
          }
    ]
      where
        look_watch : (s : Slot) (before now : Option Look) (look : Look) → s ≡ slot → IsLook s before now → now ≡ Some look
            → IsWatched w h of look.slot
        look_watch s before now look same looked' is =
            let seen = seen_slot s before now look looked' is in
            subst (λ (t : Slot). IsWatched w h of t) (sym (seen.0 ∙ same)) (record {
              spelled = did.1;
              some = taken_key slot did.1 (λ free. seen.1 (same ∙ free));
              of_host = did.2;
              shown = seen_now.shown;
              by = seen_now.by;
            })

    look_owed : (n : Notes) → OpenNoted (commands.Look of) h v watch n
        → (rest : Notes) × Owes v.locks.geometry h (commands.Look of) v.locks.disk w.locks.disk
        (Some (event (key_at v.locks h) (read_of v.locks (kinds.Slot of)) (Shows (slot_bytes slot)))) None
        (Some (look_answer slot (count_of (look_at after of)))) n rest × RestsWith h w after rest
    look_owed n before =
        let call = read_of v.locks (kinds.Slot of) in
        let reply = Shows (slot_bytes slot) in
        let m = moment (commands.Look of) v w h call reply n in
        let turn = turn_of (commands.Look of) v w h call reply n tt before.noted.remembered some in
        let memory = remembered_look v.locks w.locks h n.memory before.noted.remembered of slot did in
        let rests = ready_rests w h v.locks.geometry m.now.memory later did.0.geometry look_ready memory in
        let shown = ap (λ (t : Tries). t.shown) (tried_look v.locks.geometry h (commands.Look of) n.memory.claims (key_at v.locks h) n.tries
        (place_of v.locks.geometry (kinds.Slot of)) reply (λ e. cc)) ∙ before.noted.shown_is in
        let shows : ShowsSlot v.locks.geometry (kinds.Slot of) slot m.event =
        (slot_bytes slot, (place_of v.locks.geometry (kinds.Slot of), kind_at-place v.locks.geometry (kinds.Slot of) has, refl), (did.1, refl)) in
        let one = slot_turn (commands.Look of) v w h call reply n _ tt before.noted.placed_is did.0 (λ e. cc) (both_same _ _ _ (ap (λ (s : State). s.told) seen_now.looks.state) (λ image f. refl))
        (valid_now w later) (allowed_plain v.locks h m turn call reply tt) in (
          at_look m after,
          owes_looked v.locks.geometry h v.locks.disk w.locks.disk m.event n of slot after one tt shows shown
              (record { locks = rests.0; stays = rests.1 })
              (λ k other. kept k other ∙ ap (λ (l : List (Option Look)). look_at l k) (sym before.watch_is))
              (subst (λ (l : List (Option Look)). IsLook slot (look_at l of) (look_at after of)) (sym before.watch_is) looked),
          record { rests = at_rest_ready w h v.locks.geometry (at_look m after) did.0.geometry look_ready memory refl; watch_is = refl },
        )

    -- a look
    pub look_owes : OwesAnswer (commands.Look of) h v w (look_answer slot (count_of (look_at after of))) (OpenNoted (commands.Look of) h v watch)
        (RestsWith h w after)
    look_owes = record {
      made = Some (event (key_at v.locks h) (read_of v.locks (kinds.Slot of)) (Shows (slot_bytes slot)));
      called = refl;
      others = others_locks v w h c others standing;
      quiet = λ n before. before.noted.wants;
      owes = look_owed;
    }

-- a beat that was refused
pub beat_cut : (v w : WorldView) (h : ℕ) (why : StepNo) → Consistent v.locks → h < v.locks.geometry.hosts
    → (host_at v.locks h).joined ≡ true → Others h v w → Beats v.locks h (Err why) w.locks
    → IsCutBy commands.Beat h v w why (λ n. Unit {0})
beat_cut v w h why c below joined others refused =
    cut_written commands.Beat v w h (place_of v.locks.geometry (kinds.Slot h))
    (slot_bytes (slots.Live (key (key_at v.locks h)) (next_beat (host_at v.locks h).beat))) why others _
    (λ reply t turn of before. allowed_beat v.locks h t turn c reply below joined) refused
