-- A `leave` frees a lock of a file that its host holds.
use Rattle.std.proofs.Common.{◌≡◌, ◌<◌, ℕ, List, None, Option, Some, true, false, refl, ap, sym, subst, ◌∙◌, inl, inr, true≢false, arith, []}
use Rattle.std.specs.Prelude.{Ok, length, slice_index_or, slice_set}
use Rattle.std.proofs.lemmas.Bool.{cases_eq, cases_lt}
use Rattle.std.proofs.lemmas.List.{get_or-set_other, get_or-set_same, get_or_past, length-set}
use Rattle.vol_base.specs.declared.command.Command.TheVariants.{Leave}
use Rattle.vol_layout.specs.declared.geometry.Geometry.{Geometry}
use Rattle.vol_layout.specs.declared.kind.Resource.{Resource}
use Rattle.vol_layout.specs.declared.kind.Resource.TheVariants.{File}
use Rattle.vol_layout.specs.Ranges.{HasResource}
use Rattle.shared_disk.specs.Events.{Done, Event, event}
use Rattle.lock_store.specs.declared.host.HostState.{HostState}
use Rattle.lock_store.specs.Memories.{holds, index_of, with_hold}
use Rattle.lock_store.specs.SlotTries.{slot_by}
use Rattle.lock_store.specs.Views.{host_at, key_at}
use Rattle.slot_lock_blocks.specs.Slots.{slot_key}
use Rattle.disk_locks.specs.Calls.{Unlocks}
use Rattle.disk_locks.specs.Consistent.{Consistent}
use Rattle.disk_locks.specs.Freeing.{Unedited}
use Rattle.disk_locks.specs.Others as locks'
use Rattle.disk_locks.specs.Sure.{Sure}
use Rattle.disk_locks.specs.laws.SureLaws.{taken_unedited}
use Rattle.watch.specs.declared.watch.Look.{Look}
use Rattle.host_facts.specs.Facts.Fact.{Given, RecordIs}
use Rattle.host_facts.specs.Relocks.{Relocks}
use Rattle.host_facts.specs.Views.{WorldView}
use Rattle.host_facts.specs.laws.LockFacts.{unlocked_law}
use Rattle.host_runs.specs.Notes.{Notes}
use Rattle.host_notes.specs.Asked.{unlock_call}
use Rattle.host_notes.specs.FileTurns.{going_on}
use Rattle.host_notes.specs.Owes.{Owes, plan_moment}
use Rattle.plan_parts.specs.QuietCalls.{Noted, QuietCall}
use Rattle.plan_parts.specs.Steps.{IsReady}
use Rattle.plan_parts.specs.declared.outcome.Outcome.TheVariants.{Open}
use Rattle.plan_parts.specs.laws.QuietCallLaws.{quiet_unlock}
use Rattle.plan_parts.specs.laws.TakenLaws.{others_locks}
use Rattle.host_facts.specs.laws.GuardLaws.{hold_else, hold_is}
use Rattle.recover_plan.specs.CallsLeft.{files_held}
use Rattle.recover_plan.specs.laws.CallsLeftLaws.{held_less}
use Rattle.recover_plan.specs.PlanSteps.{AreWatched, OpenNoted}
use Rattle.recover_plan.specs.Plans.{Came, PlanStands}
use Rattle.recover_plan.specs.declared.plan.Come.TheVariants.{More}
use Rattle.recover_plan.specs.declared.plan.Doing.TheVariants.{Unlock}
use Rattle.recover_plan.specs.laws.SlotEndings.{no_slot}
use Rattle.recover_plan.specs.laws.SlotOwes.{slot_goes_on}
use Rattle.recover_plan.specs.laws.StepLaws.{agrees_on, locks_else, quiet_slot_turn, ready_key}

-- what is held still was held, where one lock was freed
still_held : (f : ℕ) (r : Resource) (m : HostState) → holds (with_hold (File f) false m) r ≡ true → holds m r ≡ true
still_held f r m held =
    elim (cases_eq (index_of r) f) [
      | inl same ↦ absurd (true≢false (sym (subst (λ (i : ℕ). slice_index_or (slice_set m.held f false) i false ≡ true) same held) ∙ off))
      | inr other ↦ sym (get_or-set_other m.held f (index_of r) false false other) ∙ held
    ]
  where
    off : slice_index_or (slice_set m.held f false) f false ≡ false
    off = elim (cases_lt f (length m.held)) [
      | inl below ↦ get_or-set_same m.held f false false below
      | inr past ↦ get_or_past (slice_set m.held f false) f false (let long = length-set m.held f false in omega (arith, past, long))
    ]

-- no record edits a file that is held, where the own journal is empty
pub file_unedited : (v : WorldView) (h f : ℕ) → Consistent v.locks → IsReady v h → f < v.locks.geometry.files
    → holds (host_at v.locks h) (File f) ≡ true → Sure v.locks h (Unedited v.locks.geometry (File f))
file_unedited v h f c ready below held = taken_unedited v.locks h (File f) c (ready_key v h c ready) below held ready.empty.sure

module _ (v w : WorldView) (h f : ℕ) (watch : List (Option Look)) (c : Consistent v.locks) (later : Consistent w.locks)
    (below : f < v.locks.geometry.files) (others : locks'.Others h v.locks w.locks) (standing : w.standing ≡ v.standing) (done : Unit)
    (did : Unlocks v.locks h (File f) (Ok done) w.locks) (stands : PlanStands v h watch Unlock) (held : holds (host_at v.locks h) (File f) ≡ true)
  where
    relocks : Relocks h (File f) v w
    relocks = subst (λ (x : WorldView). Relocks h (File f) v x) (locks_else v w standing) (unlocked_law v h w.locks c others (File f) below did).0

    unlock_ready : IsReady w h
    unlock_ready = record {
      joined = ap (λ (m : HostState). m.joined) did.mine ∙ stands.at.joined;
      empty = relocks.facts (RecordIs []) (λ e. cc) stands.at.empty;
      taking = record {
        each = tt;
        only = λ r has shared held. stands.at.taking.only r (subst (λ (g : Geometry). HasResource g r) did.geometry has) shared
            (still_held f r (host_at v.locks h) (sym (ap (λ (m : HostState). holds m r) did.mine) ∙ held));
      };
    }

    unlock_watched : AreWatched w h watch
    unlock_watched y look below' there =
        let was = stands.watched y look (subst (λ (g : Geometry). y < g.hosts) did.geometry below') there in record {
          spelled = was.spelled;
          some = was.some;
          of_host = was.of_host;
          shown = relocks.facts (Given (slot_key look.slot)) (λ e. cc) was.shown;
          by = relocks.facts (Given (slot_by look.slot)) (λ e. cc) was.by;
        }

    abbrev freed : Event
    freed = event (key_at v.locks h) (unlock_call v.locks (File f)) Done

    quiet : QuietCall Leave h v w freed (Noted Leave h v Open) (Noted Leave h w Open)
    quiet = quiet_unlock Leave v w h (File f) Open done c later below did (others_locks v w h c others standing) relocks.passes.files

    unlock_owed : (n : Notes) → OpenNoted Leave h v watch n
        → (rest : Notes) × Owes v.locks.geometry h Leave v.locks.disk w.locks.disk (Some freed) None None n rest × OpenNoted Leave h w watch rest
    unlock_owed n noted =
        let m = plan_moment v.locks.geometry h Leave v.locks.disk w.locks.disk (Some freed) None n in (
          going_on m,
          slot_goes_on v.locks.geometry h v.locks.disk w.locks.disk (Some freed) n Leave
              (quiet_slot_turn Leave v w h freed n (Noted Leave h v Open) (Noted Leave h w Open) tt noted.noted.remembered
              (ready_key v h c stands.at) noted.noted.placed_is noted.noted quiet)
              tt refl (no_slot m None (inl refl)) (λ own is fenced. let call = fenced.0 in cc),
          agrees_on (OpenNoted Leave h w watch) v.locks.geometry h Leave v.locks.disk w.locks.disk freed n noted.noted.asks
              (record { noted = quiet.noted n noted.noted; watch_is = noted.watch_is }),
        )

    -- one file less is held
    fewer_files : files_held (host_at w.locks h) w.locks.geometry.files < files_held (host_at v.locks h) v.locks.geometry.files
    fewer_files =
        let m = host_at v.locks h in
        let off = hold_is v.locks.geometry (File f) false m c.geometry below (c.memories h).held in
        let else_same = hold_else v.locks.geometry (File f) false m c.geometry below in
        subst (λ (g : Geometry). files_held (host_at w.locks h) g.files < files_held m v.locks.geometry.files) (sym did.geometry)
        (subst (λ (k : HostState). files_held k v.locks.geometry.files < files_held m v.locks.geometry.files) (sym did.mine)
        (held_less m (with_hold (File f) false m) f v.locks.geometry.files below held off
        (λ e inside other. else_same.holds_same (File e) inside (λ same. other (let one : e ≡ f = cc in one)))))

    pub unlock_came : Came h v w watch watch Unlock (More Unlock)
    unlock_came = record {
      owes = record {
        made = Some freed;
        called = refl;
        others = others_locks v w h c others standing;
        quiet = λ n noted. noted.noted.wants;
        owes = unlock_owed;
      };
      stands = (
        record {
          host = subst (λ (g : Geometry). h < g.hosts) (sym did.geometry) stands.host;
          at = unlock_ready;
          watched = unlock_watched;
        },
        refl,
      );
      tables = λ keeps uncut. absurd keeps;
      volume = λ leaves uncut. relocks.passes.images;
      fewer = omega (arith, fewer_files);
    }
