-- The first step of a `join`: a key is given.
use Rattle.std.proofs.Common.{◌≡◌, ◌≢◌, ◌<◌, ℕ, List, None, Option, Some, false, refl, ap, sym, subst, ◌∙◌, inl, inr, arith, ◌+◌}
use Rattle.std.specs.Prelude.{Err, Ok}
use Rattle.std.proofs.Common.{replicate}
use Rattle.std.proofs.lemmas.Bool.{cases_lt}
use Rattle.std.proofs.lemmas.List.{get_or-replicate, get_or_past, length-replicate}
use Rattle.vol_base.specs.declared.answer.Answer.TheVariants as answers
use Rattle.shared_disk.specs.Events.{Refuses}
use Rattle.shared_disk.specs.declared.answers.DiskNo.TheVariants as refusals
use Rattle.watch.specs.Looks.{look_at, nothing}
use Rattle.host_runs.specs.Memories.{no_memory}
use Rattle.host_runs.specs.lemmas.TidyDisk.{none_some}
use Rattle.host_notes.specs.CutTurns.{dropped_at}
use Rattle.host_notes.specs.laws.QuietMemories.{remembered_drop}
use Rattle.host_notes.specs.laws.TurnLaws.{refused_same}
use Rattle.recover_plan.specs.laws.SlotOwes.{owes_no_more_keys}
use Rattle.recover_plan.specs.PlanSteps.{AreWatched}
use Rattle.std.proofs.lemmas.List.Elements.{Contains-push_cases}
use Rattle.vol_base.specs.declared.block.Key.{Key}
use Rattle.vol_base.specs.declared.command.Command.TheVariants.{Join}
use Rattle.vol_layout.specs.declared.geometry.Geometry.{Geometry}
use Rattle.shared_disk.specs.Events.{Event, Gives, Registers, event}
use Rattle.shared_disk.specs.State.{State}
use Rattle.lock_store.specs.declared.host.HostState.{HostState}
use Rattle.lock_store.specs.Calls.{RegistersHost}
use Rattle.lock_store.specs.Memories.{claim_of, dropped, key_of, registered}
use Rattle.slot_lock_blocks.specs.ReaderKeys.{key_number}
use Rattle.vol_layout.specs.declared.kind.Kind.TheVariants as kinds
use Rattle.host_runs.specs.Notes.{with_call}
use Rattle.lock_store.specs.Views.{host_at, key_at}
use Rattle.disk_locks.specs.Consistent.{Consistent}
use Rattle.disk_locks.specs.Others as locks'
use Rattle.watch.specs.declared.watch.Look.{Look}
use Rattle.host_facts.specs.Views.{WorldView}
use Rattle.host_facts.specs.laws.ToldLaws.{both_same}
use Rattle.host_runs.specs.NotedCalls.{SwapsKind}
use Rattle.host_runs.specs.Notes.{NotedCall, Notes}
use Rattle.host_notes.specs.FileTurns.{going_on}
use Rattle.host_notes.specs.Owes.{Owes}
use Rattle.host_notes.specs.Remembered.{IsRemembered}
use Rattle.host_notes.specs.laws.KeyMemories.{remembered_registers}
use Rattle.host_notes.specs.laws.NotedLaws.{no_key_noted}
use Rattle.host_notes.specs.laws.OtherRights.{allowed_register}
use Rattle.host_notes.specs.lemmas.Dropped.{no_claim}
use Rattle.plan_parts.specs.laws.QuietCallLaws.{valid_now}
use Rattle.plan_parts.specs.laws.TakenLaws.{others_locks}
use Rattle.host_facts.specs.Facts.{locks_of}
use Rattle.recover_plan.specs.Plans.{Came, IsEntering, PlanStands, TriesNoted}
use Rattle.recover_plan.specs.declared.plan.Come.TheVariants.{Answered, More}
use Rattle.recover_plan.specs.declared.plan.Doing.TheVariants.{Enter, Register}
use Rattle.recover_plan.specs.laws.SlotEndings.{join_slot}
use Rattle.recover_plan.specs.laws.SlotOwes.{slot_goes_on}
use Rattle.recover_plan.specs.laws.StepLaws.{agrees_on, moment, slot_turn, wants_none}
use Rattle.vol_base.specs.declared.answer.CutBy.TheVariants as cuts
use Rattle.host_facts.specs.Others.{Others}
use Rattle.host_notes.specs.Owes.{plan_moment}
use Rattle.host_notes.specs.laws.CutLaws.{owes_cut}
use Rattle.plan_parts.specs.Cuts.{IsCutBy}
use Rattle.recover_plan.specs.Plans.{Agrees}
use Rattle.lock_store.specs.declared.answers.StepNo.TheVariants as steps

no_key : dropped.key ≡ None
unfolding dropped
no_key = refl

-- a host that was just given a key is not joined, and has not left
given_out : (key : Key) → ((registered key).joined ≡ false) × ((registered key).freed ≡ false)
unfolding dropped
given_out key = (refl, refl)

module _ (v w : WorldView) (h : ℕ) (watch : List (Option Look)) (key : Key) (c : Consistent v.locks) (later : Consistent w.locks)
    (others : locks'.Others h v.locks w.locks) (standing : w.standing ≡ v.standing)
    (did : RegistersHost v.locks h (Ok key) w.locks) (stands : PlanStands v h watch Register) where
  some : key.0 ≢ 0
  some zero = let given = did.acts.changes.0 in omega (arith, zero, given)

  keyless : key_at v.locks h ≡ 0
  keyless = ap (λ (m : HostState). key_of m) stands.at ∙ ap key_number no_key

  none : (host_at v.locks h).key ≡ None
  none = ap (λ (m : HostState). m.key) stands.at ∙ no_key

  pub entering : IsEntering w h
  entering =
      let below = subst (λ (g : Geometry). h < g.hosts) (sym did.geometry) stands.host in record {
        base = record {
          host = below;
          below = below;
          key = λ zero. some (sym (ap (λ (m : HostState). key_of m) did.mine) ∙ zero);
          apart = λ own. (ap (λ (m : HostState). m.joined) did.mine ∙ (given_out key).0, ap (λ (m : HostState). m.freed) did.mine ∙ (given_out key).1);
        };
        unclaimed = ap (λ (m : HostState). claim_of m h) did.mine ∙ no_claim h;
      }

  abbrev gave : Event
  gave = event (key_at v.locks h) (Registers h) (Gives key.0)

  register_noted : (n : Notes) → TriesNoted h h v watch 0 n
      → TriesNoted h h w watch 0 (with_call v.locks.geometry h Join v.locks.disk.state (Some gave) n)
  register_noted n noted = record {
    under_way = record {
      remembered = subst (λ (g : Geometry). IsRemembered g (record n.memory { key = Some key.0 }) (host_at w.locks h)) (sym did.geometry)
          (remembered_registers v.locks w.locks h n.memory noted.under_way.remembered key c keyless did);
      placed_is = noted.under_way.placed_is;
      asks = noted.under_way.asks;
      watch_is = noted.under_way.watch_is;
      shown_is = noted.under_way.shown_is;
      from = λ old new call two.
          elim (Contains-push_cases n.calls (record { event = gave; before = v.locks.disk.state }) call.0 call.1) [
            | inl before ↦ noted.under_way.from old new (
              call.0,
              before,
              subst (λ (g : Geometry). SwapsKind g (kinds.Slot h) old new (Some call.0.event)) did.geometry call.2,
            ) two
            | inr last ↦
                let here = subst (λ (x : NotedCall). SwapsKind w.locks.geometry (kinds.Slot h) old new (Some x.event)) (sym last) call.2 in
                absurd (let asked = here.2.0 in cc)
          ];
    };
    count = noted.count;
  }

  register_owed : (n : Notes) → TriesNoted h h v watch 0 n
      → (rest : Notes) × Owes v.locks.geometry h Join v.locks.disk w.locks.disk (Some gave) None None n rest × TriesNoted h h w watch 0 rest
  register_owed n noted =
      let m = moment Join v w h (Registers h) (Gives key.0) n in (
        going_on m,
        slot_goes_on v.locks.geometry h v.locks.disk w.locks.disk (Some gave) n Join
            (slot_turn Join v w h (Registers h) (Gives key.0) n _ tt noted.under_way.placed_is did (λ e. cc)
            (both_same _ _ _ (ap (λ (s : State). s.told) did.acts.changes.1) (λ image f. refl)) (valid_now w later)
            (allowed_register h (key_at v.locks h) m (Gives key.0) refl refl
            (no_key_noted v.locks.geometry n.memory (host_at v.locks h) noted.under_way.remembered none)))
            tt refl (join_slot m None refl (λ k entered. let asked = entered.entered.2.0 in absurd cc)) (λ own e. absurd cc),
        agrees_on (TriesNoted h h w watch 0) v.locks.geometry h Join v.locks.disk w.locks.disk gave n noted.under_way.asks
            (register_noted n noted),
      )

  pub register_came : Came h v w watch watch Register (More Enter)
  register_came = record {
    owes = record {
      made = Some gave;
      called = refl;
      others = others_locks v w h c others standing;
      quiet = λ n noted. wants_none v.locks.geometry Join n.calls n.digests n.asks tt noted.under_way.asks;
      owes = register_owed;
    };
    stands = (
      record {
        host = subst (λ (g : Geometry). h < g.hosts) (sym did.geometry) stands.host;
        at = entering;
        watched = λ y look below there.
            absurd ((stands.watched y look (subst (λ (g : Geometry). y < g.hosts) did.geometry below) there).shown.guard keyless);
      },
      refl,
    );
    tables = λ keeps uncut. absurd keeps;
    volume = λ leaves uncut. absurd leaves;
    fewer = subst (λ (g : Geometry). locks_of g + 23 < locks_of v.locks.geometry + 24) (sym did.geometry) (omega arith);
  }

-- a watch that remembers nothing
none_at : (y : ℕ) → look_at nothing y ≡ None
unfolding nothing
none_at y = elim (cases_lt y 16) [
  | inl below ↦ get_or-replicate 16 y None None below
  | inr past ↦ get_or_past (replicate 16 None) y None (let long = length-replicate {A = Option Look} 16 None in omega (arith, past, long))
]

pub nothing_watched : (v : WorldView) (h : ℕ) → AreWatched v h nothing
nothing_watched v h y look below there = absurd (none_some there (none_at y))

-- no key is left: the host is down still
pub no_keys_came : (v w : WorldView) (h : ℕ) (watch : List (Option Look)) → Consistent v.locks → Consistent w.locks
    → locks'.Others h v.locks w.locks → w.standing ≡ v.standing → RegistersHost v.locks h (Err refusals.NoKeys) w.locks
    → PlanStands v h watch Register → Came h v w watch nothing Register (Answered answers.NoKeys)
no_keys_came v w h watch c later others standing did stands = record {
  owes = record {
    made = Some (event (key_at v.locks h) (Registers h) (Refuses refusals.NoKeys));
    called = refl;
    others = others_locks v w h c others standing;
    quiet = λ n noted. wants_none v.locks.geometry Join n.calls n.digests n.asks tt noted.under_way.asks;
    owes = λ n noted.
        let m = moment Join v w h (Registers h) (Refuses refusals.NoKeys) n in
        let gone : host_at w.locks h ≡ dropped = did.mine ∙ stands.at in
        let state = refused_same _ v.locks.disk w.locks.disk refusals.NoKeys did.acts refl in (
          dropped_at m,
          owes_no_more_keys v.locks.geometry h v.locks.disk w.locks.disk m.event n
              (slot_turn Join v w h (Registers h) (Refuses refusals.NoKeys) n _ tt noted.under_way.placed_is did (λ e. cc)
              (both_same _ _ _ (ap (λ (s : State). s.told) state) (λ image f. refl)) (valid_now w later)
              (allowed_register h (key_at v.locks h) m (Refuses refusals.NoKeys) refl refl
              (no_key_noted v.locks.geometry n.memory (host_at v.locks h) noted.under_way.remembered
              (ap (λ (x : HostState). x.key) stands.at ∙ no_key))))
              refl noted.under_way.shown_is,
          record {
            rests = record {
              remembered = subst (λ (x : HostState). IsRemembered w.locks.geometry no_memory x) (sym gone) (remembered_drop w.locks.geometry);
              rests = inr gone;
              between = refl;
            };
            watch_is = refl;
          },
        );
  };
  stands = nothing_watched w h;
  tables = λ keeps uncut. absurd keeps;
  volume = λ leaves uncut. absurd leaves;
  fewer = omega arith;
}

-- the device failed: the host is down still
pub register_failed_came : (v w : WorldView) (h : ℕ) (watch : List (Option Look)) → Consistent v.locks → Consistent w.locks
    → locks'.Others h v.locks w.locks → w.standing ≡ v.standing → RegistersHost v.locks h (Err refusals.Failed) w.locks
    → PlanStands v h watch Register → Came h v w watch nothing Register (Answered (answers.Cut cuts.Fault))
register_failed_came v w h watch c later others standing did stands = record {
  owes = record {
    made = Some (event (key_at v.locks h) (Registers h) (Refuses refusals.Failed));
    called = refl;
    others = others_locks v w h c others standing;
    quiet = λ n noted. wants_none v.locks.geometry Join n.calls n.digests n.asks tt noted.under_way.asks;
    owes = λ n noted.
        let e = event (key_at v.locks h) (Registers h) (Refuses refusals.Failed) in
        let m = plan_moment v.locks.geometry h Join v.locks.disk w.locks.disk (Some e) None n in
        let gone : host_at w.locks h ≡ dropped = did.mine ∙ stands.at in
        let allowed = allowed_register h (key_at v.locks h) m (Refuses refusals.Failed) refl refl
        (no_key_noted v.locks.geometry n.memory (host_at v.locks h) noted.under_way.remembered
        (ap (λ (x : HostState). x.key) stands.at ∙ no_key)) in (
          dropped_at m,
          owes_cut v.locks.geometry h Join v.locks.disk w.locks.disk e n cuts.Fault (record {
            comes = tt;
            cut = refl;
            acts = (did.acts, λ refused. cc);
            may = allowed.made;
            marks = allowed.marks;
            valid = valid_now v c;
          }),
          record {
            rests = record {
              remembered = subst (λ (x : HostState). IsRemembered w.locks.geometry no_memory x) (sym gone) (remembered_drop w.locks.geometry);
              rests = inr gone;
              between = refl;
            };
            watch_is = refl;
          },
        );
  };
  stands = nothing_watched w h;
  tables = λ keeps uncut. absurd keeps;
  volume = λ leaves uncut. absurd leaves;
  fewer = omega arith;
}

-- there was no memory for the call
pub register_unheard : (v w : WorldView) (h : ℕ) (watch : List (Option Look)) → Others h v w
    → RegistersHost v.locks h (Err refusals.NoMemory) w.locks → PlanStands v h watch Register
    → IsCutBy Join h v w steps.NoMemory (Agrees h v watch Register)
register_unheard v w h watch others did stands = (
  event (key_at v.locks h) (Registers h) (Refuses refusals.NoMemory),
  record {
    acts = did.acts;
    cause = refl;
    state = refused_same _ v.locks.disk w.locks.disk refusals.NoMemory did.acts refl;
    geometry = did.geometry;
    others = others;
    memory = λ other. absurd (other refl);
    same = λ e. did.mine;
    allowed = λ m turn of noted. allowed_register h (key_at v.locks h) m (Refuses refusals.NoMemory) of turn.host
        (no_key_noted v.locks.geometry m.old.memory (host_at v.locks h) noted.under_way.remembered
        (ap (λ (x : HostState). x.key) stands.at ∙ no_key));
  },
)

-- a host that was dropped has no key
pub dropped_key : (v : WorldView) (h : ℕ) → host_at v.locks h ≡ dropped → key_at v.locks h ≡ 0
dropped_key v h gone = ap (λ (m : HostState). key_of m) gone ∙ ap key_number no_key
