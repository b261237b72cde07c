-- The steps of a `join` behind its registration: its tries of the own slot, and the recovery of an older key of the host.
use Rattle.std.proofs.Common.{◌≡◌, ◌≢◌, ◌+◌, ◌<◌, ◌∙◌, ℕ, Bool, List, None, Option, Some, true, false, refl, ap, sym, subst, arith}
use Rattle.std.specs.Prelude.{Err, Ok}
use Rattle.vol_base.specs.declared.answer.Answer.TheVariants as answers
use Rattle.vol_base.specs.declared.block.Key.{Key}
use Rattle.vol_base.specs.declared.command.Command.TheVariants.{Join}
use Rattle.vol_layout.specs.declared.geometry.Geometry.{Geometry}
use Rattle.vol_layout.specs.declared.kind.Kind.TheVariants as kinds
use Rattle.shared_disk.specs.Events.{Done, Event, Shows, event}
use Rattle.shared_disk.specs.State.{State}
use Rattle.slot_lock_blocks.specs.declared.slot.Slot.{Slot}
use Rattle.slot_lock_blocks.specs.declared.slot.Slot.TheVariants as slots
use Rattle.slot_lock_blocks.specs.Slots.{slot_bytes, slot_key}
use Rattle.call_effects.specs.Places.{KeepsFiles}
use Rattle.lock_store.specs.declared.answers.Claim.TheVariants.{Claimed, Found}
use Rattle.lock_store.specs.declared.answers.StepNo.{StepNo}
use Rattle.lock_store.specs.declared.answers.StepNo.TheVariants.{Bad}
use Rattle.lock_store.specs.declared.host.HostState.{HostState}
use Rattle.lock_store.specs.declared.purpose.SlotUse.TheVariants.{Take}
use Rattle.lock_store.specs.Memories.{claim_of, key_of}
use Rattle.lock_store.specs.SlotTries.{FitsSlot, MayShow, slot_by}
use Rattle.lock_store.specs.Views.{host_at, key_at, told_of}
use Rattle.vol_layout.specs.Places.{place_of}
use Rattle.disk_locks.specs.Calls as calls
use Rattle.disk_locks.specs.Calls.{EntersSlot, entry_use}
use Rattle.disk_locks.specs.Consistent.{Consistent}
use Rattle.disk_locks.specs.Others as locks'
use Rattle.watch.specs.declared.watch.Look.{Look}
use Rattle.watch.specs.Looks.{nothing}
use Rattle.host_facts.specs.Facts.Fact.{Given}
use Rattle.host_facts.specs.Others.{Others}
use Rattle.host_facts.specs.SlotResults.{HasSeen}
use Rattle.host_facts.specs.Views.{WorldView}
use Rattle.host_facts.specs.Wrote.{FilesStay}
use Rattle.host_facts.specs.laws.JoinFacts.{enter_found_law}
use Rattle.host_facts.specs.laws.ToldLaws.{both_same}
use Rattle.host_runs.specs.Notes.{Notes, with_call}
use Rattle.host_runs.specs.Tries.{Tries}
use Rattle.host_notes.specs.Asked.{enter_call}
use Rattle.host_notes.specs.laws.NotedLaws.{no_claim_noted}
use Rattle.host_notes.specs.laws.SlotMemories.{remembered_enter_found}
use Rattle.host_notes.specs.laws.SlotRights.{allowed_enter}
use Rattle.host_notes.specs.laws.TryLaws.{tried_slot_found}
use Rattle.plan_parts.specs.Cuts.{IsCutBy}
use Rattle.plan_parts.specs.QuietCalls.{QuietCall}
use Rattle.plan_parts.specs.laws.CutCallLaws.{cut_of}
use Rattle.plan_parts.specs.laws.QuietCallLaws.{quiet_call, valid_now}
use Rattle.plan_parts.specs.laws.TakenLaws.{locks_else, others_locks}
use Rattle.recover_plan.specs.Joins.{FindsOwn, IsLeftBy, entering, entries_before, join_found}
use Rattle.recover_plan.specs.PlanSteps.{AreWatched}
use Rattle.recover_plan.specs.CallsLeft.{calls_left}
use Rattle.recover_plan.specs.Plans.{Agrees, Came, IsEntering, PlanStands, TriesNoted, command_of}
use Rattle.recover_plan.specs.RecoverNotes.{FoundNoted, key_found}
use Rattle.recover_plan.specs.Replaying.{IsRecoverer}
use Rattle.recover_plan.specs.declared.plan.Come.TheVariants.{Answered}
use Rattle.recover_plan.specs.declared.plan.Doing.TheVariants.{Ended, Enter, EnterAgain}
use Rattle.recover_plan.specs.laws.FenceLaws.{shown_by}
use Rattle.recover_plan.specs.laws.JoinEntries.{joined_owes}
use Rattle.recover_plan.specs.laws.JoinFinds.{again_came, first_came}
use Rattle.recover_plan.specs.laws.NoteLaws.{under_way_on}
use Rattle.recover_plan.specs.laws.RegisterLaws.{nothing_watched}
use Rattle.recover_plan.specs.laws.StageLaws.{base_on}

-- what an entry from a free slot stands on
pub entering_at : (v : WorldView) (h : ℕ) (watch : List (Option Look)) (again : Bool) → PlanStands v h watch (entering again) → IsEntering v h
entering_at v h watch false stands = stands.at
entering_at v h watch true stands = stands.at

entering_watched : (v : WorldView) (h : ℕ) (watch : List (Option Look)) (again : Bool) → PlanStands v h watch (entering again)
    → AreWatched v h watch
entering_watched v h watch false stands = stands.watched
entering_watched v h watch true stands = stands.watched

entering_noted : (h : ℕ) (v : WorldView) (watch : List (Option Look)) (again : Bool) (n : Notes) → Agrees h v watch (entering again) n
    → TriesNoted h h v watch (entries_before again) n
entering_noted h v watch false n noted = noted
entering_noted h v watch true n noted = noted

joins : (again : Bool) → command_of (entering again) ≡ Join
joins false = refl
joins true = refl

module _ (v w : WorldView) (h : ℕ) (watch : List (Option Look)) (again : Bool) (key : Key) (c : Consistent v.locks)
    (later : Consistent w.locks) (stands : PlanStands v h watch (entering again)) (others : locks'.Others h v.locks w.locks)
    (standing : w.standing ≡ v.standing) (is_key : key.0 ≡ key_at v.locks h) where
  -- the own slot was free
  pub entry_came : EntersSlot v.locks h slots.Free (Ok Claimed) w.locks
      → Came h v w watch nothing (entering again) (Answered (answers.Joined key))
  entry_came did = by_try again refl stands
    where
      by_try : (b : Bool) → again ≡ b → PlanStands v h watch (entering b) → Came h v w watch nothing (entering b) (Answered (answers.Joined key))
      by_try false is at = record {
        owes = joined_owes v w h watch slots.Free key c later others standing at.at.base tt is_key (λ taken. absurd (taken refl)) did
            (Agrees h v watch Enter) None (λ n noted. noted.under_way);
        stands = nothing_watched w h;
        tables = λ keeps uncut. absurd keeps;
        volume = λ leaves uncut. absurd leaves;
        fewer = omega arith;
      }
      by_try true is at = record {
        owes = joined_owes v w h watch slots.Free key c later others standing at.at.base tt is_key (λ taken. absurd (taken refl)) did
            (Agrees h v watch EnterAgain) None (λ n noted. noted.under_way);
        stands = nothing_watched w h;
        tables = λ keeps uncut. absurd keeps;
        volume = λ leaves uncut. absurd leaves;
        fewer = omega arith;
      }

-- it shows another slot
module _ (v u w : WorldView) (h : ℕ) (watch after : List (Option Look)) (again : Bool) (found : Slot) (c : Consistent v.locks)
    (later : Consistent u.locks) (stands : PlanStands v h watch (entering again)) (below : h < v.locks.geometry.hosts)
    (others : locks'.Others h v.locks u.locks) (standing : u.standing ≡ v.standing)
    (did : EntersSlot v.locks h slots.Free (Ok (Found found)) u.locks) where
  abbrev base : IsRecoverer v h h
  base = (entering_at v h watch again stands).base

  abbrev tried : Event
  tried = event (key_at v.locks h) (enter_call v.locks h slots.Free) (Shows (slot_bytes found))

  pub sees : HasSeen h found v u
  sees = subst (λ (x : WorldView). HasSeen h found v x) (sym (locks_else v u standing)) (enter_found_law v h u.locks c others slots.Free found did)

  pub still : u.locks.disk.state ≡ v.locks.disk.state → FilesStay v u
  still state = both_same (told_of v.locks) (told_of u.locks) KeepsFiles (ap (λ (s : State). s.told) state) (λ image f. refl)

  found_noted : (n : Notes) → Agrees h v watch (entering again) n
      → FoundNoted Join h h watch (entries_before again) u found
      (with_call v.locks.geometry h Join v.locks.disk.state (Some tried) n)
  found_noted n agrees =
      let was = entering_noted h v watch again n agrees in
      let k = entries_before again in
      let own = key_at v.locks h in
      let unclaimed = no_claim_noted v.locks.geometry n.memory (host_at v.locks h) was.under_way.remembered h base.below
      (entering_at v h watch again stands).unclaimed in
      let tried_is = tried_slot_found v.locks.geometry h Join n.memory.claims own n.tries h (slot_bytes slots.Free)
      (slot_bytes (slots.Live (calls.key own) 0)) (slot_bytes found) base.below unclaimed in record {
        under_way = under_way_on Join v u h h watch (enter_call v.locks h slots.Free) (Shows (slot_bytes found)) did.0.geometry
            (λ memory remembers. remembered_enter_found v.locks u.locks h memory remembers slots.Free found did) None None None
            (key_found Join h (key_at u.locks h) k found) n
            (ap (λ (t : Tries). t.shown) tried_is
            ∙ shown_by Join h own k (slot_bytes found) n.tries was.under_way.shown_is was.count
            ∙ ap (λ x. key_found Join h x k found) (sym (ap key_of did.0.mine)))
            (λ x none. none)
            (λ old new swaps two. let no : Shows (slot_bytes found) ≡ Done = swaps.2.1 in absurd cc) was.under_way;
        count = ap (λ (t : Tries). t.count) tried_is ∙ ap (λ (x : ℕ). x + 1) was.count;
      }

  found_quiet : QuietCall Join h v u tried (Agrees h v watch (entering again))
      (λ n. FoundNoted Join h h watch (entries_before again) u found n)
  found_quiet =
      quiet_call Join v u h (enter_call v.locks h slots.Free) (Shows (slot_bytes found)) (host_at v.locks h) _ _ did.0 tt
      (others_locks v u h c others standing) (valid_now u later) (still did.0.acts.changes.2)
      (λ m turn of before. allowed_enter v.locks h m turn c slots.Free (Shows (slot_bytes found)) base.host base.key) found_noted

  pub finds : FindsOwn u h found
  finds = record {
    base = base_on v u h h sees.looks.geometry sees.looks.memory sees.looks.facts base;
    unclaimed = ap (λ (m : HostState). claim_of m h) sees.looks.memory ∙ (entering_at v h watch again stands).unclaimed;
    spelled = did.1;
    of_host = did.2;
    may = subst (λ (m : HostState). MayShow Take h m found) (sym did.0.mine) did.3;
    shown = sees.shown;
    by = sees.by;
  }

  watched : AreWatched u h watch
  watched y look there is =
      let was = entering_watched v h watch again stands y look (subst (λ (g : Geometry). y < g.hosts) sees.looks.geometry there) is in record {
        spelled = was.spelled;
        some = was.some;
        of_host = was.of_host;
        shown = sees.looks.facts (Given (slot_key look.slot)) was.shown;
        by = sees.looks.facts (Given (slot_by look.slot)) was.by;
      }

  pub taken : found ≢ slots.Free
  taken free = did.0.acts.changes.1 (ap slot_bytes free)

  pub entry_found_came : IsLeftBy h u w watch after (join_found h found again) → Came h v w watch after (entering again) (join_found h found again)
  entry_found_came left = by_try again refl left
    where
      going : (b : Bool) → entering b ≢ Ended
      going false is = cc
      going true is = cc

      by_try : (b : Bool) → again ≡ b → IsLeftBy h u w watch after (join_found h found b)
          → Came h v w watch after (entering again) (join_found h found b)
      by_try false is left =
          first_came v u w h watch after (entries_before again) found tried (entering again) None c later below (joins again) base.key
          (λ n noted. (entering_noted h v watch again n noted).under_way) found_quiet refl finds watched (going again)
          (ap entries_before is) (ap (λ (b : Bool). calls_left v h (entering b)) is) found refl taken
          left
      by_try true is left =
          again_came v u w h watch after (entries_before again) found tried (entering again) None c later below (joins again) base.key
          (λ n noted. (entering_noted h v watch again n noted).under_way) found_quiet refl finds watched (going again)
          found refl
          (λ none. let two = ap entries_before is in omega (arith, two, none)) (λ free. absurd (taken free)) (λ free. absurd (taken free)) left

-- the entry was refused
pub entry_cut : (v w : WorldView) (h : ℕ) (from : Slot) (why : StepNo) (Before : Notes → Type 0) → Consistent v.locks → IsRecoverer v h h
    → Others h v w → EntersSlot v.locks h from (Err why) w.locks → ((at : ℕ) → why ≡ Bad at → told_of v.locks ≡ None)
    → IsCutBy Join h v w why Before
entry_cut v w h from why Before c base others refused sound =
    cut_of Join v w h (enter_call v.locks h from) (place_of v.locks.geometry (kinds.Slot h)) refl others Before
    (λ reply m turn of before. allowed_enter v.locks h m turn c from reply base.host base.key)
    (FitsSlot (entry_use from) h (host_at v.locks h)) why refused sound
