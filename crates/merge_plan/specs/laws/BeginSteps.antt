-- The first step: the first own log block is read into a cleared room.
use Rattle.std.proofs.Common.{◌≡◌, ◌∙◌, ℕ, Bool, List, ap, arith, false, length, subst, sym, true}
use Rattle.std.specs.Prelude.{All, Err, IfOk, Ok, Result, replicate}
use Rattle.std.proofs.lemmas.List.{get_or-replicate, length-replicate}
use Rattle.std.proofs.lemmas.List.Elements.{All-nil}
use Rattle.std.proofs.lemmas.Option.{get_or_from_slice_get}
use Rattle.hint_blocks.specs.declared.entry.LogEntry.{LogEntry}
use Rattle.hint_blocks.specs.Entries.{IsLogEntry}
use Rattle.lock_store.specs.declared.answers.StepNo.{StepNo}
use Rattle.disk_locks.specs.Consistent.{Consistent}
use Rattle.host_facts.specs.Views.{WorldView}
use Rattle.host_runs.specs.Notes.{Notes}
use Rattle.hint_plans.specs.Plans.{RestsWith}
use Rattle.merge_shelves.specs.declared.room.Noted.{Noted}
use Rattle.merge_steps.specs.Logs.{LogsRead, unread}
use Rattle.merge_steps.specs.Steps.{IsMerging, MergeCame}
use Rattle.plan_parts.specs.declared.outcome.Outcome.TheVariants.{Open}
use Rattle.merge_plan.specs.Followings.{AreNotFilled}
use Rattle.merge_plan.specs.Plans.{PlanStands, logs_of}
use Rattle.merge_plan.specs.Rooms.{IsCleared}
use Rattle.merge_plan.specs.Steps.{Went}
use Rattle.merge_plan.specs.declared.plan.Come.{Come}
use Rattle.merge_plan.specs.declared.plan.Doing.TheVariants as doings
use Rattle.merge_plan.specs.declared.room.MergeRoom.{MergeRoom}
use Rattle.merge_plan.specs.laws.StillLaws.{rest_noted}

none_marked : AreNotFilled (replicate 16 false) 0 16
none_marked k from below there =
    let at = get_or_from_slice_get (replicate 16 false) k true false there in
    let both : true ≡ false = sym at ∙ get_or-replicate 16 k false false below in cc

module _ (v : WorldView) (h : ℕ) (c : Consistent v.locks) (merging : IsMerging v h) (room : MergeRoom) (cleared : IsCleared v.locks.geometry room) where
  pub begun_stands : PlanStands v h room (doings.ReadsLog 0)
  begun_stands =
      let none : length room.logs ≡ 0 = ap length cleared.logs in (
        merging.host,
        (
          merging,
          record {
            below = let some = c.geometry.logs.0 in omega (arith, some);
            few = omega (arith, none);
            entries = subst (All (λ (noted : Noted). IsLogEntry v.locks.geometry noted.entry)) (sym cleared.logs)
                (All-nil (λ (noted : Noted). IsLogEntry v.locks.geometry noted.entry));
            marks = ap length cleared.filled ∙ length-replicate 16 false;
            filled = λ some. absurd (omega (arith, some, none));
            unfilled = λ nothing. subst (λ (marks : List Bool). AreNotFilled marks 0 16) (sym cleared.filled) none_marked;
            at = cleared.at;
            counts = cleared.counts;
            shelf = cleared.shelf;
          },
        ),
      )

  -- no call was made
  unread_is : unread ≡ logs_of v.locks.geometry room (doings.ReadsLog 0)
  unread_is =
      ap (λ (n : ℕ). let r : LogsRead = record { read = 0; hints = n; filled = replicate 16 false; emptied = 0 } in r) (sym (ap length cleared.logs))
      ∙ ap (λ (marks : List Bool). let r : LogsRead = record { read = 0; hints = length room.logs; filled = marks; emptied = 0 } in r) (sym cleared.filled)

  rested : (pending : List LogEntry) (n : Notes) → RestsWith h v pending n
      → MergeCame h v Open pending (logs_of v.locks.geometry room (doings.ReadsLog 0)) n
  rested pending n rests = subst (λ (r : LogsRead). MergeCame h v Open pending r n) unread_is (rest_noted h v pending n rests)

  begun_went : (w : WorldView) (old new : MergeRoom) (come : Come) → Went h v w room new (doings.ReadsLog 0) come
      → Went h v w old new doings.Begins come
  begun_went w old new come went = record {
    owes = λ pending.
        let owes = went.owes pending in record {
          made = owes.made;
          called = owes.called;
          others = owes.others;
          quiet = λ n rests. owes.quiet n (rested pending n rests);
          owes = λ n rests. owes.owes n (rested pending n rests);
        };
    does = (room, cleared, went.does);
    stands = went.stands;
    keeps = went.keeps;
    fewer = let fewer = went.fewer in omega (arith, fewer);
    on = went.on;
  }

  pub begun_by : (w : WorldView) (old new : MergeRoom) (came : Result Come StepNo) → IfOk came (Went h v w room new (doings.ReadsLog 0))
      → IfOk came (Went h v w old new doings.Begins)
  begun_by w old new (Ok come) went = begun_went w old new come went
  begun_by w old new (Err why) went = tt
