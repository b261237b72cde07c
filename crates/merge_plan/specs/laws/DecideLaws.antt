-- A step that decides an entry by its digest, and makes the first call of what comes of it.
use Rattle.std.proofs.Common.{◌+◌, ◌*◌, ℕ, List, Some, arith, inl, inr, subst, sym}
use Rattle.std.specs.Prelude.{Err, IfOk, Ok, Result}
use Rattle.vol_base.specs.declared.block.Digest.{Digest}
use Rattle.vol_base.specs.declared.command.Command.TheVariants.{Merge}
use Rattle.hint_blocks.specs.declared.entry.LogEntry.{LogEntry}
use Rattle.lock_store.specs.declared.answers.StepNo.{StepNo}
use Rattle.disk_locks.specs.Consistent.{Consistent}
use Rattle.host_facts.specs.Views.{WorldView}
use Rattle.merge_steps.specs.declared.sweep.Due.{Due}
use Rattle.merge_steps.specs.declared.sweep.Due.TheVariants as dues
use Rattle.plan_parts.specs.Steps.{OwesStep}
use Rattle.vol_layout.specs.declared.geometry.Geometry.{Geometry}
use Rattle.merge_plan.specs.Followings.{IsAfter, IsByDue, IsDecided, IsNextShelf}
use Rattle.merge_plan.specs.Plans.{Agrees, IsCalling, PlanStands, entry_left}
use Rattle.merge_plan.specs.Steps.{Behind, Calls, Does, Went, step_of}
use Rattle.merge_plan.specs.declared.plan.Come.{Come}
use Rattle.merge_plan.specs.declared.plan.Doing.{Doing}
use Rattle.merge_plan.specs.declared.plan.Doing.TheVariants as doings
use Rattle.merge_plan.specs.declared.room.MergeRoom.{MergeRoom}
use Rattle.merge_plan.specs.laws.FollowLaws.{Follows, decided_follows}

-- what comes of an entry that was decided makes a call
shelf_calls : (g : Geometry) (old new : MergeRoom) (doing : Doing) → IsNextShelf g old new doing → IsCalling doing
shelf_calls g old new doing (inl (more, (noted, here, doing_is, new_is))) = subst IsCalling (sym doing_is) tt
shelf_calls g old new doing (inr (done, same, l, filled, doing_is)) = subst IsCalling (sym doing_is) tt

after_calls : (g : Geometry) (s from : ℕ) (old new : MergeRoom) (doing : Doing) → IsAfter g s from old new doing → IsCalling doing
after_calls g s from old new doing (inl (k, changed, same, doing_is)) = subst IsCalling (sym doing_is) tt
after_calls g s from old new doing (inr (none, next)) = shelf_calls g old new doing next

due_calls : (v : WorldView) (h s : ℕ) (old new : MergeRoom) (doing : Doing) (due : Due) → IsByDue v h s old new doing due → IsCalling doing
due_calls v h s old new doing dues.Looks (same, noted, here, look, begins, doing_is) = subst IsCalling (sym doing_is) tt
due_calls v h s old new doing (dues.Posts slot) (same, noted, here, range, plan, begins, doing_is) = subst IsCalling (sym doing_is) tt
due_calls v h s old new doing dues.Ends after = after_calls v.locks.geometry s 0 old new doing after

module _ (v : WorldView) (h s : ℕ) (digest : Digest) (old mid : MergeRoom) (doing : Doing) (is : IsDecided v h s (Some digest) old mid doing) where
  pub decided_calls : IsCalling doing
  decided_calls = elim is.by [
    | inl (calls, same, plan, begins, doing_is) ↦ subst IsCalling (sym doing_is) tt
    | inr finished ↦ due_calls v h s _ mid doing finished.on.due finished.on.by
  ]

  module _ (c : Consistent v.locks) (stands : PlanStands v h old (doings.Decides s digest)) where
    -- it stands, and the notes of before agree with it
    pub decided_next : Follows v h old mid doing (entry_left old s 37) (20 * s + 5)
    decided_next =
        let (merging, swept) = stands.1 in
        decided_follows v h c merging old mid s (Some digest) doing swept.sorted swept.opened swept.next is

    module _ (w : WorldView) (new : MergeRoom) where
      -- what its first call owes by notes that agree with it, it owes by those that agree with the decision
      owes : (come : Come) → Went h v w mid new doing come → (pending : List LogEntry)
          → OwesStep Merge h v w (step_of come) (Agrees h v pending old (doings.Decides s digest)) (Behind h w pending new come)
      owes come went pending =
          let owed = went.owes pending in record {
            made = owed.made;
            called = owed.called;
            others = owed.others;
            quiet = λ n agrees. owed.quiet n (decided_next.agrees pending n agrees);
            owes = λ n agrees. owed.owes n (decided_next.agrees pending n agrees);
          }

      -- it decides no other entry
      called : (next : Doing) (come : Come) → IsCalling next → Does h v w mid new next come → Calls h v w mid new next come
      called doings.Begins come calls does = does
      called (doings.ReadsLog l) come calls does = does
      called (doings.ReadsShard k j) come calls does = does
      called (doings.Looks k l) come calls does = does
      called (doings.Acts k plan) come calls does = does
      called (doings.Swaps k j) come calls does = does
      called (doings.EmptiesLog l) come calls does = does
      called next come calls does = absurd calls

      -- so the step decided the entry, and made that call
      went_decided : (come : Come) → Went h v w mid new doing come → Went h v w old new (doings.Decides s digest) come
      went_decided come went = record {
        owes = owes come went;
        does = (mid, doing, is, called doing come decided_calls went.does);
        stands = went.stands;
        keeps = went.keeps;
        fewer = let less = went.fewer in let few = decided_next.fewer in omega (arith, less, few);
        on = let far = went.on in let from = decided_next.on in omega (arith, far, from);
      }

      pub ok_decided : (result : Result Come StepNo) → IfOk result (Went h v w mid new doing)
          → IfOk result (Went h v w old new (doings.Decides s digest))
      ok_decided (Ok come) went = went_decided come went
      ok_decided (Err why) went = tt
