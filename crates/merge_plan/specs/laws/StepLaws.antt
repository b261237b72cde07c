-- What each way on and out of a step owes.
use Rattle.std.proofs.Common.{◌≡◌, ◌≢◌, ◌+◌, ◌<◌, ◌≤◌, ◌∙◌, ℕ, List, [], None, Some, ap, arith}
use Rattle.std.specs.Prelude.{if◌then◌else◌}
use Rattle.host_runs.specs.Memories.{drops}
use Rattle.vol_base.specs.declared.command.Command.{Command}
use Rattle.vol_base.specs.declared.answer.Answer.TheVariants as answers
use Rattle.vol_base.specs.declared.block.Key.{Key}
use Rattle.vol_base.specs.declared.command.Command.TheVariants.{Merge}
use Rattle.shared_disk.specs.Events.{Event}
use Rattle.hint_blocks.specs.declared.entry.LogEntry.{LogEntry}
use Rattle.hint_plans.specs.Plans.{RestsWith}
use Rattle.hint_plans.specs.laws.EndLaws.{ended_rests}
use Rattle.lock_store.specs.Views.{key_at}
use Rattle.disk_locks.specs.Consistent.{Consistent}
use Rattle.host_facts.specs.Views.{WorldView}
use Rattle.host_notes.specs.laws.VolumeEndings.{owes_no_other}
use Rattle.host_notes.specs.laws.VolumeOwes.{owes_busy_on}
use Rattle.host_runs.specs.Notes.{Notes}
use Rattle.merge_steps.specs.Logs.{LogsRead}
use Rattle.merge_steps.specs.Steps.{MergeCame}
use Rattle.plan_parts.specs.QuietCalls.{Noted, QuietCall, placed_of}
use Rattle.plan_parts.specs.Steps.{IsReady, OwesStep}
use Rattle.plan_parts.specs.declared.outcome.Outcome.{Outcome}
use Rattle.plan_parts.specs.declared.outcome.Outcome.TheVariants as outcomes
use Rattle.plan_parts.specs.laws.VolumeSteps.{volume_step_ends, volume_step_goes_on}
use Rattle.share_plans.specs.Closings.{KeepsHolds}
use Rattle.merge_plan.specs.Plans.{Agrees, all_read, at_index, left, reached}
use Rattle.merge_plan.specs.Steps.{Does, Went, step_of}
use Rattle.merge_plan.specs.declared.plan.Come.TheVariants.{Answered, More}
use Rattle.merge_plan.specs.declared.plan.Doing.{Doing}
use Rattle.merge_plan.specs.declared.room.MergeRoom.{MergeRoom}
use Rattle.merge_plan.specs.laws.FollowLaws.{Follows}

-- a call whose notes agree behind it with what comes next
module _ (v w : WorldView) (h : ℕ) (old new : MergeRoom) (doing : Doing) (e : Event) (some : key_at v.locks h ≢ 0) (was : Outcome)
    (nothing : placed_of was ≡ None) (before : (pending : List LogEntry) (n : Notes) → Agrees h v pending old doing n → Noted Merge h v was n) where
  pub owes_more : (Between : List LogEntry → Notes → Type 0) (next : Doing)
      → ((pending : List LogEntry) → QuietCall Merge h v w e (Agrees h v pending old doing) (Between pending))
      → ((pending : List LogEntry) (n : Notes) → Between pending n → n.asks ≡ None)
      → ((pending : List LogEntry) (n : Notes) → Between pending n → Agrees h w pending new next n)
      → (pending : List LogEntry) → OwesStep Merge h v w (step_of (More next)) (Agrees h v pending old doing) (Agrees h w pending new next)
  owes_more Between next quiet asks after pending =
      volume_step_goes_on Merge h v w e tt some was nothing (Agrees h v pending old doing) (Between pending) (before pending) (quiet pending)
      (Agrees h w pending new next) (asks pending) (after pending) (λ n is. owes_no_other _ None tt)

  -- what comes next follows from what was read
  pub went_followed : (mid : MergeRoom) (next : Doing) (most least : ℕ)
      → ((pending : List LogEntry) → QuietCall Merge h v w e (Agrees h v pending old doing) (MergeCame h w outcomes.Open pending (all_read w.locks.geometry mid)))
      → Follows w h mid new next most least → Does h v w old new doing (More next) → KeepsHolds h v w → most < left old doing
      → reached doing + at_index doing ≤ least → Went h v w old new doing (More next)
  went_followed mid next most least quiet follows does keeps fewer on = record {
    owes = owes_more (λ pending. MergeCame h w outcomes.Open pending (all_read w.locks.geometry mid)) next quiet (λ pending n came. came.noted.asks)
        follows.agrees;
    does = does;
    stands = follows.stands;
    keeps = keeps;
    fewer = let less = follows.fewer in omega (arith, less, fewer);
    on = let far = follows.on in omega (arith, far, on);
  }

  -- a busy lock is answered
  pub owes_busy : Consistent w.locks → IsReady w h → (key : Key) (r : LogsRead)
      → ((pending : List LogEntry) → QuietCall Merge h v w e (Agrees h v pending old doing) (MergeCame h w (outcomes.Busy key) pending r))
      → ((pending : List LogEntry) (n : Notes) → Agrees h v pending old doing n → n.pending ≡ pending)
      → (pending : List LogEntry)
      → OwesStep Merge h v w (step_of (Answered (answers.Busy key))) (Agrees h v pending old doing) (RestsWith h w pending)
  owes_busy c ready key r quiet kept pending =
      ended_rests Merge h v w (answers.Busy key) (Agrees h v pending old doing) pending
      (λ n m later agrees old_is merge is.
      is ∙ ap (λ (command : Command). if drops (answers.Busy key) command then [] else m.old.pending) merge ∙ ap (λ (x : Notes). x.pending) old_is
      ∙ kept pending n agrees)
      (volume_step_ends Merge h v w e tt some was nothing (Agrees h v pending old doing) (MergeCame h w (outcomes.Busy key) pending r) (before pending)
      (quiet pending) c ready (λ n came. came.noted.remembered) (answers.Busy key) (λ n. n.pending)
      (λ n is turn now rests.
      owes_busy_on v.locks.geometry h v.locks.disk w.locks.disk (Some e) n Merge key turn tt now.noted.shown_is
      (owes_no_other _ (Some (answers.Busy key)) tt) rests))
