-- A merge goes on, or is answered.
use Rattle.std.proofs.Common.{◌≡◌, ◌≤◌, ◌++◌, ◌∷◌, ◌∙◌, ℕ, List, [], None, Option, Some, ap, arith, refl, subst, sym}
use Rattle.vol_base.specs.declared.block.Block.{Block}
use Rattle.vol_base.specs.declared.block.Digest.{Digest}
use Rattle.host_notes.specs.FileTurns.{asking}
use Rattle.host_notes.specs.Owes.{plan_moment}
use Rattle.host_runs.specs.Awaited.{MayAskFor, wanted}
use Rattle.plan_parts.specs.laws.QuietCallLaws.{wanted_behind}
use Rattle.vol_base.specs.declared.answer.Answer.TheVariants.{Merged}
use Rattle.vol_base.specs.declared.answer.MergeCounts.{MergeCounts}
use Rattle.vol_base.specs.declared.answer.Next.TheVariants as nexts
use Rattle.vol_base.specs.declared.command.Command.TheVariants.{Merge}
use Rattle.vol_layout.specs.declared.geometry.Geometry.{Geometry}
use Rattle.shared_disk.specs.Events.{Call, Event, Reply, event}
use Rattle.hint_blocks.specs.declared.entry.LogEntry.{LogEntry}
use Rattle.lock_store.specs.Views.{key_at}
use Rattle.disk_locks.specs.Consistent.{Consistent}
use Rattle.host_facts.specs.Views.{WorldView}
use Rattle.host_notes.specs.laws.VolumeEndings.{owes_no_other}
use Rattle.host_notes.specs.laws.VolumeOwes.{owes_asks_on, owes_merged}
use Rattle.host_runs.specs.HintCauses.{HasMerged}
use Rattle.host_runs.specs.Moments.{Moment}
use Rattle.host_runs.specs.Notes.{NotedCall, Notes, with_call, with_digest}
use Rattle.host_runs.specs.Rests.{HasPending}
use Rattle.plan_parts.specs.Steps.{OwesStep}
use Rattle.plan_parts.specs.declared.outcome.Outcome.TheVariants.{Open}
use Rattle.plan_parts.specs.laws.VolumeSteps.{volume_now, volume_step_ends, volume_step_goes_on, volume_turn}
use Rattle.hint_plans.specs.Plans.{RestsWith, called_step}
use Rattle.hint_plans.specs.laws.EndLaws.{ended_rests}
use Rattle.hint_plans.specs.laws.HostLaws.{ready_key}
use Rattle.merge_shelves.specs.Tallies.{total}
use Rattle.merge_steps.specs.Logs.{AreLogs, LogsRead}
use Rattle.merge_steps.specs.Steps.{IsMerging, MergeAsking, MergeNoted, Went}
use Rattle.merge_steps.specs.laws.CallLaws.{merging_on}

-- all own log blocks were read, and those that had hints are empty
pub has_merged : (m : Moment) (r : LogsRead) (counts : MergeCounts) → AreLogs m.geometry m.host r m.now.calls → m.geometry.logs ≤ r.read
    → m.geometry.logs ≤ r.emptied → total counts ≡ r.hints → HasMerged m counts
has_merged m r counts are read emptied many = record {
  read = λ l lt. are.read l (omega (arith, lt, read));
  emptied = λ l block lt seen some. are.emptied l (omega (arith, lt, emptied)) (are.filled l block seen some);
  counted = many ∙ sym are.many;
}

-- what is left of the pending hints
kept_pending : (counts : MergeCounts) (m : Moment) (later : List LogEntry) → HasPending (Merged counts) m later → m.command ≡ Merge
    → later ≡ m.old.pending
kept_pending counts m later is merge = is

-- notes that wait for nothing
waits_not : (n : Notes) → n.asks ≡ None → record n { asks = None } ≡ n
waits_not n none = ap (λ (o : Option Block). let m : Notes = record n { asks = o } in m) (sym none)

module _ (v w : WorldView) (h : ℕ) (call : Call) (reply : Reply) (before after : LogsRead) (pending : List LogEntry) (c : Consistent v.locks)
    (is : IsMerging v h) (went : Went h v w call reply before after) where
  abbrev e : Event
  e = event (key_at v.locks h) call reply

  -- the merge goes on
  pub merge_goes_on : OwesStep Merge h v w (called_step nexts.More) (MergeNoted h v pending before) (MergeNoted h w pending after)
  merge_goes_on =
      volume_step_goes_on Merge h v w e tt (ready_key v h c is.ready) Open refl (MergeNoted h v pending before) (MergeNoted h w pending after)
      (λ n noted. noted.noted) (went.quiet pending) (MergeNoted h w pending after) (λ n noted. noted.noted.asks) (λ n noted. noted)
      (λ n noted. owes_no_other _ _ tt)

  -- and asks for the digest of the data block that it read
  module _ (block : Block) (shown : MayAskFor v.locks.geometry Merge (Some e) (Some block)) where
    asked : (n : Notes) → MergeNoted h w pending after n → MergeNoted h w pending after (record (record n { asks = Some block }) { asks = None })
    asked n noted = subst (MergeNoted h w pending after) (sym (waits_not n noted.noted.asks)) noted

    pub merge_asks : OwesStep Merge h v w (called_step nexts.More) (MergeNoted h v pending before) (MergeAsking h w pending after block)
    merge_asks = record {
      made = Some e;
      called = refl;
      others = (went.quiet pending).others;
      quiet = λ n noted. noted.noted.wants;
      owes = λ n noted.
          let now = volume_now Merge h v w e tt (ready_key v h c is.ready) Open refl (MergeNoted h v pending before) (MergeNoted h w pending after)
          (λ m was. was.noted) (went.quiet pending) n noted in
          let turn = volume_turn Merge h v w e tt (ready_key v h c is.ready) Open refl (MergeNoted h v pending before) (MergeNoted h w pending after)
          (λ m was. was.noted) (went.quiet pending) n noted in (
            asking (plan_moment v.locks.geometry h Merge v.locks.disk w.locks.disk (Some e) None n) (Some block),
            owes_asks_on v.locks.geometry h v.locks.disk w.locks.disk (Some e) n Merge (Some block) turn refl shown (owes_no_other _ None tt),
            record {
              noted = asked _ now;
              asks = refl;
              earlier = n.calls;
              last = record { event = e; before = v.locks.disk.state };
              calls_are = refl;
            },
          );
    }

  -- it is answered
  pub merge_ends : (counts : MergeCounts) → Consistent w.locks → v.locks.geometry.logs ≤ after.read → v.locks.geometry.logs ≤ after.emptied
      → total counts ≡ after.hints
      → OwesStep Merge h v w (called_step (nexts.Answered (Merged counts))) (MergeNoted h v pending before) (RestsWith h w pending)
  merge_ends counts later read emptied many =
      ended_rests Merge h v w (Merged counts) (MergeNoted h v pending before) pending
      (λ n m rest noted old merge kept.
      kept_pending counts m rest kept merge ∙ ap (λ (x : Notes). x.pending) old ∙ noted.pending_is)
      (volume_step_ends Merge h v w e tt (ready_key v h c is.ready) Open refl (MergeNoted h v pending before) (MergeNoted h w pending after)
      (λ n noted. noted.noted) (went.quiet pending) later (merging_on h v w call reply before after went is).ready (λ n noted. noted.noted.remembered)
      (Merged counts) (λ n. n.pending)
      (λ n noted turn now rests.
      owes_merged v.locks.geometry h v.locks.disk w.locks.disk (Some e) n counts turn
      (has_merged _ after counts (subst (λ (g : Geometry). AreLogs g h after (with_call v.locks.geometry h Merge v.locks.disk.state (Some e) n).calls) went.geometry now.logs) read emptied many) now.noted.shown_is rests))

-- that digest is waited for, and handed in
pub merge_waits : (h : ℕ) (v : WorldView) (pending : List LogEntry) (r : LogsRead) (block : Block) (n : Notes)
    → MergeAsking h v pending r block n → wanted v.locks.geometry Merge n.calls n.digests n.asks ≡ Some block
merge_waits h v pending r block n asking =
    ap (λ (calls : List NotedCall). wanted v.locks.geometry Merge calls n.digests n.asks) asking.calls_are
    ∙ wanted_behind v.locks.geometry Merge asking.earlier asking.last n.digests n.asks ∙ asking.asks

handed : (g : Geometry) (calls : List NotedCall) (digests : List Digest) (digest : Digest)
    → wanted g Merge calls (digests ++ digest ∷ []) None ≡ None
handed g [] [] digest = refl
handed g [] (d ∷ digests) digest = refl
handed g (c ∷ calls) digests digest = refl

pub merge_handed : (h : ℕ) (v : WorldView) (pending : List LogEntry) (r : LogsRead) (block : Block) (digest : Digest) (n : Notes)
    → MergeAsking h v pending r block n → MergeNoted h v pending r (with_digest digest n)
merge_handed h v pending r block digest n asking = record {
  noted = record {
    remembered = asking.noted.noted.remembered;
    placed_is = asking.noted.noted.placed_is;
    shown_is = asking.noted.noted.shown_is;
    full = asking.noted.noted.full;
    asks = refl;
    wants = handed v.locks.geometry n.calls n.digests digest;
  };
  pending_is = asking.noted.pending_is;
  logs = asking.noted.logs;
}
