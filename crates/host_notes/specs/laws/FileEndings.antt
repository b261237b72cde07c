-- What a command on a file owes where its call was not refused: nothing by the device, by a slot, or by a log.
use Rattle.std.proofs.Common.{◌≡◌, ℕ, Bool, true, false, List, None, Option, Some, refl, ap, sym, ◌∙◌, subst}
use Rattle.std.specs.Prelude.{if◌then◌else◌}
use Rattle.vol_base.specs.declared.answer.Answer.{Answer}
use Rattle.vol_base.specs.declared.answer.Answer.TheVariants.{Busy, Full, Plain}
use Rattle.vol_base.specs.declared.block.Digest.{Digest}
use Rattle.vol_base.specs.declared.block.Key.{Key}
use Rattle.vol_base.specs.declared.command.Command.{Command}
use Rattle.vol_base.specs.declared.command.Command.TheVariants as commands
use Rattle.vol_base.specs.declared.plain.PlainReply.{PlainReply}
use Rattle.vol_base.specs.declared.plain.PlainReply.TheVariants as replies
use Rattle.shared_disk.specs.Events.{Event}
use Rattle.shared_disk.specs.declared.answers.DiskNo.{DiskNo}
use Rattle.shared_disk.specs.declared.answers.DiskNo.TheVariants as refusals
use Rattle.histories.specs.Answers.{MayGet}
use Rattle.host_runs.specs.Causes.{IsCause}
use Rattle.host_runs.specs.DeviceCalls.{IsRefused}
use Rattle.host_runs.specs.Memories.{AreFileLocks, Memory, drops, memory_after, no_memory}
use Rattle.host_runs.specs.Moments.{Moment}
use Rattle.host_runs.specs.Owed.{OwesAtEnd, OwesAtOnce, OwesByLog, OwesBySlot}
use Rattle.host_runs.specs.Rests.{HasFoundOther, HasPending, HasWrittenHint}
use Rattle.host_runs.specs.Steps.{IsEnding}
use Rattle.host_runs.specs.lemmas.OrderlyPlaced.{some_same}
use Rattle.host_runs.specs.lemmas.TidyDisk.{none_some}
use Rattle.host_notes.specs.FileTurns.{IsAnswered, IsGiven, IsOnFile, IsResting, MeetsNoFull, pending_after, with_written}
use Rattle.host_notes.specs.Owes.{joined_in}

-- commands that are not on a file
no_join : IsOnFile commands.Join → ⊥
no_join on = cc

no_leave : IsOnFile commands.Leave → ⊥
no_leave on = cc

no_log : IsOnFile commands.Log → ⊥
no_log on = cc

no_look : (of : ℕ) → IsOnFile (commands.Look of) → ⊥
no_look of on = cc

no_recover : (of : ℕ) → IsOnFile (commands.Recover of) → ⊥
no_recover of on = cc

no_scribble : (place k seen : ℕ) → IsOnFile (commands.Scribble place k seen) → ⊥
no_scribble place k seen on = cc

-- its host is joined, and `busy` is an answer of each command on a file, which drops no host
pub file_joined : (command : Command) → IsOnFile command → joined_in command ≡ true
file_joined commands.Join on = absurd (no_join on)
file_joined command on = refl

pub file_busy : (command : Command) (key : Key) → IsOnFile command → MayGet command (Busy key)
file_busy (commands.Create f) key on = tt
file_busy (commands.Size f k) key on = tt
file_busy (commands.Write f i k) key on = tt
file_busy (commands.Read f i) key on = tt
file_busy (commands.Punch f i) key on = tt
file_busy (commands.Remove f) key on = tt
file_busy (commands.Close f) key on = tt
file_busy (commands.Scan f i) key on = tt
file_busy command key on = absurd cc

pub busy_keeps : (command : Command) (key : Key) → IsOnFile command → drops (Busy key) command ≡ false
busy_keeps commands.Join key on = absurd (no_join on)
busy_keeps command key on = refl

-- its looks stay behind `busy`
pub busy_looks : (command : Command) (key : Key) (m : Moment) → IsOnFile command → HasFoundOther (Busy key) command m m.old.watch
busy_looks commands.Join key m on = absurd (no_join on)
busy_looks (commands.Recover of) key m on = absurd (no_recover of on)
busy_looks command key m on = refl

-- the pending hints behind a plain reply
written_hint : (command : Command) (m : Moment) → HasWrittenHint command m (with_written command m.now.digests m.old.pending)
written_hint (commands.Write f i k) m = λ digest is. ap (λ (ds : List Digest). with_written (commands.Write f i k) ds m.old.pending) is
written_hint command m = refl

pub plain_pending : (reply : PlainReply) (m : Moment) → HasPending (Plain reply) m (pending_after reply m)
plain_pending replies.Done m = written_hint m.command m
plain_pending reply m = refl

-- where the host is not dropped, its memory stays
pub memory_kept : (answer : Answer) (command : Command) (memory : Memory) → drops answer command ≡ false
    → memory_after answer command memory ≡ memory
memory_kept answer command memory keeps = ap (λ (b : Bool). if b then no_memory else memory) keeps

-- a call that was not refused
answered_refused : (made : Option Event) (cause : DiskNo) → IsAnswered made → IsRefused cause made → ⊥
answered_refused None cause answered refused = refused
answered_refused (Some e) cause answered refused = subst IsGiven refused answered

module _ (m : Moment) (on : IsOnFile m.command) (joined : m.joined ≡ true) (answered : IsAnswered m.event) where
  of : (command : Command) → m.command ≡ command → IsOnFile command
  of command is = subst IsOnFile is on

  at_once : (ended : Option Answer) → OwesAtOnce m ended
  at_once ended = record {
    fenced = λ refused. absurd (answered_refused m.event refusals.Fenced answered refused);
    failed = λ refused. absurd (answered_refused m.event refusals.Failed answered refused);
    no_keys = λ refused. absurd (answered_refused m.event refusals.NoKeys answered refused);
    up = λ is here. absurd (no_join (of commands.Join is));
    down = λ other down. let e : true ≡ false = sym joined ∙ down in absurd cc;
    refused = λ place k seen is here hint. absurd (no_scribble place k seen (of (commands.Scribble place k seen) is));
  }

  by_slot : (ended : Option Answer) → OwesBySlot m ended
  by_slot ended = record {
    joined = λ key is entered. absurd (no_join (of commands.Join is));
    unseen = λ host is shown. absurd (no_look host (of (commands.Look host) is));
    seen = λ host n is seen. absurd (no_look host (of (commands.Look host) is));
    few = λ host is here few. absurd (no_recover host (of (commands.Recover host) is));
    live = λ host is live. absurd (no_recover host (of (commands.Recover host) is));
    free = λ host is free. absurd (no_recover host (of (commands.Recover host) is));
  }

  by_log : (ended : Option Answer) → OwesByLog m ended
  by_log ended = record {
    nothing = λ is here none. absurd (no_log (of commands.Log is));
    full = λ is full. absurd (no_log (of commands.Log is));
  }

  -- where it goes on
  pub goes_on : IsEnding m None
  goes_on = record {
    cause = tt;
    at_once = at_once None;
    at_end = record { busy = λ key shown. tt; full = λ f i n is full. tt };
    by_slot = by_slot None;
    by_log = by_log None;
    facts = record {
      rests = tt;
      stays = tt;
      last = λ own is done. absurd (no_leave (of commands.Leave is));
      left = λ is ended. absurd (no_leave (of commands.Leave is));
    };
  }

  -- where it is answered, and the host is not dropped
  pub ends : (answer : Answer) → drops answer m.command ≡ false → IsCause m answer → OwesAtEnd m (Some answer) → IsResting m
      → IsEnding m (Some answer)
  ends answer keeps cause at_end rests =
      let kept = memory_kept answer m.command m.now.memory keeps in
      record {
        cause = cause;
        at_once = at_once (Some answer);
        at_end = at_end;
        by_slot = by_slot (Some answer);
        by_log = by_log (Some answer);
        facts = record {
          rests = subst (λ (memory : Memory). AreFileLocks m.geometry memory.holds) (sym kept) rests.locks;
          stays = ap (λ (memory : Memory). memory.left) kept ∙ rests.stays;
          last = λ own is done. absurd (no_leave (of commands.Leave is));
          left = λ is ended. absurd (no_leave (of commands.Leave is));
        };
      }

-- what is owed by the tries and a full volume: nothing was shown, and the volume not met full
pub owes_none : (m : Moment) (answer : Answer) → m.now.tries.shown ≡ None → MeetsNoFull m.geometry m.command m.now.calls
    → OwesAtEnd m (Some answer)
owes_none m answer none full = record {
  busy = λ key shown. absurd (none_some shown none);
  full = λ f i n is met. absurd (full f i n is met);
}

-- a key was shown, and is answered
pub owes_key : (m : Moment) (key : Key) → m.now.tries.shown ≡ Some key.0 → MeetsNoFull m.geometry m.command m.now.calls
    → OwesAtEnd m (Some (Busy key))
owes_key m key is full = record {
  busy = λ other shown no_cut. ap Busy (ap key_of (some_same key.0 other.0 (sym is ∙ shown)));
  full = λ f i n write met. absurd (full f i n write met);
}
  where
    key_of : ℕ → Key
    key_of n = record { 0 = n }

-- `full` is answered
pub owes_full_volume : (m : Moment) → m.now.tries.shown ≡ None → OwesAtEnd m (Some Full)
owes_full_volume m none = record { busy = λ key shown. absurd (none_some shown none); full = λ f i n is met no_cut. refl }
