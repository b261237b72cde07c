-- What a command on the volume owes where its call was not refused: nothing by the device and by a slot.
use Rattle.std.proofs.Common.{◌≡◌, ◌≢◌, ℕ, true, false, None, Option, Some, refl, ap, sym, ◌∙◌, subst}
use Rattle.vol_base.specs.declared.answer.Answer.{Answer}
use Rattle.vol_base.specs.declared.answer.Answer.TheVariants.{Busy}
use Rattle.vol_base.specs.declared.block.Key.{Key}
use Rattle.vol_base.specs.declared.command.Command.{Command}
use Rattle.vol_base.specs.declared.command.Command.TheVariants as commands
use Rattle.vol_base.specs.PlainCalls.{plain_call_of}
use Rattle.shared_disk.specs.Events.{Event}
use Rattle.shared_disk.specs.declared.answers.DiskNo.{DiskNo}
use Rattle.shared_disk.specs.declared.answers.DiskNo.TheVariants as refusals
use Rattle.host_runs.specs.Causes.{IsCause}
use Rattle.host_runs.specs.DeviceCalls.{IsRefused}
use Rattle.host_runs.specs.Memories.{AreFileLocks, Memory, drops}
use Rattle.host_runs.specs.Moments.{Moment}
use Rattle.host_runs.specs.Owed.{OwesAtEnd, OwesAtOnce, OwesBySlot}
use Rattle.host_runs.specs.Rests.{HasFoundOther}
use Rattle.host_runs.specs.Steps.{IsEnding}
use Rattle.host_runs.specs.lemmas.OrderlyPlaced.{some_same}
use Rattle.host_runs.specs.lemmas.TidyDisk.{none_some}
use Rattle.host_notes.specs.FileTurns.{IsAnswered, IsGiven, IsResting}
use Rattle.host_notes.specs.Owes.{joined_in}
use Rattle.host_notes.specs.VolumeTurns.{IsOnVolume, OwesNoOther, OwesOther}
use Rattle.host_notes.specs.laws.FileEndings.{memory_kept}

-- commands that are not on the volume
no_join : IsOnVolume commands.Join → ⊥
no_join on = on

no_leave : IsOnVolume commands.Leave → ⊥
no_leave on = on

no_look : (of : ℕ) → IsOnVolume (commands.Look of) → ⊥
no_look of on = on

no_recover : (of : ℕ) → IsOnVolume (commands.Recover of) → ⊥
no_recover of on = on

no_write : (f i k : ℕ) → IsOnVolume (commands.Write f i k) → ⊥
no_write f i k on = on

-- its host is joined, and `busy` drops it not
pub volume_joined : (command : Command) → IsOnVolume command → joined_in command ≡ true
volume_joined commands.Join on = absurd (no_join on)
volume_joined command on = refl

pub volume_keeps : (command : Command) (key : Key) → IsOnVolume command → drops (Busy key) command ≡ false
volume_keeps commands.Join key on = absurd (no_join on)
volume_keeps command key on = refl

-- its looks stay behind `busy`
pub volume_looks : (command : Command) (key : Key) (m : Moment) → IsOnVolume command → HasFoundOther (Busy key) command m m.old.watch
volume_looks commands.Join key m on = absurd (no_join on)
volume_looks (commands.Recover of) key m on = absurd (no_recover of on)
volume_looks command key m on = refl

-- it is no plain call
pub volume_no_call : (command : Command) → IsOnVolume command → plain_call_of command ≡ None
volume_no_call commands.Log on = refl
volume_no_call commands.Merge on = refl
volume_no_call commands.Serve on = refl
volume_no_call (commands.Collect p) on = refl
volume_no_call (commands.Scribble place k seen) on = refl
volume_no_call command on = absurd on

-- a merge, the serving of requests and a collection owe nothing by a place or by hints
pub owes_no_other : (m : Moment) (ended : Option Answer) → OwesNoOther m.command → OwesOther m ended
owes_no_other m ended other = record {
  refused = λ place k seen is. absurd (no_scribble place k seen (subst OwesNoOther is other));
  by_log = record {
    nothing = λ is. absurd (no_log (subst OwesNoOther is other));
    full = λ is. absurd (no_log (subst OwesNoOther is other));
  };
}
  where
    no_scribble : (place k seen : ℕ) → OwesNoOther (commands.Scribble place k seen) → ⊥
    no_scribble place k seen is = is

    no_log : OwesNoOther commands.Log → ⊥
    no_log is = is

-- a call that was not refused
answered_refused : (made : Option Event) (cause : DiskNo) → IsAnswered made → IsRefused cause made → ⊥
answered_refused None cause answered refused = refused
answered_refused (Some e) cause answered refused = subst IsGiven refused answered

module _ (m : Moment) (on : IsOnVolume m.command) (joined : m.joined ≡ true) (answered : IsAnswered m.event) where
  of : (command : Command) → m.command ≡ command → IsOnVolume command
  of command is = subst IsOnVolume is on

  at_once : (ended : Option Answer) → OwesOther m ended → OwesAtOnce m ended
  at_once ended other = record {
    fenced = λ refused. absurd (answered_refused m.event refusals.Fenced answered refused);
    failed = λ refused. absurd (answered_refused m.event refusals.Failed answered refused);
    no_keys = λ refused. absurd (answered_refused m.event refusals.NoKeys answered refused);
    up = λ is here. absurd (no_join (of commands.Join is));
    down = λ ne down. let e : true ≡ false = sym joined ∙ down in absurd cc;
    refused = other.refused;
  }

  by_slot : (ended : Option Answer) → OwesBySlot m ended
  by_slot ended = record {
    joined = λ key is entered. absurd (no_join (of commands.Join is));
    unseen = λ host is shown. absurd (no_look host (of (commands.Look host) is));
    seen = λ host n is seen. absurd (no_look host (of (commands.Look host) is));
    few = λ host is here few. absurd (no_recover host (of (commands.Recover host) is));
    live = λ host is live. absurd (no_recover host (of (commands.Recover host) is));
    free = λ host is free. absurd (no_recover host (of (commands.Recover host) is));
  }

  -- by its tries: no key was shown, or the one that is answered
  pub volume_no_key : (answer : Answer) → m.now.tries.shown ≡ None → OwesAtEnd m (Some answer)
  volume_no_key answer none = record {
    busy = λ key shown. absurd (none_some shown none);
    full = λ f i n is met. absurd (no_write f i n (of (commands.Write f i n) is));
  }

  pub volume_key : (key : Key) → m.now.tries.shown ≡ Some key.0 → OwesAtEnd m (Some (Busy key))
  volume_key key is = record {
    busy = λ other shown no_cut. ap Busy (ap key_of (some_same key.0 other.0 (sym is ∙ shown)));
    full = λ f i n write met. absurd (no_write f i n (of (commands.Write f i n) write));
  }
    where
      key_of : ℕ → Key
      key_of n = record { 0 = n }

  -- where it goes on
  pub volume_goes_on : OwesOther m None → IsEnding m None
  volume_goes_on other = record {
    cause = tt;
    at_once = at_once None other;
    at_end = record { busy = λ key shown. tt; full = λ f i n is full. tt };
    by_slot = by_slot None;
    by_log = other.by_log;
    facts = record {
      rests = tt;
      stays = tt;
      last = λ own is done. absurd (no_leave (of commands.Leave is));
      left = λ is ended. absurd (no_leave (of commands.Leave is));
    };
  }

  -- where it is answered, and the host is not dropped
  pub volume_ends : (answer : Answer) → drops answer m.command ≡ false → IsCause m answer → OwesAtEnd m (Some answer)
      → OwesOther m (Some answer) → IsResting m → IsEnding m (Some answer)
  volume_ends answer keeps cause at_end other rests =
      let kept = memory_kept answer m.command m.now.memory keeps in
      record {
        cause = cause;
        at_once = at_once (Some answer) other;
        at_end = at_end;
        by_slot = by_slot (Some answer);
        by_log = other.by_log;
        facts = record {
          rests = subst (λ (memory : Memory). AreFileLocks m.geometry memory.holds) (sym kept) rests.locks;
          stays = ap (λ (memory : Memory). memory.left) kept ∙ rests.stays;
          last = λ own is done. absurd (no_leave (of commands.Leave is));
          left = λ is ended. absurd (no_leave (of commands.Leave is));
        };
      }
