-- A step of a command on the volume owes what a run asks of a turn: it goes on, is answered, or is cut.
use Rattle.std.proofs.Common.{◌≡◌, ◌≢◌, ℕ, List, true, None, Option, Some, refl, ap, sym, subst, ◌∙◌, inl, inr}
use Rattle.std.specs.Option.{option_or}
use Rattle.vol_base.specs.declared.answer.Answer.{Answer}
use Rattle.vol_base.specs.declared.answer.Answer.TheVariants as answers
use Rattle.vol_base.specs.declared.answer.CutBy.{CutBy}
use Rattle.vol_base.specs.declared.answer.Next.{Next}
use Rattle.vol_base.specs.declared.answer.Next.TheVariants as nexts
use Rattle.vol_base.specs.declared.answer.Step.{Step}
use Rattle.vol_base.specs.declared.block.Block.{Block}
use Rattle.vol_base.specs.declared.command.Command.{Command}
use Rattle.vol_base.specs.declared.plain.PlainReply.{PlainReply}
use Rattle.vol_base.specs.PlainCalls.{plain_call_of}
use Rattle.vol_layout.specs.declared.geometry.Geometry.{Geometry}
use Rattle.shared_disk.specs.Events.{Event}
use Rattle.hint_blocks.specs.declared.entry.LogEntry.{LogEntry}
use Rattle.lock_store.specs.declared.answers.StepNo.{StepNo}
use Rattle.lock_store.specs.declared.answers.StepNo.TheVariants as steps
use Rattle.lock_store.specs.declared.host.HostState.{HostState}
use Rattle.lock_store.specs.Views.{counter_of, host_at, key_at, told_of}
use Rattle.disk_locks.specs.Consistent.{Consistent}
use Rattle.image_view.specs.Valid.{IsValid}
use Rattle.host_facts.specs.Views.{WorldView}
use Rattle.host_facts.specs.Wrote.{HasValidImage}
use Rattle.host_notes.specs.CutTurns.{ComesToCall, dropped_at}
use Rattle.host_notes.specs.FileTurns.{IsResting, at_answer, going_on}
use Rattle.host_notes.specs.Owes.{Owes, plan_moment}
use Rattle.host_notes.specs.Remembered.{IsRemembered}
use Rattle.host_notes.specs.VolumeTurns.{IsOnVolume, OwesOther, VolumeTurn}
use Rattle.host_notes.specs.laws.CutLaws.{owes_cut}
use Rattle.host_notes.specs.laws.QuietMemories.{remembered_drop}
use Rattle.host_notes.specs.laws.VolumeEndings.{volume_joined}
use Rattle.host_notes.specs.laws.VolumeOwes.{owes_on}
use Rattle.host_runs.specs.DeviceCalls.{OnImage}
use Rattle.host_runs.specs.Memories.{no_memory}
use Rattle.host_runs.specs.Moments.{Moment}
use Rattle.host_runs.specs.Notes.{Notes, with_call, with_place}
use Rattle.plan_parts.specs.Cuts.{IsCutBy, cut_by}
use Rattle.plan_parts.specs.QuietCalls.{Noted, QuietCall, placed_of}
use Rattle.plan_parts.specs.Steps.{IsAtRest, IsReady, OwesStep}
use Rattle.plan_parts.specs.declared.outcome.Outcome.{Outcome}
use Rattle.plan_parts.specs.laws.StepLaws.{ready_rests}
use Rattle.plan_parts.specs.laws.TurnLaws.{cut_turn, given_no_refusal, no_places, own_turn}

-- no reply is placed
or_none : (o : Option PlainReply) → option_or o None ≡ o
or_none None = refl
or_none (Some reply) = refl

unplaced : (n : Notes) → with_place None n ≡ n
unplaced n = ap (λ (o : Option PlainReply). let m : Notes = record n { placed = o } in m) (or_none n.placed)

-- notes that wait for nothing are those of a command that goes on
waits_not : (n : Notes) → n.asks ≡ None → record n { asks = None } ≡ n
waits_not n none = ap (λ (o : Option Block). let m : Notes = record n { asks = o } in m) (sym none)

abbrev step_of : Next → Step
step_of next = record { placed = None; called = true; next = next }

module _ (command : Command) (h : ℕ) (v w : WorldView) (e : Event) (on : IsOnVolume command) (some : key_at v.locks h ≢ 0)
    (was : Outcome) (nothing : placed_of was ≡ None) (Before Between : Notes → Type 0)
    (before : (n : Notes) → Before n → Noted command h v was n) (call : QuietCall command h v w e Before Between) where
  abbrev moment : Notes → Moment
  moment n = plan_moment v.locks.geometry h command v.locks.disk w.locks.disk (Some e) None n

  -- a quiet call is a turn of a command on the volume
  pub volume_turn : (n : Notes) → Before n → VolumeTurn v.locks.geometry h command v.locks.disk w.locks.disk (Some e) n
  volume_turn n is =
      let noted = before n is in
      let allowed = call.allowed (moment n) (own_turn command h v w e n noted.remembered some None (volume_joined command on)) refl is in record {
        on = on;
        acts = (call.acts, given_no_refusal e.reply call.answered);
        answered = call.answered;
        may = allowed.made;
        marks = allowed.marks;
        files = no_places v.locks.geometry (plain_call_of command) (told_of v.locks) (told_of w.locks) call.files;
        valid = subst (λ (g : Geometry). OnImage w.locks.disk.state (IsValid g (counter_of w.locks))) call.geometry call.valid;
        unplaced = noted.placed_is ∙ nothing;
      }

  -- what the notes agree with behind it
  pub volume_now : (n : Notes) → Before n → Between (moment n).now
  volume_now n is =
      subst Between (sym (unplaced (with_call v.locks.geometry h command v.locks.disk.state (Some e) n))) (call.noted n is)

  -- the command goes on
  pub volume_step_goes_on : (After : Notes → Type 0) → ((n : Notes) → Between n → n.asks ≡ None) → ((n : Notes) → Between n → After n)
      → ((n : Notes) → Before n → OwesOther (moment n) None) → OwesStep command h v w (step_of nexts.More) Before After
  volume_step_goes_on After waits after other = record {
    made = Some e;
    called = refl;
    others = call.others;
    quiet = λ n is. (before n is).wants;
    owes = λ n is. (
      going_on (moment n),
      owes_on v.locks.geometry h v.locks.disk w.locks.disk (Some e) n command (volume_turn n is) refl (other n is),
      subst After (sym (waits_not (moment n).now (waits (moment n).now (volume_now n is)))) (after (moment n).now (volume_now n is)),
    );
  }

  module _ (c : Consistent w.locks) (ready : IsReady w h)
      (remembered : (n : Notes) → Between n → IsRemembered w.locks.geometry n.memory (host_at w.locks h)) where
    -- it is answered, and leaves these pending hints
    pub volume_step_ends : (answer : Answer) (pending : Notes → List LogEntry)
        → ((n : Notes) → Before n → VolumeTurn v.locks.geometry h command v.locks.disk w.locks.disk (Some e) n → Between (moment n).now
        → IsResting (moment n)
        → Owes v.locks.geometry h command v.locks.disk w.locks.disk (Some e) None (Some answer) n (at_answer (moment n) (pending n)))
        → OwesStep command h v w (step_of (nexts.Answered answer)) Before (IsAtRest w h)
    volume_step_ends answer pending owed = record {
      made = Some e;
      called = refl;
      others = call.others;
      quiet = λ n is. (before n is).wants;
      owes = λ n is.
          let now = volume_now n is in
          let there = remembered (moment n).now now in (
            at_answer (moment n) (pending n),
            owed n is (volume_turn n is) now (ready_rests w h (moment n) there (sym call.geometry) c ready),
            record { remembered = there; rests = inl ready; between = refl },
          );
    }

-- a step that was refused, but for want of memory, cuts its command: the host is dropped
pub volume_step_cut : (command : Command) (h : ℕ) (v w : WorldView) (why : StepNo) (by : CutBy) (was : Outcome) (Before : Notes → Type 0)
    → cut_by why ≡ Some by → IsOnVolume command → key_at v.locks h ≢ 0 → HasValidImage v
    → ((n : Notes) → Before n → ComesToCall v.locks.geometry command n) → ((n : Notes) → Before n → Noted command h v was n)
    → IsCutBy command h v w why Before → OwesStep command h v w (step_of (nexts.Answered (answers.Cut by))) Before (IsAtRest w h)
volume_step_cut command h v w why by was Before is on some valid comes before (e, cut) = record {
  made = Some e;
  called = refl;
  others = cut.others;
  quiet = λ n was_so. (before n was_so).wants;
  owes = λ n was_so.
      let gone = cut.memory (heard why is) in (
        dropped_at (plan_moment v.locks.geometry h command v.locks.disk w.locks.disk (Some e) None n),
        owes_cut v.locks.geometry h command v.locks.disk w.locks.disk e n by
            (cut_turn command h v w e n (before n was_so).remembered some why by Before was_so is (volume_joined command on)
            (comes n was_so) valid cut),
        record {
          remembered = subst (λ (m : HostState). IsRemembered w.locks.geometry no_memory m) (sym gone) (remembered_drop w.locks.geometry);
          rests = inr gone;
          between = refl;
        },
      );
}
  where
    heard : (why : StepNo) → cut_by why ≡ Some by → why ≢ steps.NoMemory
    heard steps.NoMemory is none = absurd cc
    heard other is none = let both : cut_by steps.NoMemory ≡ Some by = subst (λ (n : StepNo). cut_by n ≡ Some by) none is in absurd cc
