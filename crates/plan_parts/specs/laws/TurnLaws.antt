-- Quiet calls and cuts are turns of their commands.
use Rattle.std.proofs.Common.{◌≡◌, ◌≢◌, ℕ, List, None, Option, Some, true, refl, ap, sym, subst, ◌∙◌, inl}
use Rattle.vol_base.specs.declared.answer.CutBy.{CutBy}
use Rattle.vol_base.specs.declared.answer.CutBy.TheVariants as cuts
use Rattle.vol_base.specs.declared.command.Command.{Command}
use Rattle.vol_base.specs.declared.plain.PlainCall.{PlainCall}
use Rattle.vol_base.specs.declared.plain.PlainReply.{PlainReply}
use Rattle.vol_base.specs.PlainCalls.{plain_call_of}
use Rattle.vol_layout.specs.declared.geometry.Geometry.{Geometry}
use Rattle.shared_disk.specs.Events.{Call, Event, Reads, Refuses, Reply, Shows, Tests}
use Rattle.host_runs.specs.lemmas.OrderlyPlaced.{some_same}
use Rattle.shared_disk.specs.State.{OnImages, Told}
use Rattle.shared_disk.specs.declared.answers.DiskNo.TheVariants as refusals
use Rattle.call_effects.specs.Places.{KeepsFiles, Places}
use Rattle.lock_store.specs.declared.answers.StepNo.{StepNo}
use Rattle.lock_store.specs.declared.answers.StepNo.TheVariants as steps
use Rattle.lock_store.specs.Views.{counter_of, host_at, key_at, told_of}
use Rattle.disk_locks.specs.Sure.{BothTold}
use Rattle.image_view.specs.Valid.{IsValid}
use Rattle.host_facts.specs.Views.{WorldView}
use Rattle.host_facts.specs.Wrote.{HasValidImage}
use Rattle.host_runs.specs.Causes.{IsCutBy}
use Rattle.host_runs.specs.DeviceCalls.{OnImage, shown_at}
use Rattle.host_runs.specs.Moments.{Moment}
use Rattle.host_runs.specs.Notes.{Notes}
use Rattle.host_notes.specs.Allowed.{IsTurnOf}
use Rattle.host_notes.specs.CutTurns.{ComesToCall, CutTurn}
use Rattle.host_notes.specs.FileTurns.{FileTurn, IsGiven, IsOnFile}
use Rattle.host_notes.specs.Owes.{joined_in, plan_moment}
use Rattle.host_notes.specs.laws.FileEndings.{file_joined}
use Rattle.host_notes.specs.Remembered.{IsRemembered}
use Rattle.host_notes.specs.laws.NotedLaws.{key_noted}
use Rattle.host_notes.specs.laws.TurnLaws.{no_place}
use Rattle.plan_parts.specs.Cuts.{CutCall, IsCauseOf, cut_by}
use Rattle.plan_parts.specs.QuietCalls.{QuietCall}

-- an answer is no refusal
pub given_no_refusal : (reply : Reply) → IsGiven reply → reply ≢ Refuses refusals.NoMemory
given_no_refusal (Refuses cause) given is = given
given_no_refusal reply given is = absurd cc

-- a block that a call shows is its reply
shown_reply : (call : Call) (reply : Reply) (place : ℕ) (block : List ℕ) → shown_at call reply ≡ Some (place, block) → reply ≡ Shows block
shown_reply (Reads at) (Shows there) place block is = ap (λ (x : ℕ × List ℕ). Shows x.1) (some_same (at, there) (place, block) is)
shown_reply (Tests at old new) (Shows there) place block is = ap (λ (x : ℕ × List ℕ). Shows x.1) (some_same (at, there) (place, block) is)
shown_reply call reply place block is = absurd cc

-- files that stay are those of a step that got no place
pub no_places : (g : Geometry) (call : Option PlainCall) (old new : Option Told) → BothTold old new KeepsFiles
    → OnImages (Places g call None) old new
no_places g None None None stay = stay
no_places g None None (Some t) stay = stay
no_places g None (Some t) None stay = stay
no_places g None (Some t) (Some u) stay = stay
no_places g (Some call) None None stay = stay
no_places g (Some call) None (Some t) stay = stay
no_places g (Some call) (Some t) None stay = stay
no_places g (Some call) (Some t) (Some u) stay = stay

module _ (command : Command) (h : ℕ) (v w : WorldView) (e : Event) (n : Notes)
    (remembered : IsRemembered v.locks.geometry n.memory (host_at v.locks h)) (some : key_at v.locks h ≢ 0) where
  abbrev moment_of : Option PlainReply → Moment
  moment_of got = plan_moment v.locks.geometry h command v.locks.disk w.locks.disk (Some e) got n

  abbrev moment : Moment
  moment = moment_of None

  -- it is one of its host, whatever it places
  pub own_turn : (got : Option PlainReply) → joined_in command ≡ true → IsTurnOf v.locks h (moment_of got)
  own_turn got joined = record {
    geometry = refl;
    host = refl;
    key = key_noted v.locks.geometry n.memory (host_at v.locks h) remembered some;
    seat = inl joined;
  }

  -- a quiet call is a turn of a command on a file
  pub quiet_turn : (Before After : Notes → Type 0) → Before n → IsOnFile command → QuietCall command h v w e Before After
      → FileTurn v.locks.geometry h command v.locks.disk w.locks.disk (Some e) None n
  quiet_turn Before After before on quiet =
      let allowed = quiet.allowed moment (own_turn None (file_joined command on)) refl before in record {
        on = on;
        acts = (quiet.acts, given_no_refusal e.reply quiet.answered);
        answered = quiet.answered;
        may = allowed.made;
        marks = allowed.marks;
        files = no_places v.locks.geometry (plain_call_of command) (told_of v.locks) (told_of w.locks) quiet.files;
        valid = subst (λ (g : Geometry). OnImage w.locks.disk.state (IsValid g (counter_of w.locks))) quiet.geometry quiet.valid;
        file = λ is. absurd (no_place is);
        once = λ is. absurd (no_place is);
      }

  cut_cause : (why : StepNo) (by : CutBy) → cut_by why ≡ Some by → IsCauseOf why e v → IsCutBy moment by
  cut_cause steps.Fenced by is cause = subst (λ (b : CutBy). IsCutBy moment b) (some_same cuts.Fenced by is) cause
  cut_cause steps.Failed by is cause = subst (λ (b : CutBy). IsCutBy moment b) (some_same cuts.Fault by is) cause
  cut_cause steps.NoMemory by is cause = absurd cc
  cut_cause (steps.Bad place) by is cause = subst (λ (b : CutBy). IsCutBy moment b) (some_same (cuts.Bad place) by is) cause

  heard : (why : StepNo) (by : CutBy) → cut_by why ≡ Some by → IsCauseOf why e v → e.reply ≢ Refuses refusals.NoMemory
  heard steps.Fenced by is cause refused = let both : Refuses refusals.Fenced ≡ Refuses refusals.NoMemory = sym cause ∙ refused in absurd cc
  heard steps.Failed by is cause refused = let both : Refuses refusals.Failed ≡ Refuses refusals.NoMemory = sym cause ∙ refused in absurd cc
  heard steps.NoMemory by is cause refused = absurd cc
  heard (steps.Bad place) by is cause refused =
      let both : Shows cause.1 ≡ Refuses refusals.NoMemory = sym (shown_reply e.call e.reply place cause.1 cause.2) ∙ refused in absurd cc

  -- a step that was refused is a turn in which its command is cut
  pub cut_turn : (why : StepNo) (by : CutBy) (Before : Notes → Type 0) → Before n → cut_by why ≡ Some by → joined_in command ≡ true
      → ComesToCall v.locks.geometry command n → HasValidImage v → CutCall command h v w e why Before
      → CutTurn v.locks.geometry h command v.locks.disk w.locks.disk e n by
  cut_turn why by Before before is joined comes valid cut =
      let allowed = cut.allowed moment (own_turn None joined) refl before in record {
        comes = comes;
        cut = cut_cause why by is cut.cause;
        acts = (cut.acts, heard why by is cut.cause);
        may = allowed.made;
        marks = allowed.marks;
        valid = valid;
      }
