-- A step of a command on a file owes what a run asks of a turn: it goes on, is answered by what it has come to, or is cut.
use Rattle.std.proofs.Common.{◌≡◌, ◌≢◌, ℕ, List, true, false, None, Option, Some, refl, ap, sym, subst, ◌∙◌, inl}
use Rattle.std.specs.Prelude.{IsSome}
use Rattle.std.proofs.lemmas.Bool.{false_from_ne_true}
use Rattle.vol_base.specs.declared.answer.Answer.{Answer}
use Rattle.vol_base.specs.declared.answer.Answer.TheVariants as answers
use Rattle.vol_base.specs.declared.answer.Next.{Next}
use Rattle.vol_base.specs.declared.answer.Next.TheVariants as nexts
use Rattle.vol_base.specs.declared.answer.Step.{Step}
use Rattle.vol_base.specs.declared.block.Block.{Block}
use Rattle.vol_base.specs.declared.command.Command.{Command}
use Rattle.vol_base.specs.declared.command.Command.TheVariants as commands
use Rattle.vol_base.specs.declared.plain.PlainReply.{PlainReply}
use Rattle.vol_base.specs.PlainCalls.{plain_call_of}
use Rattle.vol_layout.specs.declared.geometry.Geometry.{Geometry}
use Rattle.shared_disk.specs.Events.{Event}
use Rattle.histories.specs.Answers.{MayGet}
use Rattle.lock_store.specs.Views.{host_at, key_at}
use Rattle.disk_locks.specs.Consistent.{Consistent}
use Rattle.host_facts.specs.Views.{WorldView}
use Rattle.host_notes.specs.FileTurns.{FileTurn, IsOnFile, MeetsNoFull, IsResting, at_answer, going_on, pending_after}
use Rattle.host_notes.specs.Owes.{Owes, plan_moment}
use Rattle.host_notes.specs.Remembered.{IsRemembered}
use Rattle.host_notes.specs.laws.NotedLaws.{file_holds_noted}
use Rattle.host_notes.specs.laws.OwesLaws.{owes_busy, owes_full, owes_goes_on, owes_plain}
use Rattle.host_runs.specs.FullCauses.{HasMetFull}
use Rattle.hint_blocks.specs.declared.entry.LogEntry.{LogEntry}
use Rattle.shared_disk.specs.Seen.{DiskSeen}
use Rattle.host_runs.specs.Memories.{AreFileLocks}
use Rattle.host_runs.specs.Moments.{Moment}
use Rattle.host_runs.specs.Notes.{Notes, with_call, with_place}
use Rattle.plan_parts.specs.PlacedCalls.{PlacedCall}
use Rattle.plan_parts.specs.QuietCalls.{Noted, placed_of}
use Rattle.plan_parts.specs.Steps.{IsAtRest, IsReady, OwesStep}
use Rattle.plan_parts.specs.declared.outcome.Outcome.{Outcome}
use Rattle.plan_parts.specs.declared.outcome.Outcome.TheVariants as outcomes
use Rattle.plan_parts.specs.laws.PlacedLaws.{placed_turn}
use Rattle.plan_parts.specs.laws.TakenLaws.{none_held}

-- notes that wait for nothing are those of a command that goes on
waits_not : (n : Notes) → n.asks ≡ None → record n { asks = None } ≡ n
waits_not n none = ap (λ (o : Option Block). let m : Notes = record n { asks = o } in m) (sym none)

-- what the answer is by what the command has come to; a `close` comes to nothing else and is fine
abbrev pub IsAnswerOf : Command → Outcome → Answer → Type 0
IsAnswerOf command outcomes.Open answer = ⊥
IsAnswerOf command (outcomes.Placed reply) answer = (answer ≡ answers.Plain reply) × IsSome (plain_call_of command)
IsAnswerOf command (outcomes.Busy key) answer = answer ≡ answers.Busy key
IsAnswerOf command outcomes.Full answer = (answer ≡ answers.Full) × (f : ℕ) × (i : ℕ) × (k : ℕ) × (command ≡ commands.Write f i k)

-- a plain call gets plain replies
plain_own : (command : Command) (reply : PlainReply) → IsSome (plain_call_of command) → MayGet command (answers.Plain reply)
plain_own (commands.Create f) reply is = tt
plain_own (commands.Size f n) reply is = tt
plain_own (commands.Write f i n) reply is = tt
plain_own (commands.Read f i) reply is = tt
plain_own (commands.Punch f i) reply is = tt
plain_own (commands.Remove f) reply is = tt
plain_own command reply is = absurd cc

-- a host that is ready rests
pub ready_rests : (w : WorldView) (h : ℕ) (m : Moment) → IsRemembered w.locks.geometry m.now.memory (host_at w.locks h)
    → m.geometry ≡ w.locks.geometry → Consistent w.locks → IsReady w h → IsResting m
ready_rests w h m remembered geometry c ready = record {
  locks = subst (λ (g : Geometry). AreFileLocks g m.now.memory.holds) (sym geometry)
      (file_holds_noted w.locks.geometry m.now.memory (host_at w.locks h) remembered (none_held w h ready.taking));
  stays = remembered.left ∙ false_from_ne_true _ (λ gone.
      let both : true ≡ false = sym ready.joined ∙ (c.memories h).gone gone in cc);
}

-- a `write` that met the volume full, by its command
full_turn : (g : Geometry) (h : ℕ) (old new : DiskSeen) (made : Option Event) (placed : Option PlainReply) (n : Notes) (command : Command)
    (f i k : ℕ) → command ≡ commands.Write f i k → FileTurn g h command old new made placed n
    → (plan_moment g h command old new made placed n).now.placed ≡ None
    → (plan_moment g h command old new made placed n).now.tries.shown ≡ None
    → HasMetFull g (plan_moment g h command old new made placed n).now.calls → IsResting (plan_moment g h command old new made placed n)
    → Owes g h command old new made placed (Some answers.Full) n (at_answer (plan_moment g h command old new made placed n) n.pending)
full_turn g h old new made placed n command f i k is =
    subst (λ (c : Command). FileTurn g h c old new made placed n → (plan_moment g h c old new made placed n).now.placed ≡ None
    → (plan_moment g h c old new made placed n).now.tries.shown ≡ None
    → HasMetFull g (plan_moment g h c old new made placed n).now.calls → IsResting (plan_moment g h c old new made placed n)
    → Owes g h c old new made placed (Some answers.Full) n (at_answer (plan_moment g h c old new made placed n) n.pending)) (sym is)
    (owes_full g h old new made placed n f i k)

module _ (command : Command) (h : ℕ) (v w : WorldView) (e : Event) (placed : Option PlainReply) (on : IsOnFile command)
    (some : key_at v.locks h ≢ 0) (was : Outcome) (once : IsSome placed → placed_of was ≡ None) (Before Between : Notes → Type 0)
    (before : (n : Notes) → Before n → Noted command h v was n)
    (call : PlacedCall command h v w e placed Before Between) where
  abbrev step_of : Next → Step
  step_of next = record { placed = placed; called = true; next = next }

  abbrev moment : Notes → Moment
  moment n = plan_moment v.locks.geometry h command v.locks.disk w.locks.disk (Some e) placed n

  turn : (n : Notes) → Before n → FileTurn v.locks.geometry h command v.locks.disk w.locks.disk (Some e) placed n
  turn n is =
      let noted = before n is in
      placed_turn command h v w e Before Between placed n noted.remembered is some on (λ has. noted.placed_is ∙ once has) call

  between : (n : Notes) → Before n → Between (with_call v.locks.geometry h command v.locks.disk.state (Some e) n)
  between n is = call.noted n is

  -- the command goes on
  pub step_goes_on : (After : Notes → Type 0) → ((n : Notes) → Between n → n.asks ≡ None)
      → ((n : Notes) → Between n → After (with_place placed n)) → OwesStep command h v w (step_of nexts.More) Before After
  step_goes_on After waits after = record {
    made = Some e;
    called = refl;
    others = call.others;
    quiet = λ n is. (before n is).wants;
    owes = λ n is. (
      going_on (moment n),
      owes_goes_on v.locks.geometry h v.locks.disk w.locks.disk (Some e) placed n command (turn n is) refl,
      subst After (sym (waits_not (moment n).now (waits _ (between n is)))) (after _ (between n is)),
    );
  }

  module _ (c : Consistent w.locks) (ready : IsReady w h) (outcome : Outcome)
      (noted : (n : Notes) → Between n → Noted command h w outcome (with_place placed n)) where
    now : (n : Notes) → Before n → Noted command h w outcome (moment n).now
    now n is = noted _ (between n is)

    resting : (n : Notes) → Before n → IsResting (moment n)
    resting n is = ready_rests w h (moment n) (now n is).remembered (sym call.geometry) c ready

    rests : (n : Notes) (is : Before n) (pending : List LogEntry) → IsAtRest w h (at_answer (moment n) pending)
    rests n is pending = record { remembered = (now n is).remembered; rests = inl ready; between = refl }

    -- the command is answered by what it has come to
    pub step_answers : (answer : Answer) → IsAnswerOf command outcome answer
        → OwesStep command h v w (step_of (nexts.Answered answer)) Before (IsAtRest w h)
    step_answers answer is = record {
      made = Some e;
      called = refl;
      others = call.others;
      quiet = λ n was_so. (before n was_so).wants;
      owes = λ n was_so. owed n was_so (moved n was_so) outcome is (now n was_so);
    }
      where
        moved : (n : Notes) → Before n → FileTurn v.locks.geometry h command v.locks.disk w.locks.disk (Some e) placed n
        moved n was_so = turn n was_so

        owed : (n : Notes) (was_so : Before n) → FileTurn v.locks.geometry h command v.locks.disk w.locks.disk (Some e) placed n
            → (came : Outcome) → IsAnswerOf command came answer → Noted command h w came (moment n).now
            → (later : Notes)
            × Owes v.locks.geometry h command v.locks.disk w.locks.disk (Some e) placed (Some answer) n later × IsAtRest w h later
        owed n was_so turned outcomes.Open none is_so = absurd none
        owed n was_so turned (outcomes.Placed reply) answered is_so = (
          at_answer (moment n) (pending_after reply (moment n)),
          subst (λ (a : Answer). Owes v.locks.geometry h command v.locks.disk w.locks.disk (Some e) placed (Some a) n
              (at_answer (moment n) (pending_after reply (moment n)))) (sym answered.0)
              (owes_plain v.locks.geometry h v.locks.disk w.locks.disk (Some e) placed n command reply turned
              (plain_own command reply answered.1) is_so.placed_is is_so.shown_is (subst (λ (g : Geometry). MeetsNoFull g command (moment n).now.calls) call.geometry is_so.full) (resting n was_so)),
          rests n was_so (pending_after reply (moment n)),
        )
        owed n was_so turned (outcomes.Busy key) answered is_so = (
          at_answer (moment n) n.pending,
          subst (λ (a : Answer). Owes v.locks.geometry h command v.locks.disk w.locks.disk (Some e) placed (Some a) n
              (at_answer (moment n) n.pending)) (sym answered)
              (owes_busy v.locks.geometry h v.locks.disk w.locks.disk (Some e) placed n command key turned is_so.placed_is is_so.shown_is
              (subst (λ (g : Geometry). MeetsNoFull g command (moment n).now.calls) call.geometry is_so.full) (resting n was_so)),
          rests n was_so n.pending,
        )
        owed n was_so turned outcomes.Full answered is_so = (
          at_answer (moment n) n.pending,
          subst (λ (a : Answer). Owes v.locks.geometry h command v.locks.disk w.locks.disk (Some e) placed (Some a) n
              (at_answer (moment n) n.pending)) (sym answered.0)
              (full_turn v.locks.geometry h v.locks.disk w.locks.disk (Some e) placed n command answered.1 answered.2 answered.3 answered.4
              turned is_so.placed_is is_so.shown_is
              (subst (λ (g : Geometry). HasMetFull g (moment n).now.calls) call.geometry is_so.full) (resting n was_so)),
          rests n was_so n.pending,
        )
