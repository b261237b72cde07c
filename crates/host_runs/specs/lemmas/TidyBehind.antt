-- What holds of the host of a turn of a tidy run behind it.
use Rattle.std.proofs.Common.{◌≡◌, ℕ, true, true≢false, List, [], Option, Some, None, refl, ap, sym, ◌∙◌, subst, inl, inr}
use Rattle.std.specs.Prelude.{IsSome}
use Rattle.std.proofs.lemmas.Bool.{cases_Bool}
use Rattle.vol_base.specs.Faults.{Rose}
use Rattle.vol_base.specs.declared.answer.Answer.{Answer}
use Rattle.vol_base.specs.declared.answer.Answer.TheVariants as answers
use Rattle.vol_base.specs.declared.command.Command.{Command}
use Rattle.vol_base.specs.declared.plain.PlainReply.{PlainReply}
use Rattle.vol_layout.specs.declared.geometry.Geometry.{Geometry}
use Rattle.workload.specs.declared.line.Line.{Line}
use Rattle.workload.specs.declared.line.Workload.{Workload}
use Rattle.shared_disk.specs.Events.{Event}
use Rattle.shared_disk.specs.State.{State}
use Rattle.histories.specs.Lines.{IsAnswered, IsLine}
use Rattle.host_runs.specs.Memories.{AreFileLocks, Memory, drops, memory_after, no_memory}
use Rattle.host_runs.specs.Notes.{Notes}
use Rattle.host_runs.specs.RunStates.{RunState}
use Rattle.host_runs.specs.Steps.{IsStep, notes_now}
use Rattle.host_runs.specs.Tidy.{Closes, IsTidyWork, IsUnstopped}
use Rattle.host_runs.specs.lemmas.TidyStates.{IsTidyState, memories_of}
use Rattle.host_runs.specs.Tries.{Tries, no_tries}
use Rattle.host_runs.specs.laws.GetLaws.{get_set}
use Rattle.host_runs.specs.lemmas.OrderlyPlaced.{one_line, some_same}
use Rattle.host_runs.specs.lemmas.StepLaws.{at-still, calls-ended, calls-still, memory-ended, memory-still, notes-here, some_call}
use Rattle.host_runs.specs.lemmas.TidyDisk.{none_some}
use Rattle.host_runs.specs.lemmas.TidyFits.{FitTries}
use Rattle.host_runs.specs.lemmas.TidySteps.{BehindTurn, now, others_same, tries-ended, tries-still}
use Rattle.host_runs.specs.lemmas.TidyTurns.{disk_drops, disk_stays, fit_now, lives, unstopped_now}
use Rattle.host_runs.specs.lemmas.TidyUsing.{InMind, close_gone, from_made, nothing_in_mind, using_now, using_still}

has_call : (g : Geometry) (host : ℕ) (command : Command) (before : State) (made : Option Event) (placed : Option PlainReply) (notes : Notes)
    → IsSome made
    → (notes_now g host command before made placed notes).calls ≡ [] → ⊥
has_call g host command before None placed notes is none = cc
has_call g host command before (Some e) placed notes is none = some_call notes.calls (record { event = e; before = before }) none

module _ (w : Workload) (host : ℕ) (s t : RunState) (work : IsTidyWork w.lines) (tidy : IsTidyState w s) (no_fault : Rose s.device.faults t.device.faults → ⊥) where
  -- a command that goes on
  pub behind_moved : (step : IsStep w host None s t) → BehindTurn w host None s t work tidy step no_fault
  behind_moved step =
      let m = now w host None s t work tidy step no_fault in
      let notes = notes-here w host s t None step in
      let memory : (t.notes host).memory ≡ m.now.memory = ap (λ (n : Notes). n.memory) notes ∙ memory-still m step.later step.noted in
      let calls : (t.notes host).calls ≡ m.now.calls = ap (λ (n : Notes). n.calls) notes ∙ calls-still m step.later step.noted in
      let tries : (t.notes host).tries ≡ m.now.tries = ap (λ (n : Notes). n.tries) notes ∙ tries-still m step.later step.noted in
      let at = at-still w host s t step in
      let some : (t.notes host).calls ≡ [] → ⊥ = λ none.
      has_call w.geometry host step.line.command s.device.state step.made step.placed (s.notes host) (step.moves refl) (sym calls ∙ none) in
      record {
        disk = disk_stays w host None s t work tidy step no_fault (memories_of t.notes) (others_same w host None s t work tidy step no_fault) memory
            (λ target leave done. let e = (lives w host None s t work tidy step no_fault).facts.last target leave done in none_some e refl);
        rests = λ none. absurd (some none);
        stays = λ none. absurd (some none);
        idle = λ none. absurd (none_some at.next none);
        uses = λ f has.
            elim (from_made w host None s t work tidy step no_fault step.made step.may step.marks f
            (subst (λ (x : Memory). InMind w host None s t work tidy step no_fault x f) memory has)) [
              | inl old ↦ elim old [
                | inl held ↦ using_still w host None s t work tidy step no_fault host f (tidy.holds host f held) (λ self ended. cc)
                | inr read ↦ using_still w host None s t work tidy step no_fault host f (tidy.reads host f read) (λ self ended. cc)
              ]
              | inr used ↦ using_now w host None s t work tidy step no_fault f used
            ];
        fresh = λ none. absurd (some none);
        fit = λ p line here.
            let position = some_same step.position p (sym at.next ∙ here.next) in
            let same = one_line w.lines p step.line line (subst (λ (n : ℕ). IsLine w.lines n step.line) position step.at.is) here.is in
            subst (λ (x : Tries). FitTries w.geometry host line.command (memories_of s.notes) t.device.state x) (sym tries)
            (subst (λ (l : Line). FitTries w.geometry host l.command (memories_of s.notes) t.device.state m.now.tries) same (fit_now w host None s t work tidy step no_fault));
        shown = ap (λ (x : Tries). x.shown) tries ∙ (fit_now w host None s t work tidy step no_fault).shown;
        unstopped = λ p answer is. tidy.unstopped p answer (subst (λ (xs : List (Option Answer)). IsAnswered xs p answer) step.answers_are is);
      }

  -- a command that is answered
  pub behind_answered : (answer : Answer) (step : IsStep w host (Some answer) s t)
      → BehindTurn w host (Some answer) s t work tidy step no_fault
  behind_answered answer step =
      let ended : Option Answer = Some answer in
      let m = now w host (Some answer) s t work tidy step no_fault in
      let notes = notes-here w host s t (Some answer) step in
      let memory : (t.notes host).memory ≡ memory_after answer step.line.command m.now.memory =
      ap (λ (n : Notes). n.memory) notes ∙ memory-ended m answer step.later step.noted in
      let tries : (t.notes host).tries ≡ no_tries = ap (λ (n : Notes). n.tries) notes ∙ tries-ended m answer step.later step.noted in
      let calls : (t.notes host).calls ≡ [] = ap (λ (n : Notes). n.calls) notes ∙ calls-ended m answer step.later step.noted in
      let facts = (lives w host (Some answer) s t work tidy step no_fault).facts in
      let unstopped = unstopped_now w host (Some answer) s t work tidy step no_fault answer refl in
      record {
        disk = elim (cases_Bool (drops answer step.line.command)) [
          | inl dropped ↦
              let none : memory_after answer step.line.command m.now.memory ≡ no_memory = rw dropped refl in
              disk_drops w host (Some answer) s t work tidy step no_fault answer refl dropped (memories_of t.notes)
              (others_same w host (Some answer) s t work tidy step no_fault) (memory ∙ none)
          | inr kept ↦
              let same : memory_after answer step.line.command m.now.memory ≡ m.now.memory = rw kept refl in
              disk_stays w host (Some answer) s t work tidy step no_fault (memories_of t.notes)
              (others_same w host (Some answer) s t work tidy step no_fault) (memory ∙ same)
              (λ target leave done.
              let fine = some_same answer answers.Fine (facts.last target leave done) in
              let dropped : drops answer step.line.command ≡ true = ap (λ (a : Answer). drops a step.line.command) fine ∙ ap (λ (c : Command). drops answers.Fine c) leave in
              true≢false (sym dropped ∙ kept))
        ];
        rests = λ none. subst (λ (x : Memory). AreFileLocks w.geometry x.holds) (sym memory) facts.rests;
        stays = λ none. ap (λ (x : Memory). x.left) memory ∙ facts.stays;
        idle = λ none. calls;
        uses = λ f has.
            let has' = subst (λ (x : Memory). InMind w host (Some answer) s t work tidy step no_fault x f) memory has in
            elim (cases_Bool (drops answer step.line.command)) [
              | inl dropped ↦
                  let none : memory_after answer step.line.command m.now.memory ≡ no_memory = rw dropped refl in
                  absurd (nothing_in_mind w host (Some answer) s t work tidy step no_fault no_memory f refl refl
                  (subst (λ (x : Memory). InMind w host (Some answer) s t work tidy step no_fault x f) none has'))
              | inr kept ↦
                  let same : memory_after answer step.line.command m.now.memory ≡ m.now.memory = rw kept refl in
                  let gone = λ (closes : Closes f step.line.command). close_gone w host (Some answer) s t work tidy step no_fault step.line.command answer refl refl f closes step.placing.own unstopped has' in
                  elim (from_made w host (Some answer) s t work tidy step no_fault step.made step.may step.marks f
                  (subst (λ (x : Memory). InMind w host (Some answer) s t work tidy step no_fault x f) same has')) [
                    | inl old ↦ elim old [
                      | inl held ↦ using_still w host (Some answer) s t work tidy step no_fault host f (tidy.holds host f held) (λ self some closes. gone closes)
                      | inr read ↦ using_still w host (Some answer) s t work tidy step no_fault host f (tidy.reads host f read) (λ self some closes. gone closes)
                    ]
                    | inr used ↦ using_now w host (Some answer) s t work tidy step no_fault f used
                  ]
            ];
        fresh = λ none. tries;
        fit = λ p line here.
            subst (λ (x : Tries). FitTries w.geometry host line.command (memories_of s.notes) t.device.state x) (sym tries)
            (record {
              shown = refl;
              counted = λ some none. refl;
              found = λ f word file at. absurd (none_some at refl);
              alone = λ f word file at. absurd (none_some at refl);
            });
        shown = ap (λ (x : Tries). x.shown) tries;
        unstopped = λ p a is.
            elim (get_set s.answers step.position p (Some answer) (Some a) (subst (λ (xs : List (Option Answer)). IsAnswered xs p a) step.answers_are is)) [
              | inl old ↦ tidy.unstopped p a old.1
              | inr new ↦ subst IsUnstopped (some_same answer a new.1) unstopped
            ];
      }
