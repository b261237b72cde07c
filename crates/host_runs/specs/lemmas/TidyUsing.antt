-- Which files hosts use behind a turn of a tidy run.
use Rattle.std.proofs.Common.{◌≡◌, ◌≢◌, ◌⊎◌, ℕ, false, List, [], Option, Some, None, is_some, length, refl, ap, sym, ◌∙◌, subst, inl, inr, arith}
use Rattle.std.specs.Prelude.{IsSome}
use Rattle.vol_base.specs.Faults.{Rose}
use Rattle.vol_base.specs.declared.answer.Answer.{Answer}
use Rattle.vol_base.specs.declared.answer.Answer.TheVariants as answers
use Rattle.vol_base.specs.declared.command.Command.{Command}
use Rattle.vol_base.specs.declared.command.Command.TheVariants as commands
use Rattle.vol_layout.specs.declared.geometry.Geometry.{Geometry}
use Rattle.workload.specs.declared.line.Line.{Line}
use Rattle.workload.specs.declared.line.Workload.{Workload}
use Rattle.shared_disk.specs.Events.{Call, Event, Gives, Registers, Reply}
use Rattle.histories.specs.Answers.{MayGet}
use Rattle.histories.specs.Lines.{IsLine}
use Rattle.host_runs.specs.CallRights.{MayCall}
use Rattle.host_runs.specs.Causes.{IsOwnCause}
use Rattle.host_runs.specs.FileUses.{file_used}
use Rattle.host_runs.specs.Memories.{HasFile, Memory, memory_after, no_memory, with_reply}
use Rattle.host_runs.specs.laws.Orderly.{HasAnswer}
use Rattle.host_runs.specs.RunStates.{RunState, answered}
use Rattle.host_runs.specs.Steps.{IsStep, moment_of, notes_now}
use Rattle.host_runs.specs.Tidy.{Closes, IsTidyWork, IsUnstopped}
use Rattle.host_runs.specs.lemmas.TidyStates.{IsTidyState, IsUsing}
use Rattle.host_runs.specs.TurnFacts.{Marks}
use Rattle.host_runs.specs.laws.GetLaws.{get_set}
use Rattle.host_runs.specs.laws.NextLineLaws.{next-at}
use Rattle.host_runs.specs.laws.SeatedLaws.{joining_command}
use Rattle.host_runs.specs.lemmas.OrderlyPlaced.{one_line}
use Rattle.host_runs.specs.lemmas.StepLaws.{is_last}
use Rattle.host_runs.specs.lemmas.TidyHolds.{from_call}
use Rattle.host_runs.specs.lemmas.TidyTurns.{cause_of, host_line, key_of_call, moment}

registers_or_other : (call : Call) → ((of : ℕ) × (call ≡ Registers of)) ⊎ ((of : ℕ) → call ≡ Registers of → ⊥)
registers_or_other (Registers of) = inl (of, refl)
registers_or_other call = inr (λ of e. cc)

register_keeps : (g : Geometry) (host own of : ℕ) (reply : Reply) (memory : Memory)
    → ((with_reply g host own (Registers of) reply memory).holds ≡ memory.holds) × ((with_reply g host own (Registers of) reply memory).reads ≡ memory.reads)
register_keeps g host own of (Gives key) memory = (refl, refl)
register_keeps g host own of reply memory = (refl, refl)

none_if_not : (o : Option ℕ) → is_some o ≡ false → o ≡ None
none_if_not None is = refl
none_if_not (Some n) is = absurd cc

module _ (w : Workload) (host : ℕ) (ended : Option Answer) (s t : RunState) (work : IsTidyWork w.lines) (tidy : IsTidyState w s) (step : IsStep w host ended s t)
    (no_fault : Rose s.device.faults t.device.faults → ⊥) where
  -- an answer was there before, or is that of this turn
  pub answered_cases : (given : Option Answer) → t.answers ≡ answered step.position given s.answers → (q : ℕ) → HasAnswer t.answers q
      → HasAnswer s.answers q ⊎ ((q ≡ step.position) × IsSome given)
  answered_cases None is q has = inl (subst (λ (xs : List (Option Answer)). HasAnswer xs q) is has)
  answered_cases (Some answer) is q has =
      let there = subst (λ (xs : List (Option Answer)). HasAnswer xs q) is has in
      elim (get_set s.answers step.position q (Some answer) (Some there.0) there.1) [
        | inl old ↦ inl (there.0, old.1)
        | inr new ↦ inr (new.0, refl)
      ]

  -- a use goes on, where it is not closed in this turn
  pub using_still : (k f : ℕ) → IsUsing w.lines s.answers s.phase k f → (k ≡ host → IsSome ended → Closes f step.line.command → ⊥)
      → IsUsing w.lines t.answers t.phase k f
  using_still k f its open_still = record {
    position = its.position;
    line = its.line;
    is = its.is;
    of = its.of;
    reached = let le = its.reached in let same = step.phase_is in omega (arith, le, same);
    file = its.file;
    still = λ q l lt is of closes has. elim (answered_cases ended step.answers_are q has) [
      | inl old ↦ its.still q l lt is of closes old
      | inr new ↦
          let line = one_line w.lines step.position l step.line (subst (λ (n : ℕ). IsLine w.lines n l) new.0 is) step.at.is in
          let self = sym of ∙ ap (λ (x : Line). x.host) line ∙ host_line w host ended s t work tidy step no_fault in
          open_still self new.1 (subst (λ (x : Line). Closes f x.command) line closes)
    ];
  }

  -- the use of this line
  pub using_now : (f : ℕ) → file_used step.line.command ≡ Some f → IsUsing w.lines t.answers t.phase host f
  using_now f uses =
      let open_line = next-at w.lines s.answers s.phase host step.position step.at.next in
      let phase = ap (λ (l : Line). l.phase) (one_line w.lines step.position step.line open_line.line step.at.is open_line.is) ∙ open_line.phase_is in
      record {
        position = step.position;
        line = step.line;
        is = step.at.is;
        of = host_line w host ended s t work tidy step no_fault;
        reached = let same = step.phase_is in omega (arith, phase, same);
        file = uses;
        still = λ q l lt is of closes has. elim (answered_cases ended step.answers_are q has) [
          | inl old ↦ is_last w host s t ended step tidy.orderly q l lt is of old
          | inr new ↦ absurd (omega (arith, lt, new.0))
        ];
      }

  -- files in mind
  abbrev pub InMind : Memory → ℕ → Type 0
  InMind memory f = HasFile w.geometry memory.holds f ⊎ HasFile w.geometry memory.reads f

  pub nothing_in_mind : (memory : Memory) (f : ℕ) → memory.holds ≡ [] → memory.reads ≡ [] → InMind memory f → ⊥
  nothing_in_mind memory f holds reads (inl has) = let e = ap (λ (xs : List ℕ). length xs) holds in let lt = has.2.1 in absurd (omega (arith, e, lt))
  nothing_in_mind memory f holds reads (inr has) = let e = ap (λ (xs : List ℕ). length xs) reads in let lt = has.2.1 in absurd (omega (arith, e, lt))

  -- where a file in mind behind the call comes from
  pub from_made : (made : Option Event) → MayCall (moment_of w host step.line.command made step.placed s t.device.state) made
      → Marks (moment_of w host step.line.command made step.placed s t.device.state) → (f : ℕ)
      → InMind (notes_now w.geometry host step.line.command s.device.state made step.placed (s.notes host)).memory f
      → InMind (s.notes host).memory f ⊎ (file_used step.line.command ≡ Some f)
  from_made None may marks f has = inl has
  from_made (Some e) may marks f has =
      let m = moment_of w host step.line.command (Some e) step.placed s t.device.state in
      let old = (s.notes host).memory in
      elim (registers_or_other e.call) [
        | inl register ↦
            let kept = register_keeps w.geometry host e.key register.0 e.reply old in
            elim has [
              | inl held ↦ inl (inl (subst (λ (xs : List ℕ). HasFile w.geometry xs f) (ap (λ (c : Call). (with_reply w.geometry host e.key c e.reply old).holds) register.1 ∙ kept.0) held))
              | inr read ↦ inl (inr (subst (λ (xs : List ℕ). HasFile w.geometry xs f) (ap (λ (c : Call). (with_reply w.geometry host e.key c e.reply old).reads) register.1 ∙ kept.1) read))
            ]
        | inr other ↦
            let from = from_call m e.key old (tidy.disk.own host e.key (key_of_call m e.key e.call may other)) e.call e.reply marks in
            elim has [
              | inl held ↦ elim (from.0 f held) [ inl before ↦ inl (inl before) | inr uses ↦ inr uses ]
              | inr read ↦ elim (from.1 f read) [ inl before ↦ inl (inr before) | inr uses ↦ inr uses ]
            ]
      ]

  -- a host that is not joined has nothing in mind
  down_gone : (answer : Answer) → answer ≡ answers.Down → ended ≡ Some answer → step.line.command ≢ commands.Join → (f : ℕ)
      → InMind (moment w host ended s t work tidy step no_fault).now.memory f → ⊥
  down_gone answer down ends other f has =
      let cause = cause_of w host ended s t work tidy step no_fault answers.Down (ends ∙ ap (λ (a : Answer). Some a) down) in
      let same : (moment w host ended s t work tidy step no_fault).now.memory ≡ (s.notes host).memory =
      ap (λ (x : Option Event). (notes_now w.geometry host step.line.command s.device.state x step.placed (s.notes host)).memory) cause.0 in
      let keyless : (s.notes host).memory.key ≡ None = elim (tidy.seated host) [
        | inl is ↦ none_if_not (s.notes host).memory.key (is ∙ cause.1)
        | inr joining ↦ absurd (other (joining_command w host s t tidy.orderly ended step joining))
      ] in
      let empty = tidy.disk.empty host keyless in
      nothing_in_mind (s.notes host).memory f empty.0 empty.1 (subst (λ (x : Memory). InMind x f) same has)

  -- a `close` or `leave` that was answered leaves nothing of the file in mind
  pub close_gone : (command : Command) (answer : Answer) → step.line.command ≡ command → ended ≡ Some answer → (f : ℕ) → Closes f command
      → MayGet command answer → IsUnstopped answer
      → InMind (memory_after answer command (moment w host ended s t work tidy step no_fault).now.memory) f → ⊥
  close_gone (commands.Close of) answers.Fine is ends f closes may unstopped has =
      let cause = subst (λ (c : Command). IsOwnCause (moment w host ended s t work tidy step no_fault) c answers.Fine) is (cause_of w host ended s t work tidy step no_fault answers.Fine ends) in
      elim has [
        | inl held ↦ cause.0 (subst (λ (n : ℕ). HasFile w.geometry (moment w host ended s t work tidy step no_fault).now.memory.holds n) (sym closes) held)
        | inr read ↦ cause.1 (subst (λ (n : ℕ). HasFile w.geometry (moment w host ended s t work tidy step no_fault).now.memory.reads n) (sym closes) read)
      ]
  close_gone (commands.Close of) answers.Down is ends f closes may unstopped has =
      down_gone answers.Down refl ends (λ join. let e : commands.Close of ≡ commands.Join = sym is ∙ join in cc) f has
  close_gone (commands.Close of) (answers.Busy key) is ends f closes may unstopped has = absurd unstopped
  close_gone (commands.Close of) (answers.Cut by) is ends f closes may unstopped has = absurd unstopped
  close_gone (commands.Close of) answer is ends f closes may unstopped has = absurd may
  close_gone commands.Leave answers.Fine is ends f closes may unstopped has = nothing_in_mind no_memory f refl refl has
  close_gone commands.Leave answers.Down is ends f closes may unstopped has =
      down_gone answers.Down refl ends (λ join. let e : commands.Leave ≡ commands.Join = sym is ∙ join in cc) f has
  close_gone commands.Leave (answers.Cut by) is ends f closes may unstopped has = absurd unstopped
  close_gone commands.Leave answer is ends f closes may unstopped has = absurd may
  close_gone command answer is ends f closes may unstopped has = absurd closes
