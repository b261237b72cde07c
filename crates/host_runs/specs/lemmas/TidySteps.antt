-- A turn of a tidy run keeps what holds at each of its states.
use Rattle.std.proofs.Common.{◌≡◌, ◌≢◌, ℕ, false, [], Option, Some, None, refl, ap, sym, ◌∙◌, subst, inl, inr}
use Rattle.std.proofs.lemmas.Bool.{cases_eq}
use Rattle.vol_base.specs.Faults.{Rose}
use Rattle.vol_base.specs.declared.answer.Answer.{Answer}
use Rattle.workload.specs.declared.line.Line.{Line}
use Rattle.workload.specs.declared.line.Workload.{Workload}
use Rattle.histories.specs.Lines.{IsAnswered}
use Rattle.host_runs.specs.Memories.{AreFileLocks, HasFile, Memory}
use Rattle.host_runs.specs.Moments.{Moment}
use Rattle.host_runs.specs.NextLines.{next_line}
use Rattle.host_runs.specs.Notes.{Notes}
use Rattle.host_runs.specs.laws.Orderly.{IsOrderlyState}
use Rattle.host_runs.specs.Rests.{IsNotedAfter}
use Rattle.host_runs.specs.RunStates.{RunState, answered}
use Rattle.host_runs.specs.laws.Seated.{IsSeated}
use Rattle.host_runs.specs.Steps.{IsAtLine, IsStep}
use Rattle.host_runs.specs.Tidy.{IsTidyWork, IsUnstopped}
use Rattle.host_runs.specs.lemmas.TidyStates.{IsOnDisk, IsTidyState, IsUsing, memories_of}
use Rattle.host_runs.specs.Tries.{no_tries}
use Rattle.host_runs.specs.laws.NextLineLaws.{next-other}
use Rattle.host_runs.specs.lemmas.StepLaws.{notes-other}
use Rattle.host_runs.specs.lemmas.TidyDisk.{none_some}
use Rattle.host_runs.specs.lemmas.TidyFits.{FitTries}
use Rattle.host_runs.specs.lemmas.TidyTurns.{host_line, moment, resting}
use Rattle.host_runs.specs.lemmas.TidyUses.{others_idle}
use Rattle.host_runs.specs.lemmas.TidyUsing.{InMind, using_still}
use Rattle.host_runs.specs.lemmas.TidyWords.{IsSameBut}

pub tries-still : (m : Moment) (later : Notes) → IsNotedAfter m None later → later.tries ≡ m.now.tries
tries-still m later noted = ap (λ (n : Notes). n.tries) noted.1

pub tries-ended : (m : Moment) (answer : Answer) (later : Notes) → IsNotedAfter m (Some answer) later → later.tries ≡ no_tries
tries-ended m answer later noted = ap (λ (n : Notes). n.tries) noted.rest

module _ (w : Workload) (host : ℕ) (ended : Option Answer) (s t : RunState) (work : IsTidyWork w.lines) (tidy : IsTidyState w s) (step : IsStep w host ended s t)
    (no_fault : Rose s.device.faults t.device.faults → ⊥) where
  abbrev pub now : Moment
  now = moment w host ended s t work tidy step no_fault

  -- the other hosts are as they were
  pub others_same : IsSameBut host (memories_of t.notes) (memories_of s.notes)
  others_same k other = ap (λ (n : Notes). n.memory) (notes-other w host s t ended step k other)

  -- what the host's notes are behind the turn
  pub record BehindTurn : Type 0 where
    pub disk : IsOnDisk w.geometry t.device.state (memories_of t.notes)
    pub rests : (t.notes host).calls ≡ [] → AreFileLocks w.geometry (t.notes host).memory.holds
    pub stays : (t.notes host).calls ≡ [] → (t.notes host).memory.left ≡ false
    pub idle : next_line w.lines t.answers t.phase host ≡ None → (t.notes host).calls ≡ []
    pub uses : (f : ℕ) → InMind w host ended s t work tidy step no_fault (t.notes host).memory f → IsUsing w.lines t.answers t.phase host f
    pub fresh : (t.notes host).calls ≡ [] → (t.notes host).tries ≡ no_tries
    pub fit : (p : ℕ) (line : Line) → IsAtLine w.lines t host p line
        → FitTries w.geometry host line.command (memories_of s.notes) t.device.state (t.notes host).tries
    pub shown : (t.notes host).tries.shown ≡ None
    pub unstopped : (p : ℕ) (answer : Answer) → IsAnswered t.answers p answer → IsUnstopped answer

  -- another host is idle, also behind the turn
  next_still : (given : Option Answer) → t.answers ≡ answered step.position given s.answers → (k : ℕ) → k ≢ host
      → next_line w.lines t.answers t.phase k ≡ next_line w.lines s.answers s.phase k
  next_still None is k other = rw (is, step.phase_is) refl
  next_still (Some answer) is k other =
      let same = next-other w.lines s.answers s.phase k step.position step.line (Some answer) step.at.is
      (λ e. other (sym e ∙ host_line w host ended s t work tidy step no_fault)) in
      rw (is, step.phase_is) same

  still_idle : (k : ℕ) → k ≢ host → next_line w.lines t.answers t.phase k ≡ None
  still_idle k other =
      next_still ended step.answers_are k other ∙ others_idle w s work tidy.orderly host step.position step.line step.at.next step.at.is k other

  no_line : (k p : ℕ) (line : Line) → k ≢ host → IsAtLine w.lines t k p line → ⊥
  no_line k p line other at = none_some at.next (still_idle k other)

  -- all together
  pub tidy_behind : IsOrderlyState w t → ((k : ℕ) → IsSeated w t k) → BehindTurn → IsTidyState w t
  tidy_behind orderly seated behind = record {
    orderly = orderly;
    seated = seated;
    valid = step.valid;
    disk = behind.disk;
    rests = λ h none. elim (cases_eq h host) [
      | inl self ↦ subst (λ (k : ℕ). AreFileLocks w.geometry (t.notes k).memory.holds) (sym self) (behind.rests (ap (λ (k : ℕ). (t.notes k).calls) (sym self) ∙ none))
      | inr other ↦
          let same = notes-other w host s t ended step h other in
          subst (λ (n : Notes). AreFileLocks w.geometry n.memory.holds) (sym same) (tidy.rests h (sym (ap (λ (n : Notes). n.calls) same) ∙ none))
    ];
    stays = λ h none. elim (cases_eq h host) [
      | inl self ↦ ap (λ (k : ℕ). (t.notes k).memory.left) self ∙ behind.stays (ap (λ (k : ℕ). (t.notes k).calls) (sym self) ∙ none)
      | inr other ↦
          let same = notes-other w host s t ended step h other in
          ap (λ (n : Notes). n.memory.left) same ∙ tidy.stays h (sym (ap (λ (n : Notes). n.calls) same) ∙ none)
    ];
    idle = λ h none. elim (cases_eq h host) [
      | inl self ↦ ap (λ (k : ℕ). (t.notes k).calls) self ∙ behind.idle (ap (λ (k : ℕ). next_line w.lines t.answers t.phase k) (sym self) ∙ none)
      | inr other ↦ ap (λ (n : Notes). n.calls) (notes-other w host s t ended step h other) ∙ resting w host ended s t work tidy step no_fault h other
    ];
    holds = λ h f has. elim (cases_eq h host) [
      | inl self ↦ subst (λ (k : ℕ). IsUsing w.lines t.answers t.phase k f) (sym self)
          (behind.uses f (inl (subst (λ (k : ℕ). HasFile w.geometry (t.notes k).memory.holds f) self has)))
      | inr other ↦
          let old = tidy.holds h f (subst (λ (n : Notes). HasFile w.geometry n.memory.holds f) (notes-other w host s t ended step h other) has) in
          using_still w host ended s t work tidy step no_fault h f old (λ self. absurd (other self))
    ];
    reads = λ h f has. elim (cases_eq h host) [
      | inl self ↦ subst (λ (k : ℕ). IsUsing w.lines t.answers t.phase k f) (sym self)
          (behind.uses f (inr (subst (λ (k : ℕ). HasFile w.geometry (t.notes k).memory.reads f) self has)))
      | inr other ↦
          let old = tidy.reads h f (subst (λ (n : Notes). HasFile w.geometry n.memory.reads f) (notes-other w host s t ended step h other) has) in
          using_still w host ended s t work tidy step no_fault h f old (λ self. absurd (other self))
    ];
    fresh = λ h none. elim (cases_eq h host) [
      | inl self ↦ ap (λ (k : ℕ). (t.notes k).tries) self ∙ behind.fresh (ap (λ (k : ℕ). (t.notes k).calls) (sym self) ∙ none)
      | inr other ↦
          let same = notes-other w host s t ended step h other in
          ap (λ (n : Notes). n.tries) same ∙ tidy.fresh h (sym (ap (λ (n : Notes). n.calls) same) ∙ none)
    ];
    counted = λ h p line at some none. elim (cases_eq h host) [
      | inl self ↦
          let here = subst (λ (k : ℕ). IsAtLine w.lines t k p line) self at in
          ap (λ (k : ℕ). (t.notes k).tries.count) self ∙ (behind.fit p line here).counted some (ap (λ (k : ℕ). (t.notes k).tries.found) (sym self) ∙ none)
      | inr other ↦ absurd (no_line h p line other at)
    ];
    found = λ h p f line word at file is. elim (cases_eq h host) [
      | inl self ↦
          let here = subst (λ (k : ℕ). IsAtLine w.lines t k p line) self at in
          (behind.fit p line here).found f word file (ap (λ (k : ℕ). (t.notes k).tries.found) (sym self) ∙ is)
      | inr other ↦ absurd (no_line h p line other at)
    ];
    alone = λ h p f line word at file is. elim (cases_eq h host) [
      | inl self ↦
          let here = subst (λ (k : ℕ). IsAtLine w.lines t k p line) self at in
          let before = (behind.fit p line here).alone f word file (ap (λ (k : ℕ). (t.notes k).tries.found) (sym self) ∙ is) in
          λ n key tiny differs has.
          let other : n ≢ host = λ same. differs (same ∙ sym self) in
          before n key tiny other (sym (ap (λ (x : Memory). x.key) (others_same n other)) ∙ has)
      | inr other ↦ absurd (no_line h p line other at)
    ];
    shown = λ h. elim (cases_eq h host) [
      | inl self ↦ ap (λ (k : ℕ). (t.notes k).tries.shown) self ∙ behind.shown
      | inr other ↦ ap (λ (n : Notes). n.tries.shown) (notes-other w host s t ended step h other) ∙ tidy.shown h
    ];
    unstopped = behind.unstopped;
  }
