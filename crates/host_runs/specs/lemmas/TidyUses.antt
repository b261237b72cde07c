-- In a tidy run a file that a command uses is used by no other host.
use Rattle.std.proofs.Common.{◌≡◌, ◌≢◌, ℕ, Option, Some, None, refl, ap, sym, ◌∙◌, subst, inl, inr, arith}
use Rattle.std.proofs.lemmas.Bool.{cases_eq, cases_lt}
use Rattle.workload.specs.declared.line.Line.{Line}
use Rattle.workload.specs.declared.line.Workload.{Workload}
use Rattle.histories.specs.Lines.{IsLine}
use Rattle.host_runs.specs.FileUses.{file_used}
use Rattle.host_runs.specs.NextLines.{next_line}
use Rattle.host_runs.specs.laws.Orderly.{IsOrderlyState}
use Rattle.host_runs.specs.RunStates.{RunState}
use Rattle.host_runs.specs.Tidy.{IsTidyWork}
use Rattle.host_runs.specs.lemmas.TidyStates.{IsUsing}
use Rattle.host_runs.specs.laws.NextLineLaws.{IsOpenLine, next-at}
use Rattle.host_runs.specs.lemmas.OrderlyPlaced.{one_line}

module _ (w : Workload) (s : RunState) (work : IsTidyWork w.lines) (o : IsOrderlyState w s) (host p : ℕ) (line : Line) (next : next_line w.lines s.answers s.phase host ≡ Some p)
    (is : IsLine w.lines p line) where
  here : IsOpenLine w.lines s.answers s.phase host p
  here = next-at w.lines s.answers s.phase host p next

  line_phase : line.phase ≡ s.phase
  line_phase = ap (λ (l : Line). l.phase) (one_line w.lines p line here.line is here.is) ∙ here.phase_is

  pub line_of : line.host ≡ host
  line_of = ap (λ (l : Line). l.host) (one_line w.lines p line here.line is here.is) ∙ here.host_is

  -- every other host is idle
  pub others_idle : (k : ℕ) → k ≢ host → next_line w.lines s.answers s.phase k ≡ None
  others_idle k other = none_at (next_line w.lines s.answers s.phase k) refl
    where
      none_at : (q : Option ℕ) → next_line w.lines s.answers s.phase k ≡ q → q ≡ None
      none_at None at = refl
      none_at (Some q) at =
          let its = next-at w.lines s.answers s.phase k q at in
          absurd (other (sym its.host_is ∙ work.tidy.alone q p its.line line its.is is (its.phase_is ∙ sym line_phase) ∙ line_of))

  -- a file that the line uses is used by no other host
  pub used_alone : (k f : ℕ) → k ≢ host → file_used line.command ≡ Some f → IsUsing w.lines s.answers s.phase k f → ⊥
  used_alone k f other uses its =
      let differ : its.line.host ≢ line.host = λ same. other (sym its.of ∙ same ∙ line_of) in
      elim (cases_lt its.position p) [
        | inl before ↦
            let closed = work.tidy.closed its.position p f its.line line before its.is is differ its.file uses in
            let le = work.phased closed.at p closed.line line closed.before closed.is is in
            let of : closed.line.host ≡ k = closed.of ∙ its.of in
            elim (cases_lt closed.line.phase s.phase) [
              | inl past ↦ its.still closed.at closed.line closed.after closed.is of closed.closes (o.past closed.at closed.line closed.is past)
              | inr present ↦
                  let same : closed.line.phase ≡ line.phase = omega (arith, le, present, line_phase) in
                  other (sym of ∙ work.tidy.alone closed.at p closed.line line closed.is is same ∙ line_of)
            ]
        | inr after ↦ elim (cases_eq its.position p) [
          | inl same ↦ differ (ap (λ (l : Line). l.host) (one_line w.lines p its.line line (subst (λ (n : ℕ). IsLine w.lines n its.line) same its.is) is))
          | inr behind ↦
              let le = work.phased p its.position line its.line (omega (arith, after, behind)) is its.is in
              let same : its.line.phase ≡ line.phase = omega (arith, le, its.reached, line_phase) in
              differ (work.tidy.alone its.position p its.line line its.is is same)
        ]
      ]
