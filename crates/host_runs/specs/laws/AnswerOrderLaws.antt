-- What a host's answers make of a value, with one answer more.
use Rattle.std.proofs.Common.{◌≡◌, ◌≢◌, ◌<◌, ◌==◌, ℕ, zero, suc, List, [], ◌∷◌, Option, Some, None, slice_get, slice_set, refl, ap, sym, ◌∙◌, arith}
use Rattle.std.specs.Prelude.{if◌then◌else◌}
use Rattle.std.proofs.lemmas.Bool.{eq-eqb, ne_eqb}
use Rattle.vol_base.specs.declared.answer.Answer.{Answer}
use Rattle.vol_base.specs.declared.command.Command.{Command}
use Rattle.workload.specs.declared.line.Line.{Line}
use Rattle.histories.specs.Joined.{of_answers}
use Rattle.histories.specs.Lines.{IsLine}
use Rattle.host_runs.specs.laws.Orderly.{HasAnswer}

-- no line of the host has an answer behind this position
abbrev pub IsLastOf : List Line → List (Option Answer) → ℕ → ℕ → Type 0
IsLastOf lines answers host p = (q : ℕ) (l : Line) → p < q → IsLine lines q l → l.host ≡ host → HasAnswer answers q → ⊥

module _ {A : Type 0} (step : Command → Answer → A → A) where
  -- where no line of the host has an answer, the value stays
  pub untouched : (lines : List Line) (answers : List (Option Answer)) (host : ℕ) (before : A)
      → ((q : ℕ) (l : Line) → IsLine lines q l → l.host ≡ host → HasAnswer answers q → ⊥)
      → of_answers step lines answers host before ≡ before
  untouched [] answers host before none = refl
  untouched (line ∷ lines) [] host before none = refl
  untouched (line ∷ lines) (None ∷ answers) host before none = untouched lines answers host before (λ q l is of has. none (suc q) l is of has)
  untouched (line ∷ lines) (Some answer ∷ answers) host before none =
      let other : line.host ≢ host = λ same. none 0 line refl same (answer, refl) in
      rw (ne_eqb line.host host other) (untouched lines answers host before (λ q l is of has. none (suc q) l is of has))

  -- the answer of another host
  pub after-other : (lines : List Line) (answers : List (Option Answer)) (host p : ℕ) (line : Line) (answer : Answer) (before : A)
      → IsLine lines p line → line.host ≢ host → slice_get answers p ≡ Some None
      → of_answers step lines (slice_set answers p (Some answer)) host before ≡ of_answers step lines answers host before
  after-other [] answers host p line answer before is other without = absurd cc
  after-other (first ∷ lines) [] host p line answer before is other without = absurd cc
  after-other (first ∷ lines) (None ∷ answers) host zero line answer before is other without =
      let same : first ≡ line = cc in
      let differs : first.host ≢ host = λ e. other (sym (ap (λ (l : Line). l.host) same) ∙ e) in
      rw (ne_eqb first.host host differs) refl
  after-other (first ∷ lines) (Some given ∷ answers) host zero line answer before is other without = absurd cc
  after-other (first ∷ lines) (None ∷ answers) host (suc p) line answer before is other without = after-other lines answers host p line answer before is other without
  after-other (first ∷ lines) (Some given ∷ answers) host (suc p) line answer before is other without =
      after-other lines answers host p line answer (if first.host == host then step first.command given before else before) is other without

  -- the answer of the host itself, behind all those that it has
  pub after-answered : (lines : List Line) (answers : List (Option Answer)) (host p : ℕ) (line : Line) (answer : Answer) (before : A)
      → IsLine lines p line → line.host ≡ host → slice_get answers p ≡ Some None → IsLastOf lines answers host p
      → of_answers step lines (slice_set answers p (Some answer)) host before ≡ step line.command answer (of_answers step lines answers host before)
  after-answered [] answers host p line answer before is of without last = absurd cc
  after-answered (first ∷ lines) [] host p line answer before is of without last = absurd cc
  after-answered (first ∷ lines) (None ∷ answers) host zero line answer before is of without last =
      let same : first ≡ line = cc in
      let none : (q : ℕ) (l : Line) → IsLine lines q l → l.host ≡ host → HasAnswer answers q → ⊥ = λ q l at l_of has. last (suc q) l (omega arith) at l_of has in
      rw (eq-eqb first.host host (ap (λ (l : Line). l.host) same ∙ of))
      (untouched lines answers host (step first.command answer before) none
      ∙ ap (λ (l : Line). step l.command answer before) same
      ∙ ap (step line.command answer) (sym (untouched lines answers host before none)))
  after-answered (first ∷ lines) (Some given ∷ answers) host zero line answer before is of without last = absurd cc
  after-answered (first ∷ lines) (None ∷ answers) host (suc p) line answer before is of without last =
      after-answered lines answers host p line answer before is of without (λ q l lt at l_of has. last (suc q) l (omega (arith, lt)) at l_of has)
  after-answered (first ∷ lines) (Some given ∷ answers) host (suc p) line answer before is of without last =
      after-answered lines answers host p line answer (if first.host == host then step first.command given before else before) is of without
      (λ q l lt at l_of has. last (suc q) l (omega (arith, lt)) at l_of has)
