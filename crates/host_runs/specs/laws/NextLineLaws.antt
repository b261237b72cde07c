-- Which line a host is at.
use Rattle.std.proofs.Common.{◌≡◌, ◌≢◌, ◌<◌, ◌==◌, ◌&&◌, ℕ, zero, suc, Bool, true, false, List, [], ◌∷◌, Option, Some, None, is_none, length, option_map, slice_get, slice_set, refl, ap, sym, ◌∙◌, inl, inr, arith, subst}
use Rattle.std.specs.Prelude.{if◌then◌else◌}
use Rattle.std.proofs.lemmas.Bool.{cases_Bool, eq-eqb, eqb-true, ne_eqb}
use Rattle.vol_base.specs.declared.answer.Answer.{Answer}
use Rattle.workload.specs.declared.line.Line.{Line}
use Rattle.histories.specs.Lines.{IsAnswered, IsLine}
use Rattle.host_runs.specs.NextLines.{is_left, next_line}

both : (a b : Bool) → (a && b) ≡ true → (a ≡ true) × (b ≡ true)
both true b h = (refl, h)
both false b h = absurd cc

none_of : (given : Option Answer) → is_none given ≡ true → given ≡ None
none_of None h = refl
none_of (Some answer) h = absurd cc

some_of : (given : Option Answer) → is_none given ≡ false → (answer : Answer) × (given ≡ Some answer)
some_of None h = absurd cc
some_of (Some answer) h = (answer, refl)

left_is : (phase host : ℕ) (line : Line) (given : Option Answer) → is_left phase host line given ≡ true
    → (line.phase ≡ phase) × (line.host ≡ host) × (given ≡ None)
left_is phase host line given h =
    let outer = both (line.phase == phase && line.host == host) (is_none given) h in
    let inner = both (line.phase == phase) (line.host == host) outer.0 in
    (eqb-true line.phase phase inner.0, eqb-true line.host host inner.1, none_of given outer.1)

left_not : (phase host : ℕ) (line : Line) (given : Option Answer) → line.phase ≡ phase → line.host ≡ host
    → is_left phase host line given ≡ false
    → (answer : Answer) × (given ≡ Some answer)
left_not phase host line given at of h =
    elim (cases_Bool (is_none given)) [
      | inl none ↦
          let is : is_left phase host line given ≡ true = rw (eq-eqb line.phase phase at, eq-eqb line.host host of, none) refl in
          absurd cc
      | inr some ↦ some_of given some
    ]

suc_of : (o : Option ℕ) (p : ℕ) → option_map suc o ≡ Some p → (q : ℕ) × (o ≡ Some q) × (p ≡ suc q)
suc_of None p h = absurd cc
suc_of (Some q) p h = (q, refl, cc)

none_left : (o : Option ℕ) → option_map suc o ≡ None → o ≡ None
none_left None h = refl
none_left (Some q) h = absurd cc

not_left : (a b c : Bool) → b ≡ false → (a && b && c) ≡ false
not_left true true c h = absurd cc
not_left true false c h = refl
not_left false b c h = refl

-- a line of this phase and host, which has no answer
pub record IsOpenLine (lines : List Line) (answers : List (Option Answer)) (phase host p : ℕ) : Type 0 where
  pub line : Line
  pub is : IsLine lines p line
  pub phase_is : line.phase ≡ phase
  pub host_is : line.host ≡ host
  pub without : slice_get answers p ≡ Some None

open_behind : (first : Line) (lines : List Line) (given : Option Answer) (answers : List (Option Answer)) (phase host p : ℕ)
    → IsOpenLine lines answers phase host p → IsOpenLine (first ∷ lines) (given ∷ answers) phase host (suc p)
open_behind first lines given answers phase host p at =
    record { line = at.line; is = at.is; phase_is = at.phase_is; host_is = at.host_is; without = at.without }

open_here : (first : Line) (lines : List Line) (given : Option Answer) (answers : List (Option Answer)) (phase host : ℕ)
    → (first.phase ≡ phase) × (first.host ≡ host) × (given ≡ None) → IsOpenLine (first ∷ lines) (given ∷ answers) phase host 0
open_here first lines given answers phase host h =
    record { line = first; is = refl; phase_is = h.0; host_is = h.1; without = ap (λ (o : Option Answer). Some o) h.2 }

-- the line that a host is at is such a line
pub next-at : (lines : List Line) (answers : List (Option Answer)) (phase host p : ℕ) → next_line lines answers phase host ≡ Some p
    → IsOpenLine lines answers phase host p
unfolding next_line
next-at [] answers phase host p is = absurd cc
next-at (line ∷ lines) [] phase host p is = absurd cc
next-at (line ∷ lines) (given ∷ answers) phase host p is =
    elim (cases_Bool (is_left phase host line given)) [
      | inl here ↦
          let e : Some 0 ≡ Some p = rw here at is in
          let zero_is : 0 ≡ p = cc in
          subst (λ (n : ℕ). IsOpenLine (line ∷ lines) (given ∷ answers) phase host n) zero_is
          (open_here line lines given answers phase host (left_is phase host line given here))
      | inr other ↦
          let later = suc_of (next_line lines answers phase host) p (rw other at is) in
          subst (λ (n : ℕ). IsOpenLine (line ∷ lines) (given ∷ answers) phase host n) (sym later.2)
          (open_behind line lines given answers phase host later.0 (next-at lines answers phase host later.0 later.1))
    ]

-- each line of the phase and the host before it has an answer
pub next-before : (lines : List Line) (answers : List (Option Answer)) (phase host p q : ℕ) (line : Line)
    → next_line lines answers phase host ≡ Some p
    → q < p → IsLine lines q line → line.phase ≡ phase → line.host ≡ host → (answer : Answer) × IsAnswered answers q answer
unfolding next_line
next-before [] answers phase host p q line is lt at same_phase same_host = absurd cc
next-before (first ∷ lines) [] phase host p q line is lt at same_phase same_host = absurd cc
next-before (first ∷ lines) (given ∷ answers) phase host p zero line is lt at same_phase same_host =
    elim (cases_Bool (is_left phase host first given)) [
      | inl here ↦
          let e : Some 0 ≡ Some p = rw here at is in
          let zero_is : 0 ≡ p = cc in
          absurd (omega (arith, lt, zero_is))
      | inr other ↦
          let same : first ≡ line = cc in
          let found = left_not phase host first given (ap (λ (l : Line). l.phase) same ∙ same_phase) (ap (λ (l : Line). l.host) same ∙ same_host) other in
          (found.0, ap (λ (o : Option Answer). Some o) found.1)
    ]
next-before (first ∷ lines) (given ∷ answers) phase host p (suc q) line is lt at same_phase same_host =
    elim (cases_Bool (is_left phase host first given)) [
      | inl here ↦
          let e : Some 0 ≡ Some p = rw here at is in
          let zero_is : 0 ≡ p = cc in
          absurd (omega (arith, lt, zero_is))
      | inr other ↦
          let later = suc_of (next_line lines answers phase host) p (rw other at is) in
          next-before lines answers phase host later.0 q line later.1 (omega (arith, lt, later.2)) at same_phase same_host
    ]

-- where a host has no line left, each of its lines of the phase has an answer
pub next-none : (lines : List Line) (answers : List (Option Answer)) (phase host q : ℕ) (line : Line) → length answers ≡ length lines
    → next_line lines answers phase host ≡ None → IsLine lines q line → line.phase ≡ phase → line.host ≡ host
    → (answer : Answer) × IsAnswered answers q answer
unfolding next_line
next-none [] answers phase host q line long is at same_phase same_host = absurd cc
next-none (first ∷ lines) [] phase host q line long is at same_phase same_host = absurd (omega (arith, long))
next-none (first ∷ lines) (given ∷ answers) phase host zero line long is at same_phase same_host =
    elim (cases_Bool (is_left phase host first given)) [
      | inl here ↦ let e : ◌≡◌ {A = Option ℕ} (Some 0) None = rw here at is in absurd cc
      | inr other ↦
          let same : first ≡ line = cc in
          let found = left_not phase host first given (ap (λ (l : Line). l.phase) same ∙ same_phase) (ap (λ (l : Line). l.host) same ∙ same_host) other in
          (found.0, ap (λ (o : Option Answer). Some o) found.1)
    ]
next-none (first ∷ lines) (given ∷ answers) phase host (suc q) line long is at same_phase same_host =
    elim (cases_Bool (is_left phase host first given)) [
      | inl here ↦ let e : ◌≡◌ {A = Option ℕ} (Some 0) None = rw here at is in absurd cc
      | inr other ↦
          next-none lines answers phase host q line (omega (arith, long)) (none_left (next_line lines answers phase host) (rw other at is)) at same_phase same_host
    ]

-- an answer to a line of another host leaves the line that a host is at
pub next-other : (lines : List Line) (answers : List (Option Answer)) (phase host p : ℕ) (line : Line) (given : Option Answer)
    → IsLine lines p line → line.host ≢ host → next_line lines (slice_set answers p given) phase host ≡ next_line lines answers phase host
unfolding next_line
next-other [] answers phase host p line given at other = absurd cc
next-other (first ∷ lines) [] phase host p line given at other = refl
next-other (first ∷ lines) (old ∷ answers) phase host zero line given at other =
    let same : first ≡ line = cc in
    let differs : (first.host == host) ≡ false = ne_eqb first.host host (λ e. other (sym (ap (λ (l : Line). l.host) same) ∙ e)) in
    let never : (o : Option Answer) → is_left phase host first o ≡ false = λ o. not_left (first.phase == phase) (first.host == host) (is_none o) differs in
    rw (never given, never old) refl
next-other (first ∷ lines) (old ∷ answers) phase host (suc p) line given at other =
    ap (λ (o : Option ℕ). if is_left phase host first old then Some 0 else option_map suc o) (next-other lines answers phase host p line given at other)
