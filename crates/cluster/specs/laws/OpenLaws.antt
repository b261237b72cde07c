-- Which line a host is at, by the first of its positions without an answer.
use Rattle.std.proofs.Common.{◌≡◌, ◌≢◌, ◌⊎◌, inl, inr, ◌+◌, ◌<◌, ◌≤◌, ℕ, All, List, Option, Some, None, length, replicate, slice_get, slice_set, refl, ap, sym, subst, ◌∙◌, arith}
use Rattle.std.proofs.lemmas.Bool.{cases_eq, cases_lt}
use Rattle.vol_base.specs.declared.answer.Answer.{Answer}
use Rattle.vol_layout.specs.declared.geometry.Geometry.{Geometry}
use Rattle.workload.specs.Workloads.{IsAllowed}
use Rattle.workload.specs.declared.line.Line.{Line}
use Rattle.histories.specs.Lines.{IsLine}
use Rattle.histories.specs.Phases.{ArePhased}
use Rattle.histories.specs.laws.PushLaws.{all_at}
use Rattle.host_runs.specs.NextLines.{next_line}
use Rattle.host_runs.specs.laws.FitLaws.{none_answered}
use Rattle.host_runs.specs.laws.GetLaws.{get_set-other, get_set-same}
use Rattle.host_runs.specs.laws.NextLineLaws.{next-at, next-before, next-none}
use Rattle.host_runs.specs.laws.Orderly.{HasAnswer}
use Rattle.host_runs.specs.lemmas.OrderlyPlaced.{some_same}
use Rattle.cluster.specs.Agreements.{IsFirstOpen, IsHead}
use Rattle.cluster.specs.Parts.{IsOpenFrom}

none_or : (o : Option ℕ) → (o ≡ None) ⊎ ((q : ℕ) × (o ≡ Some q))
none_or None = inl refl
none_or (Some q) = inr (q, refl)

-- one line stands at a position
pub same_line : (lines : List Line) (p : ℕ) (l m : Line) → IsLine lines p l → IsLine lines p m → l ≡ m
same_line lines p l m is at = some_same l m (sym is ∙ at)

pub unanswered : (answers : List (Option Answer)) (p : ℕ) → slice_get answers p ≡ Some None → HasAnswer answers p → ⊥
unanswered answers p without (answer, has) = let both : Some None ≡ Some (Some answer) = sym without ∙ has in cc

module _ (lines : List Line) (answers : List (Option Answer)) (phase h : ℕ) (long : length answers ≡ length lines) where
  -- each line of the host has an answer
  pub next_never : IsHead lines answers h None → next_line lines answers phase h ≡ None
  next_never all =
      elim (none_or (next_line lines answers phase h)) [
        | inl none ↦ none
        | inr some ↦
            let at = next-at lines answers phase h some.0 some.1 in
            absurd (unanswered answers some.0 at.without (all some.0 at.line at.is at.host_is))
      ]

  -- the first one without an answer is of this phase
  pub next_here : (p : ℕ) (first : IsFirstOpen lines answers h p) → first.line.phase ≡ phase → next_line lines answers phase h ≡ Some p
  next_here p first here =
      elim (none_or (next_line lines answers phase h)) [
        | inl none ↦ absurd (first.without (next-none lines answers phase h p first.line long none first.is here first.host))
        | inr (q, is) ↦
            let at = next-at lines answers phase h q is in
            elim (cases_lt q p) [
              | inl below ↦ absurd (unanswered answers q at.without (first.before q at.line below at.is at.host_is))
              | inr past ↦ elim (cases_lt p q) [
                | inl before ↦ absurd (first.without (next-before lines answers phase h q p first.line is before first.is here first.host))
                | inr last ↦ let same : q ≡ p = omega (arith, past, last) in is ∙ ap (λ (k : ℕ). Some k) same
              ]
            ]
      ]

  -- or of a later one
  pub next_later : ArePhased lines → ((p : ℕ) (line : Line) → IsLine lines p line → line.phase < phase → HasAnswer answers p)
      → (p : ℕ) (first : IsFirstOpen lines answers h p) → first.line.phase ≢ phase → next_line lines answers phase h ≡ None
  next_later phased earlier p first other =
      elim (none_or (next_line lines answers phase h)) [
        | inl none ↦ none
        | inr (q, is) ↦
            let at = next-at lines answers phase h q is in
            elim (cases_lt q p) [
              | inl below ↦ absurd (unanswered answers q at.without (first.before q at.line below at.is at.host_is))
              | inr past ↦ elim (cases_lt p q) [
                | inl before ↦
                    let order = phased p q first.line at.line before first.is at.is in
                    elim (cases_lt first.line.phase phase) [
                      | inl low ↦ absurd (first.without (earlier p first.line first.is low))
                      | inr high ↦ absurd (other (let same = at.phase_is in omega (arith, order, same, high)))
                    ]
                | inr last ↦
                    let same : q ≡ p = omega (arith, past, last) in
                    let one = same_line lines p at.line first.line (subst (λ (k : ℕ). IsLine lines k at.line) same at.is) first.is in
                    absurd (other (sym (ap (λ (l : Line). l.phase) one) ∙ at.phase_is))
              ]
            ]
      ]

-- a host that is none of the volume has no line
pub next_nobody : (g : Geometry) (lines : List Line) (answers : List (Option Answer)) (phase h : ℕ) → All (IsAllowed g) lines → g.hosts ≤ h
    → next_line lines answers phase h ≡ None
next_nobody g lines answers phase h allowed past =
    elim (none_or (next_line lines answers phase h)) [
      | inl none ↦ none
      | inr (q, is) ↦
          let at = next-at lines answers phase h q is in
          let line = all_at (IsAllowed g) lines q at.line allowed at.is in
          absurd (let below = line.host in let same = at.host_is in omega (arith, below, same, past))
    ]

-- behind an answer at the position that a host is at, its next line is the first without one
module _ (lines : List Line) (answers : List (Option Answer)) (h p : ℕ) (answer : Answer) (first : IsFirstOpen lines answers h p)
    (within : p < length answers)
    (in_turn : (q : ℕ) (l : Line) → p < q → IsLine lines q l → l.host ≡ h → HasAnswer answers q → ⊥) where
  abbrev later : List (Option Answer)
  later = slice_set answers p (Some answer)

  still_answered : (q : ℕ) → HasAnswer answers q → HasAnswer later q
  still_answered q (given, has) =
      elim (cases_eq q p) [
        | inl same ↦ absurd (first.without (subst (HasAnswer answers) same (given, has)))
        | inr other ↦ (given, get_set-other answers p q (Some answer) other ∙ has)
      ]

  up_to : (q : ℕ) (l : Line) → q ≤ p → IsLine lines q l → l.host ≡ h → HasAnswer later q
  up_to q l below is host =
      elim (cases_eq q p) [
        | inl same ↦ subst (HasAnswer later) (sym same) (answer, get_set-same answers p (Some answer) within)
        | inr other ↦ still_answered q (first.before q l (omega (arith, below, other)) is host)
      ]

  pub open_behind : (next : Option ℕ) → IsOpenFrom lines (p + 1) h next → IsHead lines later h next
  open_behind None nothing = λ q l is host.
      elim (cases_lt p q) [
        | inl after ↦ absurd (nothing q l (omega (arith, after)) is host)
        | inr before ↦ up_to q l before is host
      ]
  open_behind (Some n) own = record {
    line = own.line;
    is = own.is;
    host = own.host;
    without = λ has.
        let past = own.later in
        let other : n ≢ p = λ same. omega (arith, past, same) in
        in_turn n own.line (omega (arith, past)) own.is own.host (has.0, sym (get_set-other answers p n (Some answer) other) ∙ has.1);
    before = λ q l below is host.
        elim (cases_lt p q) [
          | inl after ↦ absurd (own.first q l (omega (arith, after)) below is host)
          | inr before ↦ up_to q l before is host
        ];
  }

-- an answer of another host leaves it
pub open_other : (lines : List Line) (answers : List (Option Answer)) (h p : ℕ) (answer : Answer) (line : Line) → IsLine lines p line
    → line.host ≢ h → slice_get answers p ≡ Some None → (at : Option ℕ) → IsHead lines answers h at
    → IsHead lines (slice_set answers p (Some answer)) h at
open_other lines answers h p answer line is other without None all = λ q l at host.
    let has = all q l at host in
    let apart : q ≢ p = λ same. unanswered answers p without (subst (HasAnswer answers) same has) in
    (has.0, get_set-other answers p q (Some answer) apart ∙ has.1)
open_other lines answers h p answer line is other without (Some n) first = record {
  line = first.line;
  is = first.is;
  host = first.host;
  without = λ has.
      let apart : n ≢ p = λ same.
      other (sym (ap (λ (l : Line). l.host) (same_line lines p first.line line (subst (λ (k : ℕ). IsLine lines k first.line) same first.is) is)) ∙ first.host) in
      first.without (has.0, sym (get_set-other answers p n (Some answer) apart) ∙ has.1);
  before = λ q l below at host.
      let has = first.before q l below at host in
      let apart : q ≢ p = λ same. unanswered answers p without (subst (HasAnswer answers) same has) in
      (has.0, get_set-other answers p q (Some answer) apart ∙ has.1);
}

-- before the first answer each host is at its first line
pub open_begun : (lines : List Line) (n h : ℕ) (at : Option ℕ) → IsOpenFrom lines 0 h at → IsHead lines (replicate n None) h at
open_begun lines n h None nothing = λ q l is host. absurd (nothing q l (omega arith) is host)
open_begun lines n h (Some p) own = record {
  line = own.line;
  is = own.is;
  host = own.host;
  without = none_answered n p;
  before = λ q l below is host. absurd (own.first q l (omega arith) below is host);
}
