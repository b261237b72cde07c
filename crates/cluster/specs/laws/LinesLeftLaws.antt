-- How many lines of a phase are left: none exactly where no host is at one, one less behind an answer, and no fewer than hosts are at one.
use Rattle.std.proofs.Common.{◌≡◌, ◌≢◌, ◌+◌, ◌<◌, ◌≤◌, ◌==◌, ◌&&◌, ◌∙◌, ℕ, zero, suc, Bool, true, false, List, [], ◌∷◌, Option, Some, None, is_none, is_some, drop, get_or, length, option_map, slice_get, slice_set, refl, ap, sym, subst, inl, inr, arith}
use Rattle.std.specs.Prelude.{if◌then◌else◌}
use Rattle.std.proofs.lemmas.List.{drop_all, drop_more}
use Rattle.std.proofs.lemmas.Bool.{cases_Bool, cases_eq, eq-eqb, ne_eqb}
use Rattle.vol_base.specs.declared.answer.Answer.{Answer}
use Rattle.workload.specs.declared.line.Line.{Line}
use Rattle.histories.specs.Lines.{IsLine}
use Rattle.host_runs.specs.NextLines.{is_left, next_line}
use Rattle.host_runs.specs.laws.NextLineLaws.{next-at}
use Rattle.cluster.specs.LinesLeft.{hosts_in, is_open, lines_left}

-- at its own host an open line is one that is left, and at no other
left_own : (phase h : ℕ) (line : Line) (given : Option Answer) → line.host ≡ h → is_left phase h line given ≡ is_open phase line given
left_own phase h line given same =
    ap (λ (b : Bool). line.phase == phase && b && is_none given) (eq-eqb line.host h same) ∙ tidy (line.phase == phase) (is_none given)
  where
    tidy : (a b : Bool) → (a && true && b) ≡ (a && b)
    tidy true b = refl
    tidy false b = refl

left_other : (phase h : ℕ) (line : Line) (given : Option Answer) → line.host ≢ h → is_left phase h line given ≡ false
left_other phase h line given other =
    ap (λ (b : Bool). line.phase == phase && b && is_none given) (ne_eqb line.host h other) ∙ tidy (line.phase == phase) (is_none given)
  where
    tidy : (a b : Bool) → (a && false && b) ≡ false
    tidy true b = refl
    tidy false b = refl

left_open : (phase h : ℕ) (line : Line) (given : Option Answer) → is_open phase line given ≡ false → is_left phase h line given ≡ false
left_open phase h line given shut = elim (cases_eq line.host h) [
  | inl same ↦ left_own phase h line given same ∙ shut
  | inr other ↦ left_other phase h line given other
]

later_none : (o : Option ℕ) → option_map suc o ≡ None → o ≡ None
later_none None is = refl
later_none (Some p) is = absurd cc

later_same : (o : Option ℕ) → is_some (option_map suc o) ≡ is_some o
later_same None = refl
later_same (Some p) = refl

some_none : (o : Option ℕ) (p : ℕ) → o ≡ Some p → o ≡ None → ⊥
some_none None p some none = absurd cc
some_none (Some q) p some none = absurd cc

-- none is left where no host is at a line
pub none_left : (lines : List Line) (answers : List (Option Answer)) (phase : ℕ) → ((h : ℕ) → next_line lines answers phase h ≡ None)
    → lines_left lines answers phase ≡ 0
unfolding lines_left next_line
none_left [] answers phase idle = refl
none_left (line ∷ lines) [] phase idle = refl
none_left (line ∷ lines) (given ∷ answers) phase idle = elim (cases_Bool (is_open phase line given)) [
  | inl some ↦
      let here : next_line (line ∷ lines) (given ∷ answers) phase line.host ≡ Some 0 =
      ap (λ (b : Bool). if b then Some 0 else option_map suc (next_line lines answers phase line.host))
      (left_own phase line.host line given refl ∙ some) in
      absurd (some_none (next_line (line ∷ lines) (given ∷ answers) phase line.host) 0 here (idle line.host))
  | inr shut ↦
      let rest : lines_left lines answers phase ≡ 0 = none_left lines answers phase (λ h.
      later_none (next_line lines answers phase h)
      (sym (ap (λ (b : Bool). if b then Some 0 else option_map suc (next_line lines answers phase h)) (left_open phase h line given shut)) ∙ idle h)) in
      rw (shut, rest) refl
]

-- and only there
pub left_none : (lines : List Line) (answers : List (Option Answer)) (phase h : ℕ) → lines_left lines answers phase ≡ 0
    → next_line lines answers phase h ≡ None
unfolding lines_left next_line
left_none [] answers phase h none = refl
left_none (line ∷ lines) [] phase h none = refl
left_none (line ∷ lines) (given ∷ answers) phase h none = elim (cases_Bool (is_open phase line given)) [
  | inl some ↦
      let one : lines_left lines answers phase + (if true then 1 else 0) ≡ 0 =
      subst (λ (b : Bool). lines_left lines answers phase + (if b then 1 else 0) ≡ 0) some none in
      absurd (omega (arith, one))
  | inr shut ↦
      let rest : lines_left lines answers phase + (if false then 1 else 0) ≡ 0 =
      subst (λ (b : Bool). lines_left lines answers phase + (if b then 1 else 0) ≡ 0) shut none in
      ap (λ (b : Bool). if b then Some 0 else option_map suc (next_line lines answers phase h)) (left_open phase h line given shut)
      ∙ ap (option_map suc) (left_none lines answers phase h (omega (arith, rest)))
]

-- no more are left than there are
pub lines_most : (lines : List Line) (answers : List (Option Answer)) (phase : ℕ) → lines_left lines answers phase ≤ length lines
unfolding lines_left
lines_most [] answers phase = omega arith
lines_most (line ∷ lines) [] phase = omega arith
lines_most (line ∷ lines) (given ∷ answers) phase = one _ _ (is_open phase line given) (lines_most lines answers phase)
  where
    one : (m n : ℕ) (b : Bool) → m ≤ n → m + (if b then 1 else 0) ≤ suc n
    one m n true most = omega (arith, most)
    one m n false most = omega (arith, most)

-- an answer to an open line of the phase
pub left_less : (lines : List Line) (answers : List (Option Answer)) (phase p : ℕ) (line : Line) (answer : Answer) → IsLine lines p line
    → line.phase ≡ phase → slice_get answers p ≡ Some None
    → lines_left lines (slice_set answers p (Some answer)) phase + 1 ≡ lines_left lines answers phase
unfolding lines_left
left_less [] answers phase p line answer is at without = absurd cc
left_less (first ∷ lines) [] phase p line answer is at without = absurd cc
left_less (first ∷ lines) (given ∷ answers) phase zero line answer is at without =
    let same : first ≡ line = cc in
    let none : given ≡ None = cc in
    let was : is_open phase first given ≡ true =
    ap (λ (o : Option Answer). first.phase == phase && is_none o) none
    ∙ ap (λ (b : Bool). b && true) (eq-eqb first.phase phase (ap (λ (l : Line). l.phase) same ∙ at)) in
    let now : is_open phase first (Some answer) ≡ false = never (first.phase == phase) in
    rw (was, now) (omega arith)
  where
    never : (b : Bool) → (b && false) ≡ false
    never true = refl
    never false = refl
left_less (first ∷ lines) (given ∷ answers) phase (suc p) line answer is at without =
    more _ _ _ (left_less lines answers phase p line answer is at without)
  where
    more : (m n k : ℕ) → m + 1 ≡ n → m + k + 1 ≡ n + k
    more m n k same = omega (arith, same)

-- so one at the line that a host is at
pub next_less : (lines : List Line) (answers : List (Option Answer)) (phase h p : ℕ) (answer : Answer) → next_line lines answers phase h ≡ Some p
    → lines_left lines (slice_set answers p (Some answer)) phase + 1 ≡ lines_left lines answers phase
next_less lines answers phase h p answer next =
    let at = next-at lines answers phase h p next in left_less lines answers phase p at.line answer at.is at.phase_is at.without

-- of the first hosts one at most has a line
hosts_none : (test : ℕ → Bool) (n : ℕ) → ((h : ℕ) → h < n → test h ≡ false) → hosts_in test n ≡ 0
unfolding hosts_in
hosts_none test zero none = refl
hosts_none test (suc n) none = rw (none n (omega arith), hosts_none test n (λ h below. none h (omega (arith, below)))) refl

hosts_one : (phase : ℕ) (line : Line) (given : Option Answer) (n : ℕ)
    → hosts_in (λ h. is_left phase h line given) n ≤ (if is_open phase line given then 1 else 0)
unfolding hosts_in
hosts_one phase line given zero = omega arith
hosts_one phase line given (suc n) = elim (cases_eq line.host n) [
  | inl here ↦
      let none : hosts_in (λ h. is_left phase h line given) n ≡ 0 =
      hosts_none (λ h. is_left phase h line given) n (λ h below.
      left_other phase h line given (λ same. absurd (omega (arith, below, same, here)))) in
      rw (none, left_own phase n line given here) (omega arith)
  | inr other ↦ let few = hosts_one phase line given n in rw (left_other phase n line given other) (omega (arith, few))
]

-- hosts of which one thing or another is so are at most as many as both together
hosts_both : (one other either : ℕ → Bool) (n : ℕ) → ((h : ℕ) → either h ≡ (if one h then true else other h))
    → hosts_in either n ≤ hosts_in other n + hosts_in one n
unfolding hosts_in
hosts_both one other either zero same = omega arith
hosts_both one other either (suc n) same =
    sum _ _ _ _ _ _ (hosts_both one other either n same) (rw (same n) (pick (one n) (other n)))
  where
    pick : (a b : Bool) → (if (if a then true else b) then 1 else 0) ≤ (if b then 1 else 0) + (if a then 1 else 0)
    pick true true = omega arith
    pick true false = omega arith
    pick false b = omega arith

    sum : (e o a x y z : ℕ) → e ≤ o + a → x ≤ y + z → e + x ≤ o + y + (a + z)
    sum e o a x y z few more = omega (arith, few, more)

-- no more hosts are at a line than lines are left
pub hosts_at_lines : (lines : List Line) (answers : List (Option Answer)) (phase n : ℕ)
    → hosts_in (λ h. is_some (next_line lines answers phase h)) n ≤ lines_left lines answers phase
unfolding lines_left next_line
hosts_at_lines [] answers phase n = let none = hosts_none (λ h. false) n (λ h below. refl) in omega (arith, none)
hosts_at_lines (line ∷ lines) [] phase n = let none = hosts_none (λ h. false) n (λ h below. refl) in omega (arith, none)
hosts_at_lines (line ∷ lines) (given ∷ answers) phase n =
    let both = hosts_both (λ h. is_left phase h line given) (λ h. is_some (next_line lines answers phase h))
    (λ h. is_some (if is_left phase h line given then Some 0 else option_map suc (next_line lines answers phase h))) n
    (λ h. pick (is_left phase h line given) (next_line lines answers phase h)) in
    let one = hosts_one phase line given n in
    let rest = hosts_at_lines lines answers phase n in
    sum _ _ _ _ _ both one rest
  where
    pick : (b : Bool) (o : Option ℕ) → is_some (if b then Some 0 else option_map suc o) ≡ (if b then true else is_some o)
    pick true o = refl
    pick false o = later_same o

    sum : (e o a x y : ℕ) → e ≤ o + a → a ≤ x → o ≤ y → e ≤ y + x
    sum e o a x y few one rest = omega (arith, few, one, rest)

hosts_fewer : (some all : ℕ → Bool) (n : ℕ) → ((h : ℕ) → h < n → some h ≡ true → all h ≡ true) → hosts_in some n ≤ hosts_in all n
unfolding hosts_in
hosts_fewer some all zero so = omega arith
hosts_fewer some all (suc n) so =
    sum _ _ _ _ (hosts_fewer some all n (λ h below. so h (omega (arith, below)))) (pick (some n) (all n) (so n (omega arith)))
  where
    pick : (a b : Bool) → (a ≡ true → b ≡ true) → (if a then 1 else 0) ≤ (if b then 1 else 0)
    pick true b so = rw (so refl) (omega arith)
    pick false b so = omega arith

    sum : (a b x y : ℕ) → a ≤ b → x ≤ y → a + x ≤ b + y
    sum a b x y few more = omega (arith, few, more)

-- so hosts that are at a line are no more
pub busy_few : (lines : List Line) (answers : List (Option Answer)) (phase n : ℕ) (busy : ℕ → Bool)
    → ((h : ℕ) → h < n → busy h ≡ true → is_some (next_line lines answers phase h) ≡ true) → hosts_in busy n ≤ lines_left lines answers phase
busy_few lines answers phase n busy at =
    let most = hosts_at_lines lines answers phase n in
    let few = hosts_fewer busy (λ h. is_some (next_line lines answers phase h)) n at in omega (arith, most, few)

-- the lines behind a position, and the one at it
pub left_at : (lines : List Line) (answers : List (Option Answer)) (phase i : ℕ) (line : Line) → i < length lines → i < length answers
    → lines_left (drop i lines) (drop i answers) phase
    ≡ lines_left (drop (i + 1) lines) (drop (i + 1) answers) phase + (if is_open phase (get_or lines i line) (get_or answers i None) then 1 else 0)
unfolding lines_left
left_at lines answers phase i line within long =
    ap (λ (ls : List Line). lines_left ls (drop i answers) phase) (drop_more lines i line within)
    ∙ ap (λ (given : List (Option Answer)). lines_left (get_or lines i line ∷ drop (i + 1) lines) given phase) (drop_more answers i None long)

pub left_end : (lines : List Line) (answers : List (Option Answer)) (phase i : ℕ) → length lines ≤ i
    → lines_left (drop i lines) (drop i answers) phase ≡ 0
unfolding lines_left
left_end lines answers phase i past = ap (λ (ls : List Line). lines_left ls (drop i answers) phase) (drop_all i lines past)

-- they are counted one after the other
pub left_more : (lines : List Line) (answers : List (Option Answer)) (phase i : ℕ) (line : Line) (left : ℕ) (is_here : Bool) → i < length lines
    → length answers ≡ length lines → is_open phase (get_or lines i line) (get_or answers i None) ≡ is_here
    → left + lines_left (drop i lines) (drop i answers) phase ≡ lines_left lines answers phase
    → left + (if is_here then 1 else 0) + lines_left (drop (i + 1) lines) (drop (i + 1) answers) phase ≡ lines_left lines answers phase
left_more lines answers phase i line left is_here within long is sum =
    let at = left_at lines answers phase i line within (omega (arith, within, long)) in
    let here = ap {B = ℕ} (λ (b : Bool). if b then 1 else 0) is in
    omega (arith, at, here, sum)
