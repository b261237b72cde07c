-- The number of turns left of a phase: it begins as 2 ^ 28 for each line, falls by one where a command begins or goes on, and by the rest of
-- the line's turns where it is answered; and it is 0 exactly where no host is at a line.
use Rattle.std.proofs.Common.{◌≡◌, ◌≢◌, ◌+◌, ◌-◌, ◌*◌, ◌<◌, ◌≤◌, ◌^◌, ◌↔◌, ◌∙◌, ℕ, zero, suc, Bool, true, false, List, [], ◌∷◌, Option, Some, None, IsSome, is_some, length, slice_set, refl, ap, sym, subst, inl, inr, arith, get_or-set_other, get_or-set_same}
use Rattle.std.specs.Prelude.{if◌then◌else◌}
use Rattle.std.specs.List.{sum}
use Rattle.std.proofs.lemmas.Bool.{cases_eq}
use Rattle.std.proofs.lemmas.List.{length-set}
use Rattle.std.proofs.lemmas.List.Sums.{sum_by-cons, sum_by-set}
use Rattle.workload.specs.declared.line.Line.{Line}
use Rattle.workload.specs.declared.line.Workload.{Workload}
use Rattle.host_runs.specs.NextLines.{line_at, next_line}
use Rattle.cluster.specs.Agreements.{IsStanding}
use Rattle.cluster.specs.Budgets.{AreUsed, IsBudget, used_at}
use Rattle.cluster.specs.LinesLeft.{hosts_in}
use Rattle.cluster.specs.PlanTurns.{HasEnded, HasGoneOn, LeavesTurns, lines_left_of, seat_left, seat_left_of, turn_limit, turn_limit_of}
use Rattle.cluster.specs.Views.{PartsView, seat_at}
use Rattle.cluster.specs.declared.plan.Plan.{Plan}
use Rattle.cluster.specs.laws.LinesLeftLaws.{busy_few, left_none, lines_most, none_left}

-- the first host apart
hosts_first : (test : ℕ → Bool) (n : ℕ) → hosts_in test (suc n) ≡ hosts_in (λ h. test (suc h)) n + (if test 0 then 1 else 0)
unfolding hosts_in
hosts_first test zero = refl
hosts_first test (suc n) = swap _ _ _ _ (hosts_first test n)
  where
    swap : (all rest first last : ℕ) → all ≡ rest + first → all + last ≡ rest + last + first
    swap all rest first last same = omega (arith, same)

-- numbers of hosts that are busy, each below 2 ^ 28
pub sum_used : (busy : ℕ → Bool) (used : List ℕ)
    → ((h : ℕ) → h < length used → used_at used h ≤ (if busy h then 2 ^ 28 - 1 else 0)) → sum used ≤ hosts_in busy (length used) * (2 ^ 28 - 1)
sum_used busy [] few = omega arith
sum_used busy (x ∷ used) few =
    let rest = sum_used (λ h. busy (suc h)) used (λ h below. few (suc h) (omega (arith, below))) in
    more (hosts_in (λ h. busy (suc h)) (length used)) _ _ _ (busy 0) rest (few 0 (omega arith)) (sum_by-cons (λ (n : ℕ). n) x used)
    (hosts_first busy (length used))
  where
    more : (n s t m : ℕ) (b : Bool) → s ≤ n * (2 ^ 28 - 1) → x ≤ (if b then 2 ^ 28 - 1 else 0) → t ≡ x + s → m ≡ n + (if b then 1 else 0)
        → t ≤ m * (2 ^ 28 - 1)
    more n s t m true rest first all hosts = omega (arith, rest, first, all, hosts)
    more n s t m false rest first all hosts = omega (arith, rest, first, all, hosts)

no_line : (lines : List Line) (o : Option ℕ) → IsSome (line_at lines o) → is_some o ≡ true
no_line lines None some = absurd cc
no_line lines (Some p) some = refl

-- the turns that are used are fewer than all of the lines that are left
module _ (v : PartsView) (used : List ℕ) (are : AreUsed v used) (standing : IsStanding v) where
  used_few : (h : ℕ) → h < length used → used_at used h ≤ (if is_some (seat_at v h).plan then 2 ^ 28 - 1 else 0)
  used_few h below = cases (seat_at v h).plan refl
    where
      host : h < v.workload.geometry.hosts
      host = let long = are.long in omega (arith, below, long)

      cases : (plan : Option Plan) → (seat_at v h).plan ≡ plan → used_at used h ≤ (if is_some plan then 2 ^ 28 - 1 else 0)
      cases None is = let none = are.free h host is in omega (arith, none)
      cases (Some plan) is = let few = are.within h host in omega (arith, few)

  pub sum_few : sum used ≤ lines_left_of v * (2 ^ 28 - 1)
  sum_few =
      let hosts = busy_few v.workload.lines v.ledger.answers v.phase (length used) (λ h. is_some (seat_at v h).plan)
      (λ h below busy. no_line v.workload.lines (next_line v.workload.lines v.ledger.answers v.phase h)
      (standing.busy h (let long = are.long in omega (arith, below, long)) busy)) in
      let most = sum_used (λ h. is_some (seat_at v h).plan) used used_few in omega (arith, hosts, most)

-- so the budget is 0 exactly where no line is left
module _ (v : PartsView) (used : List ℕ) (left : ℕ) (budget : IsBudget v used left) (standing : IsStanding v) where
  pub budget_most : lines_left_of v ≤ left
  budget_most =
      let few = sum_few v used budget.are standing in
      let is = budget.is in omega (arith, few, is)

  pub budget_none : (left ≡ 0) ↔ ((h : ℕ) → next_line v.workload.lines v.ledger.answers v.phase h ≡ None)
  budget_none = (
    (λ none h. left_none v.workload.lines v.ledger.answers v.phase h (let most = budget_most in omega (arith, none, most))),
    (λ idle.
        let none = none_left v.workload.lines v.ledger.answers v.phase idle in
        let is = budget.is in omega (arith, none, is)),
  )

  -- and it stays far below 2 ^ 64
  pub budget_fits : length v.workload.lines < 2 ^ 32 → left < 2 ^ 60
  budget_fits few =
      let most = lines_most v.workload.lines v.ledger.answers v.phase in
      let is = budget.is in omega (arith, few, most, is)

-- where no command is under way
all_zero : (used : List ℕ) → ((h : ℕ) → h < length used → used_at used h ≡ 0) → sum used ≡ 0
all_zero [] zeros = refl
all_zero (x ∷ used) zeros =
    let rest = all_zero used (λ h below. zeros (suc h) (omega (arith, below))) in
    let first = zeros 0 (omega arith) in
    let all = sum_by-cons (λ (n : ℕ). n) x used in omega (arith, rest, first, all)

pub budget_begins : (v : PartsView) (used : List ℕ) → length used ≡ v.workload.geometry.hosts
    → ((h : ℕ) → h < v.workload.geometry.hosts → (seat_at v h).plan ≡ None)
    → ((h : ℕ) → h < v.workload.geometry.hosts → used_at used h ≡ 0) → IsBudget v used (lines_left_of v * 2 ^ 28)
budget_begins v used long resting zeros = record {
  are = record {
    long = long;
    free = λ h host none. zeros h host;
    within = λ h host.
        subst (λ (p : Option Plan). used_at used h + seat_left v.world v.cache (seat_at v h).carried p < 2 ^ 28) (sym (resting h host))
        (let none = zeros h host in omega (arith, none));
  };
  is = let none = all_zero used (λ h below. zeros h (omega (arith, below, long))) in omega (arith, none);
}

-- the next phase begins where no host is at a line
pub idle_rests : (v : PartsView) (h : ℕ) → IsStanding v → h < v.workload.geometry.hosts
    → next_line v.workload.lines v.ledger.answers v.phase h ≡ None → (seat_at v h).plan ≡ None
idle_rests v h standing host idle = cases (seat_at v h).plan refl
  where
    none_some : (o : Option ℕ) → o ≡ None → is_some o ≡ true → ⊥
    none_some None none some = absurd cc
    none_some (Some p) none some = absurd cc

    cases : (plan : Option Plan) → (seat_at v h).plan ≡ plan → plan ≡ None
    cases None is = refl
    cases (Some plan) is =
        absurd (none_some (next_line v.workload.lines v.ledger.answers v.phase h) idle
        (no_line v.workload.lines (next_line v.workload.lines v.ledger.answers v.phase h) (standing.busy h host (ap is_some is))))

pub budget_phase : (v u : PartsView) (used : List ℕ) (left : ℕ) → IsBudget v used left → IsStanding v
    → ((h : ℕ) → next_line v.workload.lines v.ledger.answers v.phase h ≡ None) → u.workload ≡ v.workload → u.seats ≡ v.seats
    → IsBudget u used (lines_left_of u * 2 ^ 28)
budget_phase v u used left budget standing idle workload seats =
    budget_begins u used (budget.are.long ∙ sym (ap (λ (w : Workload). w.geometry.hosts) workload))
    (λ h host. rw (seats, workload) (rests h (before h host)))
    (λ h host. budget.are.free h (before h host) (rests h (before h host)))
  where
    before : (h : ℕ) → h < u.workload.geometry.hosts → h < v.workload.geometry.hosts
    before h host = subst (λ (w : Workload). h < w.geometry.hosts) workload host

    rests : (h : ℕ) → h < v.workload.geometry.hosts → (seat_at v h).plan ≡ None
    rests h host = idle_rests v h standing host (idle h)

-- behind a turn of a host
module _ (v : PartsView) (h : ℕ) (u : PartsView) (used : List ℕ) (left : ℕ) (host : h < v.workload.geometry.hosts) (budget : IsBudget v used left) where
  abbrev now : ℕ → List ℕ
  now n = slice_set used h n

  within_list : h < length used
  within_list = let long = budget.are.long in omega (arith, host, long)

  now_here : (n : ℕ) → used_at (now n) h ≡ n
  now_here n = get_or-set_same used h n 0 within_list

  now_other : (n k : ℕ) → k ≢ h → used_at (now n) k ≡ used_at used k
  now_other n k other = get_or-set_other used h k n 0 other

  sum_now : (n : ℕ) → sum (now n) + used_at used h ≡ sum used + n
  sum_now n = sum_by-set (λ (n : ℕ). n) used h n 0 within_list

  -- the turns of a command that begins or goes on are fewer than 2 ^ 28, with the one that it used
  pub used_limit : used_at used h + turn_limit_of v h < 2 ^ 28
  used_limit = cases (seat_at v h).plan refl (budget.are.within h host)
    where
      cases : (plan : Option Plan) → (seat_at v h).plan ≡ plan → used_at used h + seat_left v.world v.cache (seat_at v h).carried plan < 2 ^ 28
          → used_at used h + turn_limit v.world v.cache (seat_at v h).carried plan < 2 ^ 28
      cases None is few = let none = budget.are.free h host is in omega (arith, none)
      cases (Some plan) is few = few

  module _ (others : LeavesTurns v h u) (n : ℕ) (free : (seat_at u h).plan ≡ None → n ≡ 0) (within : n + seat_left_of u h < 2 ^ 28) where
    host_before : (k : ℕ) → k < u.workload.geometry.hosts → k < v.workload.geometry.hosts
    host_before k below = subst (λ (w : Workload). k < w.geometry.hosts) others.workload below

    used_now : AreUsed u (now n)
    used_now = record {
      long = length-set used h n ∙ budget.are.long ∙ sym (ap (λ (w : Workload). w.geometry.hosts) others.workload);
      free = λ k below none. elim (cases_eq k h) [
        | inl same ↦ rw same (now_here n ∙ free (subst (λ (x : ℕ). (seat_at u x).plan ≡ None) same none))
        | inr other ↦ now_other n k other ∙ budget.are.free k (host_before k below) (sym (others.plan k other) ∙ none)
      ];
      within = λ k below. elim (cases_eq k h) [
        | inl same ↦ rw (same, now_here n) within
        | inr other ↦
            let before = budget.are.within k (host_before k below) in
            let few = others.left k (host_before k below) other in
            let same = now_other n k other in omega (arith, before, few, same)
      ];
    }

  -- a command begins, or goes on
  pub budget_goes : HasGoneOn v h u → IsStanding u → (0 < left) × IsBudget u (now (used_at used h + 1)) (left - 1)
  budget_goes on standing =
      let limit = used_limit in
      let sooner = on.sooner in
      let used' = used_now on.others (used_at used h + 1) (λ none.
      absurd (some_none (seat_at u h).plan on.busy none)) (omega (arith, limit, sooner)) in
      let few = sum_few u (now (used_at used h + 1)) used' standing in
      let all = sum_now (used_at used h + 1) in
      let is = budget.is in
      let lines = on.lines in
      (omega (arith, few, all, is, lines), record { are = used'; is = omega (arith, few, all, is, lines) })
    where
      some_none : (plan : Option Plan) → is_some plan ≡ true → plan ≡ None → ⊥
      some_none None busy none = absurd cc
      some_none (Some plan) busy none = absurd cc

  -- it is answered
  pub budget_ends : HasEnded v h u → IsStanding u
      → (used_at used h < 2 ^ 28) × (2 ^ 28 - used_at used h ≤ left) × IsBudget u (now 0) (left - (2 ^ 28 - used_at used h))
  budget_ends ended standing =
      let limit = used_limit in
      let used' = used_now ended.others 0 (λ none. refl)
      (subst (λ (p : Option Plan). 0 + seat_left u.world u.cache (seat_at u h).carried p < 2 ^ 28) (sym ended.free) (omega arith)) in
      let few = sum_few u (now 0) used' standing in
      let all = sum_now 0 in
      let is = budget.is in
      let lines = ended.lines in (
        omega (arith, limit),
        omega (arith, few, all, is, lines, limit),
        record { are = used'; is = omega (arith, few, all, is, lines, limit) },
      )
