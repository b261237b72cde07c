-- The number of turns that are left, over each call of a cluster.
use Rattle.std.proofs.Common.{◌≡◌, ◌↔◌, ◌*◌, ◌<◌, ◌≤◌, ◌^◌, ◌∙◌, ℕ, Bool, true, false, Option, Some, None, IsSome, is_some, length, refl, ap, sym, subst, inl, inr, arith}
use Rattle.std.proofs.lemmas.Bool.{cases_Bool, cases_lt}
use Rattle.vol_base.specs.declared.plain.NoMemory.{NoMemory}
use Rattle.std.specs.Prelude.{Err, IfNone, IfOk, IfSome, IsErr, Ok, Result, if◌then◌else◌}
use Rattle.vol_base.specs.Turned.{Lowers, Stays}
use Rattle.vol_base.specs.declared.answer.Turn.{Turn}
use Rattle.vol_base.specs.declared.answer.Turn.TheVariants.{Answered, Idle, Moved, Work}
use Rattle.vol_base.specs.declared.block.Block.{Block}
use Rattle.host_runs.specs.NextLines.{line_at}
use Rattle.cluster.specs.Agreements.{IsSound, IsStanding}
use Rattle.cluster.specs.Budgets.{CanCount, CanEnd, CanGoOn, IsBudget, IsMeasured, counted, supplied_in, used_at, with_turn}
use Rattle.cluster.specs.Parts.{asked_at, asked_of}
use Rattle.cluster.specs.PlanTurns.{HasEnded, HasGoneOn, IsSoonerFor, IsSuppliedTurns, lines_left_of}
use Rattle.cluster.specs.Runs.{IsIdle, IsStill}
use Rattle.cluster.specs.Views.{BudgetView, ClusterView, PartsView}
use Rattle.cluster.specs.Waits.{Tells, has_line, line_now, waited_for}
use Rattle.cluster.specs.laws.BudgetLaws.{budget_ends, budget_goes, budget_none, budget_phase, used_limit}
use Rattle.cluster.specs.laws.LinesLeftLaws.{left_none, none_left}
use Rattle.cluster.specs.laws.PartsLaws.{line_nobody}
use Rattle.cluster.specs.laws.SoonerLaws.{supplied_on, supplied_still}

-- a host at no line waits for nothing
none_asked : (v : PartsView) (h : ℕ) → line_now v h ≡ None → asked_of v h ≡ None
none_asked v h none = ap (λ (p : Option ℕ). asked_at v h (line_at v.workload.lines p)) none

some_none : {A : Type 0} (o : Option A) → IsSome o → o ≡ None → ⊥
some_none None some none = absurd cc
some_none (Some a) some none = absurd cc

no_line : (o : Option ℕ) → (is_some o ≡ false) ↔ (o ≡ None)
no_line None = (λ none. refl, λ none. refl)
no_line (Some p) = (λ none. absurd cc, λ none. absurd cc)

pub none_is : (v : PartsView) (h : ℕ) → (has_line v h ≡ false) ↔ (line_now v h ≡ None)
none_is v h = no_line (line_now v h)

-- what a turn was is told by the state before it
pub idle_told : (v : PartsView) (h : ℕ) (turn : Turn) → Tells v h turn → (turn ≡ Idle) ↔ (has_line v h ≡ false)
idle_told v h Moved tells = (λ is. absurd cc, λ none. absurd (some_none (line_now v h) tells.at ((none_is v h).0 none)))
idle_told v h (Answered answer) tells = (λ is. absurd cc, λ none. absurd (some_none (line_now v h) tells.at ((none_is v h).0 none)))
idle_told v h (Work block) tells = (
  (λ is. absurd cc),
  (λ none. let both : Some block ≡ None = sym tells ∙ none_asked v h ((none_is v h).0 none) in absurd cc),
)
idle_told v h Idle tells = (λ is. (none_is v h).1 tells, λ none. refl)

pub work_told : (v : PartsView) (h : ℕ) (turn : Turn) → Tells v h turn → (block : Block) → (turn ≡ Work block) ↔ (asked_of v h ≡ Some block)
work_told v h Moved tells block = (λ is. absurd cc, λ asks. let both : None ≡ Some block = sym tells.asks ∙ asks in absurd cc)
work_told v h (Answered answer) tells block = (λ is. absurd cc, λ asks. let both : None ≡ Some block = sym tells.asks ∙ asks in absurd cc)
work_told v h (Work other) tells block =
    (λ is. tells ∙ (let same : other ≡ block = cc in ap Some same), λ asks. let both : Some other ≡ Some block = sym tells ∙ asks in cc)
work_told v h Idle tells block = (
  (λ is. absurd cc),
  (λ asks. let both : None ≡ Some block = sym (none_asked v h tells) ∙ asks in absurd cc),
)

-- until memory is refused the budget measures the cluster
pub measured_by : (u : ClusterView) → IsStanding u.parts → IsBudget u.parts u.budget.used u.budget.left → IsMeasured u
measured_by u standing budget = record {
  none = budget_none u.parts u.budget.used u.budget.left budget standing;
  live = λ live. budget;
}

module _ (v : ClusterView) (h : ℕ) (u : PartsView) (budget : IsBudget v.parts v.budget.used v.budget.left) (host : h < v.parts.workload.geometry.hosts)
  where
    abbrev used : ℕ
    used = used_at v.budget.used h

    within : h < length v.budget.used
    within = let long = budget.are.long in omega (arith, host, long)

    used_few : used < 2 ^ 28
    used_few = let limit = used_limit v.parts h u v.budget.used v.budget.left host budget in omega (arith, limit)

    can_go : HasGoneOn v.parts h u → IsStanding u → CanGoOn v.budget h
    can_go on standing =
        record { host = within; few = used_few; some = (budget_goes v.parts h u v.budget.used v.budget.left host budget on standing).0 }

    can_end : HasEnded v.parts h u → IsStanding u → CanEnd v.budget h
    can_end ended standing =
        let ends = budget_ends v.parts h u v.budget.used v.budget.left host budget ended standing in
        record { host = within; few = used_few; some = ends.1 }

-- a host that is at a line is one of the volume
host_at_line : (v : PartsView) (h : ℕ) → IsSound v → IsSome (line_now v h) → h < v.workload.geometry.hosts
host_at_line v h sound at = elim (cases_lt h v.workload.geometry.hosts) [
  | inl below ↦ below
  | inr past ↦ absurd (some_none (line_now v h) at (sym (line_nobody v h sound past)))
]

-- over a turn
module _ (v : ClusterView) (h : ℕ) (turn : Turn) (u : PartsView) (sound : IsSound v.parts) (live : v.spent ≡ false) (measured : IsMeasured v)
    (tells : Tells v.parts h turn) (sooner : IsSoonerFor v.parts h turn u) (standing : IsStanding u) where
  pub can_count : CanCount v.budget h turn
  can_count = by turn tells sooner
    where
      by : (turn : Turn) → Tells v.parts h turn → IsSoonerFor v.parts h turn u → CanCount v.budget h turn
      by Moved tells sooner = can_go v h u (measured.live live) (host_at_line v.parts h sound tells.at) sooner standing
      by (Answered answer) tells sooner = can_end v h u (measured.live live) (host_at_line v.parts h sound tells.at) sooner standing
      by (Work block) tells sooner = tt
      by Idle tells sooner = tt

  budget_counted : IsBudget u (counted v.budget h turn).used (counted v.budget h turn).left
  budget_counted = by turn tells sooner
    where
      budget : IsBudget v.parts v.budget.used v.budget.left
      budget = measured.live live

      by : (turn : Turn) → Tells v.parts h turn → IsSoonerFor v.parts h turn u
          → IsBudget u (counted v.budget h turn).used (counted v.budget h turn).left
      by Moved tells sooner =
          (budget_goes v.parts h u v.budget.used v.budget.left (host_at_line v.parts h sound tells.at) budget sooner standing).1
      by (Answered answer) tells sooner =
          (budget_ends v.parts h u v.budget.used v.budget.left (host_at_line v.parts h sound tells.at) budget sooner standing).2
      by (Work block) tells sooner = subst (λ (p : PartsView). IsBudget p v.budget.used v.budget.left) (sym sooner) budget
      by Idle tells sooner = subst (λ (p : PartsView). IsBudget p v.budget.used v.budget.left) (sym sooner) budget

  pub measured_turn : IsMeasured (record v { parts = u; budget = counted v.budget h turn })
  measured_turn = measured_by (record v { parts = u; budget = counted v.budget h turn }) standing budget_counted

  pub lowers_turn : Lowers turn v.budget.left (counted v.budget h turn).left
  lowers_turn = by turn can_count
    where
      by : (turn : Turn) → CanCount v.budget h turn → Lowers turn v.budget.left (counted v.budget h turn).left
      by Moved can = let some = can.some in omega (arith, some)
      by (Answered answer) can = let some = can.some in let few = can.few in omega (arith, some, few)
      by (Work block) can = tt
      by Idle can = tt

  pub stays_turn : Stays turn v (record v { parts = u; budget = counted v.budget h turn })
  stays_turn = by turn sooner
    where
      by : (turn : Turn) → IsSoonerFor v.parts h turn u → Stays turn v (record v { parts = u; budget = counted v.budget h turn })
      by Moved sooner = tt
      by (Answered answer) sooner = tt
      by (Work block) sooner = ap (λ (p : PartsView). record v { parts = p }) sooner
      by Idle sooner = ap (λ (p : PartsView). record v { parts = p }) sooner

-- over one that is refused memory
pub measured_still : (v u : ClusterView) → IsStill v.parts u.parts → u.budget ≡ v.budget → u.spent ≡ true → IsMeasured v → IsMeasured u
measured_still v u still same spent measured = record {
  none =
      rw (ap (λ (b : BudgetView). b.left) same)
      ((λ none h. line_same h ∙ measured.none.0 none h), (λ idle. measured.none.1 (λ h. sym (line_same h) ∙ idle h)));
  live = λ live. let both : true ≡ false = sym spent ∙ live in absurd cc;
}
  where
    line_same : (h : ℕ) → line_now u.parts h ≡ line_now v.parts h
    line_same h = rw (still.workload, still.ledger, still.phase) refl

-- a value that is not there
none_of : {A : Type 0} (o : Option A) → is_some o ≡ false → o ≡ None
none_of None none = refl
none_of (Some a) none = absurd cc

-- over a digest that is handed in, where the host waits for one or not
module _ (v : ClusterView) (h : ℕ) (u : PartsView) (waits : Bool) (sound : IsSound v.parts) (live : v.spent ≡ false) (measured : IsMeasured v)
    (turns : IsSuppliedTurns v.parts h u) (standing : IsStanding u) (asks : is_some (asked_of v.parts h) ≡ waits) where
  abbrev behind : ClusterView
  behind = record v { parts = u; budget = supplied_in v.budget h waits }

  module _ (is : waits ≡ true) where
    on : HasGoneOn v.parts h u
    on = (supplied_on v.parts u h turns (asks ∙ is)).1

    host : h < v.parts.workload.geometry.hosts
    host = host_at_line v.parts h sound (by (line_now v.parts h) refl)
      where
        by : (o : Option ℕ) → line_now v.parts h ≡ o → IsSome (line_now v.parts h)
        by None none = absurd (some_none (asked_of v.parts h) (asks ∙ is) (none_asked v.parts h none))
        by (Some p) some = ap is_some some

    pub can_supply : CanGoOn v.budget h
    can_supply = can_go v h u (measured.live live) host on standing

    budget_now : IsBudget u (with_turn v.budget h).used (with_turn v.budget h).left
    budget_now = (budget_goes v.parts h u v.budget.used v.budget.left host (measured.live live) on standing).1

    lower : (with_turn v.budget h).left < v.budget.left
    lower = let some = can_supply.some in omega (arith, some)

    -- it waits for none now
    none_now : asked_of u h ≡ None
    none_now = (supplied_on v.parts u h turns (asks ∙ is)).0

  still : waits ≡ false → u ≡ v.parts
  still none = supplied_still v.parts u h turns (none_of (asked_of v.parts h) (asks ∙ none))

  pub measured_supply : IsMeasured behind
  measured_supply = elim (cases_Bool waits) [
    | inl is ↦ rw is (measured_by (record v { parts = u; budget = with_turn v.budget h }) standing (budget_now is))
    | inr none ↦ rw none (subst (λ (p : PartsView). IsMeasured (record v { parts = p })) (sym (still none)) measured)
  ]

  waits_now : (waited_for v h) ≡ asked_of v.parts h
  waits_now = ap (λ (b : Bool). if b then None else asked_of v.parts h) live

  pub lowers_supply : IfSome (waited_for v h) (λ block. behind.budget.left < v.budget.left)
  lowers_supply = by (waited_for v h) (ap is_some waits_now ∙ asks)
    where
      by : (o : Option Block) → is_some o ≡ waits → IfSome o (λ block. behind.budget.left < v.budget.left)
      by None same = tt
      by (Some block) same = rw (sym same) (lower (sym same))

  pub stays_supply : IfNone (waited_for v h) (behind ≡ v)
  stays_supply = by (waited_for v h) (ap is_some waits_now ∙ asks)
    where
      by : (o : Option Block) → is_some o ≡ waits → IfNone o (behind ≡ v)
      by None same = rw (sym same) (ap (λ (p : PartsView). record v { parts = p }) (still (sym same)))
      by (Some block) same = tt

  pub none_supply : waited_for behind h ≡ None
  none_supply = ap (λ (b : Bool). if b then None else asked_of u h) live ∙ elim (cases_Bool waits) [
    | inl is ↦ none_now is
    | inr none ↦ ap (λ (p : PartsView). asked_of p h) (still none) ∙ none_of (asked_of v.parts h) (asks ∙ none)
  ]

-- over the beginning of a phase
module _ (v : ClusterView) (u : ClusterView) where
  empty_left : (n : ℕ) → (n * 2 ^ 28 ≡ 0) ↔ (n ≡ 0)
  empty_left n = (λ none. omega (arith, none), λ none. omega (arith, none))

  pub measured_phase : IsMeasured v → (v.spent ≡ false → IsStanding v.parts) → IsIdle v.parts → u.parts.workload ≡ v.parts.workload
      → u.parts.seats ≡ v.parts.seats → u.spent ≡ v.spent → u.budget ≡ record v.budget { left = lines_left_of u.parts * 2 ^ 28 } → IsMeasured u
  measured_phase measured standing idle workload seats spent budget = record {
    none = rw (ap (λ (b : BudgetView). b.left) budget) (
      (λ none h. left_none u.parts.workload.lines u.parts.ledger.answers u.parts.phase h ((empty_left (lines_left_of u.parts)).0 none)),
      (λ rests. (empty_left (lines_left_of u.parts)).1 (none_left u.parts.workload.lines u.parts.ledger.answers u.parts.phase rests)),
    );
    live = λ live.
        rw budget
        (budget_phase v.parts u.parts v.budget.used v.budget.left (measured.live (sym spent ∙ live)) (standing (sym spent ∙ live)) idle workload
        seats);
  }

-- what a turn was, of its result
pub tells_idle : (v : PartsView) (h : ℕ) (result : Result Turn NoMemory) → IfOk result (Tells v h)
    → IfOk result (λ turn. (turn ≡ Idle) ↔ (has_line v h ≡ false))
tells_idle v h (Ok turn) tells = idle_told v h turn tells
tells_idle v h (Err refused) tells = tt

pub tells_work : (v : ClusterView) (h : ℕ) (result : Result Turn NoMemory) → IfOk result (Tells v.parts h) → (v.spent ≡ true → IsErr result)
    → IfOk result (λ turn. (block : Block) → (turn ≡ Work block) ↔ (waited_for v h ≡ Some block))
tells_work v h (Ok turn) tells ever = λ block. elim (cases_Bool v.spent) [
  | inl spent ↦ let no = ever spent in absurd cc
  | inr live ↦
      let told = work_told v.parts h turn tells block in
      let same : waited_for v h ≡ asked_of v.parts h = ap (λ (b : Bool). if b then None else asked_of v.parts h) live in
      (λ is. same ∙ told.0 is, λ asks. told.1 (sym same ∙ asks))
]
tells_work v h (Err refused) tells ever = tt

-- a number that is none has no command
pub nobody_has : (v : PartsView) → IsSound v → (h : ℕ) → v.workload.geometry.hosts ≤ h → has_line v h ≡ false
nobody_has v sound h past = (none_is v h).1 (sym (line_nobody v h sound past))

-- once memory was refused no host waits
pub spent_waits : (v : ClusterView) (h : ℕ) → v.spent ≡ true → waited_for v h ≡ None
spent_waits v h spent = ap (λ (b : Bool). if b then None else asked_of v.parts h) spent

pub same_waits : (v : ClusterView) (h : ℕ) → IfNone (waited_for v h) (v ≡ v)
same_waits v h = by (waited_for v h)
  where
    by : (o : Option Block) → IfNone o (v ≡ v)
    by None = refl
    by (Some block) = tt

-- the turns left in the words of hosts that have a command
pub none_have : (v : PartsView) (left : ℕ) → (left ≡ 0) ↔ IsIdle v → (left ≡ 0) ↔ ((h : ℕ) → has_line v h ≡ false)
none_have v left none = (λ is h. (none_is v h).1 (none.0 is h), λ idle. none.1 (λ h. (none_is v h).0 (idle h)))
