-- The order in which a search tries groups: each is tried, and none twice.
use Rattle.std.proofs.Common.{◌≡◌, ◌≢◌, ◌⊎◌, ◌+◌, ◌-◌, ◌<◌, ◌≤◌, ℕ, zero, suc, refl, ap, ◌∙◌, inl, inr, arith, length}
use Rattle.std.proofs.lemmas.Bool.{cases_lt, le-ltb, lt-ltb}
use Rattle.vol_layout.specs.declared.kind.Resource.{Resource}
use Rattle.vol_layout.specs.declared.kind.Resource.TheVariants.{Group}
use Rattle.plan_parts.specs.Searches.{group_at, run}
use Rattle.plan_parts.specs.TakenLocks.{IsTaken}

-- the group is the number before the groups' end, or past it by their number
group_cases : (first k groups : ℕ)
    → ((first + k < groups) × (group_at first k groups ≡ first + k))
    ⊎ ((groups ≤ first + k) × (group_at first k groups ≡ first + k - groups))
group_cases first k groups =
    elim (cases_lt (first + k) groups) [
      | inl below ↦ inl (below, rw (lt-ltb (first + k) groups below) refl)
      | inr past ↦ inr (past, rw (le-ltb (first + k) groups past) refl)
    ]

pub group_below : (first k groups : ℕ) → first < groups → k < groups → group_at first k groups < groups
group_below first k groups start below =
    elim (group_cases first k groups) [
      | inl here ↦ omega (arith, here.0, here.1)
      | inr round ↦ omega (arith, round.0, round.1, start, below)
    ]

-- of two tries one is of another group
pub group_apart : (first j k groups : ℕ) → first < groups → j < k → k < groups → group_at first j groups ≢ group_at first k groups
group_apart first j k groups start before below same =
    elim (group_cases first j groups) [
      | inl one ↦ elim (group_cases first k groups) [
        | inl two ↦ absurd (omega (arith, one.1, two.1, same, before))
        | inr two ↦ absurd (omega (arith, one.0, one.1, two.0, two.1, same, start, before, below))
      ]
      | inr one ↦ elim (group_cases first k groups) [
        | inl two ↦ absurd (omega (arith, one.0, one.1, two.0, two.1, same, start, before, below))
        | inr two ↦ absurd (omega (arith, one.0, one.1, two.0, two.1, same, before))
      ]
    ]

-- each group has its try
pub group_met : (first r groups : ℕ) → first < groups → r < groups → (j : ℕ) × (j < groups) × (group_at first j groups ≡ r)
group_met first r groups start below =
    elim (cases_lt r first) [
      | inl early ↦ (
        r + groups - first,
        omega (arith, early, start, below),
        elim (group_cases first (r + groups - first) groups) [
          | inl here ↦ absurd (omega (arith, here.0, early, start))
          | inr round ↦ round.1 ∙ omega (arith, early, start)
        ],
      )
      | inr late ↦ (
        r - first,
        omega (arith, late, below),
        elim (group_cases first (r - first) groups) [
          | inl here ↦ here.1 ∙ omega (arith, late)
          | inr round ↦ absurd (omega (arith, round.0, late, below))
        ],
      )
    ]

pub run_long : (first n groups : ℕ) → length (run first n groups) ≡ n
run_long first zero groups = refl
run_long first (suc n) groups = ap suc (run_long first n groups)

-- what is taken is a group that was tried, and each group that was tried is taken
pub run_tried : (first n groups r : ℕ) → IsTaken (run first n groups) (Group r) → (j : ℕ) × (j < n) × (group_at first j groups ≡ r)
run_tried first zero groups r taken = absurd taken
run_tried first (suc n) groups r (inl last) = (n, omega arith, ap number_of last)
  where
    number_of : Resource → ℕ
    number_of (Group q) = q
    number_of other = 0
run_tried first (suc n) groups r (inr earlier) =
    let met = run_tried first n groups r earlier in (met.0, omega (arith, met.1), met.2)

pub run_taken : (first n groups j : ℕ) → j < n → IsTaken (run first n groups) (Group (group_at first j groups))
run_taken first zero groups j below = absurd (omega (arith, below))
run_taken first (suc n) groups j below =
    elim (cases_lt j n) [
      | inl earlier ↦ inr (run_taken first n groups j earlier)
      | inr last ↦ inl (let one : n ≡ j = omega (arith, below, last) in ap (λ (m : ℕ). Group (group_at first m groups)) one)
    ]

-- a group that is tried later is not among them
pub run_later : (first k groups : ℕ) → first < groups → k < groups → IsTaken (run first k groups) (Group (group_at first k groups)) → ⊥
run_later first k groups start below taken =
    let met = run_tried first k groups (group_at first k groups) taken in
    group_apart first met.0 k groups start met.1 below met.2
