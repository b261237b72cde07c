-- The next phase: what holds of the parts where all hosts are idle, and behind it.
use Rattle.std.proofs.Common.{◌≡◌, ◌+◌, ◌++◌, ◌∷◌, ◌<◌, ◌≤◌, ℕ, [], Bool, true, false, Option, Some, None, is_some, refl, ap, sym, subst, ◌∙◌, inl, inr, arith}
use Rattle.std.proofs.lemmas.Bool.{cases_Bool, cases_lt}
use Rattle.host_runs.specs.NextLines.{line_at, next_line}
use Rattle.host_runs.specs.Notes.{Notes}
use Rattle.host_runs.specs.RunStates.{opening}
use Rattle.host_runs.specs.Runs.{NextPhase}
use Rattle.host_runs.specs.laws.NextLineLaws.{next-none}
use Rattle.host_runs.specs.laws.RunLaws.{run-more}
use Rattle.cluster.specs.Agreements.{Agree, IsSound, IsStanding}
use Rattle.cluster.specs.Runs.{Goes, GoesOn, Inv, IsIdle, showing}
use Rattle.cluster.specs.Seats.{PlanNotedOf, PlanStandsOf}
use Rattle.cluster.specs.Views.{BudgetView, ClusterView, PartsView, at_command, line_of, seat_at, state_of}
use Rattle.cluster.specs.declared.plan.Plan.{Plan}
use Rattle.cluster.specs.laws.InvLaws.{goes_on}
use Rattle.cluster.specs.laws.PartsLaws.{line_nobody}

-- the hosts before a number have no line left, and this one has none
pub idle_more : (v : PartsView) (n : ℕ) → ((h : ℕ) → h < n → next_line v.workload.lines v.ledger.answers v.phase h ≡ None)
    → next_line v.workload.lines v.ledger.answers v.phase n ≡ None
    → (h : ℕ) → h < n + 1 → next_line v.workload.lines v.ledger.answers v.phase h ≡ None
idle_more v n before here h lt =
    elim (cases_lt h n) [
      | inl below ↦ before h below
      | inr past ↦
          let same : h ≡ n = omega (arith, lt, past) in
          ap (next_line v.workload.lines v.ledger.answers v.phase) same ∙ here
    ]

-- nor has a number that is no host
pub idle_all : (v : PartsView) (n : ℕ) → IsSound v → v.workload.geometry.hosts ≤ n
    → ((h : ℕ) → h < n → next_line v.workload.lines v.ledger.answers v.phase h ≡ None) → IsIdle v
idle_all v n sound all before h =
    elim (cases_lt h n) [
      | inl below ↦ before h below
      | inr past ↦ sym (line_nobody v h sound (omega (arith, all, past)))
    ]

pub none_there : {A : Type 0} (o : Option A) → is_some o ≡ false → o ≡ None
none_there None is = refl
none_there (Some a) is = absurd cc

module _ (v : PartsView) (sound : IsSound v) (idle : IsIdle v) where
  abbrev next : PartsView
  next = record v { phase = v.phase + 1 }

  -- all lines of the phase are answered
  pub sound_next : v.phase + 1 < v.workload.phases → IsSound next
  sound_next more = record {
    phased = sound.phased;
    allowed = sound.allowed;
    known = sound.known;
    few = sound.few;
    phases = sound.phases;
    phase = more;
    geometry = sound.geometry;
    volume = sound.volume;
    long = sound.long;
    seats = sound.seats;
    heads = sound.heads;
    head = sound.head;
    past = λ p line is earlier.
        elim (cases_lt line.phase v.phase) [
          | inl below ↦ sound.past p line is below
          | inr past ↦
              next-none v.workload.lines v.ledger.answers v.phase line.host p line sound.long (idle line.host) is (omega (arith, earlier, past)) refl
        ];
    events = sound.events;
  }

  -- each host is between two commands
  resting : IsStanding v → (h : ℕ) → h < v.workload.geometry.hosts → (seat_at v h).plan ≡ None
  resting standing h host =
      elim (cases_Bool (is_some (seat_at v h).plan)) [
        | inl busy ↦
            let none : is_some (line_of v h) ≡ false = ap (λ (p : Option ℕ). is_some (line_at v.workload.lines p)) (idle h) in
            let both : true ≡ false = sym (standing.busy h host busy) ∙ none in absurd cc
        | inr none ↦ none_there (seat_at v h).plan none
      ]

  pub standing_next : IsStanding v → IsStanding next
  standing_next standing = record {
    stands = λ h host.
        let none = resting standing h host in
        subst (λ (p : Option Plan). PlanStandsOf (at_command next h) v.world v.cache h (seat_at v h).carried p) (sym none)
        (subst (λ (p : Option Plan). PlanStandsOf (at_command v h) v.world v.cache h (seat_at v h).carried p) none (standing.stands h host));
    busy = λ h host busy. let both : true ≡ false = sym busy ∙ ap is_some (resting standing h host) in absurd cc;
    joined = λ h host busy. let both : true ≡ false = sym busy ∙ ap is_some (resting standing h host) in absurd cc;
  }

  pub agree_next : IsStanding v → (notes : ℕ → Notes) → Agree v notes → Agree next notes
  agree_next standing notes agree = record {
    noted = λ h host.
        let none = resting standing h host in
        subst (λ (p : Option Plan). PlanNotedOf (at_command next h) v.world h (seat_at v h).carried p (notes h)) (sym none)
        (subst (λ (p : Option Plan). PlanNotedOf (at_command v h) v.world h (seat_at v h).carried p (notes h)) none (agree.noted h host));
    left = agree.left;
  }

  pub goes_next : IsStanding v → v.phase + 1 < v.workload.phases → Goes v NextPhase next
  goes_next standing more notes agree = (notes, record { idle = idle; more = more; phase = refl }, agree_next standing notes agree)

-- nothing but the number of turns left speaks of the budget
any_budget : (v : ClusterView) (budget : BudgetView) → Inv v → Inv (record v { budget = budget })
any_budget v budget inv = record {
  sound = inv.sound;
  valid = inv.valid;
  run = record {
    last = inv.run.last;
    shown = inv.run.shown;
    calls = inv.run.calls;
    notes = inv.run.notes;
    leads = inv.run.leads;
  };
  live = inv.live;
}

-- whether the next phase began or there was none, the run goes on
module _ (v : ClusterView) (parts : PartsView) (budget : BudgetView) (inv : Inv v) (idle : IsIdle v.parts) (began : Bool)
    (more : began ≡ true → v.parts.phase + 1 < v.parts.workload.phases)
    (begun : began ≡ true → parts ≡ record v.parts { phase = v.parts.phase + 1 })
    (still : began ≡ false → parts ≡ v.parts) where
  abbrev u : ClusterView
  u = record v { parts = parts; budget = budget }

  next_inv : (v.parts.phase + 1 < v.parts.workload.phases) → Inv (record v { parts = next v.parts inv.sound idle; budget = budget })
  next_inv is_more = record {
    sound = sound_next v.parts inv.sound idle is_more;
    valid = inv.valid;
    run = record {
      last = inv.run.last;
      shown = inv.run.shown;
      calls = inv.run.calls ++ NextPhase ∷ [];
      notes = inv.run.notes;
      leads =
          run-more v.parts.workload (opening v.parts.workload v.began) inv.run.calls (state_of (showing inv.run.last v.parts) inv.run.notes)
          NextPhase (state_of (showing inv.run.last (next v.parts inv.sound idle)) inv.run.notes) inv.run.leads
          (record { idle = idle; more = is_more; phase = refl });
    };
    live = λ live.
        let (shown, agree, standing) = inv.live live in
        (shown, agree_next v.parts inv.sound idle standing inv.run.notes agree, standing_next v.parts inv.sound idle standing);
  }

  pub phase_inv : Inv u
  phase_inv =
      elim (cases_Bool began) [
        | inl is ↦ subst (λ (p : PartsView). Inv (record v { parts = p; budget = budget })) (sym (begun is)) (next_inv (more is))
        | inr none ↦ subst (λ (p : PartsView). Inv (record v { parts = p; budget = budget })) (sym (still none)) (any_budget v budget inv)
      ]

  pub phase_goes : v.spent ≡ false → began ≡ true → Goes v.parts NextPhase parts
  phase_goes live is =
      subst (λ (p : PartsView). Goes v.parts NextPhase p) (sym (begun is)) (goes_next v.parts inv.sound idle (inv.live live).2 (more is))

  pub phase_on : v.spent ≡ false → began ≡ true → GoesOn v NextPhase u
  phase_on live is =
      goes_on v u (record { began = refl; workload = ap (λ (p : PartsView). p.workload) (begun is) }) NextPhase
      (phase_goes live is)
