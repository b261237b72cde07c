-- Behind a turn of a host the notes agree with all seats again, and what stands of each host stands.
use Rattle.std.proofs.Common.{◌≡◌, ◌≢◌, ◌⊎◌, inl, inr, ◌<◌, ℕ, true, false, List, Option, Some, None, is_none, is_some, refl, ap, sym, subst, ◌∙◌, arith, get_or-set_other, get_or-set_same}
use Rattle.std.proofs.lemmas.Bool.{cases_eq}
use Rattle.std.specs.Option.{option_map_or}
use Rattle.vol_base.specs.declared.answer.Answer.{Answer}
use Rattle.vol_base.specs.declared.command.Command.{Command}
use Rattle.vol_base.specs.declared.command.Command.TheVariants.{Beat}
use Rattle.vol_layout.specs.declared.geometry.Geometry.{Geometry}
use Rattle.workload.specs.declared.line.Line.{Line}
use Rattle.disk_locks.specs.Consistent.{Consistent}
use Rattle.held_cache.specs.Kept.{Cache}
use Rattle.histories.specs.Joined.{death_after, is_joined, joined_after, of_answers, standing_death}
use Rattle.histories.specs.Lines.{IsLine}
use Rattle.host_facts.specs.Views.{WorldView}
use Rattle.host_notes.specs.Owes.{joined_in}
use Rattle.host_runs.specs.NextLines.{line_at, next_line}
use Rattle.host_runs.specs.Notes.{Notes, noting}
use Rattle.host_runs.specs.RunStates.{answered}
use Rattle.host_runs.specs.Steps.{IsStep}
use Rattle.host_runs.specs.laws.FitLaws.{noting-here, noting-other}
use Rattle.host_runs.specs.laws.NextLineLaws.{next-other}
use Rattle.host_runs.specs.lemmas.StepLaws.{answers-here, answers-other, line_host}
use Rattle.cluster.specs.declared.carried.Carried.{Carried}
use Rattle.cluster.specs.Agreements.{Agree, IsSound, IsStanding, IsSteady}
use Rattle.cluster.specs.Parts.{HasActed, acted}
use Rattle.cluster.specs.Seats.{PlanNotedOf, PlanStandsOf, death_behind, joined_of}
use Rattle.cluster.specs.Views.{PartsView, at_command, line_of, no_seat, seat_at, state_of}
use Rattle.cluster.specs.declared.plan.Plan.{Plan}
use Rattle.cluster.specs.declared.seat.Done.{Done}
use Rattle.cluster.specs.declared.seat.Seat.{Seat}
use Rattle.cluster.specs.laws.StaysLaws.{noted_stays, stands_stay}
use Rattle.cluster.specs.laws.TurnedLaws.{command_there, line_there, step_of, turn_of}

-- a seat without a plan says nothing of a command
noted_any : (c e : Command) (v : WorldView) (h : ℕ) (carried : Carried) (plan : Option Plan) (n : Notes) → plan ≡ None
    → PlanNotedOf c v h carried plan n → PlanNotedOf e v h carried plan n
noted_any c e v h carried None n none noted = noted
noted_any c e v h carried (Some plan) n none noted = absurd cc

stands_any : (c e : Command) (v : WorldView) (k : Cache) (h : ℕ) (carried : Carried) (plan : Option Plan) → plan ≡ None
    → PlanStandsOf c v k h carried plan → PlanStandsOf e v k h carried plan
stands_any c e v k h carried None none stands = stands
stands_any c e v k h carried (Some plan) none stands = absurd cc

no_plan : (plan : Option Plan) → is_some plan ≡ false → plan ≡ None
no_plan None is = refl
no_plan (Some plan) is = absurd cc

module _ (v : PartsView) (h position : ℕ) (line : Line) (w : WorldView) (d : Cache) (seat : Seat) (head : Option ℕ) (done : Done)
    (sound : IsSound v) (next : next_line v.workload.lines v.ledger.answers v.phase h ≡ Some position)
    (is : IsLine v.workload.lines position line) (below : h < v.workload.geometry.hosts)
    (act : HasActed v h line.command w d seat done)
    (joined : joined_of v.world h line.command (seat_at v h).plan ≡ is_joined v.workload.lines v.ledger.answers h)
    (consistent : Consistent v.world.locks) (standing : IsStanding v) (steady : IsSteady v) where
  abbrev u : PartsView
  u = acted v h position w d seat head done

  abbrev lines : List Line
  lines = v.workload.lines

  abbrev later_notes : ℕ → Notes
  later_notes = noting h (turn_of v h position line w d seat head done sound next is below act joined steady.notes steady.agree).0 steady.notes

  pub stepped : (step : IsStep v.workload h done.ended (state_of v steady.notes) (state_of u later_notes))
      × (step.position ≡ position) × (step.line ≡ line)
  stepped = step_of v h position line w d seat head done sound next is below act joined steady.notes steady.agree

  abbrev step : IsStep v.workload h done.ended (state_of v steady.notes) (state_of u later_notes)
  step = stepped.0

  -- the seats
  seat_here : seat_at u h ≡ seat
  seat_here = get_or-set_same v.seats h seat (no_seat v.workload.geometry) (let n = sound.seats in omega (arith, below, n))

  seat_other : (k : ℕ) → k ≢ h → seat_at u k ≡ seat_at v k
  seat_other k other = get_or-set_other v.seats h k seat (no_seat v.workload.geometry) other

  -- the lines
  pub line_host_is : line.host ≡ h
  line_host_is = ap (λ (l : Line). l.host) (sym stepped.2) ∙ line_host v.workload h (state_of v steady.notes) (state_of u later_notes) done.ended step

  next_other : (k : ℕ) → k ≢ h → (ended : Option Answer)
      → next_line lines (answered position ended v.ledger.answers) v.phase k ≡ next_line lines v.ledger.answers v.phase k
  next_other k other None = refl
  next_other k other (Some answer) =
      next-other lines v.ledger.answers v.phase k position line (Some answer) is (λ same. other (sym same ∙ line_host_is))

  line_other : (k : ℕ) → k ≢ h → line_of u k ≡ line_of v k
  line_other k other = ap (line_at lines) (next_other k other done.ended)

  command_other : (k : ℕ) → k ≢ h → at_command u k ≡ at_command v k
  command_other k other = ap (λ (o : Option Line). option_map_or (λ (l : Line). l.command) o Beat) (line_other k other)

  line_still : done.ended ≡ None → line_of u h ≡ Some line
  line_still on =
      ap (λ (e : Option Answer). line_at lines (next_line lines (answered position e v.ledger.answers) v.phase h)) on
      ∙ line_there v h position line next is

  -- whether hosts are joined, and when they die
  joined_other : (k : ℕ) → k ≢ h → is_joined lines u.ledger.answers k ≡ is_joined lines v.ledger.answers k
  unfolding is_joined
  joined_other k other = answers-other v.workload h (state_of v steady.notes) (state_of u later_notes) joined_after false k done.ended step other

  death_other : (k : ℕ) → k ≢ h → standing_death lines u.ledger.answers k ≡ standing_death lines v.ledger.answers k
  unfolding standing_death
  death_other k other = answers-other v.workload h (state_of v steady.notes) (state_of u later_notes) death_after None k done.ended step other

  death_by : (ended : Option Answer) → done.ended ≡ ended
      → standing_death lines (answered position ended v.ledger.answers) h ≡ death_behind line.command ended (standing_death lines v.ledger.answers h)
  unfolding standing_death
  death_by None e = refl
  death_by (Some answer) e =
      let both = subst (λ (x : Option Answer). (st : IsStep v.workload h x (state_of v steady.notes) (state_of u later_notes))
      × (st.position ≡ position) × (st.line ≡ line)) e stepped in
      ap (λ (x : Option Answer). of_answers death_after lines (answered position x v.ledger.answers) h None) (sym e)
      ∙ answers-here v.workload h (state_of v steady.notes) (state_of u later_notes) death_after None answer both.0 steady.orderly
      ∙ ap (λ (l : Line). death_after l.command answer (of_answers death_after lines v.ledger.answers h None)) both.2

  death_here : standing_death lines u.ledger.answers h ≡ death_behind line.command done.ended (standing_death lines v.ledger.answers h)
  death_here = death_by done.ended refl

  -- what the seat's turn left: it has a plan exactly where its command goes on
  plan_of : (ended : Option Answer) → done.ended ≡ ended → is_some seat.plan ≡ is_none ended
  plan_of ended e = act.made.plan ∙ ap is_none e

  -- the command that the seat's plan is of
  command_by : (ended : Option Answer) → done.ended ≡ ended → (at_command u h ≡ line.command) ⊎ (seat.plan ≡ None)
  command_by None e = inl (command_there u h line (line_still e))
  command_by (Some answer) e = inr (no_plan seat.plan (plan_of (Some answer) e))

  noted_now : (n : Notes) → PlanNotedOf line.command w h seat.carried seat.plan n → PlanNotedOf (at_command u h) w h seat.carried seat.plan n
  noted_now n noted =
      elim (command_by done.ended refl) [
        | inl same ↦ subst (λ (c : Command). PlanNotedOf c w h seat.carried seat.plan n) (sym same) noted
        | inr none ↦ noted_any line.command (at_command u h) w h seat.carried seat.plan n none noted
      ]

  stands_now : PlanStandsOf (at_command u h) w d h seat.carried seat.plan
  stands_now =
      elim (command_by done.ended refl) [
        | inl same ↦ subst (λ (c : Command). PlanStandsOf c w d h seat.carried seat.plan) (sym same) act.made.stands
        | inr none ↦ stands_any line.command (at_command u h) w d h seat.carried seat.plan none act.made.stands
      ]

  volume_below : (k : ℕ) → k < v.workload.geometry.hosts → k < v.world.locks.geometry.hosts
  volume_below k host = subst (λ (g : Geometry). k < g.hosts) (sym sound.geometry) host

  -- the notes agree
  pub agree_behind : (notes : ℕ → Notes) (agree : Agree v notes)
      → Agree u (noting h (turn_of v h position line w d seat head done sound next is below act joined notes agree).0 notes)
  agree_behind notes agree =
      let (later, turn, noted, left) = turn_of v h position line w d seat head done sound next is below act joined notes agree in
      record {
        noted = λ k host. elim (cases_eq k h) [
          | inl same ↦
              rw (same, seat_here, noting-here h h later notes refl) (noted_now later noted)
          | inr other ↦
              rw (seat_other k other, command_other k other, noting-other h k later notes other)
              (noted_stays v.world w v.cache d k h consistent act.others act.leaves other (volume_below k host) (seat_at v k).carried
              (at_command v k) (seat_at v k).plan (notes k) (standing.stands k host) (agree.noted k host))
        ];
        left = λ k host. elim (cases_eq k h) [
          | inl same ↦ rw (same, seat_here, noting-here h h later notes refl, death_here) left
          | inr other ↦
              rw (seat_other k other, death_other k other, noting-other h k later notes other) (agree.left k host)
        ];
      }

  -- what stands
  busy_now : is_some seat.plan ≡ true → done.ended ≡ None
  busy_now busy = cases done.ended refl
    where
      cases : (ended : Option Answer) → done.ended ≡ ended → ended ≡ None
      cases None e = refl
      cases (Some answer) e = let both : true ≡ false = sym busy ∙ plan_of (Some answer) e in absurd cc

  joined_now : (ended : Option Answer) → done.ended ≡ ended → is_some seat.plan ≡ true
      → is_joined lines (answered position ended v.ledger.answers) h ≡ joined_in line.command
  joined_now None e busy = sym joined ∙ act.made.goes e
  joined_now (Some answer) e busy = let both : true ≡ false = sym busy ∙ plan_of (Some answer) e in absurd cc

  pub standing_behind : IsStanding u
  standing_behind = record {
    stands = λ k host. elim (cases_eq k h) [
      | inl same ↦ rw (same, seat_here) stands_now
      | inr other ↦
          rw (seat_other k other, command_other k other)
          (stands_stay v.world w v.cache d k h consistent act.others act.leaves other (volume_below k host) (seat_at v k).carried
          (at_command v k) (seat_at v k).plan (standing.stands k host))
    ];
    busy = λ k host busy. elim (cases_eq k h) [
      | inl same ↦
          let here : is_some seat.plan ≡ true = ap (λ (s : Seat). is_some s.plan) (sym seat_here ∙ ap (seat_at u) (sym same)) ∙ busy in
          rw same (ap is_some (line_still (busy_now here)))
      | inr other ↦
          let there : is_some (seat_at v k).plan ≡ true = ap (λ (s : Seat). is_some s.plan) (sym (seat_other k other)) ∙ busy in
          rw (line_other k other) (standing.busy k host there)
    ];
    joined = λ k host busy. elim (cases_eq k h) [
      | inl same ↦
          let here : is_some seat.plan ≡ true = ap (λ (s : Seat). is_some s.plan) (sym seat_here ∙ ap (seat_at u) (sym same)) ∙ busy in
          rw same (joined_now done.ended refl here ∙ ap joined_in (sym (command_there u h line (line_still (busy_now here)))))
      | inr other ↦
          let there : is_some (seat_at v k).plan ≡ true = ap (λ (s : Seat). is_some s.plan) (sym (seat_other k other)) ∙ busy in
          joined_other k other ∙ standing.joined k host there ∙ ap joined_in (sym (command_other k other))
    ];
  }
