-- A digest that is handed in is noted where its host waits for one, and its command begins.
use Rattle.std.proofs.Common.{◌≡◌, ◌≢◌, inl, inr, ◌<◌, ℕ, true, false, IsTrue, Option, Some, None, IsSome, is_some, slice_set, refl, ap, sym, subst, ◌∙◌, arith, get_or-set_other, get_or-set_same}
use Rattle.std.proofs.lemmas.Bool.{cases_eq}
use Rattle.std.proofs.lemmas.List.{length-set}
use Rattle.vol_base.specs.declared.block.Block.{Block}
use Rattle.vol_base.specs.declared.block.Digest.{Digest}
use Rattle.vol_base.specs.declared.command.Command.{Command}
use Rattle.vol_layout.specs.declared.geometry.Geometry.{Geometry}
use Rattle.workload.specs.Workloads.{IsAllowed}
use Rattle.workload.specs.Ranges.{is_in_range}
use Rattle.disk_locks.specs.Consistent.{Consistent}
use Rattle.histories.specs.Joined.{is_joined, standing_death}
use Rattle.histories.specs.laws.PushLaws.{all_at}
use Rattle.host_notes.specs.Owes.{joined_in}
use Rattle.host_runs.specs.Awaited.{awaited, wanted_at}
use Rattle.host_runs.specs.NextLines.{line_at, next_line}
use Rattle.host_runs.specs.Notes.{Notes, noting, with_digest}
use Rattle.host_runs.specs.Runs.{supplied}
use Rattle.host_runs.specs.laws.FitLaws.{noting-here, noting-other}
use Rattle.lock_store.specs.Views.{host_at}
use Rattle.cluster.specs.Agreements.{Agree, IsSound, IsStanding, IsSteady, Supplied}
use Rattle.cluster.specs.Parts.{HasTaken, IsCommandAt, asked_by}
use Rattle.cluster.specs.Seats.{IsLeft, PlanNotedOf, PlanStandsOf, joined_of}
use Rattle.cluster.specs.Views.{PartsView, at_command, no_seat, seat_at, state_of}
use Rattle.cluster.specs.declared.plan.Plan.{Plan}
use Rattle.cluster.specs.declared.seat.Seat.{Seat}
use Rattle.cluster.specs.laws.ActLaws.{joined_now}
use Rattle.cluster.specs.Asking.{asked_with}
use Rattle.cluster.specs.Hands.{MayHandIn}
use Rattle.cluster.specs.laws.HandLaws.{IsHandled, asked_joined, handled, may_hand}
use Rattle.cluster.specs.laws.PartsLaws.{line_below}
use Rattle.cluster.specs.laws.TurnedLaws.{command_there, line_there}
use Rattle.cluster.specs.laws.WaitLaws.{awaits}

pub is_some_of : (o : Option Block) → is_some o ≡ true → IsSome o
is_some_of None is = absurd cc
is_some_of (Some block) is = refl

pub none_of : (o : Option Block) → is_some o ≡ false → o ≡ None
none_of None is = refl
none_of (Some block) is = absurd cc

-- a host at no line waits for nothing, and one whose command asks for nothing
pub idle_supplied : (v : PartsView) (h : ℕ) (digest : Digest) → next_line v.workload.lines v.ledger.answers v.phase h ≡ None
    → Supplied v h digest v
unfolding awaited
idle_supplied v h digest none notes agree = (
  notes,
  ap (λ (o : Option Block). supplied h digest o (state_of v notes))
      (sym (ap (λ (p : Option ℕ). wanted_at v.workload.geometry (is_joined v.workload.lines v.ledger.answers h) (notes h) (line_at v.workload.lines p)) none)),
  agree,
)

module _ (v : PartsView) (h position : ℕ) (sound : IsSound v) (standing : IsStanding v) (steady : IsSteady v)
    (next : next_line v.workload.lines v.ledger.answers v.phase h ≡ Some position) (command : Command) (at : IsCommandAt v position command)
    (digest : Digest) where
  -- nothing is asked for
  pub unasked_supplied : asked_by v h command ≡ None → Supplied v h digest v
  unasked_supplied none notes agree = (
    notes,
    ap (λ (o : Option Block). supplied h digest o (state_of v notes)) (sym (awaits v h position sound standing steady next command at notes agree ∙ none)),
    agree,
  )

  below : h < v.workload.geometry.hosts
  below = line_below v h sound position next

  command_now : at_command v h ≡ command
  command_now = command_there v h at.line (line_there v h position at.line next at.is) ∙ sym at.command_is

  -- the digest may be handed in
  pub may_take : IsSome (asked_by v h command) → MayHandIn command (seat_at v h)
  may_take some =
      may_hand v.world v.cache h v.workload.geometry command (seat_at v h).carried (seat_at v h).plan (is_some (host_at v.world.locks h).key) digest
      some (subst (λ (c : Command). PlanStandsOf c v.world v.cache h (seat_at v h).carried (seat_at v h).plan) command_now
      (standing.stands h below))

  module _ (consistent : Consistent v.world.locks) (asks : IsSome (asked_by v h command)) (u : PartsView) (taken : HasTaken v h command digest u)
    where
      abbrev seat : Seat
      seat = taken.seat

      abbrev started : PartsView
      started = record v { seats = slice_set v.seats h seat }

      abbrev after : Plan
      after = taken.handed.taken.after

      pub taken_here : seat_at started h ≡ seat
      taken_here = get_or-set_same v.seats h seat (no_seat v.workload.geometry) (let n = sound.seats in omega (arith, below, n))

      seat_other : (k : ℕ) → k ≢ h → seat_at started k ≡ seat_at v k
      seat_other k other = get_or-set_other v.seats h k seat (no_seat v.workload.geometry) other

      plan_is : seat.plan ≡ Some after
      plan_is = ap (λ (s : Seat). s.plan) taken.handed.taken.is

      noted_was : (notes : ℕ → Notes) → Agree v notes → PlanNotedOf command v.world h (seat_at v h).carried (seat_at v h).plan (notes h)
      noted_was notes agree =
          subst (λ (c : Command). PlanNotedOf c v.world h (seat_at v h).carried (seat_at v h).plan (notes h)) command_now (agree.noted h below)

      -- the plan stands, and the notes agree with it
      pub handled_here : IsHandled v.world v.cache h command digest (seat_at v h).carried seat.carried (seat_at v h).plan after
      handled_here =
          handled v.world v.cache h command digest (seat_at v h).carried seat.carried consistent
          (subst (λ (g : Geometry). h < g.hosts) (sym sound.geometry) below)
          (subst (λ (g : Geometry). IsTrue (is_in_range g command)) (sym sound.geometry)
          (subst (λ (c : Command). IsTrue (is_in_range v.workload.geometry c)) (sym at.command_is)
          (all_at (IsAllowed v.workload.geometry) v.workload.lines position at.line sound.allowed at.is).range))
          (seat_at v h).plan (is_some (host_at v.world.locks h).key) taken.handed.before after refl
          (subst (λ (g : Geometry). IsSome (asked_with g (seat_at v h).plan (is_some (host_at v.world.locks h).key) command)) (sym sound.geometry) asks)
          (subst (λ (c : Command). PlanStandsOf c v.world v.cache h (seat_at v h).carried (seat_at v h).plan) command_now
          (standing.stands h below))
          (steady.notes h, noted_was steady.notes steady.agree) taken.handed.was taken.handed.taken.supplied

      seated : (P : Command → Option Plan → Type 0) → P command (Some after) → P (at_command v h) seat.plan
      seated P is =
          subst (λ (c : Command). P c seat.plan) (sym command_now) (subst (λ (p : Option Plan). P command p) (sym plan_is) is)

      stands_here : PlanStandsOf (at_command v h) v.world v.cache h seat.carried seat.plan
      stands_here =
          seated (λ (c : Command) (p : Option Plan). PlanStandsOf c v.world v.cache h seat.carried p) handled_here.stands

      noted_here : (notes : ℕ → Notes) → Agree v notes
          → PlanNotedOf (at_command v h) v.world h seat.carried seat.plan (with_digest digest (notes h))
      noted_here notes agree =
          seated (λ (c : Command) (p : Option Plan). PlanNotedOf c v.world h seat.carried p (with_digest digest (notes h)))
          (handled_here.noted (notes h) (noted_was notes agree))

      left_is : seat.left ≡ (seat_at v h).left
      left_is = ap (λ (s : Seat). s.left) taken.handed.taken.is

      agree_then : (notes : ℕ → Notes) → Agree v notes → Agree started (noting h (with_digest digest (notes h)) notes)
      agree_then notes agree = record {
        noted = λ k host. elim (cases_eq k h) [
          | inl same ↦ rw (same, taken_here, noting-here h h (with_digest digest (notes h)) notes refl) (noted_here notes agree)
          | inr other ↦ rw (seat_other k other, noting-other h k (with_digest digest (notes h)) notes other) (agree.noted k host)
        ];
        left = λ k host. elim (cases_eq k h) [
          | inl same ↦
              rw (same, taken_here, noting-here h h (with_digest digest (notes h)) notes refl)
              (subst (λ (l : Option ℕ). IsLeft (standing_death v.workload.lines v.ledger.answers h) (notes h).dying l) (sym left_is)
              (agree.left h below))
          | inr other ↦ rw (seat_other k other, noting-other h k (with_digest digest (notes h)) notes other) (agree.left k host)
        ];
      }

      pub begun_supplied : Supplied v h digest u
      begun_supplied =
          subst (λ (x : PartsView). Supplied v h digest x) (sym taken.is)
          (λ notes agree. (
            noting h (with_digest digest (notes h)) notes,
            noted_by (asked_by v h command) asks notes (awaits v h position sound standing steady next command at notes agree),
            agree_then notes agree,
          ))
        where
          noted_by : (o : Option Block) → IsSome o → (notes : ℕ → Notes) → awaited v.workload (state_of v notes) h ≡ o
              → state_of started (noting h (with_digest digest (notes h)) notes) ≡ supplied h digest (awaited v.workload (state_of v notes) h) (state_of v notes)
          noted_by None some notes is = absurd cc
          noted_by (Some block) some notes is = ap (λ (o : Option Block). supplied h digest o (state_of v notes)) (sym is)

      joined_here : is_joined v.workload.lines v.ledger.answers h ≡ joined_in (at_command v h)
      joined_here =
          sym (joined_now v h position at.line sound standing steady next at.is) ∙ by (seat_at v h).plan refl ∙ ap joined_in (sym command_now)
        where
          by : (plan : Option Plan) → (seat_at v h).plan ≡ plan → joined_of v.world h at.line.command plan ≡ joined_in command
          by None none =
              let both = asked_joined v.workload.geometry command (seat_at v h).plan (is_some (host_at v.world.locks h).key) asks none in
              both.0 ∙ sym both.1
          by (Some plan) some = ap joined_in (sym at.command_is)

      pub begun_standing : IsStanding u
      begun_standing =
          subst IsStanding (sym taken.is)
          (record {
            stands = λ k host. elim (cases_eq k h) [
              | inl same ↦ rw (same, taken_here) stands_here
              | inr other ↦ rw (seat_other k other) (standing.stands k host)
            ];
            busy = λ k host busy. elim (cases_eq k h) [
              | inl same ↦ rw same (ap is_some (line_there v h position at.line next at.is))
              | inr other ↦ standing.busy k host (ap (λ (s : Seat). is_some s.plan) (sym (seat_other k other)) ∙ busy)
            ];
            joined = λ k host busy. elim (cases_eq k h) [
              | inl same ↦ rw same joined_here
              | inr other ↦ standing.joined k host (ap (λ (s : Seat). is_some s.plan) (sym (seat_other k other)) ∙ busy)
            ];
          })

      pub begun_sound : IsSound u
      begun_sound =
          subst IsSound (sym taken.is)
          (record {
            phased = sound.phased;
            allowed = sound.allowed;
            known = sound.known;
            few = sound.few;
            phases = sound.phases;
            phase = sound.phase;
            geometry = sound.geometry;
            volume = sound.volume;
            long = sound.long;
            seats = length-set v.seats h seat ∙ sound.seats;
            heads = sound.heads;
            head = sound.head;
            past = sound.past;
            events = sound.events;
          })
