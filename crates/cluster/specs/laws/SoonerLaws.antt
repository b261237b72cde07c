-- A turn of a host, and a digest that is handed in, as what they leave of the turns of each command under way.
use Rattle.std.proofs.Common.{◌≡◌, ◌≢◌, ◌+◌, ◌<◌, ◌≤◌, ◌∙◌, ℕ, false, Option, Some, None, IsSome, is_none, is_some, slice_set, refl, ap, sym, subst, arith, get_or-set_other, get_or-set_same}
use Rattle.vol_base.specs.declared.answer.Answer.{Answer}
use Rattle.vol_base.specs.declared.block.Block.{Block}
use Rattle.vol_base.specs.declared.block.Digest.{Digest}
use Rattle.vol_base.specs.declared.command.Command.{Command}
use Rattle.disk_locks.specs.Consistent.{Consistent}
use Rattle.host_runs.specs.NextLines.{line_at, next_line}
use Rattle.cluster.specs.Agreements.{IsSound, IsStanding, IsSteady}
use Rattle.host_runs.specs.RunStates.{answered}
use Rattle.cluster.specs.LinesLeft.{lines_left}
use Rattle.cluster.specs.Parts.{HasTaken, IsCommandAt, IsNoted, IsStepped, asked_at, asked_by, asked_of}
use Rattle.cluster.specs.PlanTurns.{GoesSooner, HasEnded, HasGoneOn, IsSuppliedFor, IsSuppliedTurns, LeavesTurns, plan_left, seat_left, seat_left_of, turn_limit_of}
use Rattle.cluster.specs.Views.{PartsView, at_command, line_of, no_seat, seat_at}
use Rattle.cluster.specs.declared.plan.Plan.{Plan}
use Rattle.cluster.specs.declared.seat.Done.{Done}
use Rattle.cluster.specs.declared.seat.Seat.{Seat}
use Rattle.cluster.specs.laws.LinesLeftLaws.{next_less}
use Rattle.cluster.specs.laws.PlanTurnLaws.{seat_stays}
use Rattle.cluster.specs.Asking.{plan_asks}
use Rattle.cluster.specs.laws.HandLaws.{IsHandled}
use Rattle.cluster.specs.laws.SupplyLaws.{handled_here, taken_here}
use Rattle.vol_layout.specs.declared.geometry.Geometry.{Geometry}
use Rattle.workload.specs.declared.line.Line.{Line}
use Rattle.cluster.specs.laws.TurnedLaws.{line_there}

free_of : (plan : Option Plan) → is_some plan ≡ false → plan ≡ None
free_of None is = refl
free_of (Some plan) is = absurd cc

-- the seat of the host made a turn
module _ (v m : PartsView) (h : ℕ) (command : Command) (done : Done) (sound : IsSound v) (standing : IsStanding v)
    (consistent : Consistent v.world.locks) (below : h < v.workload.geometry.hosts) (stepped : IsStepped v h command m done) where
  abbrev seat : Seat
  seat = stepped.seat

  seat_here : seat_at m h ≡ seat
  seat_here =
      ap (λ (x : PartsView). seat_at x h) stepped.is
      ∙ get_or-set_same v.seats h seat (no_seat v.workload.geometry) (let n = sound.seats in omega (arith, below, n))

  seat_other : (k : ℕ) → k ≢ h → seat_at m k ≡ seat_at v k
  seat_other k other =
      ap (λ (x : PartsView). seat_at x k) stepped.is ∙ get_or-set_other v.seats h k seat (no_seat v.workload.geometry) other

  plan_other : (k : ℕ) → k ≢ h → (seat_at m k).plan ≡ (seat_at v k).plan
  plan_other k other = ap (λ (s : Seat). s.plan) (seat_other k other)

  others_left : LeavesTurns v h m
  others_left = record {
    workload = ap (λ (x : PartsView). x.workload) stepped.is;
    plan = plan_other;
    left = λ k host other.
        subst (λ (s : Seat). seat_left m.world m.cache s.carried s.plan ≤ seat_left_of v k) (sym (seat_other k other))
        (seat_stays v.world m.world v.cache m.cache k h consistent stepped.act.others stepped.act.leaves other (seat_at v k).carried (at_command v k)
        (seat_at v k).plan (standing.stands k host));
  }

  busy_here : is_some (seat_at m h).plan ≡ is_none done.ended
  busy_here = ap (λ (s : Seat). is_some s.plan) seat_here ∙ stepped.act.made.plan

  -- and it was noted
  module _ (position : ℕ) (next : next_line v.workload.lines v.ledger.answers v.phase h ≡ Some position) (u : PartsView)
      (noted : IsNoted m h position done u) where
    lines_at : (ended : Option Answer) → done.ended ≡ ended
        → lines_left m.workload.lines (answered position done.ended m.ledger.answers) m.phase
        ≡ lines_left v.workload.lines (answered position ended v.ledger.answers) v.phase
    lines_at ended is =
        ap (λ (x : PartsView). lines_left x.workload.lines (answered position done.ended x.ledger.answers) x.phase) stepped.is
        ∙ ap (λ (e : Option Answer). lines_left v.workload.lines (answered position e v.ledger.answers) v.phase) is

    pub gone_on : GoesSooner v.world v.cache (seat_at v h) m.world m.cache (seat_at m h) done.ended → done.ended ≡ None → HasGoneOn v h u
    gone_on sooner on =
        subst (λ (x : PartsView). HasGoneOn v h x) (sym noted.is)
        (record {
          lines = lines_at None on;
          busy = busy_here ∙ ap is_none on;
          sooner = sooner on;
          others = record { workload = others_left.workload; plan = others_left.plan; left = others_left.left };
        })

    pub ended_now : (answer : Answer) → done.ended ≡ Some answer → HasEnded v h u
    ended_now answer ended =
        subst (λ (x : PartsView). HasEnded v h x) (sym noted.is)
        (record {
          lines =
              ap (λ (n : ℕ). n + 1) (lines_at (Some answer) ended)
              ∙ next_less v.workload.lines v.ledger.answers v.phase h position answer next;
          free = free_of (seat_at m h).plan (busy_here ∙ ap is_none ended);
          others = record { workload = others_left.workload; plan = others_left.plan; left = others_left.left };
        })

-- what a host waits for, by the command that it is at
pub asked_there : (v : PartsView) (h position : ℕ) → next_line v.workload.lines v.ledger.answers v.phase h ≡ Some position → (command : Command)
    → IsCommandAt v position command → asked_of v h ≡ asked_by v h command
asked_there v h position next command at =
    ap (asked_at v h) (line_there v h position at.line next at.is) ∙ ap (asked_by v h) (sym at.command_is)

-- a digest is handed in
module _ (v : PartsView) (h position : ℕ) (sound : IsSound v) (standing : IsStanding v) (steady : IsSteady v)
    (next : next_line v.workload.lines v.ledger.answers v.phase h ≡ Some position) (command : Command) (at : IsCommandAt v position command)
    (digest : Digest) where
  asked_is : asked_of v h ≡ asked_by v h command
  asked_is = asked_there v h position next command at

  pub unasked_turns : asked_by v h command ≡ None → IsSuppliedTurns v h v
  unasked_turns none = subst (λ (o : Option Block). IsSuppliedFor o v h v) (sym (asked_is ∙ none)) refl

  module _ (consistent : Consistent v.world.locks) (asks : IsSome (asked_by v h command)) (u : PartsView) (taken : HasTaken v h command digest u)
    where
      abbrev started : PartsView
      started = record v { seats = slice_set v.seats h taken.seat }

      begun_here : seat_at started h ≡ taken.seat
      begun_here = taken_here v h position sound standing steady next command at digest consistent asks u taken

      plan_here : (seat_at started h).plan ≡ Some taken.handed.taken.after
      plan_here = ap (λ (s : Seat). s.plan) begun_here ∙ ap (λ (s : Seat). s.plan) taken.handed.taken.is

      seat_same : (k : ℕ) → k ≢ h → seat_at started k ≡ seat_at v k
      seat_same k other = get_or-set_other v.seats h k taken.seat (no_seat v.workload.geometry) other

      handled_now : IsHandled v.world v.cache h command digest (seat_at v h).carried taken.seat.carried (seat_at v h).plan taken.handed.taken.after
      handled_now = handled_here v h position sound standing steady next command at digest consistent asks u taken

      few : seat_left v.world v.cache (seat_at started h).carried (seat_at started h).plan < turn_limit_of v h
      few =
          subst (λ (p : Option Plan). seat_left v.world v.cache (seat_at started h).carried p < turn_limit_of v h) (sym plan_here)
          (subst (λ (s : Seat). plan_left v.world v.cache s.carried taken.handed.taken.after < turn_limit_of v h) (sym begun_here) handled_now.fewer)

      line_asks : (line : Option Line) → asked_at started h line ≡ None
      line_asks None = refl
      line_asks (Some line) =
          rw plan_here (subst (λ (g : Geometry). plan_asks g taken.handed.taken.after ≡ None) sound.geometry handled_now.asks)

      goes_on : HasGoneOn v h started
      goes_on = record {
        lines = refl;
        busy = ap is_some plan_here;
        sooner = few;
        others = record {
          workload = refl;
          plan = λ k other. ap (λ (s : Seat). s.plan) (seat_same k other);
          left = λ k host other.
              subst (λ (s : Seat). seat_left v.world v.cache s.carried s.plan ≤ seat_left_of v k) (sym (seat_same k other)) (omega arith);
        };
      }

      pub begun_turns : IsSuppliedTurns v h u
      begun_turns =
          subst (λ (x : PartsView). IsSuppliedTurns v h x) (sym taken.is)
          (subst (λ (o : Option Block). IsSuppliedFor o v h started) (sym asked_is) (by (asked_by v h command) asks))
        where
          by : (o : Option Block) → IsSome o → IsSuppliedFor o v h started
          by None some = absurd cc
          by (Some block) some = (line_asks (line_of started h), goes_on)

-- a host at no line waits for none
pub idle_turns : (v : PartsView) (h : ℕ) → next_line v.workload.lines v.ledger.answers v.phase h ≡ None → IsSuppliedTurns v h v
idle_turns v h none =
    subst (λ (o : Option Block). IsSuppliedFor o v h v) (sym (ap (λ (p : Option ℕ). asked_at v h (line_at v.workload.lines p)) none)) refl

-- by whether a digest was waited for
pub supplied_on : (v u : PartsView) (h : ℕ) → IsSuppliedTurns v h u → IsSome (asked_of v h) → (asked_of u h ≡ None) × HasGoneOn v h u
supplied_on v u h supplied asks = cases (asked_of v h) supplied asks
  where
    cases : (o : Option Block) → IsSuppliedFor o v h u → IsSome o → (asked_of u h ≡ None) × HasGoneOn v h u
    cases None supplied asks = absurd cc
    cases (Some block) supplied asks = supplied

pub supplied_still : (v u : PartsView) (h : ℕ) → IsSuppliedTurns v h u → asked_of v h ≡ None → u ≡ v
supplied_still v u h supplied none = subst (λ (o : Option Block). IsSuppliedFor o v h u) none supplied
