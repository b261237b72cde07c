-- A turn of the parts, from the turn of a seat and what is noted of it.
use Rattle.std.proofs.Common.{◌≡◌, ◌+◌, ◌*◌, ◌<◌, ◌≤◌, ◌++◌, ℕ, List, Option, Some, None, is_some, length, option_map, refl, ap, sym, subst, ◌∙◌}
use Rattle.vol_base.specs.declared.answer.Answer.{Answer}
use Rattle.vol_base.specs.declared.block.Key.{Key}
use Rattle.vol_base.specs.declared.command.Command.{Command}
use Rattle.workload.specs.Workloads.{IsAllowed}
use Rattle.workload.specs.declared.line.Line.{Line}
use Rattle.disk_locks.specs.Consistent.{Consistent}
use Rattle.histories.specs.Joined.{is_joined}
use Rattle.histories.specs.Lines.{IsLine}
use Rattle.histories.specs.laws.PushLaws.{all_at}
use Rattle.host_notes.specs.Owes.{joined_in}
use Rattle.host_runs.specs.NextLines.{next_line}
use Rattle.host_runs.specs.Notes.{Notes, noting}
use Rattle.host_runs.specs.RunStates.{entry_at, events_at}
use Rattle.host_runs.specs.Steps.{IsStep}
use Rattle.host_runs.specs.laws.NextLineLaws.{next-at}
use Rattle.host_runs.specs.laws.SeatedLaws.{rests-seated}
use Rattle.lock_store.specs.Views.{host_at}
use Rattle.cluster.specs.Plans.{RestsWith}
use Rattle.cluster.specs.Agreements.{Agree, IsKnownLine, IsSound, IsStanding, IsSteady}
use Rattle.cluster.specs.Parts.{HasActed, IsCommandAt, IsNoted, IsOpenFrom, IsStepped, MayStep, acted, asked_by, noted_in, opened}
use Rattle.cluster.specs.Seats.{IsKnown, PlanNotedOf, PlanStandsOf, joined_of}
use Rattle.cluster.specs.Views.{PartsView, at_command, seat_at, state_of}
use Rattle.cluster.specs.declared.plan.Plan.{Plan}
use Rattle.cluster.specs.declared.seat.Done.{Done}
use Rattle.cluster.specs.laws.AgreeLaws.{agree_behind, standing_behind}
use Rattle.cluster.specs.laws.OpenLaws.{same_line}
use Rattle.cluster.specs.laws.PartsLaws.{line_below}
use Rattle.cluster.specs.laws.SoundLaws.{entries_fit, events_fit, sound_behind}
use Rattle.cluster.specs.laws.TurnedLaws.{command_there, line_there, step_of, turn_of}

some_number : (key : Option Key) → is_some (option_map (λ (k : Key). k.0) key) ≡ is_some key
some_number None = refl
some_number (Some key) = refl

module _ (v : PartsView) (h position : ℕ) (line : Line) (sound : IsSound v) (standing : IsStanding v) (steady : IsSteady v)
    (next : next_line v.workload.lines v.ledger.answers v.phase h ≡ Some position) (is : IsLine v.workload.lines position line) where
  below : h < v.workload.geometry.hosts
  below = line_below v h sound position next

  there : at_command v h ≡ line.command
  there = command_there v h line (line_there v h position line next is)

  -- between two commands a host has a key exactly where its answers say that it is joined; in a command it is so by its sort
  pub joined_now : joined_of v.world h line.command (seat_at v h).plan ≡ is_joined v.workload.lines v.ledger.answers h
  joined_now = cases (seat_at v h).plan refl
    where
      cases : (plan : Option Plan) → (seat_at v h).plan ≡ plan
          → joined_of v.world h line.command plan ≡ is_joined v.workload.lines v.ledger.answers h
      cases None none =
          let rests : RestsWith h v.world (seat_at v h).carried (steady.notes h) =
          subst (λ (p : Option Plan). PlanNotedOf (at_command v h) v.world h (seat_at v h).carried p (steady.notes h)) none (steady.agree.noted h below) in
          sym (some_number (host_at v.world.locks h).key) ∙ ap is_some (sym rests.rests.remembered.key)
          ∙ rests-seated v.workload (state_of v steady.notes) h (steady.seated h) (ap (λ (n : Notes). n.calls) rests.rests.between)
      cases (Some plan) some =
          sym (standing.joined h below (ap is_some some) ∙ ap joined_in there)

  -- so it may make its turn
  pub may_step : asked_by v h line.command ≡ None → MayStep v h line.command
  may_step asks =
      let at = next-at v.workload.lines v.ledger.answers v.phase h position next in
      let same = same_line v.workload.lines position at.line line at.is is in
      let of : line.host ≡ h = ap (λ (l : Line). l.host) (sym same) ∙ at.host_is in
      record {
        known = subst (λ (x : ℕ). IsKnown x line.command) of (all_at IsKnownLine v.workload.lines position line sound.known is);
        range = (all_at (IsAllowed v.workload.geometry) v.workload.lines position line sound.allowed is).range;
        stands = subst (λ (c : Command). PlanStandsOf c v.world v.cache h (seat_at v h).carried (seat_at v h).plan) there (standing.stands h below);
        noted = (
          steady.notes h,
          subst (λ (c : Command). PlanNotedOf c v.world h (seat_at v h).carried (seat_at v h).plan (steady.notes h)) there (steady.agree.noted h below),
        );
        asks = asks;
      }

module _ (v m : PartsView) (h position : ℕ) (command : Command) (done : Done) (sound : IsSound v) (standing : IsStanding v) (steady : IsSteady v)
    (consistent : Consistent v.world.locks) (next : next_line v.workload.lines v.ledger.answers v.phase h ≡ Some position)
    (at : IsCommandAt v position command) (stepped : IsStepped v h command m done) where
  act : HasActed v h at.line.command m.world m.cache stepped.seat done
  act = subst (λ (c : Command). HasActed v h c m.world m.cache stepped.seat done) at.command_is stepped.act

  abbrev host_below : h < v.workload.geometry.hosts
  host_below = below v h position at.line sound standing steady next at.is

  abbrev joined : joined_of v.world h at.line.command (seat_at v h).plan ≡ is_joined v.workload.lines v.ledger.answers h
  joined = joined_now v h position at.line sound standing steady next at.is

  -- what is noted of it has its room
  pub entries_there : length (m.ledger.history ++ entry_at position done.placed) ≤ length m.ledger.answers
  entries_there =
      rw stepped.is (entries_fit v h position at.line m.world m.cache stepped.seat None done sound next at.is host_below act joined consistent standing steady)

  pub events_there : length (m.ledger.events ++ events_at position done.placed done.ended) ≤ 2 * length m.ledger.answers
  events_there =
      rw stepped.is (events_fit v h position at.line m.world m.cache stepped.seat None done sound next at.is host_below act joined consistent standing steady)

  module _ (u : PartsView) (noted : IsNoted m h position done u) where
    abbrev then : PartsView
    then = acted v h position m.world m.cache stepped.seat noted.head done

    is_then : u ≡ then
    is_then =
        noted.is
        ∙ ap (λ (x : PartsView). let y : PartsView = record x {
          ledger = noted_in position done x.ledger;
          heads = opened h done.ended noted.head x.heads;
        } in y) stepped.is

    pub turned_then : (notes : ℕ → Notes) → Agree v notes
        → (later : ℕ → Notes) × IsStep v.workload h done.ended (state_of v notes) (state_of u later) × Agree u later
    turned_then notes agree =
        subst (λ (x : PartsView). (later : ℕ → Notes) × IsStep v.workload h done.ended (state_of v notes) (state_of x later) × Agree x later) (sym is_then) (
          noting h (turn_of v h position at.line m.world m.cache stepped.seat noted.head done sound next at.is host_below act joined notes agree).0 notes,
          (step_of v h position at.line m.world m.cache stepped.seat noted.head done sound next at.is host_below act joined notes agree).0,
          agree_behind v h position at.line m.world m.cache stepped.seat noted.head done sound next at.is host_below act joined consistent standing steady
              notes agree,
        )

    pub standing_then : IsStanding u
    standing_then =
        subst IsStanding (sym is_then)
        (standing_behind v h position at.line m.world m.cache stepped.seat noted.head done sound next at.is host_below act joined consistent standing steady)

    lines_same : m.workload.lines ≡ v.workload.lines
    lines_same = ap (λ (x : PartsView). x.workload.lines) stepped.is

    pub sound_then : IsSound u
    sound_then =
        subst IsSound (sym is_then)
        (sound_behind v h position at.line m.world m.cache stepped.seat noted.head done sound next at.is host_below act joined consistent standing steady
        (λ some. subst (λ (lines : List Line). IsOpenFrom lines (position + 1) h noted.head) lines_same (noted.from some)))

    -- by the answer
    pub turned_as : (ended : Option Answer) → done.ended ≡ ended → (notes : ℕ → Notes) → Agree v notes
        → (later : ℕ → Notes) × IsStep v.workload h ended (state_of v notes) (state_of u later) × Agree u later
    turned_as ended is notes agree =
        subst (λ (e : Option Answer). (later : ℕ → Notes) × IsStep v.workload h e (state_of v notes) (state_of u later) × Agree u later) is
        (turned_then notes agree)
