-- A turn of a host's seat is a turn of the run.
use Rattle.std.proofs.Common.{◌≡◌, ◌<◌, ℕ, Bool, true, false, Option, Some, None, refl, ap, subst, ◌∙◌}
use Rattle.std.specs.Option.{option_map_or}
use Rattle.vol_base.specs.declared.command.Command.{Command}
use Rattle.vol_base.specs.declared.command.Command.TheVariants.{Beat}
use Rattle.vol_layout.specs.declared.geometry.Geometry.{Geometry}
use Rattle.workload.specs.declared.line.Line.{Line}
use Rattle.held_cache.specs.Kept.{Cache}
use Rattle.histories.specs.Joined.{is_joined, standing_death}
use Rattle.histories.specs.Lines.{IsLine}
use Rattle.host_facts.specs.Views.{WorldView}
use Rattle.host_runs.specs.Awaited.{awaited, wanted, wanted_at}
use Rattle.host_runs.specs.NextLines.{line_at, next_line}
use Rattle.host_runs.specs.Notes.{Notes, noting}
use Rattle.host_runs.specs.RunStates.{RunState}
use Rattle.host_runs.specs.Steps.{IsStep}
use Rattle.cluster.specs.Agreements.{Agree, IsSound}
use Rattle.cluster.specs.HostTurns.{IsHostTurn}
use Rattle.cluster.specs.Parts.{HasActed, acted}
use Rattle.cluster.specs.Seats.{IsLeft, PlanNotedOf, death_behind, joined_of}
use Rattle.cluster.specs.Views.{PartsView, at_command, disk_of, line_of, seat_at, state_of}
use Rattle.cluster.specs.declared.seat.Done.{Done}
use Rattle.cluster.specs.declared.seat.Seat.{Seat}

-- the line that a host is at, by its position
pub line_there : (v : PartsView) (h position : ℕ) (line : Line)
    → next_line v.workload.lines v.ledger.answers v.phase h ≡ Some position → IsLine v.workload.lines position line → line_of v h ≡ Some line
line_there v h position line next is = ap (line_at v.workload.lines) next ∙ is

pub command_there : (v : PartsView) (h : ℕ) (line : Line) → line_of v h ≡ Some line → at_command v h ≡ line.command
command_there v h line is = ap (λ (o : Option Line). option_map_or (λ (l : Line). l.command) o Beat) is

module _ (v : PartsView) (h position : ℕ) (line : Line) (w : WorldView) (d : Cache) (seat : Seat) (head : Option ℕ) (done : Done)
    (sound : IsSound v) (next : next_line v.workload.lines v.ledger.answers v.phase h ≡ Some position)
    (is : IsLine v.workload.lines position line) (below : h < v.workload.geometry.hosts)
    (act : HasActed v h line.command w d seat done)
    (joined : joined_of v.world h line.command (seat_at v h).plan ≡ is_joined v.workload.lines v.ledger.answers h) where
  abbrev u : PartsView
  u = acted v h position w d seat head done

  abbrev death : Option ℕ
  death = standing_death v.workload.lines v.ledger.answers h

  abbrev s : (ℕ → Notes) → RunState
  s notes = state_of v notes

  noted_here : (notes : ℕ → Notes) → Agree v notes → PlanNotedOf line.command v.world h (seat_at v h).carried (seat_at v h).plan (notes h)
  noted_here notes agree =
      subst (λ (c : Command). PlanNotedOf c v.world h (seat_at v h).carried (seat_at v h).plan (notes h))
      (command_there v h line (line_there v h position line next is)) (agree.noted h below)

  -- the turn in the words of the run
  pub turn_of : (notes : ℕ → Notes) → Agree v notes
      → (later : Notes)
      × IsHostTurn v.workload.geometry h (is_joined v.workload.lines v.ledger.answers h) death line.command (disk_of v) w.locks.disk act.made.made
      done.placed done.ended (notes h) later
      × PlanNotedOf line.command w h seat.carried seat.plan later
      × IsLeft (death_behind line.command done.ended death) later.dying seat.left
  turn_of notes agree =
      let (later, turn, noted, left) = act.made.turn death (notes h) (noted_here notes agree) (agree.left h below) in (
        later,
        subst (λ (b : Bool). IsHostTurn v.workload.geometry h b death line.command (disk_of v) w.locks.disk act.made.made done.placed done.ended
            (notes h) later) joined
            (subst (λ (g : Geometry). IsHostTurn g h (joined_of v.world h line.command (seat_at v h).plan) death line.command (disk_of v) w.locks.disk
            act.made.made done.placed done.ended (notes h) later) sound.geometry turn),
        noted,
        left,
      )

  quiet_at : (b : Bool) (n : Notes) → (b ≡ true → wanted v.workload.geometry line.command n.calls n.digests n.asks ≡ None)
      → wanted_at v.workload.geometry b n (Some line) ≡ None
  quiet_at true n quiet = quiet refl
  quiet_at false n quiet = refl

  quiet_now : (notes : ℕ → Notes) (agree : Agree v notes) → awaited v.workload (s notes) h ≡ None
  unfolding awaited
  quiet_now notes agree =
      ap (wanted_at v.workload.geometry (is_joined v.workload.lines v.ledger.answers h) (notes h)) (line_there v h position line next is)
      ∙ quiet_at (is_joined v.workload.lines v.ledger.answers h) (notes h) (turn_of notes agree).1.quiet

  -- a step of the run
  pub step_of : (notes : ℕ → Notes) (agree : Agree v notes)
      → (step : IsStep v.workload h done.ended (s notes) (state_of u (noting h (turn_of notes agree).0 notes)))
      × (step.position ≡ position) × (step.line ≡ line)
  step_of notes agree =
      let (later, turn, noted, left) = turn_of notes agree in (
        record {
          position = position;
          line = line;
          made = act.made.made;
          placed = done.placed;
          later = later;
          at = record { next = next; is = is };
          quiet = quiet_now notes agree;
          acts = turn.acts;
          moves = turn.moves;
          may = turn.may;
          marks = turn.marks;
          files = turn.files;
          valid = turn.valid;
          placing = record { file = turn.file; once = turn.once; plain = turn.plain; none = turn.none; own = turn.own };
          died = turn.died;
          ending = turn.ending;
          noted = turn.noted;
          phase_is = refl;
          answers_are = refl;
          history_is = refl;
          events_are = refl;
          notes_are = refl;
        },
        refl,
        refl,
      )
